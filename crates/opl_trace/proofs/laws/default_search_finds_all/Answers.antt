use Rattle.opl_trace.proofs.Found.{all_found}
use Rattle.opl_trace.proofs.laws.default_search_finds_all.Goals as goal

pub returns : goal.returns
returns c = all_found
