use Rattle.opl_trace.proofs.Improving.{best_found}
use Rattle.opl_trace.proofs.laws.default_search_finds_the_best.Goals as goal

pub returns : goal.returns
returns c = best_found
