use Rattle.opl_typed.proofs.Lawful.{complete}
use Rattle.opl_typed.proofs.laws.complete.Goals as goal

pub returns : goal.returns
returns c = complete
