use Rattle.opl_typed.proofs.Lawful.{params_complete}
use Rattle.opl_typed.proofs.laws.params_complete.Goals as goal

pub returns : goal.returns
returns c = params_complete
