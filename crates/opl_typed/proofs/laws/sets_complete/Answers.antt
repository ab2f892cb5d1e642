use Rattle.opl_typed.proofs.Lawful.{sets_complete}
use Rattle.opl_typed.proofs.laws.sets_complete.Goals as goal

pub returns : goal.returns
returns c = sets_complete
