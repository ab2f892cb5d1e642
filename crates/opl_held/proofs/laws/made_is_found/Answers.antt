use Rattle.opl_held.proofs.Made.{made_is_found}
use Rattle.opl_held.proofs.laws.made_is_found.Goals as goal

pub returns : goal.returns
returns c = made_is_found
