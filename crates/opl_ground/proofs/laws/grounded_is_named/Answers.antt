use Rattle.opl_ground.proofs.Named.{grounded_is_named}
use Rattle.opl_ground.proofs.laws.grounded_is_named.Goals as goal

pub returns : goal.returns
returns c = grounded_is_named
