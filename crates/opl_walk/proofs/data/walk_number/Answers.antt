use Rattle.std.proofs.Common.{arith}
use Rattle.opl_walk.proofs.Telling.{telling}
use Rattle.opl_walk.proofs.data.walk_number.Goals as goal

pub returns : goal.returns
returns g c = grind (arith, telling)
