use Rattle.std.proofs.Common.{arith}
use Rattle.opl_walk.proofs.Telling.{telling}
use Rattle.opl_walk.proofs.instruction.walk_precedence.Goals as goal

pub returns : goal.returns
returns g c = grind (arith, telling)
