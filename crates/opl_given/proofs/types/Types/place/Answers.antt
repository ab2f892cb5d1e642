use Rattle.std.proofs.Common.{arith}
use Rattle.opl_given.proofs.Layers.{known}
use Rattle.opl_given.proofs.types.Types.place.Goals as goal

-- src/types.rt:32:5
pub returns-in-Some : goal.returns-in-Some
returns-in-Some c = grind (arith, known)

-- src/types.rt:32:5
pub returns-in-None : goal.returns-in-None
returns-in-None c = grind (arith, known)
