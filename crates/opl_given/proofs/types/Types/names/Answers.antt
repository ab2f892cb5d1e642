use Rattle.std.proofs.Common.{arith}
use Rattle.opl_given.proofs.Layers.{known}
use Rattle.opl_given.proofs.types.Types.names.Goals as goal

-- src/types.rt:23:5
pub returns : goal.returns
returns c = grind (arith, known)
