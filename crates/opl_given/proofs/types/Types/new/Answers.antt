use Rattle.std.proofs.Common.{arith}
use Rattle.opl_given.proofs.Kept.{types}
use Rattle.opl_given.proofs.types.Types.new.Goals as goal

-- src/declare.rt:90:5
pub returns : goal.returns
returns c = grind (arith, types)
