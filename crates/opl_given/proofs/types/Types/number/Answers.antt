use Rattle.std.proofs.Common.{arith}
use Rattle.opl_given.proofs.Kept.{types}
use Rattle.opl_given.proofs.types.Types.number.Goals as goal

-- src/declare.rt:103:5
pub returns-in-Ok : goal.returns-in-Ok
returns-in-Ok c = grind (arith, types)

-- src/declare.rt:103:5
pub returns-in-Err : goal.returns-in-Err
returns-in-Err c = grind (arith, types)
