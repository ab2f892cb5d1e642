use Rattle.std.proofs.Common.{arith}
use Rattle.opl_bind.proofs.Evaluations.{evaluations}
use Rattle.opl_bind.proofs.dimension.value_of.Goals as goal

pub returns-in-Err : goal.returns-in-Err
returns-in-Err c = grind (arith, evaluations)

pub returns-in-Ok : goal.returns-in-Ok
returns-in-Ok c = grind (arith, evaluations)
