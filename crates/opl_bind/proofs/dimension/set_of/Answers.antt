use Rattle.std.proofs.Common.{arith}
use Rattle.opl_bind.proofs.Evaluations.{evaluations}
use Rattle.opl_bind.proofs.dimension.set_of.Goals as goal

pub returns-in-Err-clause-faults : goal.returns-in-Err-clause-faults
returns-in-Err-clause-faults c = grind (arith, evaluations)

pub returns-in-Err-clause-value : goal.returns-in-Err-clause-value
returns-in-Err-clause-value c = grind (arith, evaluations)

pub returns-in-Ok-clause-faults : goal.returns-in-Ok-clause-faults
returns-in-Ok-clause-faults c = grind (arith, evaluations)

pub returns-in-Ok-clause-value : goal.returns-in-Ok-clause-value
returns-in-Ok-clause-value c = grind (arith, evaluations)
