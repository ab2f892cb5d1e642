use Rattle.std.proofs.Common.{arith}
use Rattle.opl_eval.proofs.Keys.{keyed_values}
use Rattle.opl_given.proofs.space.array_over.Goals as goal

-- src/space.rt:51:1
pub returns-clause-value : goal.returns-clause-value
returns-clause-value c = grind (arith, keyed_values)

-- src/space.rt:51:1
pub returns-clause-keyed : goal.returns-clause-keyed
returns-clause-keyed c = grind (arith, keyed_values)
