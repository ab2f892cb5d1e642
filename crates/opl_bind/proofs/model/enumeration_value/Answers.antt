use Rattle.std.proofs.Common.{arith}
use Rattle.opl_eval.proofs.Keys.{keyed_values}
use Rattle.opl_bind.proofs.model.enumeration_value.Goals as goal

pub returns-clause-keyed : goal.returns-clause-keyed
returns-clause-keyed c = grind (arith, keyed_values)

pub returns-clause-value : goal.returns-clause-value
returns-clause-value c = grind (arith, keyed_values)
