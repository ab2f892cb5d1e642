use Rattle.std.proofs.Common.{arith}
use Rattle.opl_given.proofs.Plain.{plain}
use Rattle.opl_bind.proofs.model.alone.Goals as goal

pub returns-clause-keyed : goal.returns-clause-keyed
returns-clause-keyed c = grind (arith, plain)

pub returns-clause-value : goal.returns-clause-value
returns-clause-value c = grind (arith, plain)

pub returns-then-is_array-clause-keyed : goal.returns-then-is_array-clause-keyed
returns-then-is_array-clause-keyed c = grind (arith, plain)

pub returns-then-is_array-clause-value : goal.returns-then-is_array-clause-value
returns-then-is_array-clause-value c = grind (arith, plain)
