use Rattle.std.proofs.Common.{arith}
use Rattle.opl_given.proofs.Spaces.{spaces}
use Rattle.opl_bind.proofs.model.array_written.Goals as goal

pub returns-clause-keyed : goal.returns-clause-keyed
returns-clause-keyed c = grind (arith, spaces)

pub returns-clause-value : goal.returns-clause-value
returns-clause-value c = grind (arith, spaces)
