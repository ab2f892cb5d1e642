use Rattle.std.proofs.Common.{arith}
use Rattle.std.proofs.lemmas.Grind.{common_steps}
use Rattle.opl_bind.specs.Bind.{item_value}
use Rattle.opl_bind.proofs.model.item_value.Goals as goal

pub returns-clause-keyed : goal.returns-clause-keyed
unfolding item_value
returns-clause-keyed c = grind (arith, common_steps)

pub returns-clause-value : goal.returns-clause-value
unfolding item_value
returns-clause-value c = grind (arith, common_steps)

pub returns-in-External-clause-keyed : goal.returns-in-External-clause-keyed
unfolding item_value
returns-in-External-clause-keyed c = grind (arith, common_steps)

pub returns-in-External-clause-value : goal.returns-in-External-clause-value
unfolding item_value
returns-in-External-clause-value c = grind (arith, common_steps)
