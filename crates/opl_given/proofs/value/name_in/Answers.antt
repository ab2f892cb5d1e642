use Rattle.std.proofs.Common.{arith}
use Rattle.opl_given.proofs.Layers.{forms_say}
use Rattle.opl_given.proofs.value.name_in.Goals as goal

-- src/value.rt:64:1
pub returns-in-Some : goal.returns-in-Some
returns-in-Some c = grind (arith, forms_say)

-- src/value.rt:64:1
pub returns-in-None : goal.returns-in-None
returns-in-None c = grind (arith, forms_say)

-- src/value.rt:64:1
pub returns-in-Nothing : goal.returns-in-Nothing
returns-in-Nothing c = grind (arith, forms_say)
