use Rattle.std.proofs.Common.{arith}
use Rattle.opl_given.proofs.Layers.{forms_say}
use Rattle.opl_given.proofs.value.element_of.Goals as goal

-- src/value.rt:117:1
pub returns-in-Set : goal.returns-in-Set
returns-in-Set c = grind (arith, forms_say)

-- src/value.rt:117:1
pub returns-in-Nothing : goal.returns-in-Nothing
returns-in-Nothing c = grind (arith, forms_say)
