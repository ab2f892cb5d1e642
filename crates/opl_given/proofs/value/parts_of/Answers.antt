use Rattle.std.proofs.Common.{arith}
use Rattle.opl_given.proofs.Layers.{forms_say}
use Rattle.opl_given.proofs.value.parts_of.Goals as goal

-- src/value.rt:83:1
pub returns-in-Struct : goal.returns-in-Struct
returns-in-Struct c = grind (arith, forms_say)

-- src/value.rt:83:1
pub returns-in-Record : goal.returns-in-Record
returns-in-Record c = grind (arith, forms_say)

-- src/value.rt:83:1
pub returns-in-Nothing : goal.returns-in-Nothing
returns-in-Nothing c = grind (arith, forms_say)
