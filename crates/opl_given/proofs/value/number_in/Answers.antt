use Rattle.std.proofs.Common.{arith}
use Rattle.opl_given.proofs.Layers.{forms_say}
use Rattle.opl_given.proofs.value.number_in.Goals as goal

-- src/value.rt:30:1
pub returns-in-Int : goal.returns-in-Int
returns-in-Int c = grind (arith, forms_say)

-- src/value.rt:30:1
pub returns-else-low-number : goal.returns-else-low-number
returns-else-low-number c = grind (arith, forms_say)

-- src/value.rt:30:1
pub returns-in-Nothing : goal.returns-in-Nothing
returns-in-Nothing c = grind (arith, forms_say)
