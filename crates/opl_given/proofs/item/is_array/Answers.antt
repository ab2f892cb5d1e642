use Rattle.std.proofs.Common.{arith}
use Rattle.opl_given.proofs.Plain.{arrays}
use Rattle.opl_given.proofs.item.is_array.Goals as goal

-- src/item.rt:56:1
pub returns-in-Array : goal.returns-in-Array
returns-in-Array c = grind (arith, arrays)

-- src/item.rt:56:1
pub returns-in-Int : goal.returns-in-Int
returns-in-Int c = grind (arith, arrays)

-- src/item.rt:56:1
pub returns-in-Int-2 : goal.returns-in-Int-2
returns-in-Int-2 c = grind (arith, arrays)

-- src/item.rt:56:1
pub returns-in-Int-3 : goal.returns-in-Int-3
returns-in-Int-3 c = grind (arith, arrays)

-- src/item.rt:56:1
pub returns-in-Int-4 : goal.returns-in-Int-4
returns-in-Int-4 c = grind (arith, arrays)

-- src/item.rt:56:1
pub returns-in-Int-5 : goal.returns-in-Int-5
returns-in-Int-5 c = grind (arith, arrays)

-- src/item.rt:56:1
pub returns-in-Int-6 : goal.returns-in-Int-6
returns-in-Int-6 c = grind (arith, arrays)

-- src/item.rt:56:1
pub returns-in-Int-7 : goal.returns-in-Int-7
returns-in-Int-7 c = grind (arith, arrays)
