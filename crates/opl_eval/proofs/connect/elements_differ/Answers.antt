use Rattle.std.proofs.Common.{arith}
use Rattle.opl_eval.proofs.SetElements.{different_of_variants}
use Rattle.opl_eval.proofs.connect.elements_differ.Goals as goal

-- src/connect.rt:142:1
pub returns-in-Array : goal.returns-in-Array
returns-in-Array c = grind (arith, different_of_variants)

-- src/connect.rt:142:1
pub returns-in-Int : goal.returns-in-Int
returns-in-Int c = grind (arith, different_of_variants)

-- src/connect.rt:142:1
pub returns-in-Int-2 : goal.returns-in-Int-2
returns-in-Int-2 c = grind (arith, different_of_variants)

-- src/connect.rt:142:1
pub returns-in-Int-3 : goal.returns-in-Int-3
returns-in-Int-3 c = grind (arith, different_of_variants)

-- src/connect.rt:142:1
pub returns-in-Int-4 : goal.returns-in-Int-4
returns-in-Int-4 c = grind (arith, different_of_variants)

-- src/connect.rt:142:1
pub returns-in-Int-5 : goal.returns-in-Int-5
returns-in-Int-5 c = grind (arith, different_of_variants)

-- src/connect.rt:142:1
pub returns-in-Int-6 : goal.returns-in-Int-6
returns-in-Int-6 c = grind (arith, different_of_variants)

-- src/connect.rt:142:1
pub returns-in-Int-7 : goal.returns-in-Int-7
returns-in-Int-7 c = grind (arith, different_of_variants)
