use Rattle.std.proofs.Common.{arith}
use Rattle.opl_eval.proofs.SetElements.{truths_of_variants}
use Rattle.opl_eval.proofs.connect.is_true.Goals as goal

-- src/connect.rt:24:1
pub returns-in-Bool : goal.returns-in-Bool
returns-in-Bool c = grind (arith, truths_of_variants)

-- src/connect.rt:24:1
pub returns-in-Int : goal.returns-in-Int
returns-in-Int c = grind (arith, truths_of_variants)

-- src/connect.rt:24:1
pub returns-in-Int-2 : goal.returns-in-Int-2
returns-in-Int-2 c = grind (arith, truths_of_variants)

-- src/connect.rt:24:1
pub returns-in-Int-3 : goal.returns-in-Int-3
returns-in-Int-3 c = grind (arith, truths_of_variants)

-- src/connect.rt:24:1
pub returns-in-Int-4 : goal.returns-in-Int-4
returns-in-Int-4 c = grind (arith, truths_of_variants)

-- src/connect.rt:24:1
pub returns-in-Int-5 : goal.returns-in-Int-5
returns-in-Int-5 c = grind (arith, truths_of_variants)

-- src/connect.rt:24:1
pub returns-in-Int-6 : goal.returns-in-Int-6
returns-in-Int-6 c = grind (arith, truths_of_variants)

-- src/connect.rt:24:1
pub returns-in-Int-7 : goal.returns-in-Int-7
returns-in-Int-7 c = grind (arith, truths_of_variants)
