use Rattle.std.proofs.Common.{arith}
use Rattle.opl_eval.proofs.Variants.{variants}
use Rattle.opl_eval.proofs.compare.rank.Goals as goal

-- src/compare.rt:41:1
pub returns-in-Int : goal.returns-in-Int
returns-in-Int c = grind (arith, variants)

-- src/compare.rt:41:1
pub returns-in-Bool : goal.returns-in-Bool
returns-in-Bool c = grind (arith, variants)

-- src/compare.rt:41:1
pub returns-in-Enum : goal.returns-in-Enum
returns-in-Enum c = grind (arith, variants)

-- src/compare.rt:41:1
pub returns-in-Record : goal.returns-in-Record
returns-in-Record c = grind (arith, variants)

-- src/compare.rt:41:1
pub returns-in-Record-2 : goal.returns-in-Record-2
returns-in-Record-2 c = grind (arith, variants)

-- src/compare.rt:41:1
pub returns-in-Record-3 : goal.returns-in-Record-3
returns-in-Record-3 c = grind (arith, variants)

-- src/compare.rt:41:1
pub returns-in-Record-4 : goal.returns-in-Record-4
returns-in-Record-4 c = grind (arith, variants)

-- src/compare.rt:41:1
pub returns-in-Record-5 : goal.returns-in-Record-5
returns-in-Record-5 c = grind (arith, variants)
