use Rattle.std.proofs.Common.{arith}
use Rattle.opl_eval.proofs.Variants.{variants}
use Rattle.opl_eval.proofs.compare.number.Goals as goal

-- src/compare.rt:16:1
pub returns-in-Int : goal.returns-in-Int
returns-in-Int c = grind (arith, variants)

-- src/compare.rt:16:1
pub returns-in-Bool : goal.returns-in-Bool
returns-in-Bool c = grind (arith, variants)

-- src/compare.rt:16:1
pub returns-in-Enum : goal.returns-in-Enum
returns-in-Enum c = grind (arith, variants)

-- src/compare.rt:16:1
pub returns-in-Enum-2 : goal.returns-in-Enum-2
returns-in-Enum-2 c = grind (arith, variants)

-- src/compare.rt:16:1
pub returns-in-Enum-3 : goal.returns-in-Enum-3
returns-in-Enum-3 c = grind (arith, variants)

-- src/compare.rt:16:1
pub returns-in-Enum-4 : goal.returns-in-Enum-4
returns-in-Enum-4 c = grind (arith, variants)

-- src/compare.rt:16:1
pub returns-in-Enum-5 : goal.returns-in-Enum-5
returns-in-Enum-5 c = grind (arith, variants)

-- src/compare.rt:16:1
pub returns-in-Enum-6 : goal.returns-in-Enum-6
returns-in-Enum-6 c = grind (arith, variants)
