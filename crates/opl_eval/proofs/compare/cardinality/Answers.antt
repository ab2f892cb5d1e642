use Rattle.std.proofs.Common.{arith}
use Rattle.opl_eval.proofs.Variants.{variants}
use Rattle.opl_eval.proofs.compare.cardinality.Goals as goal

-- src/compare.rt:105:1
pub returns-in-Set : goal.returns-in-Set
returns-in-Set c = grind (arith, variants)

-- src/compare.rt:105:1
pub returns-in-Range : goal.returns-in-Range
returns-in-Range c = grind (arith, variants)

-- src/compare.rt:105:1
pub returns-in-Names : goal.returns-in-Names
returns-in-Names c = grind (arith, variants)

-- src/compare.rt:105:1
pub returns-in-Int : goal.returns-in-Int
returns-in-Int c = grind (arith, variants)

-- src/compare.rt:105:1
pub returns-in-Int-2 : goal.returns-in-Int-2
returns-in-Int-2 c = grind (arith, variants)

-- src/compare.rt:105:1
pub returns-in-Int-3 : goal.returns-in-Int-3
returns-in-Int-3 c = grind (arith, variants)

-- src/compare.rt:105:1
pub returns-in-Int-4 : goal.returns-in-Int-4
returns-in-Int-4 c = grind (arith, variants)

-- src/compare.rt:105:1
pub returns-in-Int-5 : goal.returns-in-Int-5
returns-in-Int-5 c = grind (arith, variants)
