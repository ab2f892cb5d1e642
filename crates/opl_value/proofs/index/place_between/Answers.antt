use Rattle.std.proofs.Common.{arith}
use Rattle.opl_value.proofs.Places.{others}
use Rattle.opl_value.proofs.index.place_between.Goals as goal

-- src/index.rt:110:1
pub returns-in-Bool : goal.returns-in-Bool
returns-in-Bool c = grind (arith, others)

-- src/index.rt:110:1
pub returns-in-Bool-2 : goal.returns-in-Bool-2
returns-in-Bool-2 c = grind (arith, others)

-- src/index.rt:110:1
pub returns-in-Bool-3 : goal.returns-in-Bool-3
returns-in-Bool-3 c = grind (arith, others)

-- src/index.rt:110:1
pub returns-in-Bool-4 : goal.returns-in-Bool-4
returns-in-Bool-4 c = grind (arith, others)

-- src/index.rt:110:1
pub returns-in-Bool-5 : goal.returns-in-Bool-5
returns-in-Bool-5 c = grind (arith, others)

-- src/index.rt:110:1
pub returns-in-Bool-6 : goal.returns-in-Bool-6
returns-in-Bool-6 c = grind (arith, others)

-- src/index.rt:110:1
pub returns-in-Bool-7 : goal.returns-in-Bool-7
returns-in-Bool-7 c = grind (arith, others)
