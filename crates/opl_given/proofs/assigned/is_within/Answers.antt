use Rattle.std.proofs.Common.{arith}
use Rattle.opl_given.proofs.Numbers.{numbers}
use Rattle.opl_given.proofs.assigned.is_within.Goals as goal

-- src/assigned.rt:90:1
pub returns-else-low-number : goal.returns-else-low-number
returns-else-low-number c = grind (arith, numbers)

-- src/assigned.rt:90:1
pub returns-in-Bool : goal.returns-in-Bool
returns-in-Bool c = grind (arith, numbers)

-- src/assigned.rt:90:1
pub returns-in-Bool-2 : goal.returns-in-Bool-2
returns-in-Bool-2 c = grind (arith, numbers)

-- src/assigned.rt:90:1
pub returns-in-Bool-3 : goal.returns-in-Bool-3
returns-in-Bool-3 c = grind (arith, numbers)

-- src/assigned.rt:90:1
pub returns-in-Bool-4 : goal.returns-in-Bool-4
returns-in-Bool-4 c = grind (arith, numbers)

-- src/assigned.rt:90:1
pub returns-in-Bool-5 : goal.returns-in-Bool-5
returns-in-Bool-5 c = grind (arith, numbers)

-- src/assigned.rt:90:1
pub returns-in-Bool-6 : goal.returns-in-Bool-6
returns-in-Bool-6 c = grind (arith, numbers)

-- src/assigned.rt:90:1
pub returns-in-Bool-7 : goal.returns-in-Bool-7
returns-in-Bool-7 c = grind (arith, numbers)

-- src/assigned.rt:90:1
pub returns-in-Nothing : goal.returns-in-Nothing
returns-in-Nothing c = grind (arith, numbers)

-- src/assigned.rt:90:1
pub returns-in-Nothing-2 : goal.returns-in-Nothing-2
returns-in-Nothing-2 c = grind (arith, numbers)

-- src/assigned.rt:90:1
pub returns-in-Nothing-3 : goal.returns-in-Nothing-3
returns-in-Nothing-3 c = grind (arith, numbers)

-- src/assigned.rt:90:1
pub returns-in-Nothing-4 : goal.returns-in-Nothing-4
returns-in-Nothing-4 c = grind (arith, numbers)

-- src/assigned.rt:90:1
pub returns-in-Nothing-5 : goal.returns-in-Nothing-5
returns-in-Nothing-5 c = grind (arith, numbers)

-- src/assigned.rt:90:1
pub returns-in-Nothing-6 : goal.returns-in-Nothing-6
returns-in-Nothing-6 c = grind (arith, numbers)
