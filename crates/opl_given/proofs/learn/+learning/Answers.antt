use Rattle.std.proofs.Common.{arith}
use Rattle.opl_given.proofs.Learnt.{values_tell}
use Rattle.opl_given.proofs.learn.+learning.Goals as goal

-- src/learn.rt:43:1
pub learn-returns-in-Int : goal.learn-returns-in-Int
learn-returns-in-Int t c = grind (arith, values_tell)

-- src/learn.rt:43:1
pub learn-returns-in-Enum : goal.learn-returns-in-Enum
learn-returns-in-Enum t c = grind (arith, values_tell)

-- src/learn.rt:43:1
pub learn-returns-in_ok-parts-in-Record : goal.learn-returns-in_ok-parts-in-Record
learn-returns-in_ok-parts-in-Record t c = grind (arith, values_tell)

-- src/learn.rt:43:1
pub learn-returns-in_ok-new-in-Set : goal.learn-returns-in_ok-new-in-Set
learn-returns-in_ok-new-in-Set t c = grind (arith, values_tell)

-- src/learn.rt:43:1
pub learn-returns-in-Bool : goal.learn-returns-in-Bool
learn-returns-in-Bool t c = grind (arith, values_tell)
