use Rattle.std.proofs.Common.{arith}
use Rattle.opl_given.proofs.Layers.{values_are}
use Rattle.opl_given.proofs.value.+values.Goals as goal

-- src/value.rt:141:1
pub value_in-returns-in-Number : goal.value_in-returns-in-Number
value_in-returns-in-Number t c = grind (arith, values_are)

-- src/value.rt:141:1
pub value_in-returns-in-Named : goal.value_in-returns-in-Named
value_in-returns-in-Named t c = grind (arith, values_are)

-- src/value.rt:141:1
pub value_in-returns-in_ok-parts_in-in-Record : goal.value_in-returns-in_ok-parts_in-in-Record
value_in-returns-in_ok-parts_in-in-Record t c = grind (arith, values_are)

-- src/value.rt:141:1
pub value_in-returns-in_ok-set_of-in-Some : goal.value_in-returns-in_ok-set_of-in-Some
value_in-returns-in_ok-set_of-in-Some t c = grind (arith, values_are)

-- src/value.rt:141:1
pub value_in-returns-in-None : goal.value_in-returns-in-None
value_in-returns-in-None t c = grind (arith, values_are)

-- src/value.rt:141:1
pub value_in-returns-in-Array : goal.value_in-returns-in-Array
value_in-returns-in-Array t c = grind (arith, values_are)

-- src/value.rt:141:1
pub value_in-returns-in-KeyedArray : goal.value_in-returns-in-KeyedArray
value_in-returns-in-KeyedArray t c = grind (arith, values_are)
