use Rattle.std.proofs.Common.{arith}
use Rattle.opl_type_rules.proofs.Sorts.{sorts}
use Rattle.opl_item_types.proofs.item.is_resource.Goals as goal

pub returns-in-Int : goal.returns-in-Int
returns-in-Int c = grind (arith, sorts)

pub returns-in-Int-2 : goal.returns-in-Int-2
returns-in-Int-2 c = grind (arith, sorts)

pub returns-in-Int-3 : goal.returns-in-Int-3
returns-in-Int-3 c = grind (arith, sorts)

pub returns-in-Int-4 : goal.returns-in-Int-4
returns-in-Int-4 c = grind (arith, sorts)

pub returns-in-Int-5 : goal.returns-in-Int-5
returns-in-Int-5 c = grind (arith, sorts)

pub returns-in-Int-6 : goal.returns-in-Int-6
returns-in-Int-6 c = grind (arith, sorts)

pub returns-in-Int-7 : goal.returns-in-Int-7
returns-in-Int-7 c = grind (arith, sorts)

pub returns-in-Int-8 : goal.returns-in-Int-8
returns-in-Int-8 c = grind (arith, sorts)

pub returns-in-Int-9 : goal.returns-in-Int-9
returns-in-Int-9 c = grind (arith, sorts)

pub returns-in-Int-10 : goal.returns-in-Int-10
returns-in-Int-10 c = grind (arith, sorts)

pub returns-in-Int-11 : goal.returns-in-Int-11
returns-in-Int-11 c = grind (arith, sorts)

pub returns-in-Int-12 : goal.returns-in-Int-12
returns-in-Int-12 c = grind (arith, sorts)

pub returns-in-Int-13 : goal.returns-in-Int-13
returns-in-Int-13 c = grind (arith, sorts)
