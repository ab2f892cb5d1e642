use Rattle.std.proofs.Common.{arith}
use Rattle.opl_given.proofs.Insides.{insides}
use Rattle.opl_given.proofs.inside.+insides.Goals as goal

-- src/inside.rt:15:1
pub is_inside-returns-in-Int : goal.is_inside-returns-in-Int
is_inside-returns-in-Int t c = grind (arith, insides)

-- src/inside.rt:15:1
pub is_inside-returns-in-Some : goal.is_inside-returns-in-Some
is_inside-returns-in-Some t c = grind (arith, insides)

-- src/inside.rt:15:1
pub is_inside-returns-in-None : goal.is_inside-returns-in-None
is_inside-returns-in-None t c = grind (arith, insides)

-- src/inside.rt:15:1
pub is_inside-returns-in-Some-element_of : goal.is_inside-returns-in-Some-element_of
is_inside-returns-in-Some-element_of t c = grind (arith, insides)

-- src/inside.rt:15:1
pub is_inside-returns-in-None-element_of : goal.is_inside-returns-in-None-element_of
is_inside-returns-in-None-element_of t c = grind (arith, insides)

-- src/inside.rt:15:1
pub is_inside-returns-in-Bool : goal.is_inside-returns-in-Bool
is_inside-returns-in-Bool t c = grind (arith, insides)

-- src/inside.rt:15:1
pub is_inside-returns-in-Bool-2 : goal.is_inside-returns-in-Bool-2
is_inside-returns-in-Bool-2 t c = grind (arith, insides)

-- src/inside.rt:15:1
pub is_inside-returns-in-Bool-3 : goal.is_inside-returns-in-Bool-3
is_inside-returns-in-Bool-3 t c = grind (arith, insides)

-- src/inside.rt:15:1
pub is_inside-returns-in-Bool-4 : goal.is_inside-returns-in-Bool-4
is_inside-returns-in-Bool-4 t c = grind (arith, insides)

-- src/inside.rt:15:1
pub is_inside-returns-in-Bool-5 : goal.is_inside-returns-in-Bool-5
is_inside-returns-in-Bool-5 t c = grind (arith, insides)
