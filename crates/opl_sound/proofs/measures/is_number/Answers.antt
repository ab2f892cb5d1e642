use Rattle.std.proofs.Common.{arith}
use Rattle.opl_sound.proofs.Plain.{are_numbers}
use Rattle.opl_sound.proofs.measures.is_number.Goals as goal

-- src/measures.rt:11:1
pub returns-in-Const : goal.returns-in-Const
returns-in-Const c = grind (arith, are_numbers)

-- src/measures.rt:11:1
pub returns-in-Var : goal.returns-in-Var
returns-in-Var c = grind (arith, are_numbers)

-- src/measures.rt:11:1
pub returns-in-Sum : goal.returns-in-Sum
returns-in-Sum c = grind (arith, are_numbers)

-- src/measures.rt:11:1
pub returns-in-Neg : goal.returns-in-Neg
returns-in-Neg c = grind (arith, are_numbers)

-- src/measures.rt:11:1
pub returns-in-Mul : goal.returns-in-Mul
returns-in-Mul c = grind (arith, are_numbers)

-- src/measures.rt:11:1
pub returns-in-Div : goal.returns-in-Div
returns-in-Div c = grind (arith, are_numbers)

-- src/measures.rt:11:1
pub returns-in-Rem : goal.returns-in-Rem
returns-in-Rem c = grind (arith, are_numbers)

-- src/measures.rt:11:1
pub returns-in-Abs : goal.returns-in-Abs
returns-in-Abs c = grind (arith, are_numbers)

-- src/measures.rt:11:1
pub returns-in-Min : goal.returns-in-Min
returns-in-Min c = grind (arith, are_numbers)

-- src/measures.rt:11:1
pub returns-in-Max : goal.returns-in-Max
returns-in-Max c = grind (arith, are_numbers)

-- src/measures.rt:11:1
pub returns-in-At : goal.returns-in-At
returns-in-At c = grind (arith, are_numbers)

-- src/measures.rt:11:1
pub returns-in-Truth : goal.returns-in-Truth
returns-in-Truth c = grind (arith, are_numbers)

-- src/measures.rt:11:1
pub returns-in-Ask : goal.returns-in-Ask
returns-in-Ask c = grind (arith, are_numbers)
