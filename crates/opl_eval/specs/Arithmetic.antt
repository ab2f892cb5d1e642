-- The numbers of data expressions: whole numbers of an absolute value of at most 2^127 - 1.
use Rattle.std.specs.Prelude.{◌<◌, ◌^◌, ℕ, ℤ, pos, ◌+ℤ◌, ◌-ℤ◌, ◌*ℤ◌, neg_ℤ, unsigned_abs, int_div, nat_lt, cond, List, [], ◌∷◌, map, fold, Result, Ok, Err}
use Rattle.std.specs.Int.{int_min, int_max}
use Rattle.std.specs.Ordering.{int_eq}
use Rattle.opl_eval.specs.declared.fault.EvalFault.{EvalFault}
use Rattle.opl_eval.specs.declared.fault.EvalFault.TheVariants.{DivByZero, TooLarge, EmptyMinMax}
use Rattle.opl_eval.specs.declared.arithmetic.Operation.{Operation}
use Rattle.opl_eval.specs.declared.arithmetic.Operation.TheVariants.{Plus, Minus, Times, Quotient, Remainder}

-- a number that data expressions may have
abbrev pub IsSmall : ℤ → Type 0
IsSmall a = unsigned_abs a < 2 ^ 127

-- what is done with a value, if there is one, or the fault that stands for it
abbrev pub then : {A B : Type 0} → Result A EvalFault → (A → Result B EvalFault) → Result B EvalFault
then (Ok a) next = next a
then (Err fault) next = Err fault

-- a number that an operation at this place gives, or that it is too large
unfoldable pub sized : ℕ → ℤ → Result ℤ EvalFault
sized at a = cond (nat_lt (unsigned_abs a) (2 ^ 127)) (Ok a) (Err (TooLarge at))

abbrev pub plus : ℕ → ℤ → ℤ → Result ℤ EvalFault
plus at a b = sized at (a +ℤ b)

abbrev pub minus : ℕ → ℤ → ℤ → Result ℤ EvalFault
minus at a b = sized at (a -ℤ b)

abbrev pub times : ℕ → ℤ → ℤ → Result ℤ EvalFault
times at a b = sized at (a *ℤ b)

-- the quotient, cut off towards zero
abbrev pub quotient : ℕ → ℤ → ℤ → Result ℤ EvalFault
quotient at a b = cond (int_eq b (pos 0)) (Err (DivByZero at)) (sized at (int_div a b))

-- a - b * (a div b)
abbrev pub remainder : ℕ → ℤ → ℤ → Result ℤ EvalFault
remainder at a b = cond (int_eq b (pos 0)) (Err (DivByZero at)) (sized at (a -ℤ b *ℤ int_div a b))

abbrev pub negative : ℕ → ℤ → Result ℤ EvalFault
negative at a = sized at (neg_ℤ a)

abbrev pub absolute : ℕ → ℤ → Result ℤ EvalFault
absolute at a = sized at (pos (unsigned_abs a))

-- one step of a chain
abbrev pub applied : ℕ → ℤ → Operation → Result ℤ EvalFault
applied at a (Plus b) = plus at a b
applied at a (Minus b) = minus at a b
applied at a (Times b) = times at a b
applied at a (Quotient b) = quotient at a b
applied at a (Remainder b) = remainder at a b

-- a chain, from the left
abbrev pub run : ℕ → ℤ → List Operation → Result ℤ EvalFault
run at a [] = Ok a
run at a (o ∷ os) = then (applied at a o) (λ b. run at b os)

-- a sum is a chain from 0, a product one from 1
abbrev pub sum : ℕ → List ℤ → Result ℤ EvalFault
sum at ns = run at (pos 0) (map Plus ns)

abbrev pub product : ℕ → List ℤ → Result ℤ EvalFault
product at ns = run at (pos 1) (map Times ns)

abbrev pub least : ℕ → List ℤ → Result ℤ EvalFault
least at [] = Err (EmptyMinMax at)
least at (n ∷ ns) = Ok (fold int_min n ns)

abbrev pub greatest : ℕ → List ℤ → Result ℤ EvalFault
greatest at [] = Err (EmptyMinMax at)
greatest at (n ∷ ns) = Ok (fold int_max n ns)
