-- Numbers that are too large, and those that are not.
use Rattle.std.proofs.Common.{◌≡◌, ℕ, ◌-◌, ◌^◌, ◌<◌, ◌≤◌, false, sym, ap, ◌∙◌, subst, cond, arith}
use Rattle.std.specs.Prelude.{ℤ, pos, negsuc, unsigned_abs, ◌-ℤ◌, ◌*ℤ◌, int_div, int_rem, FitsSigned, Ok, Err, Option, Some, None}
use Rattle.std.specs.Int.{w128}
use Rattle.std.specs.Option.{SomeIff}
use Rattle.std.proofs.lemmas.Int.{ints, to_z-of_z, fits_signed_from_abs, quot-rem, rem_below, rem_is}
use Rattle.std.specs.Ordering.{int_eq}
use mir.Val.{to_z, of_z}
use Rattle.opl_eval.specs.declared.fault.EvalFault.TheVariants.{DivByZero, TooLarge}
use Rattle.opl_eval.specs.Arithmetic.{IsSmall, sized, remainder}

-- a small number stands for itself
pub sized-small : (at : ℕ) (z : ℤ) → IsSmall z → sized at z ≡ Ok z
unfolding sized
sized-small at z h = grind arith

-- any other is too large
pub sized-large : (at : ℕ) (z : ℤ) → 2 ^ 127 ≤ unsigned_abs z → sized at z ≡ Err (TooLarge at)
unfolding sized
sized-large at z h = grind arith

at_edge : (z : ℤ) → FitsSigned w128 z → of_z w128 z ≡ 2 ^ 127 → 2 ^ 127 ≤ unsigned_abs z
at_edge (pos n) fits e = omega arith
at_edge (negsuc n) fits e = omega (arith, fits)

off_edge : (z : ℤ) → FitsSigned w128 z → (of_z w128 z ≡ 2 ^ 127 → ⊥) → IsSmall z
off_edge (pos n) fits e = fits.sfits
off_edge (negsuc n) fits e = omega (arith, fits.sfits, e)

-- a number that the type does not have is too large
pub no_fit : (z : ℤ) → (FitsSigned w128 z → ⊥) → 2 ^ 127 ≤ unsigned_abs z
no_fit z h = omega (arith, λ (k : unsigned_abs z < 2 ^ 127). h (fits_signed_from_abs w128 z k))

-- the number that is checked
checked : (n z : ℤ) (o : Option ℤ) → SomeIff o (FitsSigned w128 z) z → o ≡ Some n → FitsSigned w128 z × (n ≡ z)
checked n z o h e = subst (λ x. SomeIff x (FitsSigned w128 z) z) e h

pub sized-edge : (at : ℕ) (n z : ℤ) (o : Option ℤ) → SomeIff o (FitsSigned w128 z) z → o ≡ Some n → of_z w128 n ≡ 2 ^ 127 → Err (TooLarge at) ≡ sized at z
sized-edge at n z o h e k =
    let found = checked n z o h e in
    sym (sized-large at z (at_edge z found.0 (subst (λ x. of_z w128 x ≡ 2 ^ 127) found.1 k)))

pub sized-within : (at : ℕ) (n z : ℤ) (o : Option ℤ) → SomeIff o (FitsSigned w128 z) z → o ≡ Some n → (of_z w128 n ≡ 2 ^ 127 → ⊥) → Ok (to_z w128 (of_z w128 n)) ≡ sized at z
sized-within at n z o h e k =
    let found = checked n z o h e in
    ap (λ x. Ok (to_z w128 (of_z w128 x))) found.1 ∙ ap Ok (to_z-of_z w128 z found.0)
    ∙ sym (sized-small at z (off_edge z found.0 (subst (λ x. of_z w128 x ≡ 2 ^ 127 → ⊥) found.1 k)))

pub sized-none : (at : ℕ) (z : ℤ) (o : Option ℤ) → SomeIff o (FitsSigned w128 z) z → o ≡ None → Err (TooLarge at) ≡ sized at z
sized-none at z o h e = sym (sized-large at z (no_fit z (subst (λ x. SomeIff x (FitsSigned w128 z) z) e h)))

-- what the quotient leaves is what `%` gives
pub remainder-rest : (a b : ℤ) → a -ℤ b *ℤ int_div a b ≡ int_rem a b
remainder-rest a b = omega (arith, ints, quot-rem a b)

not_zero : (b : ℤ) → (b ≡ pos 0 → ⊥) → int_eq b (pos 0) ≡ false
not_zero b h = grind (arith, ints)

-- a remainder by any number but 0
remainder-rem : (at : ℕ) (a b : ℤ) → (b ≡ pos 0 → ⊥) → remainder at a b ≡ sized at (int_rem a b)
remainder-rem at a b h =
    ap (λ x. cond x (Err (DivByZero at)) (sized at (a -ℤ b *ℤ int_div a b))) (not_zero b h) ∙ ap (sized at) (remainder-rest a b)

positive : (b : ℤ) → (b ≡ pos 0 → ⊥) → 0 < unsigned_abs b
positive b h = omega (arith, ints)

at_most : (b : ℤ) → FitsSigned w128 b → unsigned_abs b ≤ 2 ^ 127
at_most (pos n) fits = omega (arith, fits.sfits)
at_most (negsuc n) fits = omega (arith, fits.sfits)

nothing : (r : ℤ) → unsigned_abs r < 1 → r ≡ pos 0
nothing r h = omega (arith, ints)

pub remainder-other : (at : ℕ) (a b : ℤ) → FitsSigned w128 a → FitsSigned w128 b → (of_z w128 b ≡ 0 → ⊥)
    → Ok (to_z w128 (of_z w128 (int_rem (to_z w128 (of_z w128 a)) (to_z w128 (of_z w128 b))))) ≡ remainder at a b
remainder-other at a b f g h =
    let other : b ≡ pos 0 → ⊥ = λ e. h (ap (of_z w128) e) in
    let below = rem_below a b (positive b other) in
    let bound = at_most b g in
    let small : IsSmall (int_rem a b) = omega arith in
    ap Ok (rem_is w128 a b f g) ∙ sym (remainder-rem at a b other ∙ sized-small at (int_rem a b) small)

minus_one : (b : ℤ) → FitsSigned w128 b → of_z w128 b ≡ 2 ^ 128 - 1 → b ≡ negsuc 0
minus_one (pos n) fits e = absurd (omega (arith, fits.sfits))
minus_one (negsuc n) fits e = ap negsuc (omega (arith, fits.sfits))

by_minus_one : (at : ℕ) (a : ℤ) → Ok (pos 0) ≡ remainder at a (negsuc 0)
by_minus_one at a =
    let none = nothing (int_rem a (negsuc 0)) (rem_below a (negsuc 0) (omega arith)) in
    sym (remainder-rem at a (negsuc 0) (λ e. cc) ∙ ap (sized at) none ∙ sized-small at (pos 0) (omega arith))

pub remainder-minus_one : (at : ℕ) (a b : ℤ) → FitsSigned w128 b → of_z w128 b ≡ 2 ^ 128 - 1 → Ok (pos 0) ≡ remainder at a b
remainder-minus_one at a b f e = by_minus_one at a ∙ ap (remainder at a) (sym (minus_one b f e))
