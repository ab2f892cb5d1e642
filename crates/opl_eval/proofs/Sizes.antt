-- How many whole numbers there are from one to another.
use Rattle.std.proofs.Common.{◌≡◌, ℕ, ◌^◌, ◌≤◌, ℤ, pos, negsuc, ◌+ℤ◌, ◌-ℤ◌, ◌<ℤ◌, ◌≤ℤ◌, Ok, Err, refl, sym, ap, ◌∙◌, to_z, of_z, arith}
use Rattle.std.specs.Prelude.{FitsSigned}
use Rattle.std.specs.Int.{w128}
use Rattle.std.proofs.lemmas.Int.{ints}
use Rattle.opl_value.specs.Places.{or_zero}
use Rattle.opl_eval.specs.declared.fault.EvalFault.TheVariants.{TooLarge}
use Rattle.opl_eval.specs.Arithmetic.{sized}
use Rattle.opl_eval.proofs.Sized.{sized-small, sized-large, no_fit}

or_zero-low : (z : ℤ) → z ≤ℤ pos 0 → or_zero z ≡ 0
or_zero-low (pos n) h = omega (arith, ints)
or_zero-low (negsuc n) h = refl

or_zero-high : (n : ℕ) (z : ℤ) → pos n ≤ℤ z → n ≤ or_zero z
or_zero-high n (pos m) h = omega (arith, ints)
or_zero-high n (negsuc m) h = omega (arith, ints)

pub sized-none : (at : ℕ) (low high : ℤ) → high <ℤ low → Ok (pos 0) ≡ sized at (pos (or_zero (high +ℤ pos 1 -ℤ low)))
sized-none at low high h =
    let none = or_zero-low (high +ℤ pos 1 -ℤ low) (omega (arith, ints)) in
    sym (ap (λ n. sized at (pos n)) none ∙ sized-small at (pos 0) (omega arith))

pub sized-far : (at : ℕ) (low high : ℤ) → low ≤ℤ high → (FitsSigned w128 (high -ℤ low) → ⊥) → Err (TooLarge at) ≡ sized at (pos (or_zero (high +ℤ pos 1 -ℤ low)))
sized-far at low high h f =
    let far = no_fit (high -ℤ low) f in
    sym (sized-large at (pos (or_zero (high +ℤ pos 1 -ℤ low))) (or_zero-high (2 ^ 127) (high +ℤ pos 1 -ℤ low) (omega (arith, ints))))

-- the numbers as a call takes them
pub as_passed : (low high : ℤ) → FitsSigned w128 low → FitsSigned w128 high → high -ℤ low ≡ to_z w128 (of_z w128 high) -ℤ to_z w128 (of_z w128 low)
as_passed low high f g = omega (arith, ints)
