-- The laws of the numbers of data expressions.
use Rattle.std.proofs.Common.{◌≡◌, ◌^◌, ◌<◌, ◌≤◌, ℕ, ℤ, pos, ◌+ℤ◌, ◌-ℤ◌, ◌*ℤ◌, Bool, true, false, cond, [], ◌∷◌, Result, Ok, Err, refl, sym, ap, subst, ◌∙◌, arith}
use Rattle.std.specs.Prelude.{unsigned_abs, int_div, int_rem}
use Rattle.std.specs.Ordering.{int_eq}
use Rattle.std.proofs.lemmas.Int.{ints, quot-rem, rem_below}
use Rattle.opl_value.proofs.Search.{by_size}
use Rattle.opl_eval.specs.declared.fault.EvalFault.{EvalFault}
use Rattle.opl_eval.specs.declared.fault.EvalFault.TheVariants.{DivByZero}
use Rattle.opl_eval.specs.declared.arithmetic.Operation.{Operation}
use Rattle.opl_eval.specs.declared.arithmetic.Operation.TheVariants.{Plus, Minus, Times, Quotient, Remainder}
use Rattle.opl_eval.specs.Arithmetic.{IsSmall, then, sized, applied, run}
use Rattle.opl_eval.specs.Laws.{ResultsAreSmall, QuotientsLeaveRemainders}
use Rattle.opl_eval.proofs.Sized.{sized-small, sized-large, remainder-rest}

-- what is found is a small number
sized-ok : (at : ℕ) (z n : ℤ) → sized at z ≡ Ok n → IsSmall z × (z ≡ n)
sized-ok at z n e = by_size (unsigned_abs z) (2 ^ 127)
    (λ l. (l, same l))
    (λ l. absurd (large (omega arith)))
    (λ l. absurd (large (omega arith)))
  where
    same : IsSmall z → z ≡ n
    same l = let f = sym (sized-small at z l) ∙ e in cc

    large : 2 ^ 127 ≤ unsigned_abs z → ⊥
    large l = let f = sym (sized-large at z l) ∙ e in cc

small : (at : ℕ) (z n : ℤ) → sized at z ≡ Ok n → IsSmall n
small at z n e = let found = sized-ok at z n e in subst IsSmall found.1 found.0

-- behind a test for 0
behind_zero : (at : ℕ) (t : Bool) (r : Result ℤ EvalFault) (n : ℤ) → cond t (Err (DivByZero at)) r ≡ Ok n → (t ≡ false) × (r ≡ Ok n)
behind_zero at true r n e = absurd (cc)
behind_zero at false r n e = (refl, e)

applied-small : (at : ℕ) (a : ℤ) (o : Operation) (n : ℤ) → applied at a o ≡ Ok n → IsSmall n
applied-small at a (Plus b) n e = small at (a +ℤ b) n e
applied-small at a (Minus b) n e = small at (a -ℤ b) n e
applied-small at a (Times b) n e = small at (a *ℤ b) n e
applied-small at a (Quotient b) n e = small at (int_div a b) n (behind_zero at (int_eq b (pos 0)) (sized at (int_div a b)) n e).1
applied-small at a (Remainder b) n e = small at (a -ℤ b *ℤ int_div a b) n (behind_zero at (int_eq b (pos 0)) (sized at (a -ℤ b *ℤ int_div a b)) n e).1

-- of a chain that gives a number, the first step does
first_step : (r : Result ℤ EvalFault) (next : ℤ → Result ℤ EvalFault) (n : ℤ) → then r next ≡ Ok n → (m : ℤ) × (r ≡ Ok m) × (next m ≡ Ok n)
first_step (Ok m) next n e = (m, refl, e)
first_step (Err f) next n e = absurd (cc)

pub results_small : ResultsAreSmall
results_small at a [] n h e = let same : a ≡ n = cc in subst IsSmall same h
results_small at a (o ∷ os) n h e =
    let step = first_step (applied at a o) (λ b. run at b os) n e in
    results_small at step.0 os n (applied-small at a o step.0 step.1) step.2

pub quotients_leave : QuotientsLeaveRemainders
quotients_leave at a b q r e f =
    let divided = behind_zero at (int_eq b (pos 0)) (sized at (int_div a b)) q e in
    let left = behind_zero at (int_eq b (pos 0)) (sized at (a -ℤ b *ℤ int_div a b)) r f in
    let is_q = (sized-ok at (int_div a b) q divided.1).1 in
    let is_r = sym (remainder-rest a b) ∙ (sized-ok at (a -ℤ b *ℤ int_div a b) r left.1).1 in
    (whole q r is_q is_r, subst (λ x. unsigned_abs x < unsigned_abs b) is_r (rem_below a b (positive divided.0)))
  where
    positive : int_eq b (pos 0) ≡ false → 0 < unsigned_abs b
    positive h = grind (arith, ints)

    whole : (q r : ℤ) → int_div a b ≡ q → int_rem a b ≡ r → a ≡ b *ℤ q +ℤ r
    whole q r g h = omega (arith, ints, quot-rem a b, ap (λ x. b *ℤ x) g, h)
