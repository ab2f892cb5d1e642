-- Quotients are cut off towards 0.
use Rattle.std.proofs.Common.{◌≡◌, inl, inr, ◌^◌, ◌<◌, ◌≤◌, ◌*◌, ◌/◌, ◌%◌, ◌≤ℤ◌, ℕ, zero, suc, ℤ, pos, negsuc, ◌+ℤ◌, ◌-ℤ◌, ◌*ℤ◌, neg_ℤ, Bool, true, false, cond, Result, Ok, Err, refl, sym, ap, subst, ◌∙◌, arith}
use Rattle.std.specs.Prelude.{unsigned_abs, int_div, int_rem, nat_lt}
use Rattle.std.specs.Ordering.{int_eq}
use Rattle.std.proofs.lemmas.Int.{ints, quot-rem, rem_below, unsigned_abs-mul}
use Rattle.std.proofs.lemmas.Nat.{div-add-mod'}
use Rattle.opl_eval.specs.declared.fault.EvalFault.{EvalFault}
use Rattle.opl_eval.specs.declared.fault.EvalFault.TheVariants.{DivByZero, TooLarge}
use Rattle.opl_eval.specs.Arithmetic.{sized}
use Rattle.opl_fit.specs.Laws.{HasSignOf, QuotientsAreCutOff}

-- a number that is not too large stands for itself
sized-is : (at : ℕ) (z n : ℤ) → sized at z ≡ Ok n → z ≡ n
unfolding sized
sized-is at z n h = by (nat_lt (unsigned_abs z) (2 ^ 127)) h
  where
    by : (b : Bool) → cond b (Ok z) (Err (TooLarge at)) ≡ Ok n → z ≡ n
    by true e = cc
    by false e = absurd (cc)

-- behind a test for 0
behind_zero : (at : ℕ) (t : Bool) (r : Result ℤ EvalFault) (n : ℤ) → cond t (Err (DivByZero at)) r ≡ Ok n → (t ≡ false) × (r ≡ Ok n)
behind_zero at true r n e = absurd (cc)
behind_zero at false r n e = (refl, e)

positive : (b : ℤ) → int_eq b (pos 0) ≡ false → 0 < unsigned_abs b
positive b h = grind (arith, ints)

abs_neg : (n : ℕ) → unsigned_abs (neg_ℤ (pos n)) ≡ n
abs_neg zero = refl
abs_neg (suc n) = refl

-- the quotient's absolute value is that of the absolute values
abs-quotient : (a b : ℤ) → unsigned_abs (int_div a b) ≡ unsigned_abs a / unsigned_abs b
abs-quotient (pos a) (pos b) = refl
abs-quotient (pos a) (negsuc b) = abs_neg (a / suc b)
abs-quotient (negsuc a) (pos b) = abs_neg (suc a / b)
abs-quotient (negsuc a) (negsuc b) = refl

cut-natural : (m n : ℕ) → n * (m / n) ≤ m
cut-natural m n = omega (arith, div-add-mod' m n)

cut : (a b : ℤ) → unsigned_abs (b *ℤ int_div a b) ≤ unsigned_abs a
cut a b =
    subst (λ k. k ≤ unsigned_abs a) (sym (unsigned_abs-mul b (int_div a b) ∙ ap (λ k. unsigned_abs b * k) (abs-quotient a b)))
    (cut-natural (unsigned_abs a) (unsigned_abs b))

below_zero : (n : ℕ) → neg_ℤ (pos n) ≤ℤ pos 0
below_zero zero = omega (arith, ints)
below_zero (suc n) = omega (arith, ints)

-- the remainder's sign
sign-of : (a b : ℤ) → HasSignOf (int_rem a b) a
sign-of (pos a) b = inl (omega (arith, ints), omega (arith, ints))
sign-of (negsuc a) b = inr (omega (arith, ints), below_zero (suc a % unsigned_abs b))

rest : (a b : ℤ) → a -ℤ b *ℤ int_div a b ≡ int_rem a b
rest a b = omega (arith, ints, quot-rem a b)

whole_of : (a b q r : ℤ) → int_div a b ≡ q → int_rem a b ≡ r → a ≡ b *ℤ q +ℤ r
whole_of a b q r g h = omega (arith, ints, quot-rem a b, ap (λ x. b *ℤ x) g, h)

pub quotients_are_cut_off : QuotientsAreCutOff
quotients_are_cut_off at a b q r e f =
    let divided = behind_zero at (int_eq b (pos 0)) (sized at (int_div a b)) q e in
    let left = behind_zero at (int_eq b (pos 0)) (sized at (a -ℤ b *ℤ int_div a b)) r f in
    let is_q = sized-is at (int_div a b) q divided.1 in
    let is_r = sym (rest a b) ∙ sized-is at (a -ℤ b *ℤ int_div a b) r left.1 in
    record {
      whole = whole_of a b q r is_q is_r;
      near = subst (λ x. unsigned_abs x < unsigned_abs b) is_r (rem_below a b (positive b divided.0));
      towards_zero = subst (λ x. unsigned_abs (b *ℤ x) ≤ unsigned_abs a) is_q (cut a b);
      sign = subst (λ x. HasSignOf x a) is_r (sign-of a b);
    }
