-- Products of sums of whole numbers.
use Rattle.std.proofs.Common.{◌≡◌, ℕ, zero, suc, ℤ, pos, negsuc, ◌+ℤ◌, ◌*ℤ◌, neg_ℤ, ap, sym, ◌∙◌, arith}
use Rattle.std.proofs.lemmas.Int.{ints}
use Rattle.std.proofs.Math.IntN.{*ℤ_comm}

-- one more unit of a factor
times_more : (x : ℤ) (n : ℕ) → x *ℤ pos (suc n) ≡ (x *ℤ pos n) +ℤ x
times_more (pos m) n = omega (arith, ints)
times_more (negsuc m) n = omega (arith, ints)

times_less : (x : ℤ) (n : ℕ) → x *ℤ negsuc n ≡ neg_ℤ (x *ℤ pos (suc n))
times_less (pos m) n = omega (arith, ints)
times_less (negsuc m) n = omega (arith, ints)

times_nothing : (x : ℤ) → x *ℤ pos 0 ≡ pos 0
times_nothing (pos m) = omega (arith, ints)
times_nothing (negsuc m) = omega (arith, ints)

plus_natural : (x y : ℤ) (n : ℕ) → (x +ℤ y) *ℤ pos n ≡ (x *ℤ pos n) +ℤ (y *ℤ pos n)
plus_natural x y zero = omega (arith, ints, times_nothing (x +ℤ y), times_nothing x, times_nothing y)
plus_natural x y (suc n) = omega (arith, ints, plus_natural x y n, times_more (x +ℤ y) n, times_more x n, times_more y n)

pub plus_times : (x y z : ℤ) → (x +ℤ y) *ℤ z ≡ (x *ℤ z) +ℤ (y *ℤ z)
plus_times x y (pos n) = plus_natural x y n
plus_times x y (negsuc n) = omega (arith, ints, plus_natural x y (suc n), times_less (x +ℤ y) n, times_less x n, times_less y n)

neg_natural : (x : ℤ) (n : ℕ) → neg_ℤ x *ℤ pos n ≡ neg_ℤ (x *ℤ pos n)
neg_natural x zero = omega (arith, ints, times_nothing (neg_ℤ x), times_nothing x)
neg_natural x (suc n) = omega (arith, ints, neg_natural x n, times_more (neg_ℤ x) n, times_more x n)

pub neg_times : (x z : ℤ) → neg_ℤ x *ℤ z ≡ neg_ℤ (x *ℤ z)
neg_times x (pos n) = neg_natural x n
neg_times x (negsuc n) = omega (arith, ints, neg_natural x (suc n), times_less (neg_ℤ x) n, times_less x n)

times_natural : (x y : ℤ) (n : ℕ) → (x *ℤ y) *ℤ pos n ≡ x *ℤ (y *ℤ pos n)
times_natural x y zero = times_nothing (x *ℤ y) ∙ sym (ap (λ v. x *ℤ v) (times_nothing y) ∙ times_nothing x)
times_natural x y (suc n) =
    times_more (x *ℤ y) n ∙ ap (λ v. v +ℤ (x *ℤ y)) (times_natural x y n)
    ∙ (ap (λ v. v +ℤ (x *ℤ y)) (*ℤ_comm x (y *ℤ pos n)) ∙ ap (λ v. ((y *ℤ pos n) *ℤ x) +ℤ v) (*ℤ_comm x y) ∙ sym (plus_times (y *ℤ pos n) y x) ∙ *ℤ_comm ((y *ℤ pos n) +ℤ y) x)
    ∙ ap (λ v. x *ℤ v) (sym (times_more y n))

pub times_times : (x y z : ℤ) → (x *ℤ y) *ℤ z ≡ x *ℤ (y *ℤ z)
times_times x y (pos n) = times_natural x y n
times_times x y (negsuc n) =
    times_less (x *ℤ y) n ∙ ap neg_ℤ (times_natural x y (suc n))
    ∙ (ap neg_ℤ (*ℤ_comm x (y *ℤ pos (suc n))) ∙ sym (neg_times (y *ℤ pos (suc n)) x) ∙ *ℤ_comm (neg_ℤ (y *ℤ pos (suc n))) x)
    ∙ ap (λ v. x *ℤ v) (sym (times_less y n))
