-- What it means that the arithmetic of intervals is exact.
use Rattle.std.specs.Prelude.{◌≡◌, ◌≢◌, ◌↔◌, ◌⊎◌, true, ℤ, pos, ◌+ℤ◌, ◌*ℤ◌, neg_ℤ, ◌≤ℤ◌, int_div, int_rem, unsigned_abs, Some, None}
use Rattle.opl_domain.specs.Span.{Span, IsWithin, IsInside, smaller, larger, point}
use Rattle.opl_domain.specs.Arithmetic.{span_add, span_neg, span_mul, span_min, span_max, span_hull, span_abs, span_div, span_rem, is_one_quotient}

-- the ends of an interval are in order
abbrev pub IsOrdered : Span → Type 0
IsOrdered a = a.low ≤ℤ a.high

-- v is the image of a number of a
pub record IsImage (of : ℤ → ℤ) (a : Span) (v : ℤ) : Type 0 where
  pub number : ℤ
  pub within : IsWithin number a
  pub gives : of number ≡ v

-- the interval made of a holds the images of all its numbers, and both its ends are such images
pub record IsExact (of : ℤ → ℤ) (made : Span → Span) : Type 0 where
  pub holds : (a : Span) (x : ℤ) → IsWithin x a → IsWithin (of x) (made a)
  pub least : (a : Span) → IsOrdered a → IsImage of a (made a).low
  pub most : (a : Span) → IsOrdered a → IsImage of a (made a).high

-- v is the result of a number of a and one of b
pub record IsResult (of : ℤ → ℤ → ℤ) (a b : Span) (v : ℤ) : Type 0 where
  pub first : ℤ
  pub second : ℤ
  pub first_within : IsWithin first a
  pub second_within : IsWithin second b
  pub gives : of first second ≡ v

-- the interval made of a and b holds the results of all their numbers, and both its ends are such results
pub record IsExactOfTwo (of : ℤ → ℤ → ℤ) (made : Span → Span → Span) : Type 0 where
  pub holds : (a b : Span) (x y : ℤ) → IsWithin x a → IsWithin y b → IsWithin (of x y) (made a b)
  pub least : (a b : Span) → IsOrdered a → IsOrdered b → IsResult of a b (made a b).low
  pub most : (a b : Span) → IsOrdered a → IsOrdered b → IsResult of a b (made a b).high

abbrev pub AddIsExact : Type 0
AddIsExact = IsExactOfTwo ◌+ℤ◌ span_add

abbrev pub NegIsExact : Type 0
NegIsExact = IsExact neg_ℤ span_neg

abbrev pub MulIsExact : Type 0
MulIsExact = IsExactOfTwo ◌*ℤ◌ span_mul

abbrev pub MinIsExact : Type 0
MinIsExact = IsExactOfTwo smaller span_min

abbrev pub MaxIsExact : Type 0
MaxIsExact = IsExactOfTwo larger span_max

-- the hull of two intervals holds both, and each of its ends is an end of one
pub record HullIsLeast : Type 0 where
  pub holds_first : (a b : Span) (x : ℤ) → IsWithin x a → IsWithin x (span_hull a b)
  pub holds_second : (a b : Span) (x : ℤ) → IsWithin x b → IsWithin x (span_hull a b)
  pub least : (a b : Span) → ((span_hull a b).low ≡ a.low) ⊎ ((span_hull a b).low ≡ b.low)
  pub most : (a b : Span) → ((span_hull a b).high ≡ a.high) ⊎ ((span_hull a b).high ≡ b.high)

-- the interval of absolute values is there where the ends are in order, holds all of them, and both its ends are such
pub record AbsIsExact : Type 0 where
  pub holds : (a : Span) (x : ℤ) → IsWithin x a → IsInside (Some (point (pos (unsigned_abs x)))) (span_abs a)
  pub least : (a r : Span) → span_abs a ≡ Some r → IsImage (λ v. pos (unsigned_abs v)) a r.low
  pub most : (a r : Span) → span_abs a ≡ Some r → IsImage (λ v. pos (unsigned_abs v)) a r.high

-- v is the quotient of a number of a by one of b that isn't 0
pub record IsQuotient (a b : Span) (v : ℤ) : Type 0 where
  pub first : ℤ
  pub second : ℤ
  pub first_within : IsWithin first a
  pub second_within : IsWithin second b
  pub nonzero : second ≢ pos 0
  pub gives : int_div first second ≡ v

-- the interval of quotients holds all, both its ends are quotients, and it is missing exactly where 0 is the only divisor
pub record DivIsExact : Type 0 where
  pub holds : (a b : Span) (x y : ℤ) → IsWithin x a → IsWithin y b → y ≢ pos 0 → IsInside (Some (point (int_div x y))) (span_div a b)
  pub least : (a b r : Span) → span_div a b ≡ Some r → IsQuotient a b r.low
  pub most : (a b r : Span) → span_div a b ≡ Some r → IsQuotient a b r.high
  pub missing : (a b : Span) → IsOrdered a → IsOrdered b → (span_div a b ≡ None) ↔ (b ≡ point (pos 0))

-- the interval of remainders holds all, and is missing exactly where 0 is the only divisor; where there is one divisor
-- and one quotient, its ends are the remainders of the ends
pub record RemIsSound : Type 0 where
  pub holds : (a b : Span) (x y : ℤ) → IsWithin x a → IsWithin y b → y ≢ pos 0 → IsInside (Some (point (int_rem x y))) (span_rem a b)
  pub missing : (a b : Span) → IsOrdered a → IsOrdered b → (span_rem a b ≡ None) ↔ (b ≡ point (pos 0))
  pub exact : (a b : Span) → b ≢ point (pos 0) → is_one_quotient a b ≡ true → span_rem a b ≡ Some (record { low = int_rem a.low b.low; high = int_rem a.high b.low })
