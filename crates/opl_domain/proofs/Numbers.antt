-- The lesser and the greater of two numbers, and intervals made of their ends.
use Rattle.std.proofs.Common.{◌≡◌, ℕ, ◌*◌, ◌<◌, ◌≤◌, ◌⊎◌, ℤ, ◌≤ℤ◌, arith, inl, inr}
use Rattle.std.proofs.Math.Nat.{mul-le-mul_left, mul-le-mul_right}
use Rattle.std.proofs.lemmas.Int.{ints}
use Rattle.opl_domain.specs.Span.{Span, smaller, larger}

-- an interval whose ends are known
pub span_is : (r : Span) (l h m k : ℤ) → r ≡ record { low = l; high = h } → l ≡ m → h ≡ k → r ≡ record { low = m; high = k }
span_is r l h m k e p q = cc

-- the lesser of two numbers is one of them, and at most each
pub smaller_tells : (x y : ℤ) → ((smaller x y ≡ x) × (x ≤ℤ y)) ⊎ ((smaller x y ≡ y) × (y ≤ℤ x))
unfolding smaller
smaller_tells x y = grind (arith, ints)

-- the greater of two numbers is one of them, and at least each
pub larger_tells : (x y : ℤ) → ((larger x y ≡ y) × (x ≤ℤ y)) ⊎ ((larger x y ≡ x) × (y ≤ℤ x))
unfolding larger
larger_tells x y = grind (arith, ints)

pub smaller_left : (x y : ℤ) → smaller x y ≤ℤ x
smaller_left x y = elim (smaller_tells x y) [ inl p ↦ omega (arith, ints, p.0) | inr p ↦ omega (arith, ints, p.0, p.1) ]

pub smaller_right : (x y : ℤ) → smaller x y ≤ℤ y
smaller_right x y = elim (smaller_tells x y) [ inl p ↦ omega (arith, ints, p.0, p.1) | inr p ↦ omega (arith, ints, p.0) ]

pub larger_left : (x y : ℤ) → x ≤ℤ larger x y
larger_left x y = elim (larger_tells x y) [ inl p ↦ omega (arith, ints, p.0, p.1) | inr p ↦ omega (arith, ints, p.0) ]

pub larger_right : (x y : ℤ) → y ≤ℤ larger x y
larger_right x y = elim (larger_tells x y) [ inl p ↦ omega (arith, ints, p.0) | inr p ↦ omega (arith, ints, p.0, p.1) ]

-- products of smaller factors are smaller
pub mul_below : (x y m n k : ℕ) → x ≤ m → y ≤ n → m * n < k → x * y < k
mul_below x y m n k p q h = omega (arith, mul-le-mul_left x q, mul-le-mul_right n p)

-- the lesser of p and others is at most the greater of p and others
pub ends_in_order : (l h p x y : ℤ) → l ≡ smaller p x → h ≡ larger p y → l ≤ℤ h
ends_in_order l h p x y e f = omega (arith, ints, e, f, smaller_left p x, larger_left p y)
