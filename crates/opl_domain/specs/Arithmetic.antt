-- What the arithmetic of whole numbers makes of intervals.
use Rattle.std.specs.Prelude.{Bool, true, false, cond, ◌&&◌, [], ◌∷◌, map, ℤ, pos, negsuc, ◌+ℤ◌, ◌*ℤ◌, neg_ℤ, int_le, int_div, int_rem, unsigned_abs, Option, Some, None}
use Rattle.std.specs.List.{filter, flat_map}
use Rattle.std.specs.Ordering.{int_eq}
use Rattle.opl_domain.specs.Span.{Span, smaller, larger, magnitude, point, is_point, hull_of, hull_some, values}

-- the sums of a number of a and one of b
unfoldable pub span_add : Span → Span → Span
span_add a b = record { low = a.low +ℤ b.low; high = a.high +ℤ b.high }

-- the numbers of a with the other sign
unfoldable pub span_neg : Span → Span
span_neg a = record { low = neg_ℤ a.high; high = neg_ℤ a.low }

-- the hull of the four products of ends
unfoldable pub span_mul : Span → Span → Span
span_mul a b = hull_of ((a.low *ℤ b.low) ∷ (a.low *ℤ b.high) ∷ (a.high *ℤ b.low) ∷ (a.high *ℤ b.high) ∷ [])

-- the lesser one of a number of a and one of b
unfoldable pub span_min : Span → Span → Span
span_min a b = record { low = smaller a.low b.low; high = smaller a.high b.high }

-- the greater one of a number of a and one of b
unfoldable pub span_max : Span → Span → Span
span_max a b = record { low = larger a.low b.low; high = larger a.high b.high }

-- the hull of both intervals
unfoldable pub span_hull : Span → Span → Span
span_hull a b = record { low = smaller a.low b.low; high = larger a.high b.high }

-- the hull of the absolute values of all numbers of a
unfoldable pub span_abs : Span → Option Span
span_abs a = hull_some (map (λ v. pos (unsigned_abs v)) (values a))

-- the number isn't 0
abbrev pub is_nonzero : ℤ → Bool
is_nonzero v = cond (int_eq v (pos 0)) false true

-- the hull of the truncated quotients of all numbers of a by all numbers of b but 0; none where there is no quotient
unfoldable pub span_div : Span → Span → Option Span
span_div a b = hull_some (flat_map (λ y. map (λ x. int_div x y) (values a)) (filter is_nonzero (values b)))

-- y is a number of b, and not 0
abbrev pub is_divisor : Span → ℤ → Bool
is_divisor b y = is_nonzero y && (int_le b.low y && int_le y b.high)

-- the hull of an interval and of one that may be missing
abbrev pub joined_to : Span → Option Span → Span
joined_to a None = a
joined_to a (Some b) = span_hull a b

-- the quotients found so far, with those of both ends of a by y, where y is a divisor of b
unfoldable pub with_quotients : Span → Span → ℤ → Option Span → Option Span
with_quotients a b y found =
    cond (is_divisor b y) (Some (joined_to (span_hull (point (int_div a.low y)) (point (int_div a.high y))) found)) found

-- one less than the greatest absolute value of b
unfoldable pub greatest_rest : Span → ℤ
greatest_rest b = pos (magnitude b) +ℤ negsuc 0

-- the low end of the remainders of numbers from lo on, none of which is above m in absolute value
unfoldable pub low_rest : ℤ → ℤ → ℤ
low_rest lo m = cond (int_le (pos 0) lo) (pos 0) (larger lo (neg_ℤ m))

-- their high end, for numbers up to hi
unfoldable pub high_rest : ℤ → ℤ → ℤ
high_rest hi m = cond (int_le hi (pos 0)) (pos 0) (smaller hi m)

-- remainders have the sign of the dividend, and are no greater than it and than one less than the divisor
abbrev pub wide_rem : Span → Span → Span
wide_rem a b = record { low = low_rest a.low (greatest_rest b); high = high_rest a.high (greatest_rest b) }

-- there is one divisor, and both ends of a have the same quotient by it
abbrev pub is_one_quotient : Span → Span → Bool
is_one_quotient a b = int_eq b.low b.high && int_eq (int_div a.low b.low) (int_div a.high b.low)

-- the remainders of the numbers of a by those of b: none where b has only 0; exact where there is one quotient
unfoldable pub span_rem : Span → Span → Option Span
span_rem a b =
    cond (is_point (pos 0) b) None
    (Some (cond (is_one_quotient a b) (record { low = int_rem a.low b.low; high = int_rem a.high b.low }) (wide_rem a b)))
