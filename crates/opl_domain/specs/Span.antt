-- Intervals of whole numbers.
use Rattle.std.specs.Prelude.{ℕ, zero, suc, max, Bool, false, cond, List, [], ◌∷◌, ℤ, pos, negsuc, ◌+ℤ◌, neg_ℤ, ◌≤ℤ◌, int_le, unsigned_abs, Option, Some, None}
use Rattle.std.specs.Ordering.{int_eq}

-- an interval: the numbers from its low end to its high end
pub record Span : Type 0 where
  pub low : ℤ
  pub high : ℤ

-- the number v lies in the interval a
pub record IsWithin (v : ℤ) (a : Span) : Type 0 where
  pub least : a.low ≤ℤ v
  pub most : v ≤ℤ a.high

-- both ends of an interval that may be missing lie in another; a missing one lies in everything
abbrev pub IsInside : Option Span → Option Span → Type 0
IsInside None b = Unit {0}
IsInside (Some a) None = ⊥
IsInside (Some a) (Some b) = IsWithin a.low b × IsWithin a.high b

-- the lesser of two numbers
unfoldable pub smaller : ℤ → ℤ → ℤ
smaller x y = cond (int_le x y) x y

-- the greater of two numbers
unfoldable pub larger : ℤ → ℤ → ℤ
larger x y = cond (int_le x y) y x

-- the greatest absolute value of a number of the interval
abbrev pub magnitude : Span → ℕ
magnitude a = max (unsigned_abs a.low) (unsigned_abs a.high)

-- the interval of one number
abbrev pub point : ℤ → Span
point v = record { low = v; high = v }

-- the interval has the number k alone
abbrev pub is_point : ℤ → Span → Bool
is_point k a = cond (int_eq a.low k) (int_eq a.high k) false

-- the least and the greatest of a number v and of others
abbrev pub least_of : ℤ → List ℤ → ℤ
least_of v [] = v
least_of v (w ∷ others) = smaller v (least_of w others)

abbrev pub greatest_of : ℤ → List ℤ → ℤ
greatest_of v [] = v
greatest_of v (w ∷ others) = larger v (greatest_of w others)

-- the hull of a list of numbers: from the least to the greatest; of no numbers, by custom, the interval of 0
unfoldable pub hull_of : List ℤ → Span
hull_of [] = point (pos 0)
hull_of (v ∷ others) = record { low = least_of v others; high = greatest_of v others }

-- the same, and none where there are no numbers
abbrev pub hull_some : List ℤ → Option Span
hull_some [] = None
hull_some (v ∷ others) = Some (hull_of (v ∷ others))

-- n numbers, rising from v
abbrev pub ints_from : ℤ → ℕ → List ℤ
ints_from v zero = []
ints_from v (suc n) = v ∷ ints_from (v +ℤ pos 1) n

-- a number as a count; a negative one counts 0
abbrev pub count_from : ℤ → ℕ
count_from (pos n) = n
count_from (negsuc n) = 0

-- how many numbers the interval has
abbrev pub span_size : Span → ℕ
span_size a = count_from (a.high +ℤ pos 1 +ℤ neg_ℤ a.low)

-- the numbers of the interval, rising
unfoldable pub values : Span → List ℤ
values a = ints_from a.low (span_size a)
