-- Notes at places, and what they tell of a family: that it refutes the constraint of each place where something is noted.
use Rattle.std.specs.Prelude.{◌≡◌, ℕ, ◌<◌, Bool, true, List, length, nat_lt, slice_index}
use Rattle.opl_domain.specs.Family.{Family}
use Rattle.opl_expr.specs.Forms.{Fact}
use Rattle.opl_filter.specs.Filtering.{refutes}
use Rattle.opl_trail.specs.Levels.{Levels}

-- something is noted at place p
abbrev pub is_noted : List ℕ → ℕ → Bool
is_noted words p = nat_lt 0 (slice_index words p)

-- the family refutes the constraint of each place at which something is noted
abbrev pub AreRight : (ℕ → Fact) → List ℕ → Family → Type 0
AreRight facts words F = (p : ℕ) → p < length words → is_noted words p ≡ true → refutes (facts p) F ≡ true

-- Whoever reads notes takes some of their places to stand for some constraints: `means facts n` says that place p may stand for `facts p`, if there are n places.

-- the notes are right of a family, as their reader takes them
pub record Knows (means : (ℕ → Fact) → ℕ → Type 0) (words : List ℕ) (F : Family) : Type 0 where
  pub facts : ℕ → Fact
  pub meant : means facts (length words)
  pub right : AreRight facts words F

-- from a family F to G, notes stay right for all readers who agree with this one; there are as many places as before, and what was
-- noted at the openings of the open levels is as it was
pub record Tells (means : (ℕ → Fact) → ℕ → Type 0) (old : Levels) (F : Family) (new : Levels) (G : Family) : Type 0 where
  pub places : length new.top ≡ length old.top
  pub below : new.below ≡ old.below
  pub right : (facts : ℕ → Fact) → means facts (length old.top) → AreRight facts old.top F → AreRight facts new.top G
