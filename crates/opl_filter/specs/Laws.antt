-- What is proved of removals, whatever removes.
use Rattle.std.specs.Prelude.{◌≡◌, ℕ, ◌<◌, Bool, true, false, length, ℤ}
use Rattle.opl_domain.specs.Family.{Family, IsFamily, is_outside, has, only, cut_of, Below, Full}
use Rattle.opl_expr.specs.Forms.{Fact}
use Rattle.opl_expr.specs.Range.{fact_range}
use Rattle.opl_trace.specs.Stable.{IsMonotone, IsStableWithin}
use Rattle.opl_filter.specs.Mentions.{mentions}
use Rattle.opl_filter.specs.Fresh.{AgreeOn}
use Rattle.opl_filter.specs.Filtering.{IsLeftOf}

-- no value of a stable family goes
abbrev pub RemovalsLoseNone : Type 0
RemovalsLoseNone = (dead : Family → Bool) (D F G : Family) → IsMonotone dead → IsLeftOf dead D F → IsStableWithin dead D G → Below G F

-- removals go on where others have stopped
abbrev pub RemovalsJoin : Type 0
RemovalsJoin = (dead : Family → Bool) (D F G : Family) → IsLeftOf dead D F → IsLeftOf dead F G → IsLeftOf dead D G

-- what may go by a test may go by each test that finds more families dead, as for one constraint and for a list that has it
abbrev pub RemovalsWiden : Type 0
RemovalsWiden = (dead other : Family → Bool) (D F : Family) → ((G : Family) → dead G ≡ true → other G ≡ true) → IsLeftOf dead D F → IsLeftOf other D F

-- every value of x from lo to hi is dead
abbrev pub IsDeadRun : (Family → Bool) → Family → ℕ → ℤ → ℤ → Type 0
IsDeadRun dead F x lo hi = (v : ℤ) → has F x v ≡ true → is_outside lo hi v ≡ false → dead (only F x v) ≡ true

-- to cut a run of dead values at once is to remove them one after another, where another value stays
abbrev pub RunsCanGo : Type 0
RunsCanGo =
    (dead : Family → Bool) (F : Family) (x : ℕ) (lo hi : ℤ) → IsMonotone dead → IsFamily F → x < length F → IsDeadRun dead F x lo hi →
    (w : ℤ) × (has (cut_of F x lo hi) x w ≡ true) → IsLeftOf dead F (cut_of F x lo hi)

-- the range of a constraint is the same over families that agree on the variables that it mentions
abbrev pub OthersDontMatter : Type 0
OthersDontMatter = (c : Fact) (F G : Family) → AgreeOn (mentions c) F G → fact_range F c ≡ fact_range G c
