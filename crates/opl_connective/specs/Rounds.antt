-- What a round over a node tells.
use Rattle.std.specs.Prelude.{◌≡◌, ℕ, Bool, true, false, List, ℤ}
use Rattle.opl_domain.specs.Family.{Family, has, only}
use Rattle.opl_trace.specs.Stable.{IsStable, HasFailed}
use Rattle.opl_filter.specs.Mentions.{lists}
use Rattle.opl_filter.specs.Filtering.{IsBetween}

-- values may have gone, each of them dead at that moment, and the family is stable if none has; or no family within is stable
abbrev pub Goes : (Family → Bool) → Family → Family → Bool → Type 0
Goes dead D F false = IsBetween dead D F × HasFailed dead D
Goes dead D F true = IsBetween dead D F × (F ≡ D → IsStable dead D)

-- no value is dead of a variable that is not listed
abbrev pub SparesOthers : (Family → Bool) → List ℕ → Family → Type 0
SparesOthers dead variables F = (x : ℕ) (v : ℤ) → lists variables x ≡ false → has F x v ≡ true → dead (only F x v) ≡ false
