-- Two filters that take turns.
use Rattle.std.specs.Prelude.{◌≡◌, ◌<◌, Bool, true, false, ◌||◌, Option, Some, None}
use Rattle.opl_domain.specs.Family.{Family}
use Rattle.opl_trace.specs.Stable.{IsGreatestStable, HasFailed}
use Rattle.opl_trace.specs.Sweeps.{size}

-- one of two tests finds the family dead
abbrev pub either : (Family → Bool) → (Family → Bool) → Family → Bool
either d e F = d F || e F

-- whether values have gone
abbrev pub Changes : Family → Family → Bool → Type 0
Changes D F false = F ≡ D
Changes D F true = size F < size D

-- one filter was run on D: none where no family within is stable, else F is the greatest, and it is told whether values have gone
abbrev pub Narrows : (Family → Bool) → Family → Family → Option Bool → Type 0
Narrows dead D F None = HasFailed dead D
Narrows dead D F (Some changed) = IsGreatestStable dead D F × Changes D F changed
