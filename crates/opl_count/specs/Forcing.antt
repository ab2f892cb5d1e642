-- What is known once a literal was forced, and once all were.
use Rattle.std.specs.Prelude.{◌≡◌, ℕ, ◌<◌, Bool, true, false, slice_get, Some}
use Rattle.opl_domain.specs.Family.{Family}
use Rattle.opl_expr.specs.declared.model.Core.{Core}
use Rattle.opl_trace.specs.Stable.{IsStable, HasFailed}
use Rattle.opl_filter.specs.Filtering.{IsLeftOf}
use Rattle.opl_filter.specs.Rounds.{NoneDead}
use Rattle.opl_count.specs.declared.sum.Literal.{Literal}
use Rattle.opl_count.specs.declared.sum.Costs.{Costs}
use Rattle.opl_count.specs.declared.sum.Tie.{Tie}
use Rattle.opl_count.specs.declared.sum.Sum.{Sum}
use Rattle.opl_count.specs.Costs.{is_over}
use Rattle.opl_count.specs.Sums.{IsOpenAt}

-- values have gone, each of them dead at that moment, and the family is stable if none has; or none within is
abbrev pub Settles : (Family → Bool) → Family → Family → Bool → Type 0
Settles dead D F false = IsLeftOf dead D F × HasFailed dead D
Settles dead D F true = IsLeftOf dead D F × (F ≡ D → IsStable dead D)

-- no value of a variable of the literal at a place is dead
abbrev pub NoneDeadAt : Core → Costs → Family → ℕ → Type 0
NoneDeadAt core c F i = (l : Literal) → slice_get c.literals i ≡ Some l → NoneDead (is_over core c) l.part.variables F

-- values have gone, each of them dead at that moment, and if none has, no value of a variable of that literal is dead; or no
-- family within is stable
abbrev pub SettlesAt : Core → Costs → Family → Family → ℕ → Bool → Type 0
SettlesAt core c D F i false = IsLeftOf (is_over core c) D F × HasFailed (is_over core c) D
SettlesAt core c D F i true = IsLeftOf (is_over core c) D F × (F ≡ D → is_over core c D ≡ false → NoneDeadAt core c D i)

-- where a literal is open and its tie reaches further than the room that is left, none of its values is dead
abbrev pub IsForcedAt : Core → Sum → ℕ → Family → ℕ → Type 0
IsForcedAt core s slack F i = (t : Tie) → slice_get s.ties i ≡ Some t → slack < t.reach → IsOpenAt core F s.costs.literals i → NoneDeadAt core s.costs F i

abbrev pub Forces : Core → Sum → Family → Family → ℕ → ℕ → Bool → Type 0
Forces core s D F i slack false = IsLeftOf (is_over core s.costs) D F × HasFailed (is_over core s.costs) D
Forces core s D F i slack true = IsLeftOf (is_over core s.costs) D F × (F ≡ D → is_over core s.costs D ≡ false → IsForcedAt core s slack D i)
