-- Constraints of which a family refutes what the ends of its sets tell, whatever lies between.
use Rattle.std.specs.Prelude.{◌≡◌, ℕ, ◌<◌, Bool, true, false, not, length}
use Rattle.opl_domain.specs.Family.{Family, Full, hull}
use Rattle.opl_expr.specs.declared.model.Core.{Core}
use Rattle.opl_expr.specs.Forms.{Fact}
use Rattle.opl_filter.specs.Filtering.{refutes}
use Rattle.opl_linear.specs.declared.kind.Kind.{Kind}
use Rattle.opl_linear.specs.declared.kind.Kind.TheVariants as kind
use Rattle.opl_linear_filter.specs.declared.linear_filter.LinearFilter.{LinearFilter}
use Rattle.opl_linear_filter.specs.LinearForms.{IsFilterOf}
use Rattle.opl_linear_filter.specs.Parts.{is_short}

-- two families of n sets with the same ends refute the constraint alike
abbrev pub SeesEnds : ℕ → Fact → Type 0
SeesEnds n c = (F G : Family) → Full F → Full G → length F ≡ n → length G ≡ n → ((x : ℕ) → x < n → hull F x ≡ hull G x) → refutes c F ≡ refutes c G

-- whether a form that is to be so, and is short or not, is decided by values
abbrev pub by_values : Kind → Bool → Bool
by_values kind.AtMost short = false
by_values kind.Below short = false
by_values kind.Zero short = short
by_values kind.Different short = false

-- whether the ends of the sets alone decide what a filter removes
abbrev pub sees_ends : LinearFilter → Bool
sees_ends f = not (by_values f.kind (is_short f.parts))

-- where they do, the constraint of the filter is refuted by ends
abbrev pub EndsDecide : Type 0
EndsDecide = (core : Core) (c : Fact) (f : LinearFilter) → IsFilterOf core c f → sees_ends f ≡ true → SeesEnds (length core.sets) c
