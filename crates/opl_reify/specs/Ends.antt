-- Disjunctions of which a family refutes what the ends of its sets tell.
use Rattle.std.specs.Prelude.{◌≡◌, Bool, true, length}
use Rattle.std.specs.List.{list_all}
use Rattle.opl_expr.specs.declared.model.Core.{Core}
use Rattle.opl_expr.specs.Forms.{Fact}
use Rattle.opl_linear_filter.specs.Ends as linear
use Rattle.opl_linear_filter.specs.Ends.{SeesEnds}
use Rattle.opl_reify.specs.declared.part.Part.{Part}
use Rattle.opl_reify.specs.declared.reify_filter.ReifyFilter.{ReifyFilter}
use Rattle.opl_reify.specs.Disjunctions.{IsDisjunctionFor}

-- whether the ends of the sets alone decide a part
abbrev pub part_sees_ends : Part → Bool
part_sees_ends p = linear.sees_ends p.filter

-- whether they decide each part
abbrev pub sees_ends : ReifyFilter → Bool
sees_ends f = list_all part_sees_ends f.parts

-- where they do, the constraint of the filter is refuted by ends
abbrev pub EndsDecide : Type 0
EndsDecide = (core : Core) (c : Fact) (f : ReifyFilter) → IsDisjunctionFor core c f → sees_ends f ≡ true → SeesEnds (length core.sets) c
