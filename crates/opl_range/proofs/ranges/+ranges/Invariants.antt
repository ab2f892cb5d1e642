use Rattle.std.proofs.Common.{◌≡◌, ◌+◌, ◌<◌, ◌≤◌, map, length, drop, take}
use Rattle.opl_domain.specs.Arithmetic.{span_min}
use Rattle.opl_expr.specs.declared.forms.Op.TheVariants.{Ne}
use Rattle.opl_expr.specs.Options.{lift_onto}
use Rattle.opl_expr.specs.Forms.{Term, Fact, term, fact, terms_of, facts_of, compared}
use Rattle.opl_expr.specs.Range.{taken, masks, may_be, linears, rest, fact_range}
use Rattle.opl_range.proofs.Tables.{IsReached}
use Rattle.opl_range.proofs.TableRows.{rows_from}
use Rattle.opl_range.specs.Between.{linear_of}
use Rattle.opl_range.proofs.ranges.+ranges.Given as goal

abbrev pub invariant-sum-loop-left : goal.invariant-sum-loop-left
invariant-sum-loop-left g l = (l.left ≤ length l.parts) × (l.found ≡ rest (g.V.View.family l.view) (Term.sum (terms_of (map (term l.core.tables l.core.resources) (drop l.left l.parts)))))

abbrev pub decreases-sum-loop-left : goal.decreases-sum-loop-left
decreases-sum-loop-left g l = l.left

abbrev pub invariant-least-loop-left : goal.invariant-least-loop-left
invariant-least-loop-left g l = (l.left < length l.parts) × (l.found ≡ rest (g.V.View.family l.view) (Term.least (terms_of (map (term l.core.tables l.core.resources) (drop l.left l.parts)))))

abbrev pub decreases-least-loop-left : goal.decreases-least-loop-left
decreases-least-loop-left g l = l.left

abbrev pub invariant-greatest-loop-left : goal.invariant-greatest-loop-left
invariant-greatest-loop-left g l = (l.left < length l.parts) × (l.found ≡ rest (g.V.View.family l.view) (Term.greatest (terms_of (map (term l.core.tables l.core.resources) (drop l.left l.parts)))))

abbrev pub decreases-greatest-loop-left : goal.decreases-greatest-loop-left
decreases-greatest-loop-left g l = l.left

abbrev pub invariant-all-loop-left : goal.invariant-all-loop-left
invariant-all-loop-left g l = (l.left ≤ length l.parts) × (l.found ≡ fact_range (g.V.View.family l.view) (Fact.and (facts_of (map (fact l.core.tables l.core.resources) (drop l.left l.parts)))))

abbrev pub decreases-all-loop-left : goal.decreases-all-loop-left
decreases-all-loop-left g l = l.left

abbrev pub invariant-any-loop-left : goal.invariant-any-loop-left
invariant-any-loop-left g l = (l.left ≤ length l.parts) × (l.found ≡ fact_range (g.V.View.family l.view) (Fact.or (facts_of (map (fact l.core.tables l.core.resources) (drop l.left l.parts)))))

abbrev pub decreases-any-loop-left : goal.decreases-any-loop-left
decreases-any-loop-left g l = l.left

abbrev pub invariant-all_differ-loop-left : goal.invariant-all_differ-loop-left
invariant-all_differ-loop-left g l = (l.left ≤ length l.parts) × (l.found ≡ fact_range (g.V.View.family l.view) (Fact.different (terms_of (map (term l.core.tables l.core.resources) (drop l.left l.parts)))))

abbrev pub decreases-all_differ-loop-left : goal.decreases-all_differ-loop-left
decreases-all_differ-loop-left g l = l.left

abbrev pub invariant-all_differ-loop-other : goal.invariant-all_differ-loop-other
invariant-all_differ-loop-other g l = (l.left + 1 ≤ l.other) × (l.other ≤ length l.parts) × (l.found ≡ lift_onto span_min (map (λ e. fact_range (g.V.View.family l.view) (compared Ne (term l.core.tables l.core.resources l.first) (term l.core.tables l.core.resources e))) (drop l.other l.parts)) l.initial.found)

abbrev pub decreases-all_differ-loop-other : goal.decreases-all_differ-loop-other
decreases-all_differ-loop-other g l = l.other

abbrev pub invariant-cells-loop-left : goal.invariant-cells-loop-left
invariant-cells-loop-left g l =
    (l.left ≤ l.count) × (l.found ≡ rows_from (g.V.View.family l.view) (map (may_be (g.V.View.family l.view) (linear_of (g.V.View.family l.view) (term l.core.tables l.core.resources l.part))) l.dim)
    (taken (masks (may_be (g.V.View.family l.view)) (take l.last l.dims) (linears (g.V.View.family l.view) (terms_of (map (term l.core.tables l.core.resources) l.parts))))) l.cells (length l.dim) l.left)

abbrev pub decreases-cells-loop-left : goal.decreases-cells-loop-left
decreases-cells-loop-left g l = l.left

abbrev pub invariant-is_reached-loop-at : goal.invariant-is_reached-loop-at
invariant-is_reached-loop-at g l = IsReached (g.V.View.family l.view) (term l.core.tables l.core.resources) (take l.outer l.dims) l.parts l.row l.at l.size l.place
