use Rattle.std.proofs.Common.{◌≡◌, ◌+◌, ◌<◌, ◌≤◌, map, length, drop}
use Rattle.std.proofs.Common.{◌&&◌}
use Rattle.opl_expr.specs.declared.forms.Op.TheVariants.{Ne}
use Rattle.opl_expr.specs.Options.{lift, lift_onto}
use Rattle.opl_expr.specs.Forms.{Term, Fact, term, fact, terms_of, facts_of}
use Rattle.opl_expr.specs.Holds.{value, holds, op_relates}
use Rattle.opl_expr.proofs.Cells.{IsBlock}
use Rattle.opl_expr.proofs.eval.+values.Given as goal

abbrev pub invariant-all_hold-loop-left : goal.invariant-all_hold-loop-left
invariant-all_hold-loop-left l = (l.left ≤ length l.parts) × (l.found ≡ holds l.values (Fact.and (facts_of (map (fact l.core.tables l.core.resources) (drop l.left l.parts)))))

abbrev pub decreases-all_hold-loop-left : goal.decreases-all_hold-loop-left
decreases-all_hold-loop-left l = l.left

abbrev pub invariant-some_hold-loop-left : goal.invariant-some_hold-loop-left
invariant-some_hold-loop-left l = (l.left ≤ length l.parts) × (l.found ≡ holds l.values (Fact.or (facts_of (map (fact l.core.tables l.core.resources) (drop l.left l.parts)))))

abbrev pub decreases-some_hold-loop-left : goal.decreases-some_hold-loop-left
decreases-some_hold-loop-left l = l.left

abbrev pub invariant-greatest-loop-left : goal.invariant-greatest-loop-left
invariant-greatest-loop-left l = (l.left < length l.parts) × (l.found ≡ value l.values (Term.greatest (terms_of (map (term l.core.tables l.core.resources) (drop l.left l.parts)))))

abbrev pub decreases-greatest-loop-left : goal.decreases-greatest-loop-left
decreases-greatest-loop-left l = l.left

abbrev pub invariant-least-loop-left : goal.invariant-least-loop-left
invariant-least-loop-left l = (l.left < length l.parts) × (l.found ≡ value l.values (Term.least (terms_of (map (term l.core.tables l.core.resources) (drop l.left l.parts)))))

abbrev pub decreases-least-loop-left : goal.decreases-least-loop-left
decreases-least-loop-left l = l.left

abbrev pub invariant-sum-loop-left : goal.invariant-sum-loop-left
invariant-sum-loop-left l = (l.left ≤ length l.parts) × (l.found ≡ value l.values (Term.sum (terms_of (map (term l.core.tables l.core.resources) (drop l.left l.parts)))))

abbrev pub decreases-sum-loop-left : goal.decreases-sum-loop-left
decreases-sum-loop-left l = l.left

abbrev pub invariant-all_differ-loop-other : goal.invariant-all_differ-loop-other
invariant-all_differ-loop-other l =
    (l.left + 1 ≤ l.other) × (l.other ≤ length l.parts)
    × (l.found ≡ lift_onto (λ b c. b && c) (map (λ e. lift (op_relates Ne) l.first (value l.values (term l.core.tables l.core.resources e))) (drop l.other l.parts)) l.initial.found)

abbrev pub decreases-all_differ-loop-other : goal.decreases-all_differ-loop-other
decreases-all_differ-loop-other l = l.other

abbrev pub invariant-all_differ-loop-left : goal.invariant-all_differ-loop-left
invariant-all_differ-loop-left l =
    (l.left ≤ length l.parts) × (l.found ≡ holds l.values (Fact.different (terms_of (map (term l.core.tables l.core.resources) (drop l.left l.parts)))))

abbrev pub decreases-all_differ-loop-left : goal.decreases-all_differ-loop-left
decreases-all_differ-loop-left l = l.left

abbrev pub invariant-cell_at-loop-at : goal.invariant-cell_at-loop-at
invariant-cell_at-loop-at l = IsBlock l.values (term l.core.tables l.core.resources) (length l.values) l.dims l.parts l.fn.cells l.left l.at
