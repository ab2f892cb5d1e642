use Rattle.std.proofs.Common.{◌≡◌, ◌≤◌, map, length, drop, true}
use Rattle.opl_expr.specs.Forms.{term, fact, terms_of, facts_of}
use Rattle.opl_sound.specs.Measures.{measure_sum, measure_all, measure_pairs, fit_subscripts, all_fit}
use Rattle.opl_sound.proofs.measures.+measures.Given as goal

abbrev pub invariant-sum-loop-left : goal.invariant-sum-loop-left
invariant-sum-loop-left l = (l.left ≤ length l.parts) × (l.found ≡ measure_sum l.core.sets l.asks (terms_of (map (term l.core.tables l.core.resources) (drop l.left l.parts))))

abbrev pub decreases-sum-loop-left : goal.decreases-sum-loop-left
decreases-sum-loop-left l = l.left

abbrev pub invariant-greatest-loop-left : goal.invariant-greatest-loop-left
invariant-greatest-loop-left l = (l.left ≤ length l.parts) × (l.found ≡ measure_all l.core.sets l.asks (terms_of (map (term l.core.tables l.core.resources) (drop l.left l.parts))))

abbrev pub decreases-greatest-loop-left : goal.decreases-greatest-loop-left
decreases-greatest-loop-left l = l.left

abbrev pub invariant-fit_subscripts-loop-left : goal.invariant-fit_subscripts-loop-left
invariant-fit_subscripts-loop-left l = (l.left ≤ length l.parts) × (length l.dims ≡ length l.parts) × (fit_subscripts l.core.sets l.asks (drop l.left l.dims) (terms_of (map (term l.core.tables l.core.resources) (drop l.left l.parts))) ≡ true)

abbrev pub decreases-fit_subscripts-loop-left : goal.decreases-fit_subscripts-loop-left
decreases-fit_subscripts-loop-left l = l.left

abbrev pub invariant-pairs-loop-left : goal.invariant-pairs-loop-left
invariant-pairs-loop-left l = (l.left ≤ length l.parts) × (l.found ≡ measure_pairs l.core.sets l.asks (terms_of (map (term l.core.tables l.core.resources) (drop l.left l.parts))))

abbrev pub decreases-pairs-loop-left : goal.decreases-pairs-loop-left
decreases-pairs-loop-left l = l.left

abbrev pub invariant-all_fit-loop-left : goal.invariant-all_fit-loop-left
invariant-all_fit-loop-left l = (l.left ≤ length l.parts) × (all_fit l.core.sets l.asks (facts_of (map (fact l.core.tables l.core.resources) (drop l.left l.parts))) ≡ true)

abbrev pub decreases-all_fit-loop-left : goal.decreases-all_fit-loop-left
decreases-all_fit-loop-left l = l.left
