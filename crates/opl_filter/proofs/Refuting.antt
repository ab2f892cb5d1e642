-- A family below one that refutes a constraint refutes it too.
use Rattle.std.proofs.Common.{◌≡◌, Bool, true, false, ◌||◌, refl, [], ◌∷◌}
use Rattle.std.specs.Prelude.{None}
use Rattle.opl_expr.specs.Forms.{Fact}
use Rattle.opl_expr.specs.Range.{is_refuted}
use Rattle.opl_trace.specs.Stable.{IsMonotone}
use Rattle.opl_trace.specs.Run.{is_dead}
use Rattle.opl_trace.proofs.Passing.{or_left}
use Rattle.opl_trace.proofs.Constraints.{dead_monotone}
use Rattle.opl_filter.specs.Filtering.{refutes}

one_of_one : (b : Bool) → (b || false) ≡ true → b ≡ true
one_of_one true h = refl
one_of_one false h = h

pub refutes_falls : (c : Fact) → IsMonotone (refutes c)
unfolding is_dead
refutes_falls c = record {
  falls = λ F G f b h. one_of_one (is_refuted F c) ((dead_monotone None (c ∷ []) None).falls F G f b (or_left (is_refuted G c) false h));
}
