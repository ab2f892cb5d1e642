-- What a whole search makes.
use Rattle.std.proofs.Common.{◌≡◌, ℕ, zero, ◌+◌, ◌≤◌, Bool, true, false, List, length, ap, sym, arith}
use Rattle.std.specs.Prelude.{Option, Some, None}
use Rattle.std.proofs.lemmas.List.{length-map}
use Rattle.opl_expr.specs.declared.model.Core.{Core}
use Rattle.opl_expr.specs.Solutions.{base, declared}
use Rattle.opl_trace.specs.Between.{values_between}
use Rattle.opl_trace.specs.Marks.{objective, section, numbers_from, trace}
use Rattle.opl_trace.specs.Run.{label, perform, whole_leaf}
use Rattle.opl_trace.specs.Statements.{Statement}
use Rattle.opl_trace.specs.Moments.{core_sets}
use Rattle.opl_trace.specs.SoundCores.{IsSoundCore, IsSoundSection, AreThere}
use Rattle.opl_steps.specs.Tasks as steps
use Rattle.opl_reference_labelling.proofs.Labels.{numbers_there}
use Rattle.opl_reference_search.specs.declared.task.End.TheVariants.{Whole}
use Rattle.opl_reference_search.specs.Tasks.{doing}
use Rattle.opl_reference_search.specs.Whole.{whole}
use Rattle.opl_reference_search.specs.Sound.{AreSoundTasks}

pub whole_is : (core : Core) (o : Option Statement) (n : ℕ) → doing core Whole (whole o (numbers_from zero (length core.sets))) (base core) None n ≡ trace (objective core) (declared core) o (base core) n
unfolding steps.doing trace declared
whole_is core None n =
    ap (λ m. label (objective core) (core_sets core) (numbers_from zero m) (whole_leaf (objective core) (core_sets core)) (base core) None n) (sym (length-map core.sets (λ p. values_between p)))
whole_is core (Some s) n =
    ap (λ m. perform (objective core) (core_sets core) s (label (objective core) (core_sets core) (numbers_from zero m) (whole_leaf (objective core) (core_sets core))) (base core) None n)
    (sym (length-map core.sets (λ p. values_between p)))

section_sound : (core : Core) (default : Bool) → IsSoundCore core → IsSoundSection core.sets (section default core)
section_sound core true s = tt
section_sound core false s = s.search

tasks_sound : (core : Core) (o : Option Statement) (xs : List ℕ) → IsSoundSection core.sets o → AreThere core.sets xs → AreSoundTasks core.sets (whole o xs)
tasks_sound core None xs s t = (t, tt)
tasks_sound core (Some r) xs s t = (s, (t, tt))

pub whole_sound : (core : Core) (default : Bool) → IsSoundCore core → AreSoundTasks core.sets (whole (section default core) (numbers_from zero (length core.sets)))
whole_sound core default s =
    let all : zero + length core.sets ≤ length core.sets = omega arith in
    tasks_sound core (section default core) (numbers_from zero (length core.sets)) (section_sound core default s) (numbers_there core.sets zero (length core.sets) all)
