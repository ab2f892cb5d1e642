use Rattle.std.proofs.Common.{◌≡◌, ◌∷◌, map, take}
use Rattle.opl_trace.specs.SoundCores.{facts_in}
use Rattle.opl_steps.specs.Tasks.Task.{values}
use Rattle.opl_steps.specs.Steps.{on_value}
use Rattle.opl_reference_search.specs.Tasks.{tasks_in}
use Rattle.opl_reference_search.specs.Steps.{ways_in}
use Rattle.opl_reference_search.proofs.step.each_value.Given as goal

abbrev pub invariant-loop-v : goal.invariant-loop-v
invariant-loop-v l = ways_in l.core l.ways ≡ map (λ v. on_value l.x v (facts_in l.core l.posted) (values l.variables ∷ tasks_in l.core l.others)) (take l.v-index l.choices)
