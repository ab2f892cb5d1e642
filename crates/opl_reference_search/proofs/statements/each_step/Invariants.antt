use Rattle.std.proofs.Common.{◌≡◌, ◌∷◌, map, take}
use Rattle.opl_trace.specs.SoundCores.{facts_in}
use Rattle.opl_steps.specs.Tasks.Task.{act}
use Rattle.opl_steps.specs.Steps.{on}
use Rattle.opl_choices.specs.Branches.{statement_in}
use Rattle.opl_reference_search.specs.Tasks.{tasks_in}
use Rattle.opl_reference_search.specs.Steps.{ways_in}
use Rattle.opl_reference_search.proofs.statements.each_step.Given as goal

abbrev pub invariant-loop-step : goal.invariant-loop-step
invariant-loop-step l = ways_in l.core l.ways ≡ map (λ s. on (facts_in l.core l.posted) (act (statement_in l.core s) ∷ tasks_in l.core l.others)) (take l.step-index l.steps)
