use Rattle.std.proofs.Common.{◌≡◌, take}
use Rattle.opl_reference_search.specs.Tasks.{acts, tasks_in}
use Rattle.opl_reference_search.proofs.task.steps_before.Given as goal

abbrev pub invariant-loop-step : goal.invariant-loop-step
invariant-loop-step l = tasks_in l.core l.first ≡ acts l.core (take l.step-index l.steps)
