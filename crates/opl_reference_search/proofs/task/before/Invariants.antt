use Rattle.std.proofs.Common.{◌≡◌, ◌++◌, take}
use Rattle.opl_reference_search.proofs.task.before.Given as goal

abbrev pub invariant-loop-task : goal.invariant-loop-task
invariant-loop-task l = l.tasks ≡ l.fn.first ++ take l.task-index l.others
