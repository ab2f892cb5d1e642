-- The tasks of the program as plain data, and what they make in the search of a core.
use Rattle.std.specs.Prelude.{List, map}
use Rattle.opl_expr.specs.declared.model.Core.{Core}
use Rattle.opl_expr.specs.declared.search.Step.{Step}
use Rattle.opl_expr.specs.Forms.{fact}
use Rattle.opl_trace.specs.Marks.{objective}
use Rattle.opl_trace.specs.Moments.{core_sets}
use Rattle.opl_trace.specs.Run.{Rest}
use Rattle.opl_choices.specs.Branches.{element, statement_in}
use Rattle.opl_steps.specs.Tasks as steps
use Rattle.opl_steps.specs.Tasks.{Task, End}
use Rattle.opl_steps.specs.Tasks.Task.{act, values, orders, elements, turns}
use Rattle.opl_steps.specs.Tasks.End.{whole, inner}
use Rattle.opl_reference_search.specs.declared.task.Task as code
use Rattle.opl_reference_search.specs.declared.task.End as ends

-- the end of the whole, or of a statement under `once`
abbrev pub end_in : ends.End → End
end_in (ends.TheVariants.Whole) = whole
end_in (ends.TheVariants.Inner) = inner

-- what tasks make, by the objective and the sets of a core
abbrev pub doing : Core → ends.End → List Task → Rest
doing core end ts = steps.doing (objective core) (core_sets core) (end_in end) ts

-- a task
abbrev pub task_of : Core → code.Task → Task
task_of core (code.TheVariants.Perform s) = act (statement_in core s.now)
task_of core (code.TheVariants.Label xs) = values xs.now
task_of core (code.TheVariants.Rank ps) = orders ps.now
task_of core (code.TheVariants.Visit es) = elements (map (λ e. element core e.now) es)
task_of core (code.TheVariants.Loop m c s) = turns m (fact core.tables core.resources c.now) (statement_in core s.now)

-- tasks in their order
abbrev pub tasks_in : Core → List code.Task → List Task
tasks_in core ts = map (task_of core) ts

-- statements as tasks
abbrev pub acts : Core → List Step → List Task
acts core steps = map (λ s. act (statement_in core s)) steps
