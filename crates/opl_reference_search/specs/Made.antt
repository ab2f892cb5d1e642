-- What the program made of tasks.
use Rattle.std.specs.Prelude.{ℕ, ◌≤◌, List, [], ◌∷◌}
use Rattle.opl_expr.specs.declared.model.Core.{Core}
use Rattle.opl_trace.specs.Marks.{objective}
use Rattle.opl_trace.specs.Moments.{core_sets}
use Rattle.opl_trace.specs.Run.{Rest, Alternative, Out, committed, first_leaf}
use Rattle.opl_trace.specs.Statements.{Statement}
use Rattle.opl_steps.specs.Tasks.{Task}
use Rattle.opl_steps.specs.Tasks.Task.{act}
use Rattle.opl_steps.specs.Steps.{Way}
use Rattle.opl_steps.specs.Made as steps
use Rattle.opl_reference_labelling.specs.declared.outcome.Outcome.{Outcome}
use Rattle.opl_reference_labelling.specs.Outcomes.{IsMade}
use Rattle.opl_reference_search.specs.declared.task.End.{End}
use Rattle.opl_reference_search.specs.declared.task.End.TheVariants.{Inner}
use Rattle.opl_reference_search.specs.Tasks.{end_in, doing}

-- it is the outcome, and sound, and no choices were added
pub record IsRun (core : Core) (o : Outcome) (p : Out) (n : ℕ) : Type 0 where
  pub made : IsMade core o p
  pub fewer : o.left ≤ n

-- what each way makes, from its own constraints
abbrev pub rests : Core → End → List Way → List Alternative
rests core end ws = steps.rests (objective core) (core_sets core) (end_in end) ws

-- a statement under `once`, and then what follows its first Leaf
abbrev pub once_then : Core → End → Statement → List Task → Rest
once_then core end s ts P b n = let o = doing core Inner (act s ∷ []) P b n in committed (doing core end ts) o b n (first_leaf o.marks)
