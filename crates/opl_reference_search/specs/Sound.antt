-- What sound tasks keep.
use Rattle.std.specs.Prelude.{List, [], ◌∷◌, ℤ}
use Rattle.opl_expr.specs.declared.model.Core.{Core}
use Rattle.opl_trace.specs.Questions.{IsOpenFact}
use Rattle.opl_trace.specs.SoundCores.{AreThere, ArePairs, IsSoundStatement}
use Rattle.opl_trace.specs.SoundCores.{AreSound}
use Rattle.opl_choices.specs.Branches.{AreSoundElements}
use Rattle.opl_steps.specs.Tasks.{Task}
use Rattle.opl_steps.specs.Tasks.Task.{act, values, orders, elements, turns}
use Rattle.opl_steps.specs.Steps.{Way}

module _ (sets : List (ℤ × ℤ)) where
  abbrev pub IsSoundTask : Task → Type 0
  IsSoundTask (act s) = IsSoundStatement sets s
  IsSoundTask (values xs) = AreThere sets xs
  IsSoundTask (orders ps) = ArePairs sets ps
  IsSoundTask (elements es) = AreSoundElements sets es
  IsSoundTask (turns m c s) = IsOpenFact sets c × IsSoundStatement sets s

  abbrev pub AreSoundTasks : List Task → Type 0
  AreSoundTasks [] = Unit {0}
  AreSoundTasks (t ∷ ts) = IsSoundTask t × AreSoundTasks ts

-- constraints and tasks are sound
pub record IsSoundWay (core : Core) (w : Way) : Type 0 where
  pub posted : AreSound core w.posted
  pub tasks : AreSoundTasks core.sets w.tasks

abbrev pub AreSoundWays : Core → List Way → Type 0
AreSoundWays core [] = Unit {0}
AreSoundWays core (w ∷ ws) = IsSoundWay core w × AreSoundWays core ws
