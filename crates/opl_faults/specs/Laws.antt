-- Laws of the faults of grounding.
use Rattle.std.specs.Prelude.{◌≡◌, ◌≢◌, ℕ, ℤ, List, map, Option, Err}
use Rattle.opl_tree.specs.declared.instruction.InstrTree.{InstrTree}
use Rattle.opl_eval.specs.declared.fault.EvalFault.TheVariants.{OutOfMemory}
use Rattle.opl_eval.specs.Evaluation.{Environment}
use Rattle.opl_meaning.specs.declared.variable.VariableItem.{VariableItem}
use Rattle.opl_meaning.specs.Runs.{Names}
use Rattle.opl_draft.specs.Drafts.{Cells}
use Rattle.opl_draft.specs.Instances.{condition_of, instances}
use Rattle.opl_form.specs.Forms.{forms}
use Rattle.opl_form.specs.Nodes.Fault.{eval}
use Rattle.opl_optimum.specs.Goals.{goal_by}
use Rattle.opl_optimum.specs.Optima.{Objective}

-- Want of memory is no fault of the constraints of a model's conditions.
abbrev pub FormsNeverMemory : Type 0
FormsNeverMemory = (sets : List (ℤ × ℤ)) (arrays : List Cells) (n : ℕ) (items : List VariableItem) (names : Names) (env : Environment) (t : InstrTree) →
    forms sets arrays n (map (condition_of items names env) (instances t env)) ≢ Err (eval OutOfMemory)

-- Want of memory is no fault of an objective.
abbrev pub GoalsNeverMemory : Type 0
GoalsNeverMemory = (env : Environment) (items : List VariableItem) (names : Names) (g : Option Objective) → goal_by env items names g ≢ Err (eval OutOfMemory)
