-- Laws of cores over what a model declares.
use Rattle.std.specs.Prelude.{◌≡◌, ℕ, List, Option, Ok}
use Rattle.opl_eval.specs.Evaluation.{Environment}
use Rattle.opl_meaning.specs.declared.variable.VariableItem.{VariableItem}
use Rattle.opl_meaning.specs.Runs.{Names}
use Rattle.opl_draft.specs.Instances.{Condition}
use Rattle.opl_draft.specs.Laws.{arrays}
use Rattle.opl_expr.specs.declared.forms.Cons.{Cons}
use Rattle.opl_expr.specs.declared.model.Goal.{Goal}
use Rattle.opl_form.specs.Forms.{forms}
use Rattle.opl_form.specs.Laws.{AreSoundArrays, declared_ends}
use Rattle.opl_optimum.specs.Goals.{goal_by, goal_nodes}
use Rattle.opl_optimum.specs.Optima.{Objective}
use Rattle.opl_trace.specs.SoundCores.{IsSoundCore}
use Rattle.opl_ground.specs.Declared.{core_of}
use Rattle.opl_ground.specs.Variables.{AreWithinLimits}

-- The core of an objective and of the constraints of conditions is sound, where declared sets are within the limits and arrays are sound.
abbrev pub CoresAreSound : Type 0
CoresAreSound = (names : List (List ℕ)) (env : Environment) (items : List VariableItem) (declared : Names) (objective : Option Objective) (goal : Option Goal) (conditions : List Condition) (cs : List Cons) →
    AreWithinLimits (declared_ends items) → AreSoundArrays (declared_ends items) (arrays env items) → goal_by env items declared objective ≡ Ok goal →
    forms (declared_ends items) (arrays env items) (goal_nodes goal) conditions ≡ Ok cs → IsSoundCore (core_of names env items goal cs)
