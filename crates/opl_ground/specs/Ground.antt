-- What grounding a model comes to, where its data are bound: its core, or the first fault. The faults of declarations come first, declaration after declaration; then
-- those of the objective; then those of the conditions that the items give, one after another, each condition's where its form is made.
use Rattle.std.specs.Prelude.{◌≡◌, List, [], map, Option, Result, Ok, Err}
use Rattle.std.specs.List.{All}
use Rattle.opl_tree.specs.declared.model.ModelTree.{ModelTree}
use Rattle.opl_eval.specs.ArrayKeys.{IsKeyed}
use Rattle.opl_eval.specs.Evaluation.{Environment}
use Rattle.opl_bind.specs.Laws.{AreFilled}
use Rattle.opl_meaning.specs.declared.fault.MeaningFault.{MeaningFault}
use Rattle.opl_meaning.specs.declared.variable.VariableItem.{VariableItem}
use Rattle.opl_meaning.specs.Faults as meaning
use Rattle.opl_meaning.specs.Runs.{names_of, no_names}
use Rattle.opl_meaning.specs.Variables.{variables_in}
use Rattle.opl_draft.specs.Instances.{Condition, condition_of, instances}
use Rattle.opl_draft.specs.Laws.{arrays}
use Rattle.opl_expr.specs.declared.forms.Cons.{Cons}
use Rattle.opl_expr.specs.declared.model.Core.{Core}
use Rattle.opl_expr.specs.declared.model.Goal.{Goal}
use Rattle.opl_form.specs.Forms.{forms}
use Rattle.opl_form.specs.Laws.{declared_ends}
use Rattle.opl_form.specs.Nodes.{Fault, Made, next}
use Rattle.opl_optimum.specs.Goals.{goal_by, goal_nodes}
use Rattle.opl_optimum.specs.Optima.{objective_of}
use Rattle.opl_show.specs.Texts.{Enumerations}
use Rattle.opl_trace.specs.SoundCores.{IsSoundCore}
use Rattle.opl_ground.specs.Declared.{core_of}
use Rattle.opl_ground.specs.Names.{variable_names}

-- Why a model has no core.
pub data GroundFault : Type 0 where
  of_variables : MeaningFault → GroundFault
  of_forms : Fault → GroundFault

abbrev pub Grounded : Type 0 → Type 0
Grounded A = Result A GroundFault

-- What comes of the variables of a model, or their fault; of its objective and of the constraints of its conditions, or theirs.
abbrev pub with_variables : {A : Type 0} → meaning.Made (List VariableItem) → (List VariableItem → Grounded A) → Grounded A
with_variables (Ok items) next = next items
with_variables (Err fault) next = Err (of_variables fault)

abbrev pub with_forms : {A B : Type 0} → Made B → (B → Grounded A) → Grounded A
with_forms (Ok made) next = next made
with_forms (Err fault) next = Err (of_forms fault)

-- The objective of a model over its variables, if it has one.
abbrev pub goal_of : ModelTree → Environment → List VariableItem → Made (Option Goal)
goal_of t env items = goal_by env items (names_of no_names t.decls) (objective_of t.instr)

-- The conditions that the items of a model give, unrolled.
abbrev pub conditions_of : ModelTree → Environment → List VariableItem → List Condition
conditions_of t env items = map (condition_of items (names_of no_names t.decls) env) (instances t.instr env)

-- The constraints of a model over its variables, made behind this objective.
abbrev pub constraints_of : ModelTree → Environment → List VariableItem → Option Goal → Made (List Cons)
constraints_of t env items goal = forms (declared_ends items) (arrays env items) (goal_nodes goal) (conditions_of t env items)

-- The objective of a model and its constraints, or the first fault of them.
abbrev pub forms_of : ModelTree → Environment → List VariableItem → Made (Option Goal × List Cons)
forms_of t env items = next (goal_of t env items) (λ goal. next (constraints_of t env items goal) (λ cs. Ok (goal, cs)))

-- The core of a model whose declared names have these values.
abbrev pub grounded : Enumerations → ModelTree → Environment → Grounded Core
grounded enumerations t env =
    with_variables (variables_in env [] t.decls) (λ items. with_forms (forms_of t env items) (λ made. Ok (core_of (variable_names enumerations items) env items made.0 made.1)))

-- The core of a model is sound, where places can be found in the index spaces of its data and each of their arrays has one cell for each key.
abbrev pub GroundedIsSound : Type 0
GroundedIsSound = (enumerations : Enumerations) (t : ModelTree) (env : Environment) (core : Core) → All (λ i. IsKeyed i.value) env.items → AreFilled env.items →
    grounded enumerations t env ≡ Ok core → IsSoundCore core
