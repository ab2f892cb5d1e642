-- What is found where a model is searched: its solutions, with an objective those that are better than all before them, all of these where the search has choices
-- enough, and else the first of them.
use Rattle.std.specs.Prelude.{◌≡◌, ℕ, Bool, true, false, List, [], ◌++◌, ℤ, Option, None, Ok}
use Rattle.std.specs.List.{All}
use Rattle.opl_tree.specs.declared.model.ModelTree.{ModelTree}
use Rattle.opl_eval.specs.declared.environment.Environment as code
use Rattle.opl_eval.specs.ArrayKeys.{IsKeyed}
use Rattle.opl_eval.specs.Evaluation.{Environment}
use Rattle.opl_eval.specs.Visible.{seen}
use Rattle.opl_bind.specs.Laws.{AreFilled}
use Rattle.opl_meaning.specs.declared.variable.VariableItem.{VariableItem}
use Rattle.opl_meaning.specs.Runs.{names_of, no_names}
use Rattle.opl_meaning.specs.Variables.{variables_in}
use Rattle.opl_draft.specs.Instances.{instances}
use Rattle.opl_draft.specs.Solutions.{Model}
use Rattle.opl_expr.specs.declared.forms.Cons.{Cons}
use Rattle.opl_expr.specs.declared.model.Goal.{Goal}
use Rattle.opl_expr.specs.Solutions.{declared, is_among}
use Rattle.opl_optimum.specs.Clean.{is_clean_whole}
use Rattle.opl_optimum.specs.Optima.{Problem, improving, objective_of, solutions, value_of}
use Rattle.opl_show.specs.Texts.{Enumerations}
use Rattle.opl_trace.specs.GroundCores.{IsGroundCore}
use Rattle.opl_trace.specs.Marks.{core_trace, objective, solved}
use Rattle.opl_trace.specs.Objective.{best_after}
use Rattle.opl_trace.specs.Solutions as cores
use Rattle.opl_ground.specs.Declared.{core_of}
use Rattle.opl_ground.specs.Ground.{constraints_of, goal_of}
use Rattle.opl_ground.specs.Names.{variable_names}

-- The conditions of a tree, where the declared names have these values and these are the decision variables.
abbrev pub model_of : ModelTree → Environment → List VariableItem → Model
model_of t env items = record { environment = env; variables = items; conditions = instances t.instr env }

-- The problem of a tree: its conditions, and its objective.
abbrev pub problem_of : ModelTree → Environment → List VariableItem → Problem
problem_of t env items = record { model = model_of t env items; objective = objective_of t.instr }

-- A model is accepted with its data: places can be found in the index spaces of the data's arrays, and each of these has one cell for each of its keys; its
-- declarations give these variables, which stand in its objective and its items only where they may, its objective becomes this one, and its items give these constraints.
pub record IsAccepted (t : ModelTree) (env : Environment) (items : List VariableItem) (goal : Option Goal) (cs : List Cons) : Type 0 where
  pub keyed : All (λ i. IsKeyed i.value) env.items
  pub filled : AreFilled env.items
  pub variables : variables_in env [] t.decls ≡ Ok items
  pub clean : is_clean_whole items (names_of no_names t.decls) t.instr ≡ true
  pub objective : goal_of t env items ≡ Ok goal
  pub constraints : constraints_of t env items goal ≡ Ok cs

-- The core of an accepted model is a ground core.
abbrev pub CoreIsGround : Type 0
CoreIsGround = (e : Enumerations) (t : ModelTree) (env : Environment) (items : List VariableItem) (goal : Option Goal) (cs : List Cons) → IsAccepted t env items goal cs →
    IsGroundCore (core_of (variable_names e items) env items goal cs)

-- Its solutions are those of the problem, in the same order.
abbrev pub CoreMeans : Type 0
CoreMeans = (e : Enumerations) (t : ModelTree) (env : Environment) (items : List VariableItem) (goal : Option Goal) (cs : List Cons) → IsAccepted t env items goal cs →
    cores.solutions (core_of (variable_names e items) env items goal cs) ≡ solutions (problem_of t env items)

-- On each assignment of the declared sets its objective has the value of the problem's objective.
abbrev pub ValuesMean : Type 0
ValuesMean = (e : Enumerations) (t : ModelTree) (env : Environment) (items : List VariableItem) (goal : Option Goal) (cs : List Cons) → IsAccepted t env items goal cs → (ns : List ℤ) →
    is_among ns (declared (core_of (variable_names e items) env items goal cs)) ≡ true →
    best_after (objective (core_of (variable_names e items) env items goal cs)) ns None ≡ value_of (problem_of t env items) ns

-- A search that is not cut off finds all solutions of the problem that are better than all before them, in their order; without an objective all solutions.
abbrev pub SearchFindsAll : Type 0
SearchFindsAll = (e : Enumerations) (t : ModelTree) (env : Environment) (items : List VariableItem) (goal : Option Goal) (cs : List Cons) → IsAccepted t env items goal cs → (b : Bool) (n : ℕ) →
    (core_trace b (core_of (variable_names e items) env items goal cs) n).is_cut ≡ false →
    solved (core_trace b (core_of (variable_names e items) env items goal cs) n).marks ≡ improving (problem_of t env items) (solutions (problem_of t env items))

-- A search finds the first of these, whatever its choices.
abbrev pub SearchBegins : Type 0
SearchBegins = (e : Enumerations) (t : ModelTree) (env : Environment) (items : List VariableItem) (goal : Option Goal) (cs : List Cons) → IsAccepted t env items goal cs → (b : Bool) (n : ℕ) →
    (rest : List (List ℤ)) × (solved (core_trace b (core_of (variable_names e items) env items goal cs) n).marks ++ rest ≡ improving (problem_of t env items) (solutions (problem_of t env items)))

-- Places can be found in the index spaces of all arrays that the program has bound.
abbrev pub EnvironmentsAreKeyed : Type 0
EnvironmentsAreKeyed = (env : code.Environment) → All (λ i. IsKeyed i.value) (seen env).items
