-- What grounding a model answers, where its data and its decision variables are bound.
use Rattle.std.specs.Prelude.{◌≡◌, ℕ, ℤ, List, [], Option, None, Result, Ok, Err}
use Rattle.opl_tree.specs.declared.model.ModelTree.{ModelTree}
use Rattle.opl_eval.specs.Evaluation.{Environment}
use Rattle.opl_meaning.specs.declared.variable.VariableItem.{VariableItem}
use Rattle.opl_expr.specs.declared.forms.Cons.{Cons}
use Rattle.opl_expr.specs.declared.model.Core.{Core}
use Rattle.opl_expr.specs.declared.model.Goal.{Goal}
use Rattle.opl_draft.specs.Drafts.{Cells}
use Rattle.opl_form.specs.Parts.{tables}
use Rattle.opl_nodes.specs.declared.fault.FormFault.{FormFault}
use Rattle.opl_nodes.specs.Pieces.{Refuses}
use Rattle.opl_show.specs.Texts.{Enumerations}
use Rattle.opl_ground.specs.Declared.{core_of}
use Rattle.opl_ground.specs.Ground.{constraints_of, forms_of, goal_of}
use Rattle.opl_ground.specs.Names.{variable_names}
use Rattle.opl_grounding.specs.declared.forms.Forms.{Forms}

-- The core of these constraints and this objective over these declared sets and arrays. It has no resources and no search section.
abbrev pub core_over : List (List ℕ) → List (ℤ × ℤ) → List Cells → Option Goal → List Cons → Core
core_over names sets arrays goal cs = record {
  names = names;
  sets = sets;
  tables = tables arrays;
  resources = [];
  cons = cs;
  goal = goal;
  search = None;
}

-- The objective of a model, if it has one, and its constraints.
pub record AreForms (t : ModelTree) (env : Environment) (items : List VariableItem) (f : Forms) : Type 0 where
  pub goal : goal_of t env items ≡ Ok f.goal
  pub cons : constraints_of t env items f.goal ≡ Ok f.cons

-- The same, or the first fault.
abbrev pub MakesForms : ModelTree → Environment → List VariableItem → Result Forms FormFault → Type 0
MakesForms t env items (Ok f) = AreForms t env items f
MakesForms t env items (Err fault) = Refuses (forms_of t env items) fault

-- The core of a model with its objective and its constraints, or the first fault: that of the objective, or else that of the constraints.
abbrev pub Grounds : Enumerations → ModelTree → Environment → List VariableItem → Result Core FormFault → Type 0
Grounds e t env items (Ok core) =
    (made : Option Goal × List Cons) × (forms_of t env items ≡ Ok made) × (core ≡ core_of (variable_names e items) env items made.0 made.1)
Grounds e t env items (Err fault) = Refuses (forms_of t env items) fault
