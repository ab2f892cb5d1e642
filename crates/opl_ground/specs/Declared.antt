-- The declared part of a ground core: what stands there of the data and of the decision variables of a model, whatever its constraints.
use Rattle.std.specs.Prelude.{◌≡◌, ℕ, List, [], length, Option, Some, None}
use Rattle.opl_value.specs.declared.value.IndexSpace.{IndexSpace}
use Rattle.opl_value.specs.Laws.{AllDiffer}
use Rattle.opl_value.specs.Places.{elements, lists}
use Rattle.opl_eval.specs.Evaluation.{Environment}
use Rattle.opl_meaning.specs.declared.variable.VariableItem.{VariableItem}
use Rattle.opl_draft.specs.Laws.{arrays}
use Rattle.opl_expr.specs.declared.forms.Cons.{Cons}
use Rattle.opl_expr.specs.declared.model.Core.{Core}
use Rattle.opl_expr.specs.declared.model.Goal.{Goal}
use Rattle.opl_form.specs.Laws.{declared_ends}
use Rattle.opl_form.specs.Parts.{tables}

-- ---- what declarations keep

-- The values of each index set of an array of decision variables differ, and it has one variable for each key.
abbrev pub IsLaidOver : Option IndexSpace → ℕ → Type 0
IsLaidOver None n = Unit {0}
IsLaidOver (Some space) n = AllDiffer (lists space) × (n ≡ elements (lists space))

abbrev pub IsLaidOut : VariableItem → Type 0
IsLaidOut v = IsLaidOver v.space (length v.sets)

-- ---- the core

-- The core of these constraints and this objective over the declared sets and arrays of a model, whose variables have these names. It has no resources and
-- no search section.
abbrev pub core_of : List (List ℕ) → Environment → List VariableItem → Option Goal → List Cons → Core
core_of names env items goal cs = record {
  names = names;
  sets = declared_ends items;
  tables = tables (arrays env items);
  resources = [];
  cons = cs;
  goal = goal;
  search = None;
}
