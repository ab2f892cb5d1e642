-- What an objective becomes in a ground core.
use Rattle.std.specs.Prelude.{ℕ, ◌+◌, ℤ, List, Option, Some, None, Ok}
use Rattle.opl_eval.specs.Evaluation.{Environment}
use Rattle.opl_expr.specs.declared.model.Goal.{Goal}
use Rattle.opl_meaning.specs.declared.variable.VariableItem.{VariableItem}
use Rattle.opl_meaning.specs.Runs.{Names}
use Rattle.opl_meaning.specs.Uses.{place_of}
use Rattle.opl_draft.specs.Drafts.{Cells, Draft}
use Rattle.opl_draft.specs.Laws.{arrays}
use Rattle.opl_draft.specs.Unrolled.{unrolled}
use Rattle.opl_form.specs.Parts.{Form, as_number}
use Rattle.opl_form.specs.Measures.{nodes}
use Rattle.opl_form.specs.Nodes.{Made, as_operand, next, number_part, size, sized}
use Rattle.opl_form.specs.Made.{made, place}
use Rattle.opl_form.specs.Laws.{declared_ends}
use Rattle.opl_optimum.specs.Optima.{Objective}

module _ (sets : List (ℤ × ℤ)) (arrays : List Cells) (item : ℕ) where
  -- A form whose magnitude is small twice over, so that two of its values can be compared.
  abbrev pub doubled : ℕ → Form → Made Form
  doubled at g = sized at (size sets arrays (as_number g) + size sets arrays (as_number g)) (Ok g)

  -- The form of a draft as a number, made before all others.
  abbrev pub number_of : Draft → Made Form
  number_of d = next (as_operand item (place d) 0 (made sets arrays item 0 d)) (λ g. number_part sets arrays item (place d) 0 g)

  -- The form of an objective.
  abbrev pub goal_form : Draft → Made Form
  goal_form d = next (number_of d) (λ g. doubled (place d) g)

-- A form as what is to be best.
abbrev pub goal_with : Objective → Form → Goal
goal_with g f = record { maximize = g.is_most; value = as_number f }

-- The objective of a core, where the declared names have these values and these are the decision variables, which have these names.
abbrev pub goal_by : Environment → List VariableItem → Names → Option Objective → Made (Option Goal)
goal_by env items names None = Ok None
goal_by env items names (Some g) =
    next (goal_form (declared_ends items) (arrays env items) (place_of g.term) (unrolled items names g.term env)) (λ f. Ok (Some (goal_with g f)))

-- How many nodes the objective of a core has.
abbrev pub goal_nodes : Option Goal → ℕ
goal_nodes None = 0
goal_nodes (Some g) = nodes g.value
