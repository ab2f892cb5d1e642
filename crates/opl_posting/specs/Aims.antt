-- What a function answers that makes an objective.
use Rattle.std.specs.Prelude.{◌≡◌, Bool, map, Option, Some, Result, Ok, Err}
use Rattle.opl_term.specs.declared.term.Term.{Term}
use Rattle.opl_eval.specs.Evaluation.{Environment}
use Rattle.opl_meaning.specs.Uses.{place_of}
use Rattle.opl_draft.specs.Unrolled.{unrolled}
use Rattle.opl_expr.specs.declared.model.Goal.{Goal}
use Rattle.opl_form.specs.Measures.{nodes, part_nodes}
use Rattle.opl_form.specs.Nodes.{Made, next}
use Rattle.opl_form.specs.Parts as parts
use Rattle.opl_form.specs.Parts.{Form, as_number}
use Rattle.opl_nodes.specs.declared.fault.FormFault.{FormFault}
use Rattle.opl_nodes.specs.Contexts.{cells}
use Rattle.opl_nodes.specs.Pieces.{Refuses}
use Rattle.opl_declared.specs.Kept.{names_in}
use Rattle.opl_optimum.specs.Goals.{goal_form, goal_nodes, goal_with}
use Rattle.opl_posting.specs.declared.aim.Aim.{Aim}
use Rattle.opl_posting.specs.declared.plan.Plan.{Plan}

-- A form is a number: it stands in the order of its values at the number that it counts as, and has the nodes of that number.
pub record IsNumber (g : Form) : Type 0 where
  pub ranked : parts.ranked g ≡ as_number g
  pub nodes : part_nodes g ≡ nodes (as_number g)

-- The objective of a form.
abbrev pub goal_as : Bool → Term → Form → Goal
goal_as is_most t f = goal_with (record { is_most = is_most; term = t }) f

-- The objective of a term where these names are visible.
abbrev pub goal_made : Plan → Environment → Bool → Term → Made (Option Goal)
goal_made plan env is_most t =
    next (goal_form plan.sets.now (map cells plan.arrays.now) (place_of t) (unrolled plan.declared.now.items.now (names_in plan.declared.now) t env)) (λ f. Ok (Some (goal_as is_most t f)))

-- An objective is what is made, and its nodes are counted.
pub record IsAim (made : Made (Option Goal)) (a : Aim) : Type 0 where
  pub goal : made ≡ Ok a.goal
  pub nodes : a.nodes ≡ goal_nodes a.goal

-- The objective that is made, if there is one, or why there is none.
abbrev pub Aims : Made (Option Goal) → Result Aim FormFault → Type 0
Aims made (Ok a) = IsAim made a
Aims made (Err fault) = Refuses made fault
