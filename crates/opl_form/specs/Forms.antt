-- The constraints of conditions.
use Rattle.std.specs.Prelude.{ℕ, ◌+◌, ℤ, List, [], ◌∷◌, Ok}
use Rattle.opl_draft.specs.Drafts.{Cells}
use Rattle.opl_draft.specs.Instances.{Condition}
use Rattle.opl_expr.specs.declared.forms.Cons.{Cons}
use Rattle.opl_form.specs.Parts.{Form, as_condition}
use Rattle.opl_form.specs.Measures.{part_nodes}
use Rattle.opl_form.specs.Nodes.{Made, next, truth_part}
use Rattle.opl_form.specs.Made.{made}

module _ (sets : List (ℤ × ℤ)) (arrays : List Cells) where
  -- The form of a condition, where n nodes were made before.
  abbrev pub form : ℕ → Condition → Made Form
  form n c = next (made sets arrays c.at n c.draft) (λ g. truth_part c.at n g)

  -- The constraints of conditions, one after another.
  abbrev pub forms : ℕ → List Condition → Made (List Cons)
  forms n [] = Ok []
  forms n (c ∷ cs) = next (form n c) (λ g. next (forms (n + part_nodes g) cs) (λ ds. Ok (as_condition g ∷ ds)))
