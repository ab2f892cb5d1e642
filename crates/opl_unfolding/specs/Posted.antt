-- Constraints posted one after another, each behind those that were posted before.
use Rattle.std.specs.Prelude.{ℕ, ◌+◌, ℤ, List, [], ◌∷◌, ◌++◌, Ok}
use Rattle.opl_draft.specs.Drafts.{Cells}
use Rattle.opl_draft.specs.Instances.{Condition}
use Rattle.opl_expr.specs.declared.forms.Cons.{Cons}
use Rattle.opl_form.specs.Forms.{form}
use Rattle.opl_form.specs.Measures.{part_nodes}
use Rattle.opl_form.specs.Nodes.{Made, next}
use Rattle.opl_form.specs.Parts.{as_condition}

-- Constraints, and all their nodes.
abbrev pub Posted : Type 0
Posted = List Cons × ℕ

-- The constraints of these conditions behind those before.
abbrev pub posted : List (ℤ × ℤ) → List Cells → Posted → List Condition → Made Posted
posted sets arrays p [] = Ok p
posted sets arrays p (c ∷ cs) = next (form sets arrays p.1 c) (λ g. posted sets arrays (p.0 ++ as_condition g ∷ [], p.1 + part_nodes g) cs)
