-- Forms of drafts made one after another, each behind those that were made before.
use Rattle.std.specs.Prelude.{ℕ, ◌+◌, ℤ, List, [], ◌∷◌, ◌++◌, Ok}
use Rattle.opl_draft.specs.Drafts.{Cells, Draft, DraftStep}
use Rattle.opl_form.specs.Parts.{Form}
use Rattle.opl_form.specs.Measures.{all_nodes, part_nodes}
use Rattle.opl_form.specs.Made.{made, place}
use Rattle.opl_form.specs.Nodes.{Made, Parts, as_operand, next, parts_nodes, same, stepped, truth_part}

-- What makes the form of a draft, where so many nodes were made before.
abbrev pub Maker : Type 0
Maker = ℕ → Draft → Made Form

-- The forms of these drafts behind those before, where n nodes were made before all of them.
abbrev pub onto : Maker → ℕ → List Form → List Draft → Made (List Form)
onto make n before [] = Ok before
onto make n before (d ∷ ds) = next (make (n + all_nodes before) d) (λ g. onto make n (before ++ g ∷ []) ds)

module _ (sets : List (ℤ × ℤ)) (arrays : List Cells) (item : ℕ) where
  -- The form of a draft in an arithmetic place.
  abbrev pub operand_made : Maker
  operand_made n d = as_operand item (place d) n (made sets arrays item n d)

  -- The form of a draft as a truth.
  abbrev pub truth_made : Maker
  truth_made n d = next (made sets arrays item n d) (λ g. truth_part item n g)

  -- Whether a form is as that of the next draft of an equivalence.
  abbrev pub same_made : ℕ → Form → Draft → Made Form
  same_made n g d = next (made sets arrays item (n + part_nodes g) d) (λ h. same item n g h)

  -- The parts of a sum behind one more step of a chain, which begins at this place.
  abbrev pub step_made : ℕ → ℕ → Parts → DraftStep → Made Parts
  step_made at n ps s = next (operand_made (n + parts_nodes ps) s.operand) (λ g. stepped sets arrays item s.sign at (place s.operand) n ps g)
