-- The places of what expressions are unrolled to.
use Rattle.std.specs.Prelude.{◌≡◌, ℕ, List, [], ◌∷◌, map}
use Rattle.opl_term.specs.declared.term.Term.{Term}
use Rattle.opl_eval.specs.Evaluation.{Environment}
use Rattle.opl_meaning.specs.declared.variable.VariableItem.{VariableItem}
use Rattle.opl_meaning.specs.Runs.{Names}
use Rattle.opl_draft.specs.Drafts.{Draft}
use Rattle.opl_draft.specs.Unrolled.{unrolled}
use Rattle.opl_form.specs.Made.{place}

-- The place of a draft; for a fault, which is told with its own place, this one.
abbrev pub place_or : ℕ → Draft → ℕ
place_or at (Draft.broken fault) = at
place_or at d = place d

-- Each of these is the place of the draft at its place in a list, where that is no fault.
abbrev pub AreAt : List Draft → List ℕ → Type 0
AreAt [] [] = Unit {0}
AreAt (d ∷ ds) (at ∷ ats) = (place_or at d ≡ at) × AreAt ds ats
AreAt ds ats = ⊥

-- What terms are unrolled to.
abbrev pub term_drafts : List VariableItem → Names → Environment → List Term → List Draft
term_drafts items names env ts = map (λ t. unrolled items names t env) ts
