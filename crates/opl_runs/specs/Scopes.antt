-- Which names stand for variables that are no arrays, as the program keeps them.
use Rattle.std.specs.Prelude.{Bool, false, bytes_eq, cond, List, [], ◌∷◌, Option, Some, None}
use Rattle.opl_term.specs.declared.term.GroupTerm.TheViews.{out-Term}
use Rattle.opl_term.specs.declared.term.Term.{Term}
use Rattle.opl_meaning.specs.declared.variable.VariableItem.{VariableItem}
use Rattle.opl_meaning.specs.Runs.{Names, Text}
use Rattle.opl_draft.specs.Forms.{form_clean}
use Rattle.opl_draft.specs.Unrolled.{has_no_space}

-- whether the latest variables of that name are no array, else what is known before
abbrev pub plain_or : Option Bool → Text → List VariableItem → Option Bool
plain_or before name [] = before
plain_or before name (v ∷ vs) = plain_or (cond (bytes_eq name v.name) (Some (has_no_space v.space)) before) name vs

abbrev pub or_false : Option Bool → Bool
or_false None = false
or_false (Some b) = b

-- whether an expression in which variables are named is clean, by its form
unfoldable pub clean_by_form : List VariableItem → Names → Term → Bool
clean_by_form items names t = form_clean items names (out-Term t)
