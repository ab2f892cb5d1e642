-- A law of values under an assignment.
use Rattle.std.specs.Prelude.{◌≡◌, ℤ, false, List, length, None}
use Rattle.opl_term.specs.declared.term.Term.{Term}
use Rattle.opl_eval.specs.Evaluation.{Environment, eval}
use Rattle.opl_meaning.specs.declared.variable.VariableItem.{VariableItem}
use Rattle.opl_meaning.specs.Assigned.{with_variables}
use Rattle.opl_meaning.specs.Formulas.{is_mentioned}
use Rattle.opl_meaning.specs.Solutions.{scope_of}

-- a variable that is no array has one declared set
abbrev pub HasOneSet : VariableItem → Type 0
HasOneSet v = v.space ≡ None → length v.sets ≡ 1

-- what names no decision variable comes to the same under every assignment
abbrev pub DataStays : Type 0
DataStays = (items : List VariableItem) (ns : List ℤ) (env : Environment) (t : Term) → is_mentioned (scope_of items) t ≡ false →
    eval t (with_variables items ns env) ≡ eval t env
