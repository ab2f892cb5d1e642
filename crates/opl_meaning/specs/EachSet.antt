-- Declared sets by the expressions of their ends, and those of an array of variables, key by key.
use Rattle.std.specs.Prelude.{ℕ, ◌+◌, ℤ, List, [], ◌∷◌, ◌++◌, Option, None, Some, Ok}
use Rattle.opl_tree.specs.declared.declaration.BoundsTree.{BoundsTree}
use Rattle.opl_tree.specs.declared.declaration.DimTree.{DimTree}
use Rattle.opl_tree.specs.declared.declaration.VariableTree.{VariableTree}
use Rattle.opl_tree.specs.declared.declaration.VariableTypeTree.{VariableTypeTree}
use Rattle.opl_value.specs.declared.value.Value.{Value}
use Rattle.opl_term.specs.declared.term.Term.{Term}
use Rattle.opl_term.specs.Terms.{add_term}
use Rattle.opl_eval.specs.Compare.{number}
use Rattle.opl_eval.specs.Evaluation.{Environment, eval}
use Rattle.opl_bind.specs.EachKey.{with_names}
use Rattle.opl_meaning.specs.declared.ends.EndTerms.{EndTerms}
use Rattle.opl_meaning.specs.declared.variable.DeclaredSet.{DeclaredSet}
use Rattle.opl_meaning.specs.declared.variable.Kind.TheVariants.{Number}
use Rattle.opl_meaning.specs.Faults.{Made, evaluated, found, then}
use Rattle.opl_meaning.specs.Variables.{Ends, ends_of_type, limited_set, values_of}

-- what the ends that are written say
abbrev pub terms_of : BoundsTree → EndTerms
terms_of bounds = record { low = add_term bounds.low; high = add_term bounds.high }

-- the number that an end comes to
abbrev pub end_by : Environment → Term → Made ℤ
end_by env end = found number (evaluated (eval end env))

-- the ends that are written, else those of the type
abbrev pub ends_by : Environment → VariableTypeTree → Option EndTerms → Made Ends
ends_by env kind None = Ok (ends_of_type env kind)
ends_by env kind (Some ends) =
    then (end_by env ends.low) (λ low. then (end_by env ends.high) (λ high. Ok (record { kind = Number; low = low; high = high })))

-- the declared set of a variable, or of one element of an array of them, where those before have so many values
abbrev pub set_by : VariableTree → Option EndTerms → ℕ → Environment → Made DeclaredSet
set_by t ends before env = then (ends_by env t.kind ends) (limited_set t.at before)

-- one key after another, behind what was found before
abbrev pub over_keys : {A : Type 0} → (List Value → List A → Made (List A)) → List A → List (List Value) → Made (List A)
over_keys next before [] = Ok before
over_keys next before (key ∷ keys) = then (next key before) (λ more. over_keys next more keys)

-- the declared set for a key, behind what was found before, where those of earlier declarations have so many values
abbrev pub set_at : (ℕ → Environment → Made DeclaredSet) → ℕ → List DimTree → Environment → List Value → List DeclaredSet → Made (List DeclaredSet)
set_at set earlier ts env key before = then (set (earlier + values_of before) (with_names ts key env)) (λ s. Ok (before ++ s ∷ []))
