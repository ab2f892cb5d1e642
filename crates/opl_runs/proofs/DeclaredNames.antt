-- The names in a model's text are those of its variables.
use Rattle.std.proofs.Common.{◌≡◌, ℕ, ◌+◌, List, [], ◌∷◌, ◌++◌, length, map, Option, None, Some, refl, ap, sym, ◌∙◌}
use Rattle.std.proofs.lemmas.List.{append-nil, map-append}
use Rattle.opl_value.specs.declared.value.IndexSpace.{IndexSpace}
use Rattle.opl_meaning.specs.declared.variable.VariableItem.{VariableItem}
use Rattle.opl_meaning.specs.Formulas.{Scope, names_in}
use Rattle.opl_meaning.specs.Runs.{Names}
use Rattle.opl_meaning.specs.Solutions.{plain_of, plain_where, scope_from}
use Rattle.opl_meaning.proofs.VariableLaws.{scope_is_declared}
use Rattle.opl_declared.specs.Kept.{plain_name, plain_names}
use Rattle.opl_runs.specs.Laws.{NamesAreDeclared}

plain-where : (number : ℕ) (v : VariableItem) (space : Option IndexSpace) → map (λ p. p.name) (plain_where number v space) ≡ plain_name v.name space
plain-where number v None = refl
plain-where number v (Some space) = refl

-- the names before, and those of more variables
abbrev with_items : Names → List VariableItem → Names
with_items names vs = record { all = names.all ++ map (λ v. v.name) vs; plain = names.plain ++ plain_names vs }

append-in : {A : Type 0} (xs ys zs : List A) → (xs ++ ys) ++ zs ≡ xs ++ (ys ++ zs)
append-in [] ys zs = refl
append-in (x ∷ xs) ys zs = ap (λ l. x ∷ l) (append-in xs ys zs)

scope-along : (number : ℕ) (s : Scope) (vs : List VariableItem) → names_in (scope_from number s vs) ≡ with_items (names_in s) vs
scope-along number s [] = λ i. record { all = sym (append-nil s.all) i; plain = sym (append-nil (map (λ p. p.name) s.plain)) i }
scope-along number s (v ∷ vs) =
    let plain = map-append (λ p. p.name) s.plain (plain_of number v) ∙ ap (λ names. map (λ p. p.name) s.plain ++ names) (plain-where number v v.space) in
    scope-along (number + length v.sets) (record { all = s.all ++ v.name ∷ []; plain = s.plain ++ plain_of number v }) vs
    ∙ (λ i. record {
      all = append-in s.all (v.name ∷ []) (map (λ v. v.name) vs) i;
      plain = (ap (λ names. names ++ plain_names vs) plain ∙ append-in (map (λ p. p.name) s.plain) (plain_name v.name v.space) (plain_names vs)) i;
    })

pub names_are_declared : NamesAreDeclared
names_are_declared env decls items h = sym (scope_is_declared env decls items h) ∙ scope-along 0 (record { all = []; plain = [] }) items
