-- The items of decision variables under an assignment, by name.
use Rattle.std.proofs.Common.{◌≡◌, ℕ, ◌+◌, ℤ, false, cond, List, [], ◌∷◌, ◌++◌, drop, length, map, take, Option, None, Some, refl, sym, ap, ◌∙◌, append_assoc, append-nil}
use Rattle.std.specs.Prelude.{bytes_eq}
use Rattle.std.proofs.lemmas.Bool.{or_parts}
use Rattle.opl_eval.specs.Evaluation.{Environment, Item, declared, latest_or}
use Rattle.opl_meaning.specs.declared.variable.VariableItem.{VariableItem}
use Rattle.opl_meaning.specs.Assigned.{item_value, with_variables}
use Rattle.opl_meaning.specs.Formulas.{Scope, names_in}
use Rattle.opl_meaning.specs.Laws.{DataStays}
use Rattle.opl_meaning.specs.Runs.{Text, is_among}
use Rattle.opl_meaning.specs.Solutions.{plain_of, scope_from, scope_of}
use Rattle.opl_meaning.proofs.Stays.{Agree, term_stays}

abbrev names : List VariableItem → List Text
names items = map (λ v. v.name) items

-- the item of a variable under its part of an assignment
abbrev item_of : VariableItem → List ℤ → Item
item_of v ns = record { name = v.name; value = item_value v.kind v.space (take (length v.sets) ns); declaration = 0 }

-- the environment with one variable
abbrev with_one : VariableItem → List ℤ → Environment → Environment
with_one v ns env = declared v.name (item_value v.kind v.space (take (length v.sets) ns)) 0 env

parameters-stay : (items : List VariableItem) (ns : List ℤ) (env : Environment) → (with_variables items ns env).parameters ≡ env.parameters
unfolding with_variables
parameters-stay [] ns env = refl
parameters-stay (v ∷ vs) ns env = parameters-stay vs (drop (length v.sets) ns) (with_one v ns env)

positions-stay : (items : List VariableItem) (ns : List ℤ) (env : Environment) → (with_variables items ns env).position ≡ env.position
unfolding with_variables
positions-stay [] ns env = refl
positions-stay (v ∷ vs) ns env = positions-stay vs (drop (length v.sets) ns) (with_one v ns env)

-- the latest of one item more
pub latest-added : (before : Option Item) (name : Text) (is : List Item) (i : Item) → latest_or before name (is ++ i ∷ []) ≡ cond (bytes_eq name i.name) (Some i) (latest_or before name is)
latest-added before name [] i = refl
latest-added before name (j ∷ is) i = latest-added (cond (bytes_eq name j.name) (Some j) before) name is i

latest-stays : (items : List VariableItem) (ns : List ℤ) (env : Environment) (name : Text) → is_among (names items) name ≡ false →
    latest_or None name (with_variables items ns env).items ≡ latest_or None name env.items
unfolding with_variables
latest-stays [] ns env name h = refl
latest-stays (v ∷ vs) ns env name h =
    let p = or_parts (bytes_eq name v.name) (is_among (names vs) name) h in
    latest-stays vs (drop (length v.sets) ns) (with_one v ns env) name p.1
    ∙ latest-added None name env.items (item_of v ns)
    ∙ ap (λ b. cond b (Some (item_of v ns)) (latest_or None name env.items)) p.0

all-names : (number : ℕ) (before : Scope) (items : List VariableItem) → (scope_from number before items).all ≡ before.all ++ names items
all-names number before [] = sym (append-nil before.all)
all-names number before (v ∷ vs) =
    all-names (number + length v.sets) (record { all = before.all ++ v.name ∷ []; plain = before.plain ++ plain_of number v }) vs
    ∙ append_assoc before.all (v.name ∷ []) (names vs)

-- the variables' items are those of their names alone
pub variables-agree : (items : List VariableItem) (ns : List ℤ) (env : Environment) → Agree (scope_of items).all (with_variables items ns env) env
variables-agree items ns env = record {
  parameters = parameters-stay items ns env;
  position = positions-stay items ns env;
  items = λ name h. latest-stays items ns env name (ap (λ all. is_among all name) (sym (all-names 0 (record { all = []; plain = [] }) items)) ∙ h);
}

pub data_stays : DataStays
data_stays items ns env t h = (term_stays (names_in (scope_of items)) t h (with_variables items ns env) env (variables-agree items ns env)).0
