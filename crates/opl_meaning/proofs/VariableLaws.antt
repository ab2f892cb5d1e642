-- The decision variables of declarations have the names of these, and those that are no arrays one set.
use Rattle.std.proofs.Common.{◌≡◌, ℕ, ◌+◌, Bool, true, false, cond, nat_le, List, [], ◌∷◌, ◌++◌, length, map, Option, Some, None, Ok, Err, refl, ap, subst, sym, ◌∙◌}
use Rattle.std.specs.List.{All}
use Rattle.std.proofs.lemmas.List.{append-nil, map-append}
use Rattle.std.proofs.lemmas.List.Elements.{All-append, All-cons, All-nil}
use Rattle.opl_tree.specs.declared.declaration.DeclTree.{DeclTree}
use Rattle.opl_tree.specs.declared.declaration.DeclTree.TheVariants as decls
use Rattle.opl_tree.specs.declared.declaration.DimsTree.{DimsTree}
use Rattle.opl_tree.specs.declared.declaration.VariableTree.{VariableTree}
use Rattle.opl_value.specs.declared.value.IndexSpace.{IndexSpace}
use Rattle.opl_value.specs.Places.{elements, lists}
use Rattle.opl_eval.specs.Evaluation.{Environment}
use Rattle.opl_bind.specs.Dimensions.{space_in}
use Rattle.opl_meaning.specs.declared.fault.MeaningFault.TheVariants.{TooManyVariables}
use Rattle.opl_meaning.specs.declared.totals.Totals.{Totals}
use Rattle.opl_meaning.specs.declared.variable.DeclaredSet.{DeclaredSet}
use Rattle.opl_meaning.specs.declared.variable.VariableItem.{VariableItem}
use Rattle.opl_meaning.specs.Faults.{Made, found, then}
use Rattle.opl_meaning.specs.Formulas.{Scope, names_in}
use Rattle.opl_meaning.specs.Laws.{HasOneSet}
use Rattle.opl_meaning.specs.Runs.{Names, Text, name_of, names_of, no_names, plain_name}
use Rattle.opl_meaning.specs.Runs as runs
use Rattle.opl_meaning.specs.Solutions.{plain_of, plain_where, scope_from, scope_of}
use Rattle.opl_meaning.specs.Variables.{each_set, few_variables, item_in, item_over, item_with, set_in, spaced, totals_of, variables_in, with_decl}
use Rattle.opl_meaning.specs.VariableLaws.{ScopeIsDeclared, SinglesHaveOneSet, VariablesAreNamed}

-- ---- what is made one after another

-- the first is made, and what comes of it
pub record Went {A B : Type 0} (a : Made A) (next : A → Made B) (y : B) : Type 0 where
  pub value : A
  pub is : a ≡ Ok value
  pub more : next value ≡ Ok y

pub went : {A B : Type 0} (a : Made A) (next : A → Made B) (y : B) → then a next ≡ Ok y → Went a next y
went (Ok x) next y h = record { value = x; is = refl; more = h }
went (Err e) next y h = cc

pub ok_same : {A : Type 0} (x y : A) → ◌≡◌ {A = Made A} (Ok x) (Ok y) → x ≡ y
ok_same x y h = cc

-- ---- one declaration

-- the names of a variable among those that are no arrays
abbrev plain_by : Text → Option IndexSpace → List Text
plain_by name None = name ∷ []
plain_by name (Some space) = []

-- what is known of the variables of a declaration
record Declared (t : VariableTree) (dims : Option DimsTree) (v : VariableItem) : Type 0 where
  pub one_set : HasOneSet v
  pub name : v.name ≡ t.name.text
  pub plain : plain_by v.name v.space ≡ plain_name t.name.text dims

-- where the limit is kept
pub few-made : {A : Type 0} (at before more : ℕ) (made : Made A) (v : A) → few_variables at before more made ≡ Ok v → (nat_le (before + more) 65536 ≡ true) × (made ≡ Ok v)
few-made at before more made v h = by (nat_le (before + more) 65536) refl h
  where
    by : (b : Bool) → nat_le (before + more) 65536 ≡ b → cond b made (Err (TooManyVariables at)) ≡ Ok v → (nat_le (before + more) 65536 ≡ true) × (made ≡ Ok v)
    by true e h = (e, h)
    by false e h = absurd (cc)

declared : (env : Environment) (before : Totals) (t : VariableTree) (dims : Option DimsTree) (v : VariableItem) → item_over env before t dims ≡ Ok v → Declared t dims v
declared env before t None v h =
    let made : Made VariableItem = then (set_in t before.values env) (λ set. Ok (item_with t env None (set ∷ []))) in
    let w = went (set_in t before.values env) (λ set. Ok (item_with t env None (set ∷ []))) v (few-made t.at before.variables 1 made v h).1 in
    subst (Declared t None) (ok_same (item_with t env None (w.value ∷ [])) v w.more) (record { one_set = λ e. refl; name = refl; plain = refl })
declared env before t (Some dims) v h =
    let each : IndexSpace → Made (List DeclaredSet) = λ space. each_set t before.values (dims.first ∷ dims.rest) (lists space) env [] in
    let w = went (spaced (space_in env dims)) (λ space. few_variables t.at before.variables (elements (lists space)) (found (item_with t env (Some space)) (each space))) v h in
    let u = went (each w.value) (λ sets. Ok (item_with t env (Some w.value) sets)) v (few-made t.at before.variables (elements (lists w.value)) (found (item_with t env (Some w.value)) (each w.value)) v w.more).1 in
    subst (Declared t (Some dims)) (ok_same (item_with t env (Some w.value) u.value) v u.more) (record { one_set = λ e. cc; name = refl; plain = refl })

declared_in : (env : Environment) (before : Totals) (t : VariableTree) (v : VariableItem) → item_in env before t ≡ Ok v → Declared t t.dims v
unfolding item_in
declared_in env before t v h = declared env before t t.dims v h

-- ---- each has one set

decl_one_set : (env : Environment) (before : List VariableItem) (t : DeclTree) (more : List VariableItem) → All HasOneSet before → with_decl env before t ≡ Ok more → All HasOneSet more
decl_one_set env before (decls.Variable t) more b h =
    let w = went (item_in env (totals_of before) t) (λ v. Ok (before ++ v ∷ [])) more h in
    subst (All HasOneSet) (ok_same (before ++ w.value ∷ []) more w.more)
    (All-append HasOneSet before (w.value ∷ []) b (All-cons HasOneSet w.value [] (declared_in env (totals_of before) t w.value w.is).one_set (All-nil HasOneSet)))
decl_one_set env before t more b h = subst (All HasOneSet) (ok_same before more h) b

all_one_set : (env : Environment) (before : List VariableItem) (ts : List DeclTree) (items : List VariableItem) → All HasOneSet before → variables_in env before ts ≡ Ok items → All HasOneSet items
unfolding variables_in
all_one_set env before [] items b h = subst (All HasOneSet) (ok_same before items h) b
all_one_set env before (t ∷ ts) items b h =
    let w = went (with_decl env before t) (λ more. variables_in env more ts) items h in
    all_one_set env w.value ts items (decl_one_set env before t w.value b w.is) w.more

pub singles_have_one_set : SinglesHaveOneSet
singles_have_one_set env ts items h = all_one_set env [] ts items (All-nil HasOneSet) h

-- ---- names

-- the names, and those of one more variable
abbrev named : Names → VariableItem → Names
named names v = record { all = names.all ++ v.name ∷ []; plain = names.plain ++ plain_by v.name v.space }

plain-where : (number : ℕ) (v : VariableItem) (space : Option IndexSpace) → map (λ p. p.name) (plain_where number v space) ≡ plain_by v.name space
plain-where number v None = refl
plain-where number v (Some space) = refl

scope_from-one : (number : ℕ) (s : Scope) (v : VariableItem) → names_in (scope_from number s (v ∷ [])) ≡ named (names_in s) v
scope_from-one number s v =
    ap (λ names. record { all = s.all ++ v.name ∷ []; plain = names })
    (map-append (λ p. p.name) s.plain (plain_of number v) ∙ ap (λ names. map (λ p. p.name) s.plain ++ names) (plain-where number v v.space))

scope_from-more : (number : ℕ) (s : Scope) (vs : List VariableItem) (v : VariableItem) → names_in (scope_from number s (vs ++ v ∷ [])) ≡ named (names_in (scope_from number s vs)) v
scope_from-more number s [] v = scope_from-one number s v
scope_from-more number s (u ∷ vs) v = scope_from-more (number + length u.sets) (record { all = s.all ++ u.name ∷ []; plain = s.plain ++ plain_of number u }) vs v

-- the names, and those of a declaration
abbrev with_names : Names → DeclTree → Names
with_names names t = record { all = names.all ++ name_of t; plain = names.plain ++ runs.plain_of t }

with_names-none : (names : Names) → record { all = names.all ++ []; plain = names.plain ++ [] } ≡ names
with_names-none names = λ i. record { all = append-nil names.all i; plain = append-nil names.plain i }

named-declared : (names : Names) (t : VariableTree) (v : VariableItem) → Declared t t.dims v → named names v ≡ with_names names (decls.Variable t)
named-declared names t v d = λ i. record { all = names.all ++ d.name i ∷ []; plain = names.plain ++ d.plain i }

decl_names : (env : Environment) (before : List VariableItem) (t : DeclTree) (more : List VariableItem) → with_decl env before t ≡ Ok more → names_in (scope_of more) ≡ with_names (names_in (scope_of before)) t
decl_names env before (decls.Variable t) more h =
    let w = went (item_in env (totals_of before) t) (λ v. Ok (before ++ v ∷ [])) more h in
    subst (λ vs. names_in (scope_of vs) ≡ with_names (names_in (scope_of before)) (decls.Variable t)) (ok_same (before ++ w.value ∷ []) more w.more)
    (scope_from-more 0 (record { all = []; plain = [] }) before w.value ∙ named-declared (names_in (scope_of before)) t w.value (declared_in env (totals_of before) t w.value w.is))
decl_names env before t more h = ap (λ vs. names_in (scope_of vs)) (sym (ok_same before more h)) ∙ sym (with_names-none (names_in (scope_of before)))

all_names : (env : Environment) (before : List VariableItem) (ts : List DeclTree) (items : List VariableItem) → variables_in env before ts ≡ Ok items → names_in (scope_of items) ≡ names_of (names_in (scope_of before)) ts
unfolding variables_in names_of
all_names env before [] items h = ap (λ vs. names_in (scope_of vs)) (sym (ok_same before items h))
all_names env before (t ∷ ts) items h =
    let w = went (with_decl env before t) (λ more. variables_in env more ts) items h in
    all_names env w.value ts items w.more ∙ ap (λ names. names_of names ts) (decl_names env before t w.value w.is)

pub scope_is_declared : ScopeIsDeclared
scope_is_declared env ts items h = all_names env [] ts items h

append-one : {A : Type 0} (xs : List A) (y : A) (zs : List A) → (xs ++ y ∷ []) ++ zs ≡ xs ++ (y ∷ zs)
append-one [] y zs = refl
append-one (x ∷ xs) y zs = ap (λ l. x ∷ l) (append-one xs y zs)

scope_from-all : (number : ℕ) (s : Scope) (vs : List VariableItem) → (scope_from number s vs).all ≡ s.all ++ map (λ v. v.name) vs
scope_from-all number s [] = sym (append-nil s.all)
scope_from-all number s (v ∷ vs) =
    scope_from-all (number + length v.sets) (record { all = s.all ++ v.name ∷ []; plain = s.plain ++ plain_of number v }) vs
    ∙ append-one s.all v.name (map (λ u. u.name) vs)

pub variables_are_named : VariablesAreNamed
variables_are_named env ts items h =
    sym (scope_from-all 0 (record { all = []; plain = [] }) items) ∙ ap (λ names. names.all) (scope_is_declared env ts items h)
