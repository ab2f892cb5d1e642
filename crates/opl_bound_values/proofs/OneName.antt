-- One more name behind declarations.
use Rattle.std.proofs.Common.{◌≡◌, ◌<◌, ◌≤◌, ℕ, Bool, true, false, cond, List, [], ◌∷◌, ◌++◌, Option, None, Some, refl, sym, ap, subst, ◌∙◌}
use Rattle.std.specs.Prelude.{bytes_eq}
use Rattle.opl_type_rules.specs.Types.{Sort, Sorts, is_storable}
use Rattle.opl_type_rules.specs.Types.Sort.{array, index}
use Rattle.opl_type_rules.specs.Scope as scope
use Rattle.opl_type_rules.specs.Scope.{Scope, Text, Thing, field_sorts, is_decided, lookup, sort_of}
use Rattle.opl_value.specs.declared.value.Value.{Value}
use Rattle.opl_eval.specs.Evaluation.{Environment, Item, Parameter, declared, elements, item_named, latest_or, parameter_or, unhidden, value_named, visible}
use Rattle.opl_typed_values.specs.OfSort.{AllHaveSort, HasSort, IsArrayOf, are_plain, is_of_data}
use Rattle.opl_typed_values.specs.Visible.{AreOfTheirSorts}
use Rattle.opl_typed_values.proofs.Choices.{item-value}
use Rattle.opl_typed_values.proofs.Fitting.{some_same}
use Rattle.opl_bound_values.proofs.Moves.{AllBelow, Below, all-move, array-moves, has-moves}

-- ---- scopes and environments

pub found-behind : (sc : Scope) (name text : Text) (thing : Thing) → lookup (scope.declared text thing sc) name ≡ cond (bytes_eq name text) (Some thing) (lookup sc name)
unfolding lookup scope.declared
found-behind sc name text thing = refl

-- a name that is found is the new one or one of those before
pub found-by : (P : Type 0) (b : Bool) (thing other : Thing) (o : Option Thing) → cond b (Some thing) o ≡ Some other → (b ≡ true → other ≡ thing → P) → (b ≡ false → o ≡ Some other → P) → P
found-by P true thing other o e new old = new refl (sym (some_same thing other e))
found-by P false thing other o e new old = old refl e

latest-counts : (before : Option Item) (name : Text) (is : List Item) (i : Item) → latest_or before name (is ++ i ∷ []) ≡ cond (bytes_eq name i.name) (Some i) (latest_or before name is)
latest-counts before name [] i = refl
latest-counts before name (j ∷ js) i = latest-counts (cond (bytes_eq name j.name) (Some j) before) name js i

no-parameter : (ps : List Parameter) (name : Text) → ps ≡ [] → parameter_or None name ps ≡ None
no-parameter ps name e = ap (parameter_or None name) e

unhidden-by : (b : Bool) (i : Item) (o : Option Item) → unhidden None (cond b (Some i) o) ≡ cond b (Some i) (unhidden None o)
unhidden-by true i o = refl
unhidden-by false i o = refl

visible-by : (b : Bool) (i : Item) (o : Option Item) → visible None (cond b (Some i) o) ≡ cond b i.value (visible None o)
visible-by true i o = refl
visible-by false i o = refl

-- where no parameter hides it, the latest item counts
pub item-declared : (env : Environment) (name text : Text) (v : Value) (d : ℕ) → env.parameters ≡ [] → item_named name (declared text v d env) ≡ cond (bytes_eq name text) (Some (record { name = text; value = v; declaration = d })) (item_named name env)
unfolding item_named
item-declared env name text v d e =
    let i : Item = record { name = text; value = v; declaration = d } in
    ap (λ o. unhidden o (latest_or None name (env.items ++ i ∷ []))) (no-parameter env.parameters name e) ∙ ap (unhidden None) (latest-counts None name env.items i) ∙ unhidden-by (bytes_eq name text) i (latest_or None name env.items)
    ∙ ap (λ o. cond (bytes_eq name text) (Some i) (unhidden o (latest_or None name env.items))) (sym (no-parameter env.parameters name e))

pub value-declared : (env : Environment) (name text : Text) (v : Value) (d : ℕ) → env.parameters ≡ [] → value_named name (declared text v d env) ≡ cond (bytes_eq name text) v (value_named name env)
unfolding value_named
value-declared env name text v d e =
    let i : Item = record { name = text; value = v; declaration = d } in
    ap (λ o. visible o (latest_or None name (env.items ++ i ∷ []))) (no-parameter env.parameters name e) ∙ ap (visible None) (latest-counts None name env.items i) ∙ visible-by (bytes_eq name text) i (latest_or None name env.items)
    ∙ ap (λ o. cond (bytes_eq name text) v (visible o (latest_or None name env.items))) (sym (no-parameter env.parameters name e))

-- ---- what has to be known of the new name

module _ (fields : ℕ → Sorts) (names : ℕ → ℕ) where
  -- of what it stands for, and the item that it names
  pub record IsNamed (thing : Thing) (o : Option Item) : Type 0 where
    pub one : is_decided thing ≡ false → is_storable (sort_of thing) ≡ true → (i : Item) × (o ≡ Some i) × HasSort fields names (sort_of thing) i.value
    pub many : (is : Sorts) (s : Sort) → is_decided thing ≡ false → sort_of thing ≡ array is s → is_storable s ≡ true → (i : Item) × (o ≡ Some i) × IsArrayOf fields names s i.value
    pub over : (s : Sort) → is_decided thing ≡ false → sort_of thing ≡ index s → (i : Item) × (o ≡ Some i) × AllHaveSort fields names s (elements i.declaration i.value)
    pub kind : is_decided thing ≡ false → is_of_data (sort_of thing) ≡ true

-- one more name in a scope and, where it is data, in its environment: with more of enumerations, and of structs, from number k on
module _ (sc there : Scope) (env more : Environment) (names grown : ℕ → ℕ) (k : ℕ) (text : Text) (thing : Thing)
    (finds : (name : Text) → lookup there name ≡ cond (bytes_eq name text) (Some thing) (lookup sc name))
    (same : (j : ℕ) → j < k → field_sorts there j ≡ field_sorts sc j) (below : (j : ℕ) → AllBelow k (field_sorts sc j)) (grow : (j : ℕ) → j < k → names j ≤ grown j)
    (things : (name : Text) (other : Thing) → lookup sc name ≡ Some other → Below k (sort_of other))
    (keeps : (name : Text) → bytes_eq name text ≡ false → (value_named name more ≡ value_named name env) × (item_named name more ≡ item_named name env))
    (new : (name : Text) → bytes_eq name text ≡ true → IsNamed (field_sorts there) grown thing (item_named name more))
    (structs : (j : ℕ) → are_plain (field_sorts there j) ≡ true)
    (of : AreOfTheirSorts names sc env) where
  Has : Sort → Value → Type 0
  Has s v = HasSort (field_sorts there) grown s v

  values-are : (name : Text) (other : Thing) → lookup there name ≡ Some other → is_decided other ≡ false → is_storable (sort_of other) ≡ true → HasSort (field_sorts there) grown (sort_of other) (value_named name more)
  values-are name other e d st =
      found-by (HasSort (field_sorts there) grown (sort_of other) (value_named name more)) (bytes_eq name text) thing other (lookup sc name) (sym (finds name) ∙ e)
      (λ b t. let r = (new name b).one (ap is_decided (sym t) ∙ d) (ap (λ (x : Thing). is_storable (sort_of x)) (sym t) ∙ st) in
      subst (λ (x : Thing). HasSort (field_sorts there) grown (sort_of x) (value_named name more)) (sym t) (subst (HasSort (field_sorts there) grown (sort_of thing)) (sym (item-value more name r.0 r.1)) r.2))
      (λ b t. subst (HasSort (field_sorts there) grown (sort_of other)) (sym (keeps name b).0) (has-moves k (field_sorts sc) (field_sorts there) names grown same below grow (sort_of other) (value_named name env) (things name other t) (of.values name other t d st)))

  arrays-are : (name : Text) (other : Thing) (is : Sorts) (s : Sort) → lookup there name ≡ Some other → is_decided other ≡ false → sort_of other ≡ array is s → is_storable s ≡ true →
      (i : Item) × (item_named name more ≡ Some i) × IsArrayOf (field_sorts there) grown s i.value
  arrays-are name other is s e d k2 st =
      found-by ((i : Item) × (item_named name more ≡ Some i) × IsArrayOf (field_sorts there) grown s i.value) (bytes_eq name text) thing other (lookup sc name) (sym (finds name) ∙ e)
      (λ b t. (new name b).many is s (ap is_decided (sym t) ∙ d) (ap sort_of (sym t) ∙ k2) st)
      (λ b t. let r = of.arrays name other is s t d k2 st in
      (r.0, (keeps name b).1 ∙ r.1, array-moves k (field_sorts sc) (field_sorts there) names grown same below grow s r.0.value (subst (Below k) k2 (things name other t)) r.2))

  indices-are : (name : Text) (other : Thing) (s : Sort) → lookup there name ≡ Some other → is_decided other ≡ false → sort_of other ≡ index s →
      (i : Item) × (item_named name more ≡ Some i) × AllHaveSort (field_sorts there) grown s (elements i.declaration i.value)
  indices-are name other s e d k2 =
      found-by ((i : Item) × (item_named name more ≡ Some i) × AllHaveSort (field_sorts there) grown s (elements i.declaration i.value)) (bytes_eq name text) thing other (lookup sc name) (sym (finds name) ∙ e)
      (λ b t. (new name b).over s (ap is_decided (sym t) ∙ d) (ap sort_of (sym t) ∙ k2))
      (λ b t. let r = of.indices name other s t d k2 in
      (r.0, (keeps name b).1 ∙ r.1, all-move k (field_sorts sc) (field_sorts there) names grown same below grow s (elements r.0.declaration r.0.value) (subst (Below k) k2 (things name other t)) r.2))

  kinds-are : (name : Text) (other : Thing) → lookup there name ≡ Some other → is_decided other ≡ false → is_of_data (sort_of other) ≡ true
  kinds-are name other e d =
      found-by (is_of_data (sort_of other) ≡ true) (bytes_eq name text) thing other (lookup sc name) (sym (finds name) ∙ e)
      (λ b t. ap (λ (x : Thing). is_of_data (sort_of x)) t ∙ (new name b).kind (ap is_decided (sym t) ∙ d)) (λ b t. of.kinds name other t d)

  pub with-name : AreOfTheirSorts grown there more
  with-name = record { values = values-are; arrays = arrays-are; indices = indices-are; kinds = kinds-are; structs = structs }

-- a scope in which the same names stand for the same, and the structs are the same
pub same-names : (names : ℕ → ℕ) (a b : Scope) (env : Environment) → ((name : Text) → lookup b name ≡ lookup a name) → field_sorts b ≡ field_sorts a → AreOfTheirSorts names a env → AreOfTheirSorts names b env
same-names names a b env finds same of = record {
  values = λ name thing e d st. subst (λ f. HasSort f names (sort_of thing) (value_named name env)) (sym same) (of.values name thing (sym (finds name) ∙ e) d st);
  arrays = λ name thing is s e d k st. let r = of.arrays name thing is s (sym (finds name) ∙ e) d k st in (r.0, r.1, subst (λ f. IsArrayOf f names s r.0.value) (sym same) r.2);
  indices = λ name thing s e d k. let r = of.indices name thing s (sym (finds name) ∙ e) d k in (r.0, r.1, subst (λ f. AllHaveSort f names s (elements r.0.declaration r.0.value)) (sym same) r.2);
  kinds = λ name thing e d. of.kinds name thing (sym (finds name) ∙ e) d;
  structs = λ k. ap (λ f. are_plain (f k)) same ∙ of.structs k;
}
