-- An enumeration: its names, and the values that they have.
use Rattle.std.proofs.Common.{◌≡◌, ◌<◌, ◌≤◌, ◌^◌, ℕ, suc, ◌+◌, Bool, true, false, cond, List, [], ◌∷◌, ◌++◌, length, map, Option, Some, Ok, refl, sym, ap, subst, ◌∙◌, arith, append_assoc, append-nil}
use Rattle.std.specs.Prelude.{bytes_eq, nat_eq}
use Rattle.std.proofs.lemmas.Bool.Decides.{nat_tests}
use Rattle.std.proofs.lemmas.Slice.Eq.{bytes_eq-Decides}
use Rattle.opl_tree.specs.declared.declaration.EnumNamesTree.{EnumNamesTree}
use Rattle.opl_tree.specs.declared.declaration.EnumNamesTree.TheVariants as enum_trees
use Rattle.opl_tree.specs.declared.declaration.EnumTree.{EnumTree}
use Rattle.opl_tree.specs.declared.declaration.DeclTree.TheVariants as decls
use Rattle.opl_tree.specs.declared.expression.NameTree.{NameTree}
use Rattle.opl_type_rules.specs.Types.{Sort, Sorts}
use Rattle.opl_type_rules.specs.Types.Sort.{enumeration}
use Rattle.opl_type_rules.specs.Scope as scope
use Rattle.opl_type_rules.specs.Scope.{Scope, Text, Thing, field_sorts, is_decided, lookup, sort_of, type_of}
use Rattle.opl_type_rules.specs.Scope.Thing.{enum_type, enum_name}
use Rattle.opl_declaration_types.specs.Declarations.{enum_names, with_names as with_enum_names}
use Rattle.opl_typed.specs.Relation.{IsNone}
use Rattle.opl_typed_model.specs.Declares.{Declares}
use Rattle.opl_value.specs.declared.value.Value.TheVariants as values
use Rattle.opl_eval.specs.Evaluation.{Environment, Item, declared, elements, elements_layer, item_named, names_from, value_named}
use Rattle.opl_typed_values.specs.OfSort.{AllHaveSort, a_name, are_plain, more_have, none_has}
use Rattle.opl_typed_values.specs.Visible.{AreOfTheirSorts}
use Rattle.opl_typed_values.proofs.Fitting.{some_same}
use Rattle.opl_given.specs.declared.assigned.Override.{Override}
use Rattle.opl_given.specs.declared.form.Form.{Form}
use Rattle.opl_given.specs.declared.form.Form.TheVariants as forms
use Rattle.opl_given.specs.Forms.{Known, fields_of, form_named, listed_names, names_of, number_of, with_declaration, with_type}
use Rattle.opl_given.specs.Given.{Given}
use Rattle.opl_given.proofs.CellLaws.{same_ok, went_first}
use Rattle.opl_bind.specs.Bind.{Data, enumeration_names, with_decl, with_listed, with_names, with_values, with_written}
use Rattle.opl_fit.specs.Typed.{AreFormsOf, IsFormOf, of_names}
use Rattle.opl_bound_values.proofs.Agreement.{Agrees, N, enumeration-named, name-named}
use Rattle.opl_bound_values.proofs.KnownTypes.{fields-same, fields-typed, form-same, form-typed, names-behind, names-typed, other-number}
use Rattle.opl_bound_values.proofs.Moves.{AllBelow, Below, all-below-more, all-move, array-moves, below-more, has-moves}
use Rattle.opl_bound_values.proofs.OneName.{found-behind, found-by, item-declared, same-names, value-declared, with-name}
use Rattle.opl_bound_values.proofs.Steps.{fields-count, fields-stay, forms-count, names-count, number-is, old-types, type-by, typed-fields, typed-forms, typed-names}

own-number : (n : ℕ) → nat_eq n n ≡ true
own-number n = grind (arith, nat_tests)

-- ---- scopes behind names of an enumeration

names-keep-fields : (k : ℕ) (ns : List NameTree) (sc : Scope) → field_sorts (with_enum_names k ns sc) ≡ field_sorts sc
names-keep-fields k [] sc = refl
names-keep-fields k (n ∷ ns) sc = names-keep-fields k ns (scope.declared n.text (enum_name k) sc) ∙ fields-stay sc n.text (enum_name k) refl

-- what two scopes find alike they find alike behind the same names
alike : (k : ℕ) (ns : List NameTree) (b c : Scope) → ((name : Text) → lookup b name ≡ lookup c name) → (name : Text) → lookup (with_enum_names k ns b) name ≡ lookup (with_enum_names k ns c) name
alike k [] b c h name = h name
alike k (n ∷ ns) b c h name =
    alike k ns (scope.declared n.text (enum_name k) b) (scope.declared n.text (enum_name k) c)
    (λ m. found-behind b m n.text (enum_name k) ∙ ap (cond (bytes_eq m n.text) (Some (enum_name k))) (h m) ∙ sym (found-behind c m n.text (enum_name k))) name

both-orders : (name first second : Text) (f g : Thing) (o : Option Thing) → bytes_eq first second ≡ false → cond (bytes_eq name first) (Some f) (cond (bytes_eq name second) (Some g) o) ≡ cond (bytes_eq name second) (Some g) (cond (bytes_eq name first) (Some f) o)
both-orders name first second f g o differ = by (bytes_eq name first) (bytes_eq name second) refl refl
  where
    by : (b c : Bool) → bytes_eq name first ≡ b → bytes_eq name second ≡ c → cond b (Some f) (cond c (Some g) o) ≡ cond c (Some g) (cond b (Some f) o)
    by true true p q = absurd (let e = sym ((bytes_eq-Decides name first).0 p) ∙ (bytes_eq-Decides name second).0 q in let r = sym ((bytes_eq-Decides first second).1 e) ∙ differ in cc)
    by true false p q = refl
    by false true p q = refl
    by false false p q = refl

-- a name that differs from all of these may stand before or behind them
name-last : (k : ℕ) (text : Text) (thing : Thing) (ns : List NameTree) (sc : Scope) → IsNone text ns → (name : Text) → lookup (with_enum_names k ns (scope.declared text thing sc)) name ≡ lookup (scope.declared text thing (with_enum_names k ns sc)) name
name-last k text thing [] sc h name = refl
name-last k text thing (n ∷ ns) sc h name =
    alike k ns (scope.declared n.text (enum_name k) (scope.declared text thing sc)) (scope.declared text thing (scope.declared n.text (enum_name k) sc))
    (λ m. found-behind (scope.declared text thing sc) m n.text (enum_name k) ∙ ap (cond (bytes_eq m n.text) (Some (enum_name k))) (found-behind sc m text thing) ∙ both-orders m n.text text (enum_name k) thing (lookup sc m) h.0
    ∙ sym (found-behind (scope.declared n.text (enum_name k) sc) m text thing ∙ ap (cond (bytes_eq m text) (Some thing)) (found-behind sc m n.text (enum_name k)))) name
    ∙ name-last k text thing ns (scope.declared n.text (enum_name k) sc) h.1 name

-- names of an enumeration are no types
names-no-types : (k : ℕ) (ns : List NameTree) (sc : Scope) (name : Text) (s : Sort) → type_of (lookup (with_enum_names k ns sc) name) ≡ Some s → type_of (lookup sc name) ≡ Some s
names-no-types k [] sc name s e = e
names-no-types k (n ∷ ns) sc name s e =
    type-by (bytes_eq name n.text) (enum_name k) (lookup sc name) s (type_of (lookup sc name) ≡ Some s) (sym (ap type_of (found-behind sc name n.text (enum_name k))) ∙ names-no-types k ns (scope.declared n.text (enum_name k) sc) name s e)
    (λ b t. absurd (cc)) (λ b t. t)

names-below : (k : ℕ) (ns : List NameTree) (sc : Scope) → ((name : Text) (thing : Thing) → lookup sc name ≡ Some thing → Below (suc k) (sort_of thing)) → (name : Text) (thing : Thing) → lookup (with_enum_names k ns sc) name ≡ Some thing → Below (suc k) (sort_of thing)
names-below k [] sc h name thing e = h name thing e
names-below k (n ∷ ns) sc h name thing e =
    names-below k ns (scope.declared n.text (enum_name k) sc)
    (λ m other q. found-by (Below (suc k) (sort_of other)) (bytes_eq m n.text) (enum_name k) other (lookup sc m) (sym (found-behind sc m n.text (enum_name k)) ∙ q) (λ b t. subst (λ (x : Thing). Below (suc k) (sort_of x)) (sym t) (omega arith)) (λ b t. h m other t)) name thing e

-- ---- environments behind names of an enumeration

values-keep : (k p : ℕ) (ns : List Text) (env : Environment) → ((with_values k p ns env).parameters ≡ env.parameters) × ((with_values k p ns env).position ≡ env.position)
values-keep k p [] env = (refl, refl)
values-keep k p (n ∷ ns) env = values-keep k (p + 1) ns (declared n (values.Enum k p) 0 env)

length-texts : (ns : List NameTree) → length (map (λ (n : NameTree). n.text) ns) ≡ length ns
length-texts [] = refl
length-texts (n ∷ ns) = ap suc (length-texts ns)

names-have : (names : ℕ → ℕ) (k : ℕ) (ns : List NameTree) (sc : Scope) (env : Environment) (p : ℕ) → ((j : ℕ) → AllBelow (suc k) (field_sorts sc j)) → ((name : Text) (thing : Thing) → lookup sc name ≡ Some thing → Below (suc k) (sort_of thing)) →
    env.parameters ≡ [] → p + length ns ≤ names k → AreOfTheirSorts names sc env → AreOfTheirSorts names (with_enum_names k ns sc) (with_values k p (map (λ (n : NameTree). n.text) ns) env)
names-have names k [] sc env p below things hides room of = of
names-have names k (n ∷ ns) sc env p below things hides room of =
    let v = values.Enum k p in
    let there = scope.declared n.text (enum_name k) sc in
    let F = fields-stay sc n.text (enum_name k) refl in
    let i : Item = record { name = n.text; value = v; declaration = 0 } in
    let o = with-name sc there env (declared n.text v 0 env) names names (suc k) n.text (enum_name k) (λ name. found-behind sc name n.text (enum_name k)) (λ j l. ap (λ f. f j) F) below (λ j l. omega arith) things
    (λ name b. (value-declared env name n.text v 0 hides ∙ ap (λ c. cond c v (value_named name env)) b, item-declared env name n.text v 0 hides ∙ ap (λ c. cond c (Some i) (item_named name env)) b))
    (λ name b. name-named (field_sorts there) names k i (item_named name (declared n.text v 0 env)) (item-declared env name n.text v 0 hides ∙ ap (λ c. cond c (Some i) (item_named name env)) b) (a_name k p (omega (arith, room))))
    (λ j. ap (λ f. are_plain (f j)) F ∙ of.structs j) of in
    names-have names k ns there (declared n.text v 0 env) (p + 1) (λ j. subst (AllBelow (suc k)) (sym (ap (λ f. f j) F)) (below j))
    (λ m other q. found-by (Below (suc k) (sort_of other)) (bytes_eq m n.text) (enum_name k) other (lookup sc m) (sym (found-behind sc m n.text (enum_name k)) ∙ q) (λ b t. subst (λ (x : Thing). Below (suc k) (sort_of x)) (sym t) (omega arith)) (λ b t. things m other t))
    hides (omega (arith, room)) o

listed-are : (before : List Text) (ts : List NameTree) → listed_names before ts ≡ before ++ map (λ (n : NameTree). n.text) ts
listed-are before [] = sym (append-nil before)
listed-are before (t ∷ ts) = listed-are (before ++ t.text ∷ []) ts ∙ append_assoc before (t.text ∷ []) (map (λ (n : NameTree). n.text) ts)

-- the elements of an enumeration are its names
from-have : (fields : ℕ → Sorts) (names : ℕ → ℕ) (k p : ℕ) (ns : List Text) → p + length ns ≤ names k → AllHaveSort fields names (enumeration k) (names_from k p ns)
from-have fields names k p [] l = none_has (enumeration k)
from-have fields names k p (n ∷ ns) l = more_have (enumeration k) (values.Enum k p) (names_from k (suc p) ns) (a_name k p (omega (arith, l))) (from-have fields names k (suc p) ns (omega (arith, l)))

enumeration-has : (fields : ℕ → Sorts) (names : ℕ → ℕ) (k : ℕ) (ns : List Text) → length ns ≤ names k → AllHaveSort fields names (enumeration k) (elements k (values.Names ns))
enumeration-has fields names k ns l = subst (AllHaveSort fields names (enumeration k)) (sym (ap (elements_layer k) (values.outs-Names ns))) (from-have fields names k 0 ns (omega (arith, l)))

-- more of enumerations
grown : (sc : Scope) (env : Environment) (names more : ℕ → ℕ) (k : ℕ) → ((j : ℕ) → AllBelow k (field_sorts sc j)) → ((name : Text) (thing : Thing) → lookup sc name ≡ Some thing → Below k (sort_of thing)) → ((j : ℕ) → j < k → names j ≤ more j) →
    AreOfTheirSorts names sc env → AreOfTheirSorts more sc env
grown sc env names more k below things grow of = record {
  values = λ name thing e d st. has-moves k (field_sorts sc) (field_sorts sc) names more (λ j l. refl) below grow (sort_of thing) (value_named name env) (things name thing e) (of.values name thing e d st);
  arrays = λ name thing is s e d q st. let r = of.arrays name thing is s e d q st in (r.0, r.1, array-moves k (field_sorts sc) (field_sorts sc) names more (λ j l. refl) below grow s r.0.value (subst (Below k) q (things name thing e)) r.2);
  indices = λ name thing s e d q. let r = of.indices name thing s e d q in (r.0, r.1, all-move k (field_sorts sc) (field_sorts sc) names more (λ j l. refl) below grow s (elements r.0.declaration r.0.value) (subst (Below k) q (things name thing e)) r.2);
  kinds = of.kinds;
  structs = of.structs;
}

-- ---- what an enumeration comes to

names-known : (name : Text) (ns : List Text) (d : Data) → (with_names name ns d).known ≡ with_declaration ns [] (with_type name (forms.Enumeration (number_of d.known)) d.known)
unfolding with_names
names-known name ns d = refl

names-environment : (name : Text) (ns : List Text) (d : Data) → (with_names name ns d).environment ≡ declared name (values.Names ns) (number_of d.known) d.environment
unfolding with_names
names-environment name ns d = refl

listed-known : (written : EnumNamesTree) (ns : List Text) (d : Data) → (with_listed written ns d).known ≡ d.known
unfolding with_listed
listed-known written ns d = refl

listed-environment : (written : EnumNamesTree) (ns : List Text) (d : Data) → (with_listed written ns d).environment ≡ with_written (number_of d.known) written ns d.environment
unfolding with_listed
listed-environment written ns d = refl

module _ (position : ℕ → ℕ) (k : ℕ) (sc : Scope) (d : Data) (a : Agrees position k sc d) (small : k < 2 ^ 32) (name : Text) (listed : EnumNamesTree) (ns : List Text) (new : IsNone name (enum_names listed)) (env2 : Environment)
    (hides2 : env2.parameters ≡ []) (placed2 : env2.position ≡ position)
    (of2 : (more : ℕ → ℕ) → length ns ≤ more k → AreOfTheirSorts more sc d.environment → AreOfTheirSorts more (with_enum_names k (enum_names listed) sc) env2) where
  abbrev typed : Known
  typed = with_type name (forms.Enumeration (number_of d.known)) d.known

  abbrev known : Known
  known = with_declaration ns [] typed

  abbrev env3 : Environment
  env3 = declared name (values.Names ns) (number_of d.known) env2

  abbrev there : Scope
  there = with_enum_names k (enum_names listed) (scope.declared name (enum_type k) sc)

  abbrev behind : Scope
  behind = with_enum_names k (enum_names listed) sc

  abbrev turned : Scope
  turned = scope.declared name (enum_type k) behind

  num : number_of d.known ≡ k
  num = number-is position k sc d a small

  F : field_sorts behind ≡ field_sorts sc
  F = names-keep-fields k (enum_names listed) sc

  G : field_sorts turned ≡ field_sorts behind
  G = fields-stay behind name (enum_type k) refl

  H : field_sorts there ≡ field_sorts sc
  H = names-keep-fields k (enum_names listed) (scope.declared name (enum_type k) sc) ∙ fields-stay sc name (enum_type k) refl

  as_many : length typed.enumerations ≡ k
  as_many = ap length (typed-names d.known name (forms.Enumeration (number_of d.known))) ∙ a.as_many_names

  names-are : (j : ℕ) → names_of known j ≡ cond (nat_eq j k) ns (names_of d.known j)
  names-are j = names-behind typed ns [] j ∙ ap (λ (m : ℕ). cond (nat_eq j m) ns (names_of typed j)) as_many ∙ ap (cond (nat_eq j k) ns) (names-typed d.known name (forms.Enumeration (number_of d.known)) j)

  own : N known k ≡ length ns
  own = ap length (names-are k ∙ ap (λ b. cond b ns (names_of d.known k)) (own-number k))

  grow : (j : ℕ) → j < k → N d.known j ≤ N known j
  grow j l = let q = ap length (names-are j ∙ ap (λ b. cond b ns (names_of d.known j)) (other-number j k l)) in omega (arith, q)

  first : AreOfTheirSorts (N known) behind env2
  first = of2 (N known) (omega (arith, own)) (grown sc d.environment (N d.known) (N known) k a.below a.things grow a.of)

  below1 : (j : ℕ) → AllBelow (suc k) (field_sorts behind j)
  below1 j = subst (AllBelow (suc k)) (sym (ap (λ f. f j) F)) (all-below-more k (suc k) (omega arith) (field_sorts sc j) (a.below j))

  things1 : (m : Text) (thing : Thing) → lookup behind m ≡ Some thing → Below (suc k) (sort_of thing)
  things1 m thing e = names-below k (enum_names listed) sc (λ o other q. below-more k (suc k) (omega arith) (sort_of other) (a.things o other q)) m thing e

  abbrev item : Item
  item = record { name = name; value = values.Names ns; declaration = number_of d.known }

  second : AreOfTheirSorts (N known) turned env3
  second = with-name behind turned env2 env3 (N known) (N known) (suc k) name (enum_type k) (λ m. found-behind behind m name (enum_type k)) (λ j l. ap (λ f. f j) G) below1 (λ j l. omega arith) things1
      (λ m b. (value-declared env2 m name (values.Names ns) (number_of d.known) hides2 ∙ ap (λ c. cond c (values.Names ns) (value_named m env2)) b, item-declared env2 m name (values.Names ns) (number_of d.known) hides2 ∙ ap (λ c. cond c (Some item) (item_named m env2)) b))
      (λ m b. enumeration-named (field_sorts turned) (N known) k item (item_named m env3) (item-declared env2 m name (values.Names ns) (number_of d.known) hides2 ∙ ap (λ c. cond c (Some item) (item_named m env2)) b)
      (subst (λ (n : ℕ). AllHaveSort (field_sorts turned) (N known) (enumeration k) (elements n (values.Names ns))) (sym num) (enumeration-has (field_sorts turned) (N known) k ns (omega (arith, own)))))
      (λ j. ap (λ f. are_plain (f j)) G ∙ first.structs j) first

  third : AreOfTheirSorts (N known) there env3
  third = same-names (N known) turned there env3 (λ m. name-last k name (enum_type k) (enum_names listed) sc new m) (H ∙ sym (G ∙ F)) second

  types-are : (m : Text) (s : Sort) → type_of (lookup there m) ≡ Some s → IsFormOf (form_named known m) s × Below (suc k) s
  types-are m s e =
      let f = form-same typed ns [] m ∙ form-typed d.known name (forms.Enumeration (number_of d.known)) m a.as_many_forms in
      type-by (bytes_eq m name) (enum_type k) (lookup sc m) s (IsFormOf (form_named known m) s × Below (suc k) s) (sym (ap type_of (found-behind sc m name (enum_type k))) ∙ names-no-types k (enum_names listed) (scope.declared name (enum_type k) sc) m s e)
      (λ b g. let q = some_same (enumeration k) s g in
      (subst (λ (z : Form). IsFormOf z s) (sym (f ∙ ap (λ c. cond c (forms.Enumeration (number_of d.known)) (form_named d.known m)) b ∙ ap forms.Enumeration num)) (subst (IsFormOf (forms.Enumeration k)) q (of_names k)), subst (Below (suc k)) q (omega arith)))
      (λ b g. let o = old-types k sc d.known a.types m s g in (subst (λ (z : Form). IsFormOf z s) (sym (f ∙ ap (λ c. cond c (forms.Enumeration (number_of d.known)) (form_named d.known m)) b)) o.0, o.1))

  fields-are : (j : ℕ) → fields_of known j ≡ fields_of d.known j
  fields-are j = fields-same typed ns j ∙ fields-typed d.known name (forms.Enumeration (number_of d.known)) j

  pub names-agree : (e : Data) → e.known ≡ known → e.environment ≡ env3 → Agrees position (suc k) there e
  names-agree e is v = record {
    hides = ap (λ (z : Environment). z.parameters) v ∙ hides2;
    placed = ap (λ (z : Environment). z.position) v ∙ placed2;
    as_many = ap (λ (z : Known). length z.fields) is ∙ fields-count typed ns [] ∙ ap suc (ap length (typed-fields d.known name (forms.Enumeration (number_of d.known))) ∙ a.as_many);
    as_many_names = ap (λ (z : Known). length z.enumerations) is ∙ names-count typed ns [] ∙ ap suc as_many;
    as_many_forms = ap (λ (z : Known). length z.names) is ∙ forms-count typed ns [] (typed-forms d.known name (forms.Enumeration (number_of d.known)) a.as_many_forms) ∙ sym (ap (λ (z : Known). length z.forms) is);
    types = λ m s q. let r = types-are m s q in (subst (λ (z : Known). IsFormOf (form_named z m) s) (sym is) r.0, r.1);
    structs = λ j. subst (λ (z : Known). AreFormsOf (fields_of z j) (field_sorts there j)) (sym is) (subst (λ gs. AreFormsOf gs (field_sorts there j)) (sym (fields-are j)) (subst (λ (f : ℕ → Sorts). AreFormsOf (fields_of d.known j) (f j)) (sym H) (a.structs j)));
    below = λ j. subst (AllBelow (suc k)) (sym (ap (λ f. f j) H)) (all-below-more k (suc k) (omega arith) (field_sorts sc j) (a.below j));
    things = λ m thing q. names-below k (enum_names listed) (scope.declared name (enum_type k) sc)
        (λ o other g. found-by (Below (suc k) (sort_of other)) (bytes_eq o name) (enum_type k) other (lookup sc o) (sym (found-behind sc o name (enum_type k)) ∙ g) (λ b t. subst (λ (x : Thing). Below (suc k) (sort_of x)) (sym t) (omega arith)) (λ b t. below-more k (suc k) (omega arith) (sort_of other) (a.things o other t))) m thing q;
    of = subst (λ (z : Known). AreOfTheirSorts (N z) there e.environment) (sym is) (subst (AreOfTheirSorts (N known) there) (sym v) third);
  }

module _ (position : ℕ → ℕ) (k : ℕ) (sc : Scope) (d : Data) (a : Agrees position k sc d) (small : k < 2 ^ 32) where
  below0 : (j : ℕ) → AllBelow (suc k) (field_sorts sc j)
  below0 j = all-below-more k (suc k) (omega arith) (field_sorts sc j) (a.below j)

  things0 : (m : Text) (thing : Thing) → lookup sc m ≡ Some thing → Below (suc k) (sort_of thing)
  things0 m thing e = below-more k (suc k) (omega arith) (sort_of thing) (a.things m thing e)

  -- the names that the model lists
  pub listed-step : (given : Given) (name : Text) (listed : EnumNamesTree) (ns : List Text) → IsNone name (enum_names listed) → enumeration_names given name listed ≡ Ok ns →
      Agrees position (suc k) (with_enum_names k (enum_names listed) (scope.declared name (enum_type k) sc)) (with_names name ns (with_listed listed ns d))
  listed-step given name (enum_trees.Listed at first rest) ns new e =
      let listed = enum_trees.Listed at first rest in
      let texts = sym (same_ok (listed_names [] (first ∷ rest)) ns e) ∙ listed-are [] (first ∷ rest) in
      let env2 = with_values k 0 ns d.environment in
      let keep = values-keep k 0 ns d.environment in
      let num = number-is position k sc d a small in
      names-agree position k sc d a small name listed ns new env2 (keep.0 ∙ a.hides) (keep.1 ∙ a.placed)
      (λ more room of. subst (λ (ts : List Text). AreOfTheirSorts more (with_enum_names k (first ∷ rest) sc) (with_values k 0 ts d.environment)) (sym texts)
      (names-have more k (first ∷ rest) sc d.environment 0 below0 things0 a.hides (let q = ap length texts in let r = length-texts (first ∷ rest) in omega (arith, q, r, room)) of))
      (with_names name ns (with_listed listed ns d)) (names-known name ns (with_listed listed ns d) ∙ ap (λ (z : Known). with_declaration ns [] (with_type name (forms.Enumeration (number_of z)) z)) (listed-known listed ns d))
      (names-environment name ns (with_listed listed ns d) ∙ ap (λ (z : Known). declared name (values.Names ns) (number_of z) (with_listed listed ns d).environment) (listed-known listed ns d)
      ∙ ap (declared name (values.Names ns) (number_of d.known)) (listed-environment listed ns d ∙ ap (λ (n : ℕ). with_values n 0 ns d.environment) num))
  listed-step given name (enum_trees.External at has_sign) ns new e =
      let listed = enum_trees.External at has_sign in
      names-agree position k sc d a small name listed ns new d.environment a.hides a.placed (λ more room of. of)
      (with_names name ns (with_listed listed ns d)) (names-known name ns (with_listed listed ns d) ∙ ap (λ (z : Known). with_declaration ns [] (with_type name (forms.Enumeration (number_of z)) z)) (listed-known listed ns d))
      (names-environment name ns (with_listed listed ns d) ∙ ap (λ (z : Known). declared name (values.Names ns) (number_of z) (with_listed listed ns d).environment) (listed-known listed ns d)
      ∙ ap (declared name (values.Names ns) (number_of d.known)) (listed-environment listed ns d))

  pub enumeration-step : (given : Given) (os : List Override) (t : EnumTree) (then_known : Scope) (e : Data) → Declares k sc (decls.Enumeration t) then_known → with_decl given os (decls.Enumeration t) d ≡ Ok e → Agrees position (suc k) then_known e
  enumeration-step given os t then_known e h m =
      let w = went_first (enumeration_names given t.name.text t.names) (λ ns. Ok (with_names t.name.text ns (with_listed t.names ns d))) e m in
      let r = listed-step given t.name.text t.names w.0 h.0.1 w.1 in
      subst (λ (z : Scope). Agrees position (suc k) z e) (sym h.1) (subst (Agrees position (suc k) (with_enum_names k (enum_names t.names) (scope.declared t.name.text (enum_type k) sc))) (same_ok _ e w.2) r)
