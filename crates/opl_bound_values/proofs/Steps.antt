-- One more declaration: what it comes to agrees with what typing knows of it.
use Rattle.std.proofs.Common.{◌≡◌, ◌<◌, ◌^◌, ℕ, suc, ℤ, Bool, true, false, cond, List, [], ◌∷◌, ◌++◌, length, map, Option, None, Some, Ok, refl, sym, ap, subst, ◌∙◌, arith, length-append, append_assoc, append-nil}
use Rattle.std.specs.Prelude.{bytes_eq, nat_eq}
use Rattle.opl_tree.specs.declared.declaration.DataDeclTree.{DataDeclTree}
use Rattle.opl_tree.specs.declared.declaration.DeclTree.TheVariants as decls
use Rattle.opl_tree.specs.declared.declaration.FieldTree.{FieldTree}
use Rattle.opl_tree.specs.declared.declaration.RangeTree.{RangeTree}
use Rattle.opl_tree.specs.declared.declaration.StructTree.{StructTree}
use Rattle.opl_type_rules.specs.Types.{Sort, Sorts, sorts_of}
use Rattle.opl_type_rules.specs.Types.Sort.{int, structure}
use Rattle.opl_type_rules.specs.Scope as scope
use Rattle.opl_type_rules.specs.Scope.{Field, Scope, Text, Thing, empty_scope, field_sorts, is_decided, lookup, sort_of, type_of}
use Rattle.opl_type_rules.specs.Scope.Thing.{range, enum_type, enum_name, struct_type, value, variable, activities, resource}
use Rattle.opl_declaration_types.specs.Declarations.{shaped}
use Rattle.opl_typed_model.specs.Declares.{Declares, HaveFields}
use Rattle.opl_value.specs.declared.value.Value.{Value}
use Rattle.opl_value.specs.declared.value.Value.TheVariants as values
use Rattle.opl_eval.specs.Evaluation.{Environment, Item, declared, item_named, value_named}
use Rattle.opl_typed_values.specs.OfSort.{are_plain}
use Rattle.opl_typed_values.proofs.Fitting.{some_same}
use Rattle.opl_typed_values.proofs.Sound.{range-has}
use Rattle.opl_given.specs.declared.assigned.Override.{Override}
use Rattle.opl_given.specs.declared.form.Form.{Form}
use Rattle.opl_given.specs.declared.form.Form.TheVariants as forms
use Rattle.opl_given.specs.Forms.{Known, field_forms, fields_of, form_named, form_of, names_of, number_of, with_declaration, with_struct, with_type}
use Rattle.opl_given.specs.Given.{Given}
use Rattle.opl_given.proofs.CellLaws.{same_ok, went_first}
use Rattle.opl_bind.specs.Bind.{Data, item_value, with_decl, with_ends, with_known, with_value}
use Rattle.opl_fit.specs.Typed.{AreFormsOf, IsFormOf, StructsAgree, no_form, of_range, of_records, one_form}
use Rattle.opl_fit.proofs.TypedValues.{forms-plain}
use Rattle.opl_bound_values.specs.Suits.{ItemSuits}
use Rattle.opl_bound_values.proofs.Agreement.{Agrees, N, item-has-form, item-named, range-named, struct-named}
use Rattle.opl_bound_values.proofs.KnownTypes.{TypesAgree, fields-behind, fields-same, fields-typed, form-same, form-typed, names-same, names-typed, other-number, type-form}
use Rattle.opl_bound_values.proofs.Moves.{AllBelow, Below, all-below-more, below-more}
use Rattle.opl_bound_values.proofs.OneName.{IsNamed, found-behind, found-by, item-declared, value-declared, with-name}

-- ---- structs in scopes

abbrev is_struct : Thing → Bool
is_struct (struct_type k fs) = true
is_struct thing = false

pub fields-stay : (sc : Scope) (name : Text) (thing : Thing) → is_struct thing ≡ false → field_sorts (scope.declared name thing sc) ≡ field_sorts sc
unfolding field_sorts scope.fields scope.declared
fields-stay sc name range h = refl
fields-stay sc name (enum_type k) h = refl
fields-stay sc name (enum_name k) h = refl
fields-stay sc name (struct_type k fs) h = absurd (cc)
fields-stay sc name (value s) h = refl
fields-stay sc name (variable s) h = refl
fields-stay sc name (activities s) h = refl
fields-stay sc name (resource s) h = refl

sorts-by : (b : Bool) (fs gs : List Field) → sorts_of (map (λ (f : Field). f.sort) (cond b fs gs)) ≡ cond b (sorts_of (map (λ (f : Field). f.sort) fs)) (sorts_of (map (λ (f : Field). f.sort) gs))
sorts-by true fs gs = refl
sorts-by false fs gs = refl

fields-new : (sc : Scope) (name : Text) (k : ℕ) (fs : List Field) (j : ℕ) → field_sorts (scope.declared name (struct_type k fs) sc) j ≡ cond (nat_eq j k) (sorts_of (map (λ (f : Field). f.sort) fs)) (field_sorts sc j)
unfolding field_sorts scope.fields scope.declared
fields-new sc name k fs j = sorts-by (nat_eq j k) fs (scope.fields_among j sc.entries)

-- the name of a type
pub type-by : (b : Bool) (thing : Thing) (o : Option Thing) (s : Sort) (P : Type 0) → type_of (cond b (Some thing) o) ≡ Some s → (b ≡ true → type_of (Some thing) ≡ Some s → P) → (b ≡ false → type_of o ≡ Some s → P) → P
type-by true thing o s P e new old = new refl e
type-by false thing o s P e new old = old refl e

all-more : (k : ℕ) (F G : ℕ → Sorts) → F ≡ G → ((j : ℕ) → AllBelow k (G j)) → (j : ℕ) → AllBelow (suc k) (F j)
all-more k F G e h j = subst (AllBelow (suc k)) (sym (ap (λ f. f j) e)) (all-below-more k (suc k) (omega arith) (G j) (h j))

pub fields-count : (known : Known) (ns : List Text) (fs : List Form) → length (with_declaration ns fs known).fields ≡ suc (length known.fields)
unfolding with_declaration
fields-count known ns fs = length-append known.fields (fs ∷ []) ∙ omega arith

pub names-count : (known : Known) (ns : List Text) (fs : List Form) → length (with_declaration ns fs known).enumerations ≡ suc (length known.enumerations)
unfolding with_declaration
names-count known ns fs = length-append known.enumerations (ns ∷ []) ∙ omega arith

pub forms-count : (known : Known) (ns : List Text) (fs : List Form) → length known.names ≡ length known.forms → length (with_declaration ns fs known).names ≡ length (with_declaration ns fs known).forms
unfolding with_declaration
forms-count known ns fs h = h

-- ---- one more name that is no struct, where no enumeration is declared

module _ (position : ℕ → ℕ) (k : ℕ) (sc : Scope) (d : Data) (a : Agrees position k sc d) where
  abbrev Stay : Scope → Data → Type 0
  Stay there e = Agrees position (suc k) there e

  one-name : (e : Data) (text : Text) (thing : Thing) (known : Known) → is_struct thing ≡ false → e.known ≡ with_declaration [] [] known → ((j : ℕ) → names_of known j ≡ names_of d.known j) → ((j : ℕ) → fields_of known j ≡ fields_of d.known j) →
      length known.fields ≡ k → length known.enumerations ≡ k → length known.names ≡ length known.forms → e.environment.parameters ≡ [] → e.environment.position ≡ position →
      ((name : Text) (s : Sort) → type_of (cond (bytes_eq name text) (Some thing) (lookup sc name)) ≡ Some s → IsFormOf (form_named known name) s × Below (suc k) s) → Below (suc k) (sort_of thing) →
      ((name : Text) → bytes_eq name text ≡ false → (value_named name e.environment ≡ value_named name d.environment) × (item_named name e.environment ≡ item_named name d.environment)) →
      ((name : Text) → bytes_eq name text ≡ true → IsNamed (field_sorts sc) (N d.known) thing (item_named name e.environment)) → Stay (scope.declared text thing sc) e
  one-name e text thing known plain is same_names same_fields count names_count forms_count hides placed types low keeps new = record {
    hides = hides;
    placed = placed;
    as_many = ap (λ (x : Known). length x.fields) is ∙ fields-count known [] [] ∙ ap suc count;
    as_many_names = ap (λ (x : Known). length x.enumerations) is ∙ names-count known [] [] ∙ ap suc names_count;
    as_many_forms = ap (λ (x : Known). length x.names) is ∙ forms-count known [] [] forms_count ∙ sym (ap (λ (x : Known). length x.forms) is);
    types = λ name s h. let r = types name s (sym (ap type_of (found-behind sc name text thing)) ∙ h) in (subst (λ (f : Form). IsFormOf f s) (sym (ap (λ (x : Known). form_named x name) is ∙ form-same known [] [] name)) r.0, r.1);
    structs = λ j. subst (λ (fs : List Form). AreFormsOf fs (field_sorts (scope.declared text thing sc) j)) (sym (fields-are j)) (subst (λ (f : ℕ → Sorts). AreFormsOf (fields_of d.known j) (f j)) (sym F) (a.structs j));
    below = all-more k (field_sorts (scope.declared text thing sc)) (field_sorts sc) F a.below;
    things = λ name other h. found-by (Below (suc k) (sort_of other)) (bytes_eq name text) thing other (lookup sc name) (sym (found-behind sc name text thing) ∙ h) (λ b t. subst (λ (x : Thing). Below (suc k) (sort_of x)) (sym t) low)
        (λ b t. below-more k (suc k) (omega arith) (sort_of other) (a.things name other t));
    of = with-name sc (scope.declared text thing sc) d.environment e.environment (N d.known) (N e.known) k text thing (λ name. found-behind sc name text thing) (λ j l. ap (λ f. f j) F) a.below (λ j l. let q = ap length (names-are j) in omega (arith, q)) a.things keeps
        (λ name b. subst (λ (f : ℕ → Sorts). IsNamed f (N e.known) thing (item_named name e.environment)) (sym F) (subst (λ (g : ℕ → ℕ). IsNamed (field_sorts sc) g thing (item_named name e.environment)) (sym same_counts) (new name b))) (λ j. ap (λ f. are_plain (f j)) F ∙ a.of.structs j) a.of;
  }
    where
      F : field_sorts (scope.declared text thing sc) ≡ field_sorts sc
      F = fields-stay sc text thing plain

      names-are : (j : ℕ) → names_of e.known j ≡ names_of d.known j
      names-are j = ap (λ (x : Known). names_of x j) is ∙ names-same known [] j ∙ same_names j

      fields-are : (j : ℕ) → fields_of e.known j ≡ fields_of d.known j
      fields-are j = ap (λ (x : Known). fields_of x j) is ∙ fields-same known [] j ∙ same_fields j

      same_counts : N e.known ≡ N d.known
      same_counts = λ i. λ j. ap length (names-are j) i

-- ---- what each declaration comes to

value-known : (name : Text) (v : Value) (d : Data) → (with_value name v d).known ≡ with_declaration [] [] d.known
unfolding with_value
value-known name v d = refl

value-environment : (name : Text) (v : Value) (d : Data) → (with_value name v d).environment ≡ declared name v 0 d.environment
unfolding with_value
value-environment name v d = refl

ends-known : (name : Text) (low high : ℤ) (d : Data) → (with_ends name low high d).known ≡ with_declaration [] [] (with_type name (forms.Range low high) d.known)
unfolding with_ends
ends-known name low high d = refl

ends-environment : (name : Text) (low high : ℤ) (d : Data) → (with_ends name low high d).environment ≡ declared name (values.Range low high) 0 d.environment
unfolding with_ends
ends-environment name low high d = refl

pub known-known : (known : Known) (d : Data) → (with_known known d).known ≡ known
unfolding with_known
known-known known d = refl

pub known-environment : (known : Known) (d : Data) → (with_known known d).environment ≡ d.environment
unfolding with_known
known-environment known d = refl

pub typed-fields : (known : Known) (name : Text) (form : Form) → (with_type name form known).fields ≡ known.fields
unfolding with_type
typed-fields known name form = refl

pub typed-names : (known : Known) (name : Text) (form : Form) → (with_type name form known).enumerations ≡ known.enumerations
unfolding with_type
typed-names known name form = refl

pub typed-forms : (known : Known) (name : Text) (form : Form) → length known.names ≡ length known.forms → length (with_type name form known).names ≡ length (with_type name form known).forms
unfolding with_type
typed-forms known name form h = let x = length-append known.names (name ∷ []) in let y = length-append known.forms (form ∷ []) in omega (arith, h, x, y)

pub old-types : (k : ℕ) (sc : Scope) (known : Known) → TypesAgree k sc known → (name : Text) (s : Sort) → type_of (lookup sc name) ≡ Some s → IsFormOf (form_named known name) s × Below (suc k) s
old-types k sc known h name s e = let r = h name s e in (r.0, below-more k (suc k) (omega arith) s r.1)

pub shaped-below : (k : ℕ) (is : List Sort) (s : Sort) → Below k s → Below k (shaped is s)
shaped-below k [] s h = h
shaped-below k (i ∷ is) s h = h

module _ (position : ℕ → ℕ) (k : ℕ) (sc : Scope) (d : Data) (a : Agrees position k sc d) where
  -- a name with an item
  kept : (name text : Text) (v : Value) (dcl : ℕ) → bytes_eq name text ≡ false → (value_named name (declared text v dcl d.environment) ≡ value_named name d.environment) × (item_named name (declared text v dcl d.environment) ≡ item_named name d.environment)
  kept name text v dcl b =
      (value-declared d.environment name text v dcl a.hides ∙ ap (λ c. cond c v (value_named name d.environment)) b, item-declared d.environment name text v dcl a.hides ∙ ap (λ c. cond c (Some (record { name = text; value = v; declaration = dcl })) (item_named name d.environment)) b)

  there-is : (name text : Text) (v : Value) (dcl : ℕ) → bytes_eq name text ≡ true → item_named name (declared text v dcl d.environment) ≡ Some (record { name = text; value = v; declaration = dcl })
  there-is name text v dcl b = item-declared d.environment name text v dcl a.hides ∙ ap (λ c. cond c (Some (record { name = text; value = v; declaration = dcl })) (item_named name d.environment)) b

  no-type : (text : Text) (thing : Thing) → type_of (Some thing) ≡ None → (name : Text) (s : Sort) → type_of (cond (bytes_eq name text) (Some thing) (lookup sc name)) ≡ Some s → IsFormOf (form_named d.known name) s × Below (suc k) s
  no-type text thing n name s h =
      type-by (bytes_eq name text) thing (lookup sc name) s (IsFormOf (form_named d.known name) s × Below (suc k) s) h (λ b t. absurd (let x = sym n ∙ t in cc)) (λ b t. old-types k sc d.known a.types name s t)

  pub data-step : (given : Given) (os : List Override) (t : DataDeclTree) (there : Scope) (e : Data) → Declares k sc (decls.Data t) there → ItemSuits position os sc t → with_decl given os (decls.Data t) d ≡ Ok e → Agrees position (suc k) there e
  data-step given os t there e h c m =
      let w = went_first (item_value given os t d) (λ v. Ok (with_value t.name.text v d)) e m in
      let f = item-has-form position k sc d a given os t h.0 h.1 h.2 w.0 h.3 h.5 h.6 c w.1 in
      let y = type-form k sc d.known a.types t.kind h.0 h.3 in
      let x = with_value t.name.text w.0 d in
      let v = value-environment t.name.text w.0 d in
      let thing = value (shaped h.1 h.0) in
      let r = one-name position k sc d a x t.name.text thing d.known refl (value-known t.name.text w.0 d) (λ j. refl) (λ j. refl) a.as_many a.as_many_names a.as_many_forms (ap (λ (z : Environment). z.parameters) v ∙ a.hides) (ap (λ (z : Environment). z.position) v ∙ a.placed)
      (no-type t.name.text thing refl) (shaped-below (suc k) h.1 h.0 (below-more k (suc k) (omega arith) h.0 y.1))
      (λ name b. subst (λ (z : Environment). (value_named name z ≡ value_named name d.environment) × (item_named name z ≡ item_named name d.environment)) (sym v) (kept name t.name.text w.0 0 b))
      (λ name b. item-named position k sc d a (form_of t.kind d.known) h.0 t.dims h.1 (record { name = t.name.text; value = w.0; declaration = 0 }) (item_named name x.environment) y.0 h.5.1 f (ap (item_named name) v ∙ there-is name t.name.text w.0 0 b)) in
      subst (λ (z : Scope). Agrees position (suc k) z e) (sym h.7) (subst (Agrees position (suc k) (scope.declared t.name.text thing sc)) (same_ok x e w.2) r)

  pub range-step : (t : RangeTree) (there : Scope) (low high : ℤ) → there ≡ scope.declared t.name.text range sc → Agrees position (suc k) there (with_ends t.name.text low high d)
  range-step t there low high h =
      let x = with_ends t.name.text low high d in
      let known = with_type t.name.text (forms.Range low high) d.known in
      let v = ends-environment t.name.text low high d in
      let r = one-name position k sc d a x t.name.text range known refl (ends-known t.name.text low high d) (λ j. names-typed d.known t.name.text (forms.Range low high) j) (λ j. fields-typed d.known t.name.text (forms.Range low high) j)
      (ap length (typed-fields d.known t.name.text (forms.Range low high)) ∙ a.as_many) (ap length (typed-names d.known t.name.text (forms.Range low high)) ∙ a.as_many_names) (typed-forms d.known t.name.text (forms.Range low high) a.as_many_forms)
      (ap (λ (z : Environment). z.parameters) v ∙ a.hides) (ap (λ (z : Environment). z.position) v ∙ a.placed) (types t low high) tt
      (λ name b. subst (λ (z : Environment). (value_named name z ≡ value_named name d.environment) × (item_named name z ≡ item_named name d.environment)) (sym v) (kept name t.name.text (values.Range low high) 0 b))
      (λ name b. range-named (field_sorts sc) (N d.known) (record { name = t.name.text; value = values.Range low high; declaration = 0 }) (item_named name x.environment) (ap (item_named name) v ∙ there-is name t.name.text (values.Range low high) 0 b)
      (range-has (field_sorts sc) (N d.known) 0 low high)) in
      subst (λ (z : Scope). Agrees position (suc k) z x) (sym h) r
    where
      types : (u : RangeTree) (l m : ℤ) (name : Text) (s : Sort) → type_of (cond (bytes_eq name u.name.text) (Some range) (lookup sc name)) ≡ Some s → IsFormOf (form_named (with_type u.name.text (forms.Range l m) d.known) name) s × Below (suc k) s
      types u l m name s q =
          let f = form-typed d.known u.name.text (forms.Range l m) name a.as_many_forms in
          type-by (bytes_eq name u.name.text) range (lookup sc name) s (IsFormOf (form_named (with_type u.name.text (forms.Range l m) d.known) name) s × Below (suc k) s) q
          (λ b g. let e = some_same int s g in (subst (λ (z : Form). IsFormOf z s) (sym (f ∙ ap (λ c. cond c (forms.Range l m) (form_named d.known name)) b)) (subst (IsFormOf (forms.Range l m)) e (of_range l m)), subst (Below (suc k)) e tt))
          (λ b g. let r = old-types k sc d.known a.types name s g in (subst (λ (z : Form). IsFormOf z s) (sym (f ∙ ap (λ c. cond c (forms.Range l m) (form_named d.known name)) b)) r.0, r.1))

  -- decisions and resources have no items
  pub other-step : (text : Text) (thing : Thing) (there : Scope) → is_struct thing ≡ false → type_of (Some thing) ≡ None → Below (suc k) (sort_of thing) → ((o : Option Item) → IsNamed (field_sorts sc) (N d.known) thing o) → there ≡ scope.declared text thing sc →
      Agrees position (suc k) there (with_known (with_declaration [] [] d.known) d)
  other-step text thing there plain n low new h =
      let known = with_declaration [] [] d.known in
      let x = with_known known d in
      let v = known-environment known d in
      let r = one-name position k sc d a x text thing d.known plain (known-known known d) (λ j. refl) (λ j. refl) a.as_many a.as_many_names a.as_many_forms (ap (λ (z : Environment). z.parameters) v ∙ a.hides) (ap (λ (z : Environment). z.position) v ∙ a.placed)
      (no-type text thing n) low (λ name b. (ap (value_named name) v, ap (item_named name) v)) (λ name b. new (item_named name x.environment)) in
      subst (λ (z : Scope). Agrees position (suc k) z x) (sym h) r

  -- ---- structs

  pub number-is : k < 2 ^ 32 → number_of d.known ≡ k
  unfolding number_of
  number-is small = let n = a.as_many in omega (arith, small, n)

  fields-have-forms : (ts : List FieldTree) (before : List Form) (fs : List Field) → HaveFields sc ts fs → (rest : List Form) × (field_forms before ts d.known ≡ before ++ rest) × AreFormsOf rest (sorts_of (map (λ (f : Field). f.sort) fs)) × AllBelow k (sorts_of (map (λ (f : Field). f.sort) fs))
  fields-have-forms [] before fs h =
      ([], sym (append-nil before), subst (λ (gs : List Field). AreFormsOf [] (sorts_of (map (λ (f : Field). f.sort) gs))) (sym h) no_form, subst (λ (gs : List Field). AllBelow k (sorts_of (map (λ (f : Field). f.sort) gs))) (sym h) tt)
  fields-have-forms (t ∷ ts) before fs h =
      let y = type-form k sc d.known a.types t.kind h.0 h.2 in
      let r = fields-have-forms ts (before ++ form_of t.kind d.known ∷ []) h.1 h.3 in (
        form_of t.kind d.known ∷ r.0,
        r.1 ∙ append_assoc before (form_of t.kind d.known ∷ []) r.0,
        subst (λ (gs : List Field). AreFormsOf (form_of t.kind d.known ∷ r.0) (sorts_of (map (λ (f : Field). f.sort) gs))) (sym h.4) (one_form (form_of t.kind d.known) h.0 r.0 (sorts_of (map (λ (f : Field). f.sort) h.1)) y.0 r.2),
        subst (λ (gs : List Field). AllBelow k (sorts_of (map (λ (f : Field). f.sort) gs))) (sym h.4) (y.1, r.3),
      )

  pub struct-step : (t : StructTree) (fs : List Field) (there : Scope) → k < 2 ^ 32 → HaveFields sc (t.first ∷ t.rest) fs → there ≡ scope.declared t.name.text (struct_type k fs) sc → Agrees position (suc k) there (with_known (with_struct t d.known) d)
  struct-step t fs there small h n = subst (λ (z : Scope). Agrees position (suc k) z x) (sym n) here
    where
      made : List Form
      made = field_forms [] (t.first ∷ t.rest) d.known

      typed : Known
      typed = with_type t.name.text (forms.Struct (number_of d.known)) d.known

      known : Known
      known = with_declaration [] made typed

      x : Data
      x = with_known (with_struct t d.known) d

      S : Scope
      S = scope.declared t.name.text (struct_type k fs) sc

      is : x.known ≡ known
      is = known-known (with_struct t d.known) d

      v : x.environment ≡ d.environment
      v = known-environment (with_struct t d.known) d

      num : number_of d.known ≡ k
      num = number-is small

      r : (rest : List Form) × (field_forms [] (t.first ∷ t.rest) d.known ≡ [] ++ rest) × AreFormsOf rest (sorts_of (map (λ (f : Field). f.sort) fs)) × AllBelow k (sorts_of (map (λ (f : Field). f.sort) fs))
      r = fields-have-forms (t.first ∷ t.rest) [] fs h

      made-forms : AreFormsOf made (sorts_of (map (λ (f : Field). f.sort) fs))
      made-forms = subst (λ (gs : List Form). AreFormsOf gs (sorts_of (map (λ (f : Field). f.sort) fs))) (sym r.1) r.2

      names-are : (j : ℕ) → names_of x.known j ≡ names_of d.known j
      names-are j = ap (λ (z : Known). names_of z j) is ∙ names-same typed made j ∙ names-typed d.known t.name.text (forms.Struct (number_of d.known)) j

      same_counts : N x.known ≡ N d.known
      same_counts = λ i. λ j. ap length (names-are j) i

      count : length typed.fields ≡ k
      count = ap length (typed-fields d.known t.name.text (forms.Struct (number_of d.known))) ∙ a.as_many

      fields-are : (j : ℕ) → fields_of x.known j ≡ cond (nat_eq j k) made (fields_of d.known j)
      fields-are j = ap (λ (z : Known). fields_of z j) is ∙ fields-behind typed [] made j ∙ ap (λ (m : ℕ). cond (nat_eq j m) made (fields_of typed j)) count ∙ ap (cond (nat_eq j k) made) (fields-typed d.known t.name.text (forms.Struct (number_of d.known)) j)

      forms-by : (b : Bool) (j : ℕ) → AreFormsOf (cond b made (fields_of d.known j)) (cond b (sorts_of (map (λ (f : Field). f.sort) fs)) (field_sorts sc j))
      forms-by true j = made-forms
      forms-by false j = a.structs j

      agree : StructsAgree x.known S
      agree j = subst (λ (gs : List Form). AreFormsOf gs (field_sorts S j)) (sym (fields-are j)) (subst (AreFormsOf (cond (nat_eq j k) made (fields_of d.known j))) (sym (fields-new sc t.name.text k fs j)) (forms-by (nat_eq j k) j))

      below-by : (b : Bool) (j : ℕ) → AllBelow (suc k) (cond b (sorts_of (map (λ (f : Field). f.sort) fs)) (field_sorts sc j))
      below-by true j = all-below-more k (suc k) (omega arith) (sorts_of (map (λ (f : Field). f.sort) fs)) r.3
      below-by false j = all-below-more k (suc k) (omega arith) (field_sorts sc j) (a.below j)

      same : (j : ℕ) → j < k → field_sorts S j ≡ field_sorts sc j
      same j l = fields-new sc t.name.text k fs j ∙ ap (λ b. cond b (sorts_of (map (λ (f : Field). f.sort) fs)) (field_sorts sc j)) (other-number j k l)

      types-are : (name : Text) (s : Sort) → type_of (lookup S name) ≡ Some s → IsFormOf (form_named x.known name) s × Below (suc k) s
      types-are name s q =
          let f = ap (λ (z : Known). form_named z name) is ∙ form-same typed [] made name ∙ form-typed d.known t.name.text (forms.Struct (number_of d.known)) name a.as_many_forms in
          type-by (bytes_eq name t.name.text) (struct_type k fs) (lookup sc name) s (IsFormOf (form_named x.known name) s × Below (suc k) s) (sym (ap type_of (found-behind sc name t.name.text (struct_type k fs))) ∙ q)
          (λ b g. let e = some_same (structure k) s g in
          (subst (λ (z : Form). IsFormOf z s) (sym (f ∙ ap (λ c. cond c (forms.Struct (number_of d.known)) (form_named d.known name)) b ∙ ap forms.Struct num)) (subst (IsFormOf (forms.Struct k)) e (of_records k)), subst (Below (suc k)) e (omega arith)))
          (λ b g. let o = old-types k sc d.known a.types name s g in (subst (λ (z : Form). IsFormOf z s) (sym (f ∙ ap (λ c. cond c (forms.Struct (number_of d.known)) (form_named d.known name)) b)) o.0, o.1))

      here : Agrees position (suc k) S x
      here = record {
        hides = ap (λ (z : Environment). z.parameters) v ∙ a.hides;
        placed = ap (λ (z : Environment). z.position) v ∙ a.placed;
        as_many = ap (λ (z : Known). length z.fields) is ∙ fields-count typed [] made ∙ ap suc count;
        as_many_names = ap (λ (z : Known). length z.enumerations) is ∙ names-count typed [] made ∙ ap suc (ap length (typed-names d.known t.name.text (forms.Struct (number_of d.known))) ∙ a.as_many_names);
        as_many_forms = ap (λ (z : Known). length z.names) is ∙ forms-count typed [] made (typed-forms d.known t.name.text (forms.Struct (number_of d.known)) a.as_many_forms) ∙ sym (ap (λ (z : Known). length z.forms) is);
        types = types-are;
        structs = agree;
        below = λ j. subst (AllBelow (suc k)) (sym (fields-new sc t.name.text k fs j)) (below-by (nat_eq j k) j);
        things = λ name other q. found-by (Below (suc k) (sort_of other)) (bytes_eq name t.name.text) (struct_type k fs) other (lookup sc name) (sym (found-behind sc name t.name.text (struct_type k fs)) ∙ q) (λ b g. subst (λ (z : Thing). Below (suc k) (sort_of z)) (sym g) tt)
            (λ b g. below-more k (suc k) (omega arith) (sort_of other) (a.things name other g));
        of = with-name sc S d.environment x.environment (N d.known) (N x.known) k t.name.text (struct_type k fs) (λ name. found-behind sc name t.name.text (struct_type k fs)) same a.below (λ j l. let q = ap length (names-are j) in omega (arith, q)) a.things
            (λ name b. (ap (value_named name) v, ap (item_named name) v)) (λ name b. struct-named (field_sorts S) (N x.known) k fs (item_named name x.environment)) (λ j. forms-plain (fields_of x.known j) (field_sorts S j) (agree j)) a.of;
      }
