-- What the declarations so far come to agrees with what typing knows of them.
use Rattle.std.proofs.Common.{◌≡◌, not, ℕ, true, List, [], ◌∷◌, length, map, Option, None, Some, Ok, refl, sym, ap, subst, ◌∙◌}
use Rattle.opl_tree.specs.declared.declaration.DataDeclTree.{DataDeclTree}
use Rattle.opl_tree.specs.declared.declaration.DimsTree.{DimsTree}
use Rattle.opl_tree.specs.declared.declaration.InitialTree.{InitialTree}
use Rattle.opl_tree.specs.declared.declaration.InitialTree.TheVariants as initials
use Rattle.opl_tree.specs.declared.expression.AddTree.{AddTree, out-AddTree}
use Rattle.opl_term.specs.Terms.{add_term}
use Rattle.opl_type_rules.specs.Types.{Sort, Sorts, is_storable, sorts_of}
use Rattle.opl_type_rules.specs.Types.Sort.{int, enumeration, array, index, activity, unary, discrete}
use Rattle.opl_type_rules.specs.Scope.{Field, Scope, Text, Thing, field_sorts, is_decided, lookup, sort_of, with_values}
use Rattle.opl_type_rules.specs.Scope.Thing.{range, enum_type, enum_name, struct_type, value, resource}
use Rattle.opl_type_rules.specs.Forms.{form_add}
use Rattle.opl_declaration_types.specs.Declarations.{all_dims, cells_left, shaped}
use Rattle.opl_typed_model.specs.Declares.{HasDims, HasInitial, HasValue, HaveIndices, IsType, dim_names, named_sorts, written}
use Rattle.opl_value.specs.declared.value.Value.{Value}
use Rattle.opl_value.specs.Places as places
use Rattle.opl_value.specs.Places.{dimension_values, lists, space_of}
use Rattle.opl_eval.specs.Evaluation.{Item, elements}
use Rattle.opl_typed_values.specs.OfSort as sorted
use Rattle.opl_typed_values.specs.OfSort.{AllHaveSort, HasSort, are_plain, is_element, is_of_data, is_plain}
use Rattle.opl_typed_values.specs.Positions.{FieldsStand}
use Rattle.opl_typed_values.specs.Visible.{AreOfTheirSorts}
use Rattle.opl_typed_values.proofs.Choices.{has-storable}
use Rattle.opl_typed_values.proofs.Terms.{add-says}
use Rattle.opl_given.specs.declared.assigned.Override.{Override}
use Rattle.opl_given.specs.declared.form.Form.{Form}
use Rattle.opl_given.specs.Arrays.{Axis, values_of}
use Rattle.opl_given.specs.Assigned.{is_assigned}
use Rattle.opl_given.specs.Forms.{Known, form_of, names_of}
use Rattle.opl_given.specs.Given.{Given}
use Rattle.opl_given.specs.Items.{array_over, is_array, lists_of}
use Rattle.opl_given.proofs.CellLaws.{passed, same_ok, went_first}
use Rattle.opl_given.proofs.Spaces.{dimensions-space_of}
use Rattle.opl_bind.specs.Bind.{Data, alone, initial_value, item_value, model_value}
use Rattle.opl_bind.specs.Dimensions.{axes_in, dims_of}
use Rattle.opl_bind.specs.Written.{written as written_term, written_cells, written_value}
use Rattle.opl_bind.proofs.WrittenLengths.{length-written_cells}
use Rattle.opl_fit.specs.Declared.{IsArrayOf, ItemIs}
use Rattle.opl_fit.specs.Fits.{Fits}
use Rattle.opl_fit.specs.Laws.{TakesNumbers}
use Rattle.opl_fit.specs.Typed.{IsFormOf, StructsAgree}
use Rattle.opl_fit.proofs.Items.{external-fits}
use Rattle.opl_fit.proofs.OfKind.{kind-fits}
use Rattle.opl_fit.proofs.TypedValues.{form-plain, kind}
use Rattle.opl_fit.proofs.Written.{value-stays}
use Rattle.opl_bound_values.specs.Laws.{HasItsForm}
use Rattle.opl_bound_values.specs.Suits.{DimsStand, InitialStands, ItemSuits}
use Rattle.opl_bound_values.proofs.Cells.{written-fit}
use Rattle.opl_bound_values.proofs.Dimensions.{AxesHave, axes-have, axes-length, indices-length}
use Rattle.opl_bound_values.proofs.KnownTypes.{TypesAgree, type-form}
use Rattle.opl_bound_values.proofs.Moves.{AllBelow, Below}
use Rattle.opl_bound_values.proofs.OfForm.{cells-have, form-has, takes-numbers}
use Rattle.opl_bound_values.proofs.OneName.{IsNamed}

abbrev pub N : Known → ℕ → ℕ
N known j = length (names_of known j)

-- k declarations lie behind
pub record Agrees (position : ℕ → ℕ) (k : ℕ) (sc : Scope) (d : Data) : Type 0 where
  pub hides : d.environment.parameters ≡ []
  pub placed : d.environment.position ≡ position
  pub as_many : length d.known.fields ≡ k
  pub as_many_names : length d.known.enumerations ≡ k
  pub as_many_forms : length d.known.names ≡ length d.known.forms
  pub types : TypesAgree k sc d.known
  pub structs : StructsAgree d.known sc
  pub below : (j : ℕ) → AllBelow k (field_sorts sc j)
  pub things : (name : Text) (thing : Thing) → lookup sc name ≡ Some thing → Below k (sort_of thing)
  pub of : AreOfTheirSorts (N d.known) sc d.environment

-- ---- what a new name stands for

module _ (fields : ℕ → Sorts) (names : ℕ → ℕ) where
  abbrev Named : Thing → Option Item → Type 0
  Named thing o = IsNamed fields names thing o

  -- a value
  pub value-named : (s : Sort) (i : Item) (o : Option Item) → o ≡ Some i → is_plain s ≡ true → HasSort fields names s i.value → Named (value s) o
  value-named s i o e p h = record {
    one = λ d st. (i, e, h);
    many = λ is x d k st. absurd (let m = sym (ap is_storable k) ∙ has-storable fields names s i.value h in cc);
    over = λ x d k. absurd (let m = sym (ap is_storable k) ∙ has-storable fields names s i.value h in cc);
    kind = λ d. plain-data s p;
  }
    where
      plain-data : (x : Sort) → is_plain x ≡ true → is_of_data x ≡ true
      plain-data activity q = absurd (cc)
      plain-data (array is x) q = absurd (cc)
      plain-data x q = refl

  same_elements : (is js : Sorts) (s x : Sort) → array is s ≡ array js x → s ≡ x
  same_elements is js s x e = cc

  -- an array of values
  pub array-named : (is : Sorts) (s : Sort) (i : Item) (o : Option Item) → o ≡ Some i → is_plain s ≡ true → sorted.IsArrayOf fields names s i.value → Named (value (array is s)) o
  array-named is s i o e p h = record {
    one = λ d st. absurd (cc);
    many = λ js x d k st. (i, e, subst (λ (y : Sort). sorted.IsArrayOf fields names y i.value) (same_elements is js s x k) h);
    over = λ x d k. absurd (cc);
    kind = λ d. plain-element s p;
  }
    where
      plain-element : (x : Sort) → is_plain x ≡ true → is_element x ≡ true
      plain-element unary q = refl
      plain-element discrete q = refl
      plain-element x q = q

  same_index : (s x : Sort) → index s ≡ index x → s ≡ x
  same_index s x e = cc

  -- a range or an enumeration
  pub range-named : (i : Item) (o : Option Item) → o ≡ Some i → AllHaveSort fields names int (elements i.declaration i.value) → Named range o
  range-named i o e h = record {
    one = λ d st. absurd (cc);
    many = λ is x d k st. absurd (cc);
    over = λ x d k. (i, e, subst (λ (y : Sort). AllHaveSort fields names y (elements i.declaration i.value)) (same_index int x k) h);
    kind = λ d. refl;
  }

  pub enumeration-named : (k : ℕ) (i : Item) (o : Option Item) → o ≡ Some i → AllHaveSort fields names (enumeration k) (elements i.declaration i.value) → Named (enum_type k) o
  enumeration-named k i o e h = record {
    one = λ d st. absurd (cc);
    many = λ is x d q st. absurd (cc);
    over = λ x d q. (i, e, subst (λ (y : Sort). AllHaveSort fields names y (elements i.declaration i.value)) (same_index (enumeration k) x q) h);
    kind = λ d. refl;
  }

  -- one of the names of an enumeration
  pub name-named : (k : ℕ) (i : Item) (o : Option Item) → o ≡ Some i → HasSort fields names (enumeration k) i.value → Named (enum_name k) o
  name-named k i o e h = record { one = λ d st. (i, e, h); many = λ is x d q st. absurd (cc); over = λ x d q. absurd (cc); kind = λ d. refl }

  -- a decision, a resource, a struct: of these nothing is known
  pub decided-named : (thing : Thing) (o : Option Item) → is_decided thing ≡ true → Named thing o
  decided-named thing o t = record {
    one = λ d st. absurd (let m = sym t ∙ d in cc);
    many = λ is x d q st. absurd (let m = sym t ∙ d in cc);
    over = λ x d q. absurd (let m = sym t ∙ d in cc);
    kind = λ d. absurd (let m = sym t ∙ d in cc);
  }

  pub struct-named : (k : ℕ) (fs : List Field) (o : Option Item) → Named (struct_type k fs) o
  struct-named k fs o = record { one = λ d st. absurd (cc); many = λ is x d q st. absurd (cc); over = λ x d q. absurd (cc); kind = λ d. refl }

  pub unary-named : (is : List Sort) (o : Option Item) → Named (resource (shaped is unary)) o
  unary-named [] o = record { one = λ d st. absurd (cc); many = λ js x d q st. absurd (cc); over = λ x d q. absurd (cc); kind = λ d. refl }
  unary-named (j ∷ js) o = record {
    one = λ d st. absurd (cc);
    many = λ is x d q st. absurd (let m = ap is_storable (same_elements (sorts_of (j ∷ js)) is unary x q) ∙ st in cc);
    over = λ x d q. absurd (cc);
    kind = λ d. refl;
  }

  pub discrete-named : (is : List Sort) (o : Option Item) → Named (resource (shaped is discrete)) o
  discrete-named [] o = record { one = λ d st. absurd (cc); many = λ js x d q st. absurd (cc); over = λ x d q. absurd (cc); kind = λ d. refl }
  discrete-named (j ∷ js) o = record {
    one = λ d st. absurd (cc);
    many = λ is x d q st. absurd (let m = ap is_storable (same_elements (sorts_of (j ∷ js)) is discrete x q) ∙ st in cc);
    over = λ x d q. absurd (cc);
    kind = λ d. refl;
  }

-- ---- the value of an item

-- the index sets' lists of an array's space
lists-over : (axes : List Axis) → lists (space_of (map (λ (a : Axis). a.dimension) axes)) ≡ lists_of axes
lists-over axes = ap (map dimension_values) (dimensions-space_of (map (λ (a : Axis). a.dimension) axes)) ∙ both axes
  where
    both : (bs : List Axis) → map dimension_values (map (λ (a : Axis). a.dimension) bs) ≡ lists_of bs
    both [] = refl
    both (b ∷ bs) = ap (λ (vs : List (List Value)). values_of b ∷ vs) (both bs)

module _ (position : ℕ → ℕ) (k : ℕ) (sc : Scope) (d : Data) (a : Agrees position k sc d) where
  -- an array in the sense of forms is one in the sense of types
  array-of : (form : Form) (s : Sort) (axes : List Axis) (v : Value) → IsFormOf form s → IsArrayOf (Fits d.known form) axes v → sorted.IsArrayOf (field_sorts sc) (N d.known) s v
  array-of form s axes v i h = record {
    space = space_of (map (λ (x : Axis). x.dimension) axes);
    cells = h.cells;
    is = h.is;
    each = cells-have d.known (field_sorts sc) a.structs form s h.cells i h.each;
    filled = h.filled ∙ sym (ap places.elements (lists-over axes));
  }

  -- an item whose value has the form of its type is named rightly
  pub item-named : (form : Form) (s : Sort) (dims : Option DimsTree) (is : List Sort) (item : Item) (o : Option Item) → IsFormOf form s → HaveIndices sc (all_dims dims) is → ItemIs (Fits d.known form) d dims item.value → o ≡ Some item →
      IsNamed (field_sorts sc) (N d.known) (value (shaped is s)) o
  item-named form s None is item o i h v e =
      subst (λ (js : List Sort). IsNamed (field_sorts sc) (N d.known) (value (shaped js s)) o) (sym h) (value-named (field_sorts sc) (N d.known) s item o e (form-plain form s i) (form-has d.known (field_sorts sc) a.structs form s item.value i v))
  item-named form s (Some dims) is item o i h v e =
      subst (λ (js : List Sort). IsNamed (field_sorts sc) (N d.known) (value (shaped js s)) o) (sym h.4) (array-named (field_sorts sc) (N d.known) (sorts_of (h.0 ∷ h.1)) s item o e (form-plain form s i) (array-of form s v.0 item.value i v.2))

  value-fit : (f : Form) (t : AddTree) (u : Value) → written_value d.known d.environment f (add_term t) ≡ Ok u → (written_term d.known (add_term t)).fit f d.environment ≡ Ok u
  unfolding written_value
  value-fit f t u q = q

  -- what the model writes
  model-fits : (form : Form) (s : Sort) (dims : Option DimsTree) (is : List Sort) (inner : Scope) (e : AddTree) (v : Value) → IsFormOf form s → HasDims sc dims is inner → HasInitial inner s (cells_left (dim_names (all_dims dims)) is) (initials.Written e) →
      DimsStand position sc (all_dims dims) → InitialStands position inner (initials.Written e) → model_value d form dims e ≡ Ok v → ItemIs (Fits d.known form) d dims v
  model-fits form s None is inner e v i h n c1 c2 m =
      let w = went_first (written_value d.known d.environment form (add_term e)) (alone (out-AddTree e).at) v m in
      let p = passed (not (is_array w.0)) (Ok w.0) _ v w.2 in
      let here = subst (λ (x : Scope). HasValue x s [] (form_add e)) h.2 (subst (λ (js : List Sort). HasValue inner s js (form_add e)) h.1 n) in
      let c = subst (λ (P : ℕ → ℕ). FieldsStand P sc (form_add e)) (sym a.placed) (subst (λ (x : Scope). FieldsStand position x (form_add e)) h.2 c2) in
      let kd = kind d.known sc d.environment a.of a.structs (form_add e) (add_term e) here.0 form s w.0 c (add-says e) here.1 here.2 i here.3 (value-fit form e w.0 w.1) in
      subst (Fits d.known form) (same_ok w.0 v p.1) (kind-fits d.known form w.0 kd (value-stays d.known d.environment form (add_term e) w.0 w.1))
  model-fits form s (Some dims) is inner e v i h n c1 c2 m =
      let x = went_first (axes_in d.environment [] (dims_of dims)) _ v m in
      let w = went_first (written_cells d.known d.environment form (dims_of dims) x.0 (add_term e)) (λ cells. Ok (array_over x.0 cells)) v x.2 in
      let l = indices-length sc (dims_of dims) is h.1 in
      let r = axes-have (N d.known) sc d.environment a.of (dims_of dims) is [] x.0 (subst (λ (P : ℕ → ℕ). DimsStand P sc (dims_of dims)) (sym a.placed) c1) h.1 x.1 in
      let all = subst (AxesHave (field_sorts sc) (N d.known) is) (sym r.1) r.2 in
      let q = h.1 in
      let f = written-fit d.known form s sc inner d.environment (dims_of dims) q.0 q.1 x.0 (form_add e) (add_term e) w.0 i a.of a.structs
      (subst (λ (js : List Sort). inner ≡ with_values (dim_names (dims_of dims)) (named_sorts (dims_of dims) js) sc) q.4 h.2)
      (subst (λ (js : List Sort). AxesHave (field_sorts sc) (N d.known) js x.0) q.4 all) (l ∙ ap length q.4) (ap length (sym q.4) ∙ axes-length (field_sorts sc) (N d.known) is x.0 all)
      (subst (λ (js : List Sort). HasValue inner s (cells_left (dim_names (dims_of dims)) js) (form_add e)) q.4 n) (add-says e)
      (subst (λ (P : ℕ → ℕ). FieldsStand P inner (form_add e)) (sym a.placed) c2) w.1 in (
        x.0,
        x.1,
        record { cells = w.0; is = sym (same_ok (array_over x.0 w.0) v w.2); filled = length-written_cells d.known d.environment form (dims_of dims) x.0 (add_term e) w.0 (l ∙ axes-length (field_sorts sc) (N d.known) is x.0 all) w.1; each = f },
      )

  initial-fits : (given : Given) (os : List Override) (form : Form) (s : Sort) (t : DataDeclTree) (is : List Sort) (inner : Scope) (i : InitialTree) (v : Value) → IsFormOf form s → HasDims sc t.dims is inner → HasInitial inner s (cells_left (dim_names (all_dims t.dims)) is) i →
      DimsStand position sc (all_dims t.dims) → InitialStands position inner i → (is_assigned t.name.text os ≡ true → TakesNumbers form) → initial_value given os d form t i ≡ Ok v → ItemIs (Fits d.known form) d t.dims v
  initial-fits given os form s t is inner (initials.External at) v f h n c1 c2 takes m = external-fits given os d form t.name.text t.dims v takes m
  initial-fits given os form s t is inner (initials.Written e) v f h n c1 c2 takes m = model-fits form s t.dims is inner e v f h n c1 c2 m

  -- an item that is declared has a value of the form of its type
  pub item-has-form : (given : Given) (os : List Override) (t : DataDeclTree) (s : Sort) (is : List Sort) (inner : Scope) (v : Value) → IsType sc (written t.kind) s → HasDims sc t.dims is inner → HasInitial inner s (cells_left (dim_names (all_dims t.dims)) is) t.initial →
      ItemSuits position os sc t → item_value given os t d ≡ Ok v → HasItsForm t d v
  unfolding item_value
  item-has-form given os t s is inner v y h n c m =
      let f = type-form k sc d.known a.types t.kind s y in
      initial-fits given os (form_of t.kind d.known) s t is inner t.initial v f.0 h n c.0 (c.1 is inner h)
      (λ g. let r = type-form k sc d.known a.types t.kind int (c.2 g) in takes-numbers (form_of t.kind d.known) int r.0 refl) m
