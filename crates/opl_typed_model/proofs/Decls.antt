-- Declarations have types exactly where typing accepts them, and leave the same scope.
use Rattle.std.proofs.Common.{◌≡◌, ℕ, true, not, List, [], ◌∷◌, ◌++◌, Option, None, Some, Ok, refl, ap, ◌∙◌, sym, subst}
use Rattle.opl_tree.specs.declared.declaration.BoundsTree.{BoundsTree}
use Rattle.opl_tree.specs.declared.declaration.DeclTree.{DeclTree}
use Rattle.opl_tree.specs.declared.declaration.DeclTree.TheVariants as decls
use Rattle.opl_tree.specs.declared.declaration.DimTree.{DimTree}
use Rattle.opl_tree.specs.declared.declaration.DimsTree.{DimsTree}
use Rattle.opl_tree.specs.declared.declaration.FieldTree.{FieldTree}
use Rattle.opl_tree.specs.declared.declaration.InitialTree.{InitialTree}
use Rattle.opl_tree.specs.declared.declaration.InitialTree.TheVariants as initials
use Rattle.opl_tree.specs.declared.declaration.TypeTree.{TypeTree}
use Rattle.opl_tree.specs.declared.declaration.TypeTree.TheFolds.{fold-roll-TypeTree, ind-TypeTree, map-TypeTree}
use Rattle.opl_tree.specs.declared.declaration.TypeTree.TheOpen.{TypeTree-F}
use Rattle.opl_tree.specs.declared.declaration.TypeTree.TheViews.{roll-TypeTree}
use Rattle.opl_tree.specs.declared.declaration.VariableTypeTree.{VariableTypeTree}
use Rattle.opl_tree.specs.declared.declaration.VariableTypeTree.TheVariants as types
use Rattle.opl_tree.specs.declared.expression.NameTree.{NameTree}
use Rattle.opl_type_rules.specs.declared.fault.TypeFault.TheVariants.{Duplicate, Mismatch}
use Rattle.opl_type_rules.specs.Types.{Sort, is_set}
use Rattle.opl_type_rules.specs.Types.Sort.{int, set, activity, unary, discrete, anything}
use Rattle.opl_type_rules.specs.Scope.{Checked, and_then, unless, Text, Field, Scope, empty_scope, lookup, declared, fresh, all_fresh, with_values, fits_in, type_of}
use Rattle.opl_type_rules.specs.Scope.Thing.{range, enum_type, struct_type, value, variable, activities, resource}
use Rattle.opl_type_rules.specs.Forms.{Form, Forms, Pairs, form_add, form_set}
use Rattle.opl_type_rules.specs.Forms.Form.{cells, keyed_cells}
use Rattle.opl_type_rules.specs.Forms.Forms.{no_forms, more_forms}
use Rattle.opl_type_rules.specs.Forms.Pairs.{no_pairs, more_pairs}
use Rattle.opl_type_rules.specs.Expressions.{Opened, kinds, kinds_in, used, or_anything, typing, typed_set}
use Rattle.opl_type_rules.specs.Expressions.Need.{data_alone}
use Rattle.opl_expression_types.specs.Numbers.{number_kinds, maybe_number}
use Rattle.opl_declaration_types.specs.Declarations.{known_type, type_layer, written_type, Dimensions, no_dimensions, fresh_in, with_dimension, dimensions, all_dims, shaped, initial, initial_cells, initial_pairs, initial_kinds, cells_left, cell_indices, Shape, shape, enum_names, with_names, field_list, variable_type, bounds_kinds, is_decidable, is_given, given, next, decl, all_decls}
use Rattle.opl_model_types.proofs.PureDecls.{written_type-roll}
use Rattle.opl_typed.specs.Relation.{AreNew}
use Rattle.opl_typed.proofs.Lawful.{sets_sound, sets_complete}
use Rattle.opl_typed.proofs.Steps.{not-true, true-not, went, goes, passed, unit-ok}
use Rattle.opl_typed.proofs.Names.{fresh-has, has-fresh, fresh-new, new-fresh, all-behind, behind-all}
use Rattle.opl_typed_model.specs.Declares.{Written, written_layer, written, IsType, with_one, dim_names, named_sorts, HaveIndices, HasDims, HasValue, HaveValues, HaveKeys, HasInitial, AreApart, field_names, HaveFields, IsVariable, Declares, AllDeclare}
use Rattle.opl_typed_model.specs.Declares.Written.{set_of}
use Rattle.opl_typed_model.specs.Places.{Stands, IsDataNumber, MayBeDataNumber}
use Rattle.opl_typed_model.proofs.Places.{stands-sound, stands-complete, number-sound, number-complete, maybe-sound, maybe-complete}
use Rattle.opl_typed_model.proofs.Resources.{pass}

-- ---- types

same_sort : (a b : Sort) → ◌≡◌ {A = Checked Sort} (Ok a) (Ok b) → a ≡ b
same_sort a b h = cc

-- a type is accepted exactly where it is one
record AgreesType (reads : Scope → Checked Sort) (w : Written) : Type 0 where
  has : (sc : Scope) (s : Sort) → reads sc ≡ Ok s → IsType sc w s
  gives : (sc : Scope) (s : Sort) → IsType sc w s → reads sc ≡ Ok s

known-has : (name : NameTree) (o : Option Sort) (s : Sort) → known_type name o ≡ Ok s → o ≡ Some s
known-has name None s h = absurd (cc)
known-has name (Some r) s h = cc

known-gives : (name : NameTree) (o : Option Sort) (s : Sort) → o ≡ Some s → known_type name o ≡ Ok s
known-gives name o s h = ap (known_type name) h

abbrev Inner : Type 0
Inner = (t : TypeTree) × AgreesType (written_type t) (written t)

abbrev type_of_layer : TypeTree-F TypeTree → Scope → Checked Sort
type_of_layer x = type_layer (map-TypeTree TypeTree (Scope → Checked Sort) written_type x)

abbrev written_of : TypeTree-F TypeTree → Written
written_of x = written_layer (map-TypeTree TypeTree Written written x)

set-agrees : (reads : Scope → Checked Sort) (w : Written) → AgreesType reads w → AgreesType (λ sc. and_then (reads sc) (λ s. Ok (set s))) (set_of w)
set-agrees reads w inner = record { has = set-has; gives = set-gives }
  where
    set-has : (sc : Scope) (s : Sort) → and_then (reads sc) (λ s. Ok (set s)) ≡ Ok s → IsType sc (set_of w) s
    set-has sc s h = let k = went (reads sc) (λ s. Ok (set s)) s h in (k.0, inner.has sc k.0 k.1, sym (same_sort (set k.0) s k.2))

    set-gives : (sc : Scope) (s : Sort) → IsType sc (set_of w) s → and_then (reads sc) (λ s. Ok (set s)) ≡ Ok s
    set-gives sc s h = goes (reads sc) (λ s. Ok (set s)) h.0 (inner.gives sc h.0 h.1) ∙ ap Ok (sym h.2)

layer-agrees : (y : TypeTree-F Inner) → AgreesType (type_of_layer (map-TypeTree Inner TypeTree (λ e. e.0) y)) (written_of (map-TypeTree Inner TypeTree (λ e. e.0) y))
layer-agrees (TypeTree-F.Int at) = record { has = λ sc s h. sym (same_sort int s h); gives = λ sc s h. ap Ok (sym h) }
layer-agrees (TypeTree-F.Named name) = record { has = λ sc s h. known-has name (type_of (lookup sc name.text)) s h; gives = λ sc s h. known-gives name (type_of (lookup sc name.text)) s h }
layer-agrees (TypeTree-F.Set at inner) = set-agrees (written_type inner.0) (written inner.0) inner.1

written-roll : (x : TypeTree-F TypeTree) → written (roll-TypeTree x) ≡ written_of x
unfolding written
written-roll x = fold-roll-TypeTree Written written_layer x

type-agrees : (t : TypeTree) → AgreesType (written_type t) (written t)
type-agrees = ind-TypeTree (λ t. AgreesType (written_type t) (written t)) (λ x y is.
    subst (λ (l : Scope → Checked Sort). AgreesType l (written (roll-TypeTree x))) (sym (written_type-roll x))
    (subst (λ (w : Written). AgreesType (type_of_layer x) w) (sym (written-roll x))
    (subst (λ (z : TypeTree-F TypeTree). AgreesType (type_of_layer z) (written_of z)) is (layer-agrees y))))

-- ---- dimensions

same_dims : (a b : Dimensions) → ◌≡◌ {A = Checked Dimensions} (Ok a) (Ok b) → a ≡ b
same_dims a b h = cc

same_shape : (a b : Shape) → ◌≡◌ {A = Checked Shape} (Ok a) (Ok b) → a ≡ b
same_shape a b h = cc

same_scope : (a b : Scope) → ◌≡◌ {A = Checked Scope} (Ok a) (Ok b) → a ≡ b
same_scope a b h = cc

-- what dimensions have
record AreDims (ds : List DimTree) (is : List Sort) (d : Dimensions) : Type 0 where
  indices : d.indices ≡ is
  names : d.names ≡ dim_names ds
  named : d.named ≡ named_sorts ds is

more-dims : (x : DimTree) (ds : List DimTree) (i : Sort) (is : List Sort) (ks : List Sort) (rest : Dimensions) → AreDims ds is rest → AreDims (x ∷ ds) (i ∷ is) (with_dimension x.name i ks rest)
more-dims x ds i is ks rest h = by-name x.name refl
  where
    by-name : (o : Option NameTree) → x.name ≡ o → AreDims (x ∷ ds) (i ∷ is) (with_dimension x.name i ks rest)
    by-name None e = record {
      indices = ap (λ p. (with_dimension p i ks rest).indices) e ∙ ap (λ js. i ∷ js) h.indices;
      names = ap (λ p. (with_dimension p i ks rest).names) e ∙ h.names ∙ sym (ap (λ p. with_one p (λ (name : NameTree). name) (dim_names ds)) e);
      named = ap (λ p. (with_dimension p i ks rest).named) e ∙ h.named ∙ sym (ap (λ p. with_one p (λ (name : NameTree). i) (named_sorts ds is)) e);
    }
    by-name (Some name) e = record {
      indices = ap (λ p. (with_dimension p i ks rest).indices) e ∙ ap (λ js. i ∷ js) h.indices;
      names = ap (λ p. (with_dimension p i ks rest).names) e ∙ ap (λ ns. name ∷ ns) h.names ∙ sym (ap (λ p. with_one p (λ (name : NameTree). name) (dim_names ds)) e);
      named = ap (λ p. (with_dimension p i ks rest).named) e ∙ ap (λ js. i ∷ js) h.named ∙ sym (ap (λ p. with_one p (λ (name : NameTree). i) (named_sorts ds is)) e);
    }

-- the name of a dimension, which those behind it may not have
new-more : (o : Option NameTree) (taken more : Scope) (names : List NameTree) → fresh_in taken o ≡ Ok more → AreNew more names → AreNew taken (with_one o (λ name. name) names)
new-more None taken more names h g = subst (λ (s : Scope). AreNew s names) (sym (same_scope taken more h)) g
new-more (Some name) taken more names h g =
    let w = went (fresh taken name) (λ u. Ok (declared name.text (value anything) taken)) more h in
    let e = same_scope (declared name.text (value anything) taken) more w.2 in
    let v = all-behind names taken name.text (value anything) (subst (λ (s : Scope). AreNew s names) (sym e) g) in
    (fresh-has taken name (unit-ok _ w.0 w.1), v.0, v.1)

more-new : (o : Option NameTree) (taken : Scope) (names : List NameTree) → AreNew taken (with_one o (λ name. name) names) → (more : Scope) × (fresh_in taken o ≡ Ok more) × AreNew more names
more-new None taken names h = (taken, refl, h)
more-new (Some name) taken names h =
    let more = declared name.text (value anything) taken in
    (more, goes (fresh taken name) (λ u. Ok (declared name.text (value anything) taken)) tt (has-fresh taken name h.0), behind-all names taken name.text (value anything) h.1 h.2)

record Dims (sc taken : Scope) (ds : List DimTree) (d : Dimensions) : Type 0 where
  new : AreNew taken (dim_names ds)
  have : HaveIndices sc ds d.indices
  are : AreDims ds d.indices d

dims-sound : (ds : List DimTree) (sc taken : Scope) (d : Dimensions) → dimensions sc taken ds ≡ Ok d → Dims sc taken ds d
dims-sound [] sc taken d h = subst (Dims sc taken []) (same_dims no_dimensions d h) (record { new = tt; have = refl; are = record { indices = refl; names = refl; named = refl } })
dims-sound (x ∷ ds) sc taken d h =
    let m = went (fresh_in taken x.name) _ d h in
    let o = went (typed_set data_alone is_set sc (form_set x.set)) _ d m.2 in
    let r = went (dimensions sc m.0 ds) _ d o.2 in
    let s = sets_sound sc (form_set x.set) o.0 o.1 in
    let below = dims-sound ds sc m.0 r.0 r.1 in
    let i : or_anything o.0.element ≡ s.0 = ap or_anything s.2 in
    let made = with_dimension x.name (or_anything o.0.element) (kinds_in o.0.nodes) r.0 in
    let e : with_dimension x.name s.0 (kinds_in o.0.nodes) r.0 ≡ d = ap (λ j. with_dimension x.name j (kinds_in o.0.nodes) r.0) (sym i) ∙ same_dims made d r.2 in
    let are = more-dims x ds s.0 r.0.indices (kinds_in o.0.nodes) r.0 below.are in
    subst (Dims sc taken (x ∷ ds)) e (record {
      new = new-more x.name taken m.0 (dim_names ds) m.1 below.new;
      have = (s.0, r.0.indices, s.1, below.have, are.indices);
      are = subst (λ (js : List Sort). AreDims (x ∷ ds) js (with_dimension x.name s.0 (kinds_in o.0.nodes) r.0)) (sym are.indices) are;
    })

dims-complete : (ds : List DimTree) (sc taken : Scope) (is : List Sort) → AreNew taken (dim_names ds) → HaveIndices sc ds is → (d : Dimensions) × (dimensions sc taken ds ≡ Ok d) × AreDims ds is d
dims-complete [] sc taken is new h = (no_dimensions, refl, record { indices = sym h; names = refl; named = refl })
dims-complete (x ∷ ds) sc taken is new h =
    let m = more-new x.name taken (dim_names ds) new in
    let o = sets_complete sc (form_set x.set) h.0 h.2 in
    let r = dims-complete ds sc m.0 h.1 m.2 h.3 in
    let ks = kinds_in o.0.nodes in (
      with_dimension x.name (or_anything o.0.element) ks r.0,
      goes (fresh_in taken x.name) (λ more. and_then (typed_set data_alone is_set sc (form_set x.set)) (λ over. and_then (dimensions sc more ds) (λ rest. Ok (with_dimension x.name (or_anything over.element) (kinds_in over.nodes) rest)))) m.0 m.1
          ∙ goes (typed_set data_alone is_set sc (form_set x.set)) (λ over. and_then (dimensions sc m.0 ds) (λ rest. Ok (with_dimension x.name (or_anything over.element) (kinds_in over.nodes) rest))) o.0 o.1
          ∙ goes (dimensions sc m.0 ds) (λ rest. Ok (with_dimension x.name (or_anything o.0.element) ks rest)) r.0 r.1,
      subst (λ (js : List Sort). AreDims (x ∷ ds) js (with_dimension x.name (or_anything o.0.element) ks r.0)) (sym h.4)
          (subst (λ (j : Sort). AreDims (x ∷ ds) (h.0 ∷ h.1) (with_dimension x.name j ks r.0)) (sym (ap or_anything o.2)) (more-dims x ds h.0 h.1 ks r.0 r.2)),
    )

-- an item's dimensions, and the scope behind them
record Shaped (sc : Scope) (dims : Option DimsTree) (s : Shape) : Type 0 where
  has : HasDims sc dims s.dims.indices s.inner
  names : s.dims.names ≡ dim_names (all_dims dims)

shape-sound : (sc : Scope) (dims : Option DimsTree) (s : Shape) → shape sc dims ≡ Ok s → Shaped sc dims s
shape-sound sc dims s h =
    let w = went (dimensions sc sc (all_dims dims)) (λ d. Ok (record { dims = d; inner = with_values d.names d.named sc })) s h in
    let d = dims-sound (all_dims dims) sc sc w.0 w.1 in
    let e = same_shape (record { dims = w.0; inner = with_values w.0.names w.0.named sc }) s w.2 in
    subst (Shaped sc dims) e (record { has = (d.new, d.have, λ i. with_values (d.are.names i) (d.are.named i) sc); names = d.are.names })

pub record Shapes (sc : Scope) (dims : Option DimsTree) (is : List Sort) (inner : Scope) : Type 0 where
  pub found : Shape
  pub given : shape sc dims ≡ Ok found
  pub inside : found.inner ≡ inner
  pub indices : found.dims.indices ≡ is
  pub names : found.dims.names ≡ dim_names (all_dims dims)

pub shape-complete : (sc : Scope) (dims : Option DimsTree) (is : List Sort) (inner : Scope) → HasDims sc dims is inner → Shapes sc dims is inner
shape-complete sc dims is inner h =
    let d = dims-complete (all_dims dims) sc sc is h.0 h.1 in record {
      found = record { dims = d.0; inner = with_values d.0.names d.0.named sc };
      given = goes (dimensions sc sc (all_dims dims)) (λ d. Ok (record { dims = d; inner = with_values d.names d.named sc })) d.0 d.1;
      inside = (λ i. with_values (d.2.names i) (d.2.named i) sc) ∙ sym h.2;
      indices = d.2.indices;
      names = d.2.names;
    }

-- ---- initial values

plain-sound : (sc : Scope) (s : Sort) (f : Form) (ks : List Sort) → and_then (and_then (typing sc f) (used data_alone (fits_in sc s))) (λ n. Ok (kinds n)) ≡ Ok ks → Stands sc data_alone (fits_in sc s) f
plain-sound sc s f ks h = let w = went (and_then (typing sc f) (used data_alone (fits_in sc s))) (λ n. Ok (kinds n)) ks h in stands-sound sc data_alone (fits_in sc s) f w.0 w.1

plain-complete : (sc : Scope) (s : Sort) (f : Form) → Stands sc data_alone (fits_in sc s) f → (ks : List Sort) × (and_then (and_then (typing sc f) (used data_alone (fits_in sc s))) (λ n. Ok (kinds n)) ≡ Ok ks)
plain-complete sc s f h = let k = stands-complete sc data_alone (fits_in sc s) f h in (kinds k.node, goes (and_then (typing sc f) (used data_alone (fits_in sc s))) (λ n. Ok (kinds n)) k.node k.given)

mutual
  unfolding initial

  value-sound : (sc : Scope) (s : Sort) (is : List Sort) (f : Form) (ks : List Sort) → initial sc s is f ≡ Ok ks → HasValue sc s is f
  value-sound sc s (i ∷ is) (cells at fs) ks h = let w = went (initial_cells sc s is fs) _ ks h in cells-sound fs sc s is w.0 w.1
  value-sound sc s (i ∷ is) (keyed_cells at ps) ks h = let w = went (initial_pairs sc s i is ps) _ ks h in pairs-sound ps sc s i is w.0 w.1
  value-sound sc s is f ks h = plain-sound sc (shaped is s) f ks h

  cells-sound : (fs : Forms) (sc : Scope) (s : Sort) (is : List Sort) (ks : List Sort) → initial_cells sc s is fs ≡ Ok ks → HaveValues sc s is fs
  cells-sound no_forms sc s is ks h = tt
  cells-sound (more_forms f fs) sc s is ks h =
      let w = went (initial sc s is f) _ ks h in
      let x = went (initial_cells sc s is fs) _ ks w.2 in
      (value-sound sc s is f w.0 w.1, cells-sound fs sc s is x.0 x.1)

  pairs-sound : (ps : Pairs) (sc : Scope) (s i : Sort) (is : List Sort) (ks : List Sort) → initial_pairs sc s i is ps ≡ Ok ks → HaveKeys sc s i is ps
  pairs-sound no_pairs sc s i is ks h = tt
  pairs-sound (more_pairs key cell others) sc s i is ks h =
      let w = went (and_then (typing sc key) (used data_alone (fits_in sc i))) _ ks h in
      let x = went (initial sc s is cell) _ ks w.2 in
      let y = went (initial_pairs sc s i is others) _ ks x.2 in
      (stands-sound sc data_alone (fits_in sc i) key w.0 w.1, value-sound sc s is cell x.0 x.1, pairs-sound others sc s i is y.0 y.1)

mutual
  unfolding initial

  value-complete : (sc : Scope) (s : Sort) (is : List Sort) (f : Form) → HasValue sc s is f → (ks : List Sort) × (initial sc s is f ≡ Ok ks)
  value-complete sc s (i ∷ is) (cells at fs) h =
      let k = cells-complete fs sc s is h in (shaped (i ∷ is) s ∷ k.0, goes (initial_cells sc s is fs) (λ inner. Ok (shaped (i ∷ is) s ∷ inner)) k.0 k.1)
  value-complete sc s (i ∷ is) (keyed_cells at ps) h =
      let k = pairs-complete ps sc s i is h in (shaped (i ∷ is) s ∷ k.0, goes (initial_pairs sc s i is ps) (λ inner. Ok (shaped (i ∷ is) s ∷ inner)) k.0 k.1)
  value-complete sc s is f h = plain-complete sc (shaped is s) f h

  cells-complete : (fs : Forms) (sc : Scope) (s : Sort) (is : List Sort) → HaveValues sc s is fs → (ks : List Sort) × (initial_cells sc s is fs ≡ Ok ks)
  cells-complete no_forms sc s is h = ([], refl)
  cells-complete (more_forms f fs) sc s is h =
      let a = value-complete sc s is f h.0 in
      let b = cells-complete fs sc s is h.1 in
      (a.0 ++ b.0, goes (initial sc s is f) (λ first. and_then (initial_cells sc s is fs) (λ rest. Ok (first ++ rest))) a.0 a.1 ∙ goes (initial_cells sc s is fs) (λ rest. Ok (a.0 ++ rest)) b.0 b.1)

  pairs-complete : (ps : Pairs) (sc : Scope) (s i : Sort) (is : List Sort) → HaveKeys sc s i is ps → (ks : List Sort) × (initial_pairs sc s i is ps ≡ Ok ks)
  pairs-complete no_pairs sc s i is h = ([], refl)
  pairs-complete (more_pairs key cell others) sc s i is h =
      let k = stands-complete sc data_alone (fits_in sc i) key h.0 in
      let a = value-complete sc s is cell h.1 in
      let b = pairs-complete others sc s i is h.2 in (
        kinds k.node ++ (a.0 ++ b.0),
        goes (and_then (typing sc key) (used data_alone (fits_in sc i))) (λ n. and_then (initial sc s is cell) (λ first. and_then (initial_pairs sc s i is others) (λ rest. Ok (kinds n ++ (first ++ rest))))) k.node k.given
            ∙ goes (initial sc s is cell) (λ first. and_then (initial_pairs sc s i is others) (λ rest. Ok (kinds k.node ++ (first ++ rest)))) a.0 a.1
            ∙ goes (initial_pairs sc s i is others) (λ rest. Ok (kinds k.node ++ (a.0 ++ rest))) b.0 b.1,
      )

initial-sound : (sc : Scope) (s : Sort) (is : List Sort) (t : InitialTree) (ks : List Sort) → initial_kinds sc s is t ≡ Ok ks → HasInitial sc s is t
initial-sound sc s is (initials.External at) ks h = tt
initial-sound sc s is (initials.Written t) ks h = value-sound sc s is (form_add t) ks h

initial-complete : (sc : Scope) (s : Sort) (is : List Sort) (t : InitialTree) → HasInitial sc s is t → (ks : List Sort) × (initial_kinds sc s is t ≡ Ok ks)
initial-complete sc s is (initials.External at) h = ([], refl)
initial-complete sc s is (initials.Written t) h = value-complete sc s is (form_add t) h

-- ---- fields

-- names that are new where nothing is visible differ, and the other way round
new-apart : (names : List NameTree) → AreNew empty_scope names → AreApart names
new-apart [] h = tt
new-apart (name ∷ names) h = (h.1, new-apart names h.2)

none-visible : (name : Text) → lookup empty_scope name ≡ None
unfolding lookup
none-visible name = refl

apart-new : (names : List NameTree) → AreApart names → AreNew empty_scope names
apart-new [] h = tt
apart-new (name ∷ names) h = (none-visible name.text, h.0, apart-new names h.1)

same_fields : (a b : List Field) → ◌≡◌ {A = Checked (List Field)} (Ok a) (Ok b) → a ≡ b
same_fields a b h = cc

fields-sound : (fs : List FieldTree) (sc taken : Scope) (o : List Field) → field_list sc taken fs ≡ Ok o → AreNew taken (field_names fs) × HaveFields sc fs o
fields-sound [] sc taken o h = (tt, sym (same_fields [] o h))
fields-sound (f ∷ fs) sc taken o h =
    let w = went (written_type f.kind sc) _ o h in
    let x = went (fresh taken f.name) _ o w.2 in
    let y = went (field_list sc (declared f.name.text (value anything) taken) fs) _ o x.2 in
    let below = fields-sound fs sc (declared f.name.text (value anything) taken) y.0 y.1 in
    let v = all-behind (field_names fs) taken f.name.text (value anything) below.0 in (
      (fresh-has taken f.name (unit-ok _ x.0 x.1), v.0, v.1),
      (w.0, y.0, (type-agrees f.kind).has sc w.0 w.1, below.1, sym (same_fields (record { name = f.name.text; sort = w.0 } ∷ y.0) o y.2)),
    )

fields-complete : (fs : List FieldTree) (sc taken : Scope) (o : List Field) → AreNew taken (field_names fs) → HaveFields sc fs o → field_list sc taken fs ≡ Ok o
fields-complete [] sc taken o new h = ap Ok (sym h)
fields-complete (f ∷ fs) sc taken o new h =
    let more = declared f.name.text (value anything) taken in
    goes (written_type f.kind sc) (λ s. and_then (fresh taken f.name) (λ u. and_then (field_list sc (declared f.name.text (value anything) taken) fs) (λ rest. Ok (record { name = f.name.text; sort = s } ∷ rest)))) h.0 ((type-agrees f.kind).gives sc h.0 h.2)
    ∙ goes (fresh taken f.name) (λ u. and_then (field_list sc (declared f.name.text (value anything) taken) fs) (λ rest. Ok (record { name = f.name.text; sort = h.0 } ∷ rest))) tt (has-fresh taken f.name new.0)
    ∙ goes (field_list sc more fs) (λ rest. Ok (record { name = f.name.text; sort = h.0 } ∷ rest)) h.1 (fields-complete fs sc more h.1 (behind-all (field_names fs) taken f.name.text (value anything) new.1 new.2) h.3)
    ∙ ap Ok (sym h.4)

-- ---- variables

variable-sound : (sc inner : Scope) (kind : VariableTypeTree) (bounds : Option BoundsTree) (s : Sort) (ks : List Sort) → variable_type sc kind ≡ Ok s → bounds_kinds inner bounds ≡ Ok ks → is_decidable kind bounds s ≡ true → IsVariable sc inner kind bounds s
variable-sound sc inner (types.Int at) None s ks h g d = absurd (cc)
variable-sound sc inner (types.Int at) (Some b) s ks h g d =
    let w = went (number_kinds inner b.low) _ ks g in
    let x = went (number_kinds inner b.high) _ ks w.2 in
    (number-sound inner b.low w.0 w.1, number-sound inner b.high x.0 x.1, sym (same_sort int s h))
variable-sound sc inner (types.Named name) None s ks h g d = (known-has name (type_of (lookup sc name.text)) s h, d)
variable-sound sc inner (types.Named name) (Some b) s ks h g d = absurd (cc)

record Chosen (sc inner : Scope) (kind : VariableTypeTree) (bounds : Option BoundsTree) (s : Sort) : Type 0 where
  kind_is : variable_type sc kind ≡ Ok s
  ends : List Sort
  ends_are : bounds_kinds inner bounds ≡ Ok ends
  fits : is_decidable kind bounds s ≡ true

-- a step that is passed, and the others
pub step : {A B : Type 0} (c : Checked A) (f : A → Checked B) (a : A) (b : B) → c ≡ Ok a → f a ≡ Ok b → and_then c f ≡ Ok b
step c f a b h g = goes c f a h ∙ g

variable-complete : (sc inner : Scope) (kind : VariableTypeTree) (bounds : Option BoundsTree) (s : Sort) → IsVariable sc inner kind bounds s → Chosen sc inner kind bounds s
variable-complete sc inner (types.Int at) None s h = absurd h
variable-complete sc inner (types.Int at) (Some b) s h =
    let l = number-complete inner b.low h.0 in
    let r = number-complete inner b.high h.1 in
    record { kind_is = ap Ok (sym h.2); ends = l.0 ++ r.0; ends_are = step (number_kinds inner b.low) _ l.0 _ l.1 (step (number_kinds inner b.high) _ r.0 _ r.1 refl); fits = refl }
variable-complete sc inner (types.Named name) None s h = record { kind_is = known-gives name (type_of (lookup sc name.text)) s h.0; ends = []; ends_are = refl; fits = h.1 }
variable-complete sc inner (types.Named name) (Some b) s h = absurd h

-- ---- declarations

same_opened : (a b : Opened) → ◌≡◌ {A = Checked Opened} (Ok a) (Ok b) → a ≡ b
same_opened a b h = cc

left : (scope : Scope) (ks : List Sort) (o : Opened) → ◌≡◌ {A = Checked Opened} (Ok (record { scope = scope; kinds = ks })) (Ok o) → o.scope ≡ scope
left scope ks o h = sym (ap (λ (x : Opened). x.scope) (same_opened (record { scope = scope; kinds = ks }) o h))

pub decl-sound : (k : ℕ) (sc : Scope) (d : DeclTree) (o : Opened) → decl k sc d ≡ Ok o → Declares k sc d o.scope
unfolding decl
decl-sound k sc (decls.Data t) o h =
    let w = went (written_type t.kind sc) _ o h in
    let x = went (fresh sc t.name) _ o w.2 in
    let y = went (shape sc t.dims) _ o x.2 in
    let z = went (initial_kinds y.0.inner w.0 (cell_indices y.0.dims) t.initial) _ o y.2 in
    let d = shape-sound sc t.dims y.0 y.1 in (
      w.0,
      y.0.dims.indices,
      y.0.inner,
      (type-agrees t.kind).has sc w.0 w.1,
      fresh-has sc t.name (unit-ok _ x.0 x.1),
      d.has,
      subst (λ (ns : List NameTree). HasInitial y.0.inner w.0 (cells_left ns y.0.dims.indices) t.initial) d.names (initial-sound y.0.inner w.0 (cell_indices y.0.dims) t.initial z.0 z.1),
      left (declared t.name.text (value (shaped y.0.dims.indices w.0)) sc) (y.0.dims.kinds ++ z.0) o z.2,
    )
decl-sound k sc (decls.Range t) o h =
    let w = went (fresh sc t.name) _ o h in
    let x = went (number_kinds sc t.low) _ o w.2 in
    let y = went (number_kinds sc t.high) _ o x.2 in
    (fresh-has sc t.name (unit-ok _ w.0 w.1), number-sound sc t.low x.0 x.1, number-sound sc t.high y.0 y.1, left (declared t.name.text range sc) (x.0 ++ y.0) o y.2)
decl-sound k sc (decls.Enumeration t) o h =
    let w = went (all_fresh sc (t.name ∷ enum_names t.names)) _ o h in
    (fresh-new (t.name ∷ enum_names t.names) sc (unit-ok _ w.0 w.1), left (with_names k (enum_names t.names) (declared t.name.text (enum_type k) sc)) [] o w.2)
decl-sound k sc (decls.Structure t) o h =
    let w = went (fresh sc t.name) _ o h in
    let x = went (field_list sc empty_scope (t.first ∷ t.rest)) _ o w.2 in
    let f = fields-sound (t.first ∷ t.rest) sc empty_scope x.0 x.1 in
    (x.0, fresh-has sc t.name (unit-ok _ w.0 w.1), new-apart (field_names (t.first ∷ t.rest)) f.0, f.1, left (declared t.name.text (struct_type k x.0) sc) [] o x.2)
decl-sound k sc (decls.Variable t) o h =
    let w = went (variable_type sc t.kind) _ o h in
    let x = went (fresh sc t.name) _ o w.2 in
    let y = went (shape sc t.dims) _ o x.2 in
    let z = went (bounds_kinds y.0.inner t.bounds) _ o y.2 in
    let u = went (unless (is_decidable t.kind t.bounds w.0) (Mismatch t.at)) _ o z.2 in (
      w.0,
      y.0.dims.indices,
      y.0.inner,
      fresh-has sc t.name (unit-ok _ x.0 x.1),
      (shape-sound sc t.dims y.0 y.1).has,
      variable-sound sc y.0.inner t.kind t.bounds w.0 z.0 w.1 z.1 (passed (is_decidable t.kind t.bounds w.0) (Mismatch t.at) (unit-ok _ u.0 u.1)),
      left (declared t.name.text (variable (shaped y.0.dims.indices w.0)) sc) (y.0.dims.kinds ++ z.0) o u.2,
    )
decl-sound k sc (decls.Activity t) o h =
    let w = went (fresh sc t.name) _ o h in
    let x = went (shape sc t.dims) _ o w.2 in
    let y = went (number_kinds x.0.inner t.shortest) _ o x.2 in
    let z = went (maybe_number x.0.inner t.longest) _ o y.2 in (
      x.0.dims.indices,
      x.0.inner,
      fresh-has sc t.name (unit-ok _ w.0 w.1),
      (shape-sound sc t.dims x.0 x.1).has,
      number-sound x.0.inner t.shortest y.0 y.1,
      maybe-sound x.0.inner t.longest z.0 z.1,
      left (declared t.name.text (activities (shaped x.0.dims.indices activity)) sc) (x.0.dims.kinds ++ (y.0 ++ z.0)) o z.2,
    )
decl-sound k sc (decls.Unary t) o h =
    let w = went (fresh sc t.name) _ o h in
    let x = went (shape sc t.dims) _ o w.2 in
    (x.0.dims.indices, x.0.inner, fresh-has sc t.name (unit-ok _ w.0 w.1), (shape-sound sc t.dims x.0 x.1).has, left (declared t.name.text (resource (shaped x.0.dims.indices unary)) sc) x.0.dims.kinds o x.2)
decl-sound k sc (decls.Discrete t) o h =
    let w = went (fresh sc t.name) _ o h in
    let x = went (shape sc t.dims) _ o w.2 in
    let y = went (number_kinds x.0.inner t.capacity) _ o x.2 in (
      x.0.dims.indices,
      x.0.inner,
      fresh-has sc t.name (unit-ok _ w.0 w.1),
      (shape-sound sc t.dims x.0 x.1).has,
      number-sound x.0.inner t.capacity y.0 y.1,
      left (declared t.name.text (resource (shaped x.0.dims.indices discrete)) sc) (x.0.dims.kinds ++ y.0) o y.2,
    )
decl-sound k sc (decls.Schedule t) o h =
    let w = went (number_kinds sc t.value) _ o h in
    let u = went (unless (not (is_given t.end sc)) (Duplicate t.at)) _ o w.2 in
    (number-sound sc t.value w.0 w.1, not-true (is_given t.end sc) (passed (not (is_given t.end sc)) (Duplicate t.at) (unit-ok _ u.0 u.1)), left (given t.end sc) w.0 o u.2)

-- what typing finds of a declaration that has types
abbrev pub Leaves : Checked Opened → Scope → Type 0
Leaves c there = (o : Opened) × (c ≡ Ok o) × (o.scope ≡ there)

leaves : (c : Checked Opened) (scope there : Scope) (ks : List Sort) → c ≡ Ok (record { scope = scope; kinds = ks }) → scope ≡ there → Leaves c there
leaves c scope there ks h e = (record { scope = scope; kinds = ks }, h, e)

pub decl-complete : (k : ℕ) (sc : Scope) (d : DeclTree) (there : Scope) → Declares k sc d there → Leaves (decl k sc d) there
unfolding decl
decl-complete k sc (decls.Data t) there h =
    let d = shape-complete sc t.dims h.1 h.2 h.5 in
    let left_is : cell_indices d.found.dims ≡ cells_left (dim_names (all_dims t.dims)) h.1 = λ i. cells_left (d.names i) (d.indices i) in
    let behind = subst (λ (inner : Scope). HasInitial inner h.0 (cells_left (dim_names (all_dims t.dims)) h.1) t.initial) (sym d.inside) h.6 in
    let v = initial-complete d.found.inner h.0 (cell_indices d.found.dims) t.initial (subst (λ (js : List Sort). HasInitial d.found.inner h.0 js t.initial) (sym left_is) behind) in
    leaves _ (declared t.name.text (value (shaped d.found.dims.indices h.0)) sc) there (d.found.dims.kinds ++ v.0)
    (step (written_type t.kind sc) _ h.0 _ ((type-agrees t.kind).gives sc h.0 h.3) (step (fresh sc t.name) _ tt _ (has-fresh sc t.name h.4) (step (shape sc t.dims) _ d.found _ d.given
    (step (initial_kinds d.found.inner h.0 (cell_indices d.found.dims) t.initial) _ v.0 _ v.1 refl))))
    (ap (λ js. declared t.name.text (value (shaped js h.0)) sc) d.indices ∙ sym h.7)
decl-complete k sc (decls.Range t) there h =
    let l = number-complete sc t.low h.1 in
    let r = number-complete sc t.high h.2 in
    leaves _ (declared t.name.text range sc) there (l.0 ++ r.0)
    (step (fresh sc t.name) _ tt _ (has-fresh sc t.name h.0) (step (number_kinds sc t.low) _ l.0 _ l.1 (step (number_kinds sc t.high) _ r.0 _ r.1 refl))) (sym h.3)
decl-complete k sc (decls.Enumeration t) there h =
    leaves _ (with_names k (enum_names t.names) (declared t.name.text (enum_type k) sc)) there []
    (step (all_fresh sc (t.name ∷ enum_names t.names)) _ tt _ (new-fresh (t.name ∷ enum_names t.names) sc h.0) refl) (sym h.1)
decl-complete k sc (decls.Structure t) there h =
    leaves _ (declared t.name.text (struct_type k h.0) sc) there []
    (step (fresh sc t.name) _ tt _ (has-fresh sc t.name h.1)
    (step (field_list sc empty_scope (t.first ∷ t.rest)) _ h.0 _ (fields-complete (t.first ∷ t.rest) sc empty_scope h.0 (apart-new (field_names (t.first ∷ t.rest)) h.2) h.3) refl)) (sym h.4)
decl-complete k sc (decls.Variable t) there h =
    let d = shape-complete sc t.dims h.1 h.2 h.4 in
    let v = variable-complete sc d.found.inner t.kind t.bounds h.0 (subst (λ (inner : Scope). IsVariable sc inner t.kind t.bounds h.0) (sym d.inside) h.5) in
    leaves _ (declared t.name.text (variable (shaped d.found.dims.indices h.0)) sc) there (d.found.dims.kinds ++ v.ends)
    (step (variable_type sc t.kind) _ h.0 _ v.kind_is (step (fresh sc t.name) _ tt _ (has-fresh sc t.name h.3) (step (shape sc t.dims) _ d.found _ d.given
    (step (bounds_kinds d.found.inner t.bounds) _ v.ends _ v.ends_are (step (unless (is_decidable t.kind t.bounds h.0) (Mismatch t.at)) _ tt _ (pass (is_decidable t.kind t.bounds h.0) (Mismatch t.at) v.fits) refl)))))
    (ap (λ js. declared t.name.text (variable (shaped js h.0)) sc) d.indices ∙ sym h.6)
decl-complete k sc (decls.Activity t) there h =
    let d = shape-complete sc t.dims h.0 h.1 h.3 in
    let l = number-complete d.found.inner t.shortest (subst (λ (inner : Scope). IsDataNumber inner t.shortest) (sym d.inside) h.4) in
    let r = maybe-complete d.found.inner t.longest (subst (λ (inner : Scope). MayBeDataNumber inner t.longest) (sym d.inside) h.5) in
    leaves _ (declared t.name.text (activities (shaped d.found.dims.indices activity)) sc) there (d.found.dims.kinds ++ (l.0 ++ r.0))
    (step (fresh sc t.name) _ tt _ (has-fresh sc t.name h.2) (step (shape sc t.dims) _ d.found _ d.given (step (number_kinds d.found.inner t.shortest) _ l.0 _ l.1 (step (maybe_number d.found.inner t.longest) _ r.0 _ r.1 refl))))
    (ap (λ js. declared t.name.text (activities (shaped js activity)) sc) d.indices ∙ sym h.6)
decl-complete k sc (decls.Unary t) there h =
    let d = shape-complete sc t.dims h.0 h.1 h.3 in
    leaves _ (declared t.name.text (resource (shaped d.found.dims.indices unary)) sc) there d.found.dims.kinds
    (step (fresh sc t.name) _ tt _ (has-fresh sc t.name h.2) (step (shape sc t.dims) _ d.found _ d.given refl)) (ap (λ js. declared t.name.text (resource (shaped js unary)) sc) d.indices ∙ sym h.4)
decl-complete k sc (decls.Discrete t) there h =
    let d = shape-complete sc t.dims h.0 h.1 h.3 in
    let l = number-complete d.found.inner t.capacity (subst (λ (inner : Scope). IsDataNumber inner t.capacity) (sym d.inside) h.4) in
    leaves _ (declared t.name.text (resource (shaped d.found.dims.indices discrete)) sc) there (d.found.dims.kinds ++ l.0)
    (step (fresh sc t.name) _ tt _ (has-fresh sc t.name h.2) (step (shape sc t.dims) _ d.found _ d.given (step (number_kinds d.found.inner t.capacity) _ l.0 _ l.1 refl)))
    (ap (λ js. declared t.name.text (resource (shaped js discrete)) sc) d.indices ∙ sym h.5)
decl-complete k sc (decls.Schedule t) there h =
    let l = number-complete sc t.value h.0 in
    leaves _ (given t.end sc) there l.0
    (step (number_kinds sc t.value) _ l.0 _ l.1 (step (unless (not (is_given t.end sc)) (Duplicate t.at)) _ tt _ (pass (not (is_given t.end sc)) (Duplicate t.at) (true-not (is_given t.end sc) h.1)) refl)) (sym h.2)

-- ---- several

pub decls-sound : (ds : List DeclTree) (k : ℕ) (sc : Scope) (o : Opened) → all_decls k sc ds ≡ Ok o → AllDeclare k sc ds o.scope
decls-sound [] k sc o h = left sc [] o h
decls-sound (d ∷ ds) k sc o h =
    let w = went (decl k sc d) _ o h in
    let x = went (all_decls (next k) w.0.scope ds) _ o w.2 in
    (w.0.scope, decl-sound k sc d w.0 w.1, subst (AllDeclare (next k) w.0.scope ds) (sym (left x.0.scope (w.0.kinds ++ x.0.kinds) o x.2)) (decls-sound ds (next k) w.0.scope x.0 x.1))

pub decls-complete : (ds : List DeclTree) (k : ℕ) (sc there : Scope) → AllDeclare k sc ds there → Leaves (all_decls k sc ds) there
decls-complete [] k sc there h = (record { scope = sc; kinds = [] }, refl, sym h)
decls-complete (d ∷ ds) k sc there h =
    let first = decl-complete k sc d h.0 h.1 in
    let rest = decls-complete ds (next k) first.0.scope there (subst (λ (s : Scope). AllDeclare (next k) s ds there) (sym first.2) h.2) in
    leaves _ rest.0.scope there (first.0.kinds ++ rest.0.kinds) (step (decl k sc d) _ first.0 _ first.1 (step (all_decls (next k) first.0.scope ds) _ rest.0 _ rest.1 refl)) rest.2
