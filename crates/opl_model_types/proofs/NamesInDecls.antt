-- Each name in a declaration that typing accepts has exactly one visible declaration.
use Rattle.std.proofs.Common.{◌≡◌, ℕ, List, [], ◌∷◌, Option, None, Some, Ok, refl, ap, ◌∙◌, sym, subst}
use Rattle.opl_tree.specs.declared.declaration.BoundsTree.{BoundsTree}
use Rattle.opl_tree.specs.declared.declaration.DeclTree.{DeclTree}
use Rattle.opl_tree.specs.declared.declaration.DeclTree.TheVariants as decls
use Rattle.opl_tree.specs.declared.declaration.DimTree.{DimTree}
use Rattle.opl_tree.specs.declared.declaration.DimsTree.{DimsTree}
use Rattle.opl_tree.specs.declared.declaration.FieldTree.{FieldTree}
use Rattle.opl_tree.specs.declared.declaration.InitialTree.{InitialTree}
use Rattle.opl_tree.specs.declared.declaration.InitialTree.TheVariants as initials
use Rattle.opl_tree.specs.declared.declaration.TypeTree.{TypeTree}
use Rattle.opl_tree.specs.declared.declaration.TypeTree.TheFolds.{fold-roll-TypeTree, ind-TypeTree, map-TypeTree}
use Rattle.opl_tree.specs.declared.declaration.TypeTree.TheOpen.{TypeTree-F}
use Rattle.opl_tree.specs.declared.declaration.TypeTree.TheViews.{roll-TypeTree}
use Rattle.opl_tree.specs.declared.declaration.VariableTypeTree.{VariableTypeTree}
use Rattle.opl_tree.specs.declared.declaration.VariableTypeTree.TheVariants as types
use Rattle.opl_tree.specs.declared.expression.AddTree.{AddTree}
use Rattle.opl_tree.specs.declared.expression.NameTree.{NameTree}
use Rattle.opl_type_rules.specs.Types.{Sort, is_set}
use Rattle.opl_type_rules.specs.Types.Sort.{anything}
use Rattle.opl_type_rules.specs.Scope.{Checked, and_then, Scope, Thing, Field, found, lookup, type_of, declared, fresh, empty_scope}
use Rattle.opl_type_rules.specs.Scope.Thing.{value}
use Rattle.opl_type_rules.specs.Forms.{Form, Forms, Pairs, form_add, form_set}
use Rattle.opl_type_rules.specs.Forms.Form.{cells, keyed_cells}
use Rattle.opl_type_rules.specs.Forms.Forms.{no_forms, more_forms}
use Rattle.opl_type_rules.specs.Forms.Pairs.{no_pairs, more_pairs}
use Rattle.opl_type_rules.specs.Expressions.{Node, Opened, data_number, used, typing, typed_set}
use Rattle.opl_type_rules.specs.Expressions.Need.{data_alone}
use Rattle.opl_expression_types.specs.Numbers.{number_kinds, maybe_number}
use Rattle.opl_declaration_types.specs.Declarations.{known_type, named_type, type_layer, written_type, Dimensions, fresh_in, dimensions, all_dims, Shape, shape, initial, initial_cells, initial_pairs, initial_kinds, cell_indices, bounds_kinds, variable_type, field_list, next, decl, all_decls}
use Rattle.opl_model_types.specs.Laws.{IsDeclaredOnce, EachDeclared, AllDeclared, PairsDeclared, IsTypeName, type_name_layer, type_name, TypeDeclared, VariableTypeDeclared, FieldsDeclared, DimsDeclared, BehindDims, NumberDeclared, MaybeDeclared, BoundsDeclared, InitialDeclared, DeclDeclared, DeclsDeclared}
use Rattle.opl_model_types.proofs.Once.{went, ok-and, found-declared}
use Rattle.opl_model_types.proofs.EachOnce.{set_declared, typed_is_declared}
use Rattle.opl_model_types.proofs.DeclsOnce.{dims_declare_once, decl-once}
use Rattle.opl_model_types.proofs.PureDecls.{written_type-roll}

-- an expression that a place accepts, with what is made of it
pub used-names : {B : Type 0} (sc : Scope) (f : Form) (g : Node → Checked Node) (make : Node → Checked B) (b : B) → IsDeclaredOnce sc → and_then (and_then (typing sc f) g) make ≡ Ok b → EachDeclared sc f
used-names sc f g make b once h =
    let w = went (and_then (typing sc f) g) make b h in
    let x = went (typing sc f) g w.0 w.1 in
    typed_is_declared sc f x.0 once x.1

-- ---- types

known-sort : (name : NameTree) (o : Option Sort) (s : Sort) → known_type name o ≡ Ok s → o ≡ Some s
known-sort name None s h = absurd (cc)
known-sort name (Some r) s h = cc

found-type : (o : Option Thing) (s : Sort) → type_of o ≡ Some s → (thing : Thing) × (o ≡ Some thing)
found-type None s h = absurd (cc)
found-type (Some thing) s h = (thing, refl)

is_type_name : (sc : Scope) (name : NameTree) (s : Sort) → IsDeclaredOnce sc → named_type sc name ≡ Ok s → IsTypeName sc name
unfolding lookup
is_type_name sc name s once h =
    let is = known-sort name (type_of (found name.text sc.entries)) s h in
    let w = found-type (found name.text sc.entries) s is in
    let d = found-declared sc name.text w.0 once w.1 in
    record { declared = d.0; sort = s; is_type = ap (λ t. type_of (Some t)) d.1 ∙ sym (ap type_of w.1) ∙ is }

-- a type that is accepted, and the name in it
abbrev Names : (Scope → Checked Sort) → Option NameTree → Type 0
Names reads name = (sc : Scope) (s : Sort) → IsDeclaredOnce sc → reads sc ≡ Ok s → TypeDeclared sc name

-- what is known of the parts of a type
abbrev Inner : Type 0
Inner = (t : TypeTree) × Names (written_type t) (type_name t)

abbrev type_of_layer : TypeTree-F TypeTree → Scope → Checked Sort
type_of_layer x = type_layer (map-TypeTree TypeTree (Scope → Checked Sort) written_type x)

abbrev name_of_layer : TypeTree-F TypeTree → Option NameTree
name_of_layer x = type_name_layer (map-TypeTree TypeTree (Option NameTree) type_name x)

layer-names : (y : TypeTree-F Inner) → Names (type_of_layer (map-TypeTree Inner TypeTree (λ e. e.0) y)) (name_of_layer (map-TypeTree Inner TypeTree (λ e. e.0) y))
layer-names (TypeTree-F.Int at) sc s once h = tt
layer-names (TypeTree-F.Named name) sc s once h = is_type_name sc name s once h
layer-names (TypeTree-F.Set at inner) sc s once h = let w = went (written_type inner.0 sc) _ s h in inner.1 sc w.0 once w.1

type_name-roll : (x : TypeTree-F TypeTree) → type_name (roll-TypeTree x) ≡ name_of_layer x
unfolding type_name
type_name-roll x = fold-roll-TypeTree (Option NameTree) type_name_layer x

type-names : (t : TypeTree) → Names (written_type t) (type_name t)
type-names = ind-TypeTree (λ t. Names (written_type t) (type_name t)) (λ x y is.
    subst (λ (l : Scope → Checked Sort). Names l (type_name (roll-TypeTree x))) (sym (written_type-roll x))
    (subst (λ (n : Option NameTree). Names (type_of_layer x) n) (sym (type_name-roll x))
    (subst (λ (z : TypeTree-F TypeTree). Names (type_of_layer z) (name_of_layer z)) is (layer-names y))))

variable_type-names : (sc : Scope) (t : VariableTypeTree) (s : Sort) → IsDeclaredOnce sc → variable_type sc t ≡ Ok s → VariableTypeDeclared sc t
variable_type-names sc (types.Int at) s once h = tt
variable_type-names sc (types.Named name) s once h = is_type_name sc name s once h

-- ---- dimensions

dims-names : (ds : List DimTree) (sc taken : Scope) (d : Dimensions) → IsDeclaredOnce sc → dimensions sc taken ds ≡ Ok d → DimsDeclared sc ds
dims-names [] sc taken d once h = tt
dims-names (x ∷ xs) sc taken d once h =
    let w = went (fresh_in taken x.name) _ d h in
    let y = went (typed_set data_alone is_set sc (form_set x.set)) _ d w.2 in
    let z = went (dimensions sc w.0 xs) _ d y.2 in
    (set_declared (form_set x.set) data_alone is_set sc y.0 once y.1, dims-names xs sc w.0 z.0 once z.1)

shape-names : (sc : Scope) (dims : Option DimsTree) (s : Shape) → IsDeclaredOnce sc → shape sc dims ≡ Ok s → DimsDeclared sc (all_dims dims)
shape-names sc dims s once h = let w = went (dimensions sc sc (all_dims dims)) _ s h in dims-names (all_dims dims) sc sc w.0 once w.1

behind-dims : (sc : Scope) (dims : Option DimsTree) (s : Shape) (Rest : Scope → Type 0) → IsDeclaredOnce sc → shape sc dims ≡ Ok s → (IsDeclaredOnce s.inner → Rest s.inner) → BehindDims sc dims Rest
behind-dims sc dims s Rest once h rest = (
  shape-names sc dims s once h,
  ok-and (shape sc dims) s (λ t. Rest t.inner) h (rest (dims_declare_once sc dims s once h)),
)

-- ---- values

mutual
  unfolding initial

  initial-names : (sc : Scope) (s : Sort) (is : List Sort) (f : Form) (ks : List Sort) → IsDeclaredOnce sc → initial sc s is f ≡ Ok ks → EachDeclared sc f
  initial-names sc s (i ∷ is) (cells at fs) ks once h = let w = went (initial_cells sc s is fs) _ ks h in cells-names fs sc s is w.0 once w.1
  initial-names sc s (i ∷ is) (keyed_cells at ps) ks once h = let w = went (initial_pairs sc s i is ps) _ ks h in pairs-names ps sc s i is w.0 once w.1
  initial-names sc s is f ks once h = used-names sc f _ _ ks once h

  cells-names : (fs : Forms) (sc : Scope) (s : Sort) (is : List Sort) (ks : List Sort) → IsDeclaredOnce sc → initial_cells sc s is fs ≡ Ok ks → AllDeclared sc fs
  cells-names no_forms sc s is ks once h = tt
  cells-names (more_forms f fs) sc s is ks once h =
      let w = went (initial sc s is f) _ ks h in
      let x = went (initial_cells sc s is fs) _ ks w.2 in
      (initial-names sc s is f w.0 once w.1, cells-names fs sc s is x.0 once x.1)

  pairs-names : (ps : Pairs) (sc : Scope) (s i : Sort) (is : List Sort) (ks : List Sort) → IsDeclaredOnce sc → initial_pairs sc s i is ps ≡ Ok ks → PairsDeclared sc ps
  pairs-names no_pairs sc s i is ks once h = tt
  pairs-names (more_pairs key cell others) sc s i is ks once h =
      let w = went (and_then (typing sc key) (used data_alone _)) _ ks h in
      let x = went (initial sc s is cell) _ ks w.2 in
      let y = went (initial_pairs sc s i is others) _ ks x.2 in
      (used-names sc key _ _ ks once h, initial-names sc s is cell x.0 once x.1, pairs-names others sc s i is y.0 once y.1)

value-names : (sc : Scope) (s : Sort) (is : List Sort) (t : InitialTree) (ks : List Sort) → IsDeclaredOnce sc → initial_kinds sc s is t ≡ Ok ks → InitialDeclared sc t
value-names sc s is (initials.External at) ks once h = tt
value-names sc s is (initials.Written t) ks once h = initial-names sc s is (form_add t) ks once h

number-names : (sc : Scope) (t : AddTree) (ks : List Sort) → IsDeclaredOnce sc → number_kinds sc t ≡ Ok ks → NumberDeclared sc t
number-names sc t ks once h = used-names sc (form_add t) data_number _ ks once h

pub maybe-names : (sc : Scope) (t : Option AddTree) (ks : List Sort) → IsDeclaredOnce sc → maybe_number sc t ≡ Ok ks → MaybeDeclared sc t
maybe-names sc None ks once h = tt
maybe-names sc (Some t) ks once h = number-names sc t ks once h

bounds-names : (sc : Scope) (b : Option BoundsTree) (ks : List Sort) → IsDeclaredOnce sc → bounds_kinds sc b ≡ Ok ks → BoundsDeclared sc b
bounds-names sc None ks once h = tt
bounds-names sc (Some b) ks once h =
    let w = went (number_kinds sc b.low) _ ks h in
    let x = went (number_kinds sc b.high) _ ks w.2 in
    (number-names sc b.low w.0 once w.1, number-names sc b.high x.0 once x.1)

-- ---- declarations

fields-names : (fs : List FieldTree) (sc taken : Scope) (o : List Field) → IsDeclaredOnce sc → field_list sc taken fs ≡ Ok o → FieldsDeclared sc fs
fields-names [] sc taken o once h = tt
fields-names (f ∷ fs) sc taken o once h =
    let w = went (written_type f.kind sc) _ o h in
    let x = went (fresh taken f.name) _ o w.2 in
    let y = went (field_list sc (declared f.name.text (value anything) taken) fs) _ o x.2 in
    (type-names f.kind sc w.0 once w.1, fields-names fs sc (declared f.name.text (value anything) taken) y.0 once y.1)

decl-names : (k : ℕ) (sc : Scope) (d : DeclTree) (o : Opened) → IsDeclaredOnce sc → decl k sc d ≡ Ok o → DeclDeclared sc d
unfolding decl
decl-names k sc (decls.Data t) o once h =
    let w = went (written_type t.kind sc) _ o h in
    let x = went (fresh sc t.name) _ o w.2 in
    let y = went (shape sc t.dims) _ o x.2 in
    let z = went (initial_kinds y.0.inner w.0 (cell_indices y.0.dims) t.initial) _ o y.2 in (
      type-names t.kind sc w.0 once w.1,
      behind-dims sc t.dims y.0 (λ inner. InitialDeclared inner t.initial) once y.1 (λ inner. value-names y.0.inner w.0 (cell_indices y.0.dims) t.initial z.0 inner z.1),
    )
decl-names k sc (decls.Range t) o once h =
    let w = went (fresh sc t.name) _ o h in
    let x = went (number_kinds sc t.low) _ o w.2 in
    let y = went (number_kinds sc t.high) _ o x.2 in
    (number-names sc t.low x.0 once x.1, number-names sc t.high y.0 once y.1)
decl-names k sc (decls.Enumeration t) o once h = tt
decl-names k sc (decls.Structure t) o once h =
    let w = went (fresh sc t.name) _ o h in
    let x = went (field_list sc empty_scope (t.first ∷ t.rest)) _ o w.2 in
    fields-names (t.first ∷ t.rest) sc empty_scope x.0 once x.1
decl-names k sc (decls.Variable t) o once h =
    let w = went (variable_type sc t.kind) _ o h in
    let x = went (fresh sc t.name) _ o w.2 in
    let y = went (shape sc t.dims) _ o x.2 in
    let z = went (bounds_kinds y.0.inner t.bounds) _ o y.2 in (
      variable_type-names sc t.kind w.0 once w.1,
      behind-dims sc t.dims y.0 (λ inner. BoundsDeclared inner t.bounds) once y.1 (λ inner. bounds-names y.0.inner t.bounds z.0 inner z.1),
    )
decl-names k sc (decls.Activity t) o once h =
    let w = went (fresh sc t.name) _ o h in
    let x = went (shape sc t.dims) _ o w.2 in
    let y = went (number_kinds x.0.inner t.shortest) _ o x.2 in
    let z = went (maybe_number x.0.inner t.longest) _ o y.2 in
    behind-dims sc t.dims x.0 (λ inner. NumberDeclared inner t.shortest × MaybeDeclared inner t.longest) once x.1
    (λ inner. (number-names x.0.inner t.shortest y.0 inner y.1, maybe-names x.0.inner t.longest z.0 inner z.1))
decl-names k sc (decls.Unary t) o once h =
    let w = went (fresh sc t.name) _ o h in
    let x = went (shape sc t.dims) _ o w.2 in
    behind-dims sc t.dims x.0 (λ inner. Unit {0}) once x.1 (λ inner. tt)
decl-names k sc (decls.Discrete t) o once h =
    let w = went (fresh sc t.name) _ o h in
    let x = went (shape sc t.dims) _ o w.2 in
    let y = went (number_kinds x.0.inner t.capacity) _ o x.2 in
    behind-dims sc t.dims x.0 (λ inner. NumberDeclared inner t.capacity) once x.1 (λ inner. number-names x.0.inner t.capacity y.0 inner y.1)
decl-names k sc (decls.Schedule t) o once h = let w = went (number_kinds sc t.value) _ o h in number-names sc t.value w.0 once w.1

pub decls-names : (ds : List DeclTree) (k : ℕ) (sc : Scope) (o : Opened) → IsDeclaredOnce sc → all_decls k sc ds ≡ Ok o → DeclsDeclared k sc ds
decls-names [] k sc o once h = tt
decls-names (d ∷ ds) k sc o once h =
    let w = went (decl k sc d) _ o h in
    let x = went (all_decls (next k) w.0.scope ds) _ o w.2 in (
      decl-names k sc d w.0 once w.1,
      ok-and (decl k sc d) w.0 (λ first. DeclsDeclared (next k) first.scope ds) w.1 (decls-names ds (next k) w.0.scope x.0 (decl-once k sc d w.0 once w.1) x.1),
    )
