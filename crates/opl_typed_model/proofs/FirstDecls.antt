-- Typing of a declaration finds that something is no data exactly where it first comes to such an expression.
use Rattle.std.proofs.Common.{ℕ, not, List, [], ◌∷◌, Option, None, Some, sym, subst}
use Rattle.opl_tree.specs.declared.declaration.BoundsTree.{BoundsTree}
use Rattle.opl_tree.specs.declared.declaration.DeclTree.{DeclTree}
use Rattle.opl_tree.specs.declared.declaration.DeclTree.TheVariants as decls
use Rattle.opl_tree.specs.declared.declaration.DimTree.{DimTree}
use Rattle.opl_tree.specs.declared.declaration.DimsTree.{DimsTree}
use Rattle.opl_tree.specs.declared.declaration.FieldTree.{FieldTree}
use Rattle.opl_tree.specs.declared.declaration.InitialTree.{InitialTree}
use Rattle.opl_tree.specs.declared.declaration.InitialTree.TheVariants as initials
use Rattle.opl_tree.specs.declared.declaration.TypeTree.{TypeTree}
use Rattle.opl_tree.specs.declared.declaration.TypeTree.TheFolds.{ind-TypeTree, map-TypeTree}
use Rattle.opl_tree.specs.declared.declaration.TypeTree.TheOpen.{TypeTree-F}
use Rattle.opl_tree.specs.declared.declaration.VariableTypeTree.{VariableTypeTree}
use Rattle.opl_tree.specs.declared.declaration.VariableTypeTree.TheVariants as types
use Rattle.opl_tree.specs.declared.expression.AddTree.{AddTree}
use Rattle.opl_tree.specs.declared.expression.NameTree.{NameTree}
use Rattle.opl_type_rules.specs.Types.{Sort, is_number, is_set}
use Rattle.opl_type_rules.specs.Types.Sort.{anything}
use Rattle.opl_type_rules.specs.Scope.{Checked, and_then, Scope, declared, empty_scope, fits_in, fresh, lookup, type_of}
use Rattle.opl_type_rules.specs.Scope.Thing.{value}
use Rattle.opl_type_rules.specs.Forms.{Form, Forms, Pairs, form_add, form_set}
use Rattle.opl_type_rules.specs.Forms.Form.{cells, keyed_cells}
use Rattle.opl_type_rules.specs.Forms.Forms.{no_forms, more_forms}
use Rattle.opl_type_rules.specs.Forms.Pairs.{no_pairs, more_pairs}
use Rattle.opl_type_rules.specs.Expressions.Need.{data_alone}
use Rattle.opl_expression_types.specs.Numbers.{maybe_number, number_kinds}
use Rattle.opl_declaration_types.specs.Declarations.{Shape, all_decls, all_dims, bounds_kinds, decl, dimensions, enum_names, field_list, fresh_in, initial, initial_cells, initial_kinds, initial_pairs, is_decidable, is_given, known_type, next, shape, shaped, type_layer, variable_type, written_type}
use Rattle.opl_model_types.proofs.PureDecls.{written_type-roll}
use Rattle.opl_not_data.proofs.First.{Finds, Never, all_fresh-never, finds-behind, finds-last, finds-then, fresh-never, never-duplicate, never-finds, never-mismatch, never-ok, never-then, not_data_is_first, not_data_is_first_of_sets}
use Rattle.opl_typed_model.specs.First.{InBounds, InCells, InDecl, InDecls, InDimensions, InDims, InInitial, InKeyed, InNumber, InNumbers, InValue, MayBeInNumber}

-- ---- steps that never find it

known_type-never : (name : NameTree) (o : Option Sort) → Never (known_type name o)
known_type-never name None at h = absurd (cc)
known_type-never name (Some s) at h = absurd (cc)

abbrev NeverType : TypeTree → Type 0
NeverType t = (sc : Scope) → Never (written_type t sc)

abbrev Inner : Type 0
Inner = (t : TypeTree) × NeverType t

layer-never : (y : TypeTree-F Inner) (sc : Scope) → Never (type_layer (map-TypeTree TypeTree (Scope → Checked Sort) written_type (map-TypeTree Inner TypeTree (λ e. e.0) y)) sc)
layer-never (TypeTree-F.Int at) sc = never-ok _
layer-never (TypeTree-F.Named name) sc = known_type-never name (type_of (lookup sc name.text))
layer-never (TypeTree-F.Set at inner) sc = never-then (written_type inner.0 sc) _ (inner.1 sc) (λ s. never-ok _)

written_type-never : (t : TypeTree) → NeverType t
written_type-never = ind-TypeTree NeverType (λ x y is sc.
    subst (λ (l : Scope → Checked Sort). Never (l sc)) (sym (written_type-roll x))
    (subst (λ (z : TypeTree-F TypeTree). Never (type_layer (map-TypeTree TypeTree (Scope → Checked Sort) written_type z) sc)) is (layer-never y sc)))

fresh_in-never : (sc : Scope) (o : Option NameTree) → Never (fresh_in sc o)
fresh_in-never sc None = never-ok sc
fresh_in-never sc (Some name) = never-then (fresh sc name) _ (fresh-never sc name) (λ u. never-ok _)

fields-never : (fs : List FieldTree) (sc taken : Scope) → Never (field_list sc taken fs)
fields-never [] sc taken = never-ok _
fields-never (f ∷ fs) sc taken =
    never-then (written_type f.kind sc) _ (written_type-never f.kind sc) (λ s.
    never-then (fresh taken f.name) _ (fresh-never taken f.name) (λ u.
    never-then (field_list sc (declared f.name.text (value anything) taken) fs) _ (fields-never fs sc (declared f.name.text (value anything) taken)) (λ rest. never-ok _)))

variable_type-never : (sc : Scope) (t : VariableTypeTree) → Never (variable_type sc t)
variable_type-never sc (types.Int at) = never-ok _
variable_type-never sc (types.Named name) = known_type-never name (type_of (lookup sc name.text))

-- ---- numbers, dimensions and initial values

pub number-finds : (sc : Scope) (t : AddTree) → Finds (number_kinds sc t) (InNumber sc t)
number-finds sc t = finds-last _ _ _ (not_data_is_first sc (form_add t) data_alone is_number) (λ n. never-ok _)

pub maybe-finds : (sc : Scope) (t : Option AddTree) → Finds (maybe_number sc t) (MayBeInNumber sc t)
maybe-finds sc None = never-finds _ (never-ok _)
maybe-finds sc (Some t) = number-finds sc t

dimensions-find : (ds : List DimTree) (sc taken : Scope) → Finds (dimensions sc taken ds) (InDimensions sc taken ds)
dimensions-find [] sc taken = never-finds _ (never-ok _)
dimensions-find (d ∷ ds) sc taken =
    finds-behind _ _ _ (fresh_in-never taken d.name) (λ more h.
    finds-then _ _ _ _ (not_data_is_first_of_sets sc (form_set d.set) data_alone is_set) (λ over i.
    finds-last _ _ _ (dimensions-find ds sc more) (λ rest. never-ok _)))

-- dimensions, and steps behind them
dims-find : {B : Type 0} (sc : Scope) (dims : Option DimsTree) (next : Shape → Checked B) (Behind : Shape → ℕ → Type 0) → ((d : Shape) → Finds (next d) (Behind d)) →
    Finds (and_then (shape sc dims) next) (λ at. InDims sc dims (λ d. Behind d at) at)
dims-find sc dims next Behind h = finds-then (shape sc dims) next (InDimensions sc sc (all_dims dims)) Behind (finds-last _ _ _ (dimensions-find (all_dims dims) sc sc) (λ d. never-ok _)) (λ d e. h d)

mutual
  unfolding initial initial_cells initial_pairs

  value-finds : (f : Form) (sc : Scope) (s : Sort) (is : List Sort) → Finds (initial sc s is f) (InValue sc s is f)
  value-finds f sc s [] = finds-last _ _ _ (not_data_is_first sc f data_alone (fits_in sc s)) (λ n. never-ok _)
  value-finds (cells p fs) sc s (i ∷ is) = finds-last _ _ _ (cells-find fs sc s is) (λ ks. never-ok _)
  value-finds (keyed_cells p ps) sc s (i ∷ is) = finds-last _ _ _ (keyed-find ps sc s i is) (λ ks. never-ok _)
  value-finds f sc s (i ∷ is) = finds-last _ _ _ (not_data_is_first sc f data_alone (fits_in sc (shaped (i ∷ is) s))) (λ n. never-ok _)

  cells-find : (fs : Forms) (sc : Scope) (s : Sort) (is : List Sort) → Finds (initial_cells sc s is fs) (InCells sc s is fs)
  cells-find no_forms sc s is = never-finds _ (never-ok _)
  cells-find (more_forms f fs) sc s is = finds-then _ _ _ _ (value-finds f sc s is) (λ ks h. finds-last _ _ _ (cells-find fs sc s is) (λ more. never-ok _))

  keyed-find : (ps : Pairs) (sc : Scope) (s i : Sort) (is : List Sort) → Finds (initial_pairs sc s i is ps) (InKeyed sc s i is ps)
  keyed-find no_pairs sc s i is = never-finds _ (never-ok _)
  keyed-find (more_pairs key cell others) sc s i is =
      finds-then _ _ _ _ (not_data_is_first sc key data_alone (fits_in sc i)) (λ n h.
      finds-then _ _ _ _ (value-finds cell sc s is) (λ ks j. finds-last _ _ _ (keyed-find others sc s i is) (λ more. never-ok _)))

initial-finds : (sc : Scope) (s : Sort) (is : List Sort) (t : InitialTree) → Finds (initial_kinds sc s is t) (InInitial sc s is t)
initial-finds sc s is (initials.External p) = never-finds _ (never-ok _)
initial-finds sc s is (initials.Written t) = value-finds (form_add t) sc s is

-- ---- declarations

numbers-find : {B : Type 0} (sc : Scope) (low high : AddTree) (next : List Sort → List Sort → Checked B) → ((l h : List Sort) → Never (next l h)) →
    Finds (and_then (number_kinds sc low) (λ l. and_then (number_kinds sc high) (λ h. next l h))) (InNumbers sc low high)
numbers-find sc low high next never = finds-then _ _ _ _ (number-finds sc low) (λ l e. finds-last _ _ _ (number-finds sc high) (λ h. never l h))

bounds-find : (sc : Scope) (o : Option BoundsTree) → Finds (bounds_kinds sc o) (InBounds sc o)
bounds-find sc None = never-finds _ (never-ok _)
bounds-find sc (Some b) = numbers-find sc b.low b.high _ (λ l h. never-ok _)

pub decl-finds : (k : ℕ) (sc : Scope) (d : DeclTree) → Finds (decl k sc d) (InDecl sc d)
unfolding decl
decl-finds k sc (decls.Data t) =
    finds-behind _ _ _ (written_type-never t.kind sc) (λ s h.
    finds-behind _ _ _ (fresh-never sc t.name) (λ u i.
    dims-find sc t.dims _ _ (λ d. finds-last _ _ _ (initial-finds d.inner s _ t.initial) (λ ks. never-ok _))))
decl-finds k sc (decls.Range t) = finds-behind _ _ _ (fresh-never sc t.name) (λ u i. numbers-find sc t.low t.high _ (λ l h. never-ok _))
decl-finds k sc (decls.Enumeration t) = never-finds _ (never-then _ _ (all_fresh-never (t.name ∷ enum_names t.names) sc) (λ u. never-ok _))
decl-finds k sc (decls.Structure t) = never-finds _ (never-then _ _ (fresh-never sc t.name) (λ u. never-then _ _ (fields-never (t.first ∷ t.rest) sc empty_scope) (λ fields. never-ok _)))
decl-finds k sc (decls.Variable t) =
    finds-behind _ _ _ (variable_type-never sc t.kind) (λ s h.
    finds-behind _ _ _ (fresh-never sc t.name) (λ u i.
    dims-find sc t.dims _ _ (λ d. finds-last _ _ _ (bounds-find d.inner t.bounds) (λ ks. never-then _ _ (never-mismatch (is_decidable t.kind t.bounds s) t.at) (λ v. never-ok _)))))
decl-finds k sc (decls.Activity t) =
    finds-behind _ _ _ (fresh-never sc t.name) (λ u i.
    dims-find sc t.dims _ _ (λ d. finds-then _ _ _ _ (number-finds d.inner t.shortest) (λ ks h. finds-last _ _ _ (maybe-finds d.inner t.longest) (λ more. never-ok _))))
decl-finds k sc (decls.Unary t) = finds-behind _ _ _ (fresh-never sc t.name) (λ u i. dims-find sc t.dims _ _ (λ d. never-finds _ (never-ok _)))
decl-finds k sc (decls.Discrete t) = finds-behind _ _ _ (fresh-never sc t.name) (λ u i. dims-find sc t.dims _ _ (λ d. finds-last _ _ _ (number-finds d.inner t.capacity) (λ ks. never-ok _)))
decl-finds k sc (decls.Schedule t) = finds-last _ _ _ (number-finds sc t.value) (λ ks. never-then _ _ (never-duplicate (not (is_given t.end sc)) t.at) (λ u. never-ok _))

pub decls-find : (ds : List DeclTree) (k : ℕ) (sc : Scope) → Finds (all_decls k sc ds) (InDecls k sc ds)
decls-find [] k sc = never-finds _ (never-ok _)
decls-find (d ∷ ds) k sc = finds-then _ _ _ _ (decl-finds k sc d) (λ o h. finds-last _ _ _ (decls-find ds (next k) o.scope) (λ rest. never-ok _))
