-- Want of memory is no fault that the rules of declarations find.
use Rattle.std.proofs.Common.{◌≡◌, ℕ, not, List, [], ◌∷◌, Option, None, Some, sym, subst}
use Rattle.opl_tree.specs.declared.declaration.ActivityTree.{ActivityTree}
use Rattle.opl_tree.specs.declared.declaration.BoundsTree.{BoundsTree}
use Rattle.opl_tree.specs.declared.declaration.DataDeclTree.{DataDeclTree}
use Rattle.opl_tree.specs.declared.declaration.DeclTree.{DeclTree}
use Rattle.opl_tree.specs.declared.declaration.DeclTree.TheVariants as decls
use Rattle.opl_tree.specs.declared.declaration.DimTree.{DimTree}
use Rattle.opl_tree.specs.declared.declaration.DimsTree.{DimsTree}
use Rattle.opl_tree.specs.declared.declaration.DiscreteTree.{DiscreteTree}
use Rattle.opl_tree.specs.declared.declaration.EnumTree.{EnumTree}
use Rattle.opl_tree.specs.declared.declaration.FieldTree.{FieldTree}
use Rattle.opl_tree.specs.declared.declaration.InitialTree.{InitialTree}
use Rattle.opl_tree.specs.declared.declaration.InitialTree.TheVariants as initials
use Rattle.opl_tree.specs.declared.declaration.RangeTree.{RangeTree}
use Rattle.opl_tree.specs.declared.declaration.ScheduleTree.{ScheduleTree}
use Rattle.opl_tree.specs.declared.declaration.StructTree.{StructTree}
use Rattle.opl_tree.specs.declared.declaration.TypeTree.{TypeTree}
use Rattle.opl_tree.specs.declared.declaration.TypeTree.TheFolds.{fold-roll-TypeTree, ind-TypeTree, map-TypeTree}
use Rattle.opl_tree.specs.declared.declaration.TypeTree.TheOpen.{TypeTree-F}
use Rattle.opl_tree.specs.declared.declaration.TypeTree.TheViews.{roll-TypeTree}
use Rattle.opl_tree.specs.declared.declaration.UnaryTree.{UnaryTree}
use Rattle.opl_tree.specs.declared.declaration.VariableTree.{VariableTree}
use Rattle.opl_tree.specs.declared.declaration.VariableTypeTree.{VariableTypeTree}
use Rattle.opl_tree.specs.declared.declaration.VariableTypeTree.TheVariants as types
use Rattle.opl_tree.specs.declared.expression.AddTree.{AddTree}
use Rattle.opl_tree.specs.declared.expression.NameTree.{NameTree}
use Rattle.opl_type_rules.specs.declared.fault.TypeFault.TheVariants.{Unknown, Duplicate, Mismatch}
use Rattle.opl_type_rules.specs.Types.{Sort, is_number, is_set}
use Rattle.opl_type_rules.specs.Types.Sort.{int}
use Rattle.opl_type_rules.specs.Scope.{Checked, Scope, empty_scope, lookup, declared, fits_in, type_of}
use Rattle.opl_type_rules.specs.Scope.Thing.{value}
use Rattle.opl_type_rules.specs.Types.Sort.{anything}
use Rattle.opl_type_rules.specs.Forms.{Form, Forms, Pairs, form_add, form_set}
use Rattle.opl_type_rules.specs.Forms.Form.{cells, keyed_cells}
use Rattle.opl_type_rules.specs.Forms.Forms.{no_forms, more_forms}
use Rattle.opl_type_rules.specs.Forms.Pairs.{no_pairs, more_pairs}
use Rattle.opl_type_rules.specs.Expressions.Need.{data_alone}
use Rattle.opl_expression_types.specs.Numbers.{number_kinds, maybe_number}
use Rattle.opl_declaration_types.specs.Declarations.{known_type, named_type, type_layer, written_type, fresh_in, dimensions, all_dims, shaped, initial, initial_cells, initial_pairs, initial_kinds, cell_indices, shape, data_decl, range_decl, enum_names, enum_decl, field_list, struct_decl, variable_type, bounds_kinds, is_decidable, variable_decl, activity_decl, unary_decl, discrete_decl, is_given, schedule_decl, decl, next, all_decls}
use Rattle.opl_expression_types.proofs.Pure.{Real, real_ok, real_err, real_then, real_unless, real_fresh, real_all_fresh, real_used, real_typing, real_typed_set}

-- ---- types

real_known_type : (name : NameTree) (s : Option Sort) → Real (known_type name s)
real_known_type name None = real_err _ (Unknown name.at) tt
real_known_type name (Some s) = real_ok s

real_named_type : (sc : Scope) (name : NameTree) → Real (named_type sc name)
real_named_type sc name = real_known_type name (type_of (lookup sc name.text))

abbrev IsRealType : TypeTree → Type 0
IsRealType t = (sc : Scope) → Real (written_type t sc)

-- what is known of the parts of a type
abbrev Inner : Type 0
Inner = (t : TypeTree) × IsRealType t

real_layer : (y : TypeTree-F Inner) (sc : Scope) → Real (type_layer (map-TypeTree TypeTree (Scope → Checked Sort) written_type (map-TypeTree Inner TypeTree (λ e. e.0) y)) sc)
real_layer (TypeTree-F.Int at) sc = real_ok int
real_layer (TypeTree-F.Named name) sc = real_named_type sc name
real_layer (TypeTree-F.Set at inner) sc = real_then _ _ (inner.1 sc) (λ s. real_ok _)

pub written_type-roll : (x : TypeTree-F TypeTree) → written_type (roll-TypeTree x) ≡ type_layer (map-TypeTree TypeTree (Scope → Checked Sort) written_type x)
unfolding written_type
written_type-roll x = fold-roll-TypeTree (Scope → Checked Sort) type_layer x

pub real_written_type : (t : TypeTree) (sc : Scope) → Real (written_type t sc)
real_written_type = ind-TypeTree IsRealType (λ x y is sc.
    subst (λ (l : Scope → Checked Sort). Real (l sc)) (sym (written_type-roll x))
    (subst (λ (z : TypeTree-F TypeTree). Real (type_layer (map-TypeTree TypeTree (Scope → Checked Sort) written_type z) sc)) is (real_layer y sc)))

-- ---- dimensions

real_fresh_in : (sc : Scope) (name : Option NameTree) → Real (fresh_in sc name)
real_fresh_in sc None = real_ok sc
real_fresh_in sc (Some name) = real_then _ _ (real_fresh sc name) (λ u. real_ok _)

real_dimensions : (ds : List DimTree) (sc taken : Scope) → Real (dimensions sc taken ds)
real_dimensions [] sc taken = real_ok _
real_dimensions (d ∷ ds) sc taken =
    real_then _ _ (real_fresh_in taken d.name) (λ more. real_then _ _ (real_typed_set (form_set d.set) data_alone is_set sc) (λ over. real_then _ _ (real_dimensions ds sc more) (λ rest. real_ok _)))

real_shape : (sc : Scope) (dims : Option DimsTree) → Real (shape sc dims)
real_shape sc dims = real_then _ _ (real_dimensions (all_dims dims) sc sc) (λ d. real_ok _)

-- ---- initial values

mutual
  unfolding initial

  real_initial : (sc : Scope) (s : Sort) (is : List Sort) (f : Form) → Real (initial sc s is f)
  real_initial sc s (i ∷ is) (cells at fs) = real_then _ _ (real_initial_cells sc s is fs) (λ inner. real_ok _)
  real_initial sc s (i ∷ is) (keyed_cells at ps) = real_then _ _ (real_initial_pairs sc s i is ps) (λ inner. real_ok _)
  real_initial sc s is f = real_then _ _ (real_used data_alone (fits_in sc (shaped is s)) _ (real_typing f sc)) (λ n. real_ok _)

  real_initial_cells : (sc : Scope) (s : Sort) (is : List Sort) (fs : Forms) → Real (initial_cells sc s is fs)
  real_initial_cells sc s is no_forms = real_ok []
  real_initial_cells sc s is (more_forms f fs) = real_then _ _ (real_initial sc s is f) (λ first. real_then _ _ (real_initial_cells sc s is fs) (λ rest. real_ok _))

  real_initial_pairs : (sc : Scope) (s i : Sort) (is : List Sort) (ps : Pairs) → Real (initial_pairs sc s i is ps)
  real_initial_pairs sc s i is no_pairs = real_ok []
  real_initial_pairs sc s i is (more_pairs key cell others) =
      real_then _ _ (real_used data_alone (fits_in sc i) _ (real_typing key sc)) (λ n. real_then _ _ (real_initial sc s is cell) (λ first. real_then _ _ (real_initial_pairs sc s i is others) (λ rest. real_ok _)))

real_initial_kinds : (sc : Scope) (s : Sort) (is : List Sort) (t : InitialTree) → Real (initial_kinds sc s is t)
real_initial_kinds sc s is (initials.External at) = real_ok []
real_initial_kinds sc s is (initials.Written t) = real_initial sc s is (form_add t)

-- ---- declarations

real_number : (sc : Scope) (t : AddTree) → Real (number_kinds sc t)
real_number sc t = real_then _ _ (real_used data_alone is_number _ (real_typing (form_add t) sc)) (λ n. real_ok _)

pub real_maybe_number : (sc : Scope) (t : Option AddTree) → Real (maybe_number sc t)
real_maybe_number sc None = real_ok []
real_maybe_number sc (Some t) = real_number sc t

real_data : (sc : Scope) (t : DataDeclTree) → Real (data_decl sc t)
real_data sc t =
    real_then _ _ (real_written_type t.kind sc) (λ s. real_then _ _ (real_fresh sc t.name) (λ u. real_then _ _ (real_shape sc t.dims) (λ d. real_then _ _ (real_initial_kinds d.inner s (cell_indices d.dims) t.initial) (λ kinds. real_ok _))))

real_range : (sc : Scope) (t : RangeTree) → Real (range_decl sc t)
real_range sc t = real_then _ _ (real_fresh sc t.name) (λ u. real_then _ _ (real_number sc t.low) (λ low. real_then _ _ (real_number sc t.high) (λ high. real_ok _)))

real_enum : (k : ℕ) (sc : Scope) (t : EnumTree) → Real (enum_decl k sc t)
real_enum k sc t = real_then _ _ (real_all_fresh (t.name ∷ enum_names t.names) sc) (λ u. real_ok _)

real_fields : (fs : List FieldTree) (sc taken : Scope) → Real (field_list sc taken fs)
real_fields [] sc taken = real_ok []
real_fields (f ∷ fs) sc taken =
    real_then _ _ (real_written_type f.kind sc) (λ s. real_then _ _ (real_fresh taken f.name) (λ u. real_then _ _ (real_fields fs sc (declared f.name.text (value anything) taken)) (λ rest. real_ok _)))

real_struct : (k : ℕ) (sc : Scope) (t : StructTree) → Real (struct_decl k sc t)
real_struct k sc t = real_then _ _ (real_fresh sc t.name) (λ u. real_then _ _ (real_fields (t.first ∷ t.rest) sc empty_scope) (λ fields. real_ok _))

real_variable_type : (sc : Scope) (t : VariableTypeTree) → Real (variable_type sc t)
real_variable_type sc (types.Int at) = real_ok int
real_variable_type sc (types.Named name) = real_named_type sc name

real_bounds : (sc : Scope) (b : Option BoundsTree) → Real (bounds_kinds sc b)
real_bounds sc None = real_ok []
real_bounds sc (Some b) = real_then _ _ (real_number sc b.low) (λ low. real_then _ _ (real_number sc b.high) (λ high. real_ok _))

real_variable : (sc : Scope) (t : VariableTree) → Real (variable_decl sc t)
real_variable sc t =
    real_then _ _ (real_variable_type sc t.kind) (λ s. real_then _ _ (real_fresh sc t.name) (λ u. real_then _ _ (real_shape sc t.dims) (λ d. real_then _ _ (real_bounds d.inner t.bounds)
    (λ kinds. real_then _ _ (real_unless (is_decidable t.kind t.bounds s) (Mismatch t.at) tt) (λ v. real_ok _)))))

real_activity : (sc : Scope) (t : ActivityTree) → Real (activity_decl sc t)
real_activity sc t =
    real_then _ _ (real_fresh sc t.name) (λ u. real_then _ _ (real_shape sc t.dims) (λ d. real_then _ _ (real_number d.inner t.shortest) (λ shortest. real_then _ _ (real_maybe_number d.inner t.longest) (λ longest. real_ok _))))

real_unary : (sc : Scope) (t : UnaryTree) → Real (unary_decl sc t)
real_unary sc t = real_then _ _ (real_fresh sc t.name) (λ u. real_then _ _ (real_shape sc t.dims) (λ d. real_ok _))

real_discrete : (sc : Scope) (t : DiscreteTree) → Real (discrete_decl sc t)
real_discrete sc t = real_then _ _ (real_fresh sc t.name) (λ u. real_then _ _ (real_shape sc t.dims) (λ d. real_then _ _ (real_number d.inner t.capacity) (λ kinds. real_ok _)))

real_schedule : (sc : Scope) (t : ScheduleTree) → Real (schedule_decl sc t)
real_schedule sc t = real_then _ _ (real_number sc t.value) (λ kinds. real_then _ _ (real_unless (not (is_given t.end sc)) (Duplicate t.at) tt) (λ u. real_ok _))

real_decl : (k : ℕ) (sc : Scope) (d : DeclTree) → Real (decl k sc d)
unfolding decl
real_decl k sc (decls.Data t) = real_data sc t
real_decl k sc (decls.Range t) = real_range sc t
real_decl k sc (decls.Enumeration t) = real_enum k sc t
real_decl k sc (decls.Structure t) = real_struct k sc t
real_decl k sc (decls.Variable t) = real_variable sc t
real_decl k sc (decls.Activity t) = real_activity sc t
real_decl k sc (decls.Unary t) = real_unary sc t
real_decl k sc (decls.Discrete t) = real_discrete sc t
real_decl k sc (decls.Schedule t) = real_schedule sc t

pub real_all_decls : (ds : List DeclTree) (k : ℕ) (sc : Scope) → Real (all_decls k sc ds)
real_all_decls [] k sc = real_ok _
real_all_decls (d ∷ ds) k sc = real_then _ _ (real_decl k sc d) (λ first. real_then _ _ (real_all_decls ds (next k) first.scope) (λ rest. real_ok _))
