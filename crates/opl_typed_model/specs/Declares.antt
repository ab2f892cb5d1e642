-- What declarations make visible, where they have types: one clause for each form of a declaration.
use Rattle.std.specs.Prelude.{◌≡◌, ℕ, true, false, List, [], ◌∷◌, Option, Some, None}
use Rattle.opl_tree.specs.declared.declaration.BoundsTree.{BoundsTree}
use Rattle.opl_tree.specs.declared.declaration.DeclTree.{DeclTree}
use Rattle.opl_tree.specs.declared.declaration.DeclTree.TheVariants as decls
use Rattle.opl_tree.specs.declared.declaration.DimTree.{DimTree}
use Rattle.opl_tree.specs.declared.declaration.DimsTree.{DimsTree}
use Rattle.opl_tree.specs.declared.declaration.FieldTree.{FieldTree}
use Rattle.opl_tree.specs.declared.declaration.InitialTree.{InitialTree}
use Rattle.opl_tree.specs.declared.declaration.InitialTree.TheVariants as initials
use Rattle.opl_tree.specs.declared.declaration.TypeTree.{TypeTree}
use Rattle.opl_tree.specs.declared.declaration.TypeTree.TheFolds.{fold-TypeTree}
use Rattle.opl_tree.specs.declared.declaration.TypeTree.TheOpen.{TypeTree-F}
use Rattle.opl_tree.specs.declared.declaration.VariableTypeTree.{VariableTypeTree}
use Rattle.opl_tree.specs.declared.declaration.VariableTypeTree.TheVariants as types
use Rattle.opl_tree.specs.declared.expression.NameTree.{NameTree}
use Rattle.opl_type_rules.specs.Types.{Sort, is_single}
use Rattle.opl_type_rules.specs.Types.Sort.{int, set, activity, unary, discrete}
use Rattle.opl_type_rules.specs.Scope.{Field, Scope, lookup, declared, with_values, fits_in, type_of}
use Rattle.opl_type_rules.specs.Scope.Thing.{range, enum_type, struct_type, value, variable, activities, resource}
use Rattle.opl_type_rules.specs.Forms.{Form, Forms, Pairs, form_add, form_set}
use Rattle.opl_type_rules.specs.Forms.Form.{cells, keyed_cells}
use Rattle.opl_type_rules.specs.Forms.Forms.{no_forms, more_forms}
use Rattle.opl_type_rules.specs.Forms.Pairs.{no_pairs, more_pairs}
use Rattle.opl_type_rules.specs.Expressions.Need.{data_alone}
use Rattle.opl_declaration_types.specs.Declarations.{shaped, cells_left, all_dims, enum_names, with_names, is_given, given, next}
use Rattle.opl_typed.specs.Relation.{IsSetOf, IsNone, AreNew}
use Rattle.opl_typed_model.specs.Places.{Stands, IsDataNumber, MayBeDataNumber}

-- the name is not visible yet
abbrev pub IsNew : Scope → NameTree → Type 0
IsNew sc name = lookup sc name.text ≡ None

-- ---- types

-- sets of sets of .. a type: `int`, or one that has a name
pub data Written : Type 0 where
  whole_numbers : Written
  named : NameTree → Written
  set_of : Written → Written

abbrev pub written_layer : TypeTree-F Written → Written
written_layer (TypeTree-F.Int at) = whole_numbers
written_layer (TypeTree-F.Named name) = named name
written_layer (TypeTree-F.Set at inner) = set_of inner

unfoldable pub written : TypeTree → Written
written = fold-TypeTree Written written_layer

-- the name is that of a type
abbrev pub Names : Scope → NameTree → Sort → Type 0
Names sc name s = type_of (lookup sc name.text) ≡ Some s

abbrev pub IsType : Scope → Written → Sort → Type 0
IsType sc whole_numbers s = s ≡ int
IsType sc (named name) s = Names sc name s
IsType sc (set_of inner) s = (element : Sort) × IsType sc inner element × (s ≡ set element)

-- ---- dimensions

-- one more name, if there is one
abbrev pub with_one : {A B : Type 0} → Option A → (A → B) → List B → List B
with_one None make rest = rest
with_one (Some a) make rest = make a ∷ rest

-- the names that dimensions have, and the types of the indices of those
abbrev pub dim_names : List DimTree → List NameTree
dim_names [] = []
dim_names (d ∷ ds) = with_one d.name (λ name. name) (dim_names ds)

abbrev pub named_sorts : List DimTree → List Sort → List Sort
named_sorts [] is = []
named_sorts (d ∷ ds) [] = []
named_sorts (d ∷ ds) (i ∷ is) = with_one d.name (λ name. i) (named_sorts ds is)

-- the types of the indices: dimensions do not see the names of each other
abbrev pub HaveIndices : Scope → List DimTree → List Sort → Type 0
HaveIndices sc [] is = is ≡ []
HaveIndices sc (d ∷ ds) is = (i : Sort) × (rest : List Sort) × IsSetOf sc (form_set d.set) i × HaveIndices sc ds rest × (is ≡ i ∷ rest)

-- an item's dimensions, and what stands behind all of them, which sees their names
abbrev pub HasDims : Scope → Option DimsTree → List Sort → Scope → Type 0
HasDims sc dims is inner =
    AreNew sc (dim_names (all_dims dims)) × HaveIndices sc (all_dims dims) is × (inner ≡ with_values (dim_names (all_dims dims)) (named_sorts (all_dims dims) is) sc)

-- ---- initial values

abbrev mutual
  -- `[..]` and `#[..]#` are the cells of an array, each key an index; every other value is data of the type
  pub HasValue : Scope → Sort → List Sort → Form → Type 0
  HasValue sc s (i ∷ is) (cells at fs) = HaveValues sc s is fs
  HasValue sc s (i ∷ is) (keyed_cells at ps) = HaveKeys sc s i is ps
  HasValue sc s is f = Stands sc data_alone (fits_in sc (shaped is s)) f

  pub HaveValues : Scope → Sort → List Sort → Forms → Type 0
  HaveValues sc s is no_forms = Unit {0}
  HaveValues sc s is (more_forms f fs) = HasValue sc s is f × HaveValues sc s is fs

  pub HaveKeys : Scope → Sort → Sort → List Sort → Pairs → Type 0
  HaveKeys sc s i is no_pairs = Unit {0}
  HaveKeys sc s i is (more_pairs key cell others) = Stands sc data_alone (fits_in sc i) key × HasValue sc s is cell × HaveKeys sc s i is others

-- a value in the data files is not looked at
abbrev pub HasInitial : Scope → Sort → List Sort → InitialTree → Type 0
HasInitial sc s is (initials.External at) = Unit {0}
HasInitial sc s is (initials.Written t) = HasValue sc s is (form_add t)

-- ---- fields and variables

-- names that differ
abbrev pub AreApart : List NameTree → Type 0
AreApart [] = Unit {0}
AreApart (name ∷ names) = IsNone name.text names × AreApart names

abbrev pub field_names : List FieldTree → List NameTree
field_names [] = []
field_names (f ∷ fs) = f.name ∷ field_names fs

abbrev pub HaveFields : Scope → List FieldTree → List Field → Type 0
HaveFields sc [] fields = fields ≡ []
HaveFields sc (f ∷ fs) fields = (s : Sort) × (rest : List Field) × IsType sc (written f.kind) s × HaveFields sc fs rest × (fields ≡ record { name = f.name.text; sort = s } ∷ rest)

-- `int` with `in`, or a range or an enumeration without; the ends of `in` stand behind the dimensions
abbrev pub IsVariable : Scope → Scope → VariableTypeTree → Option BoundsTree → Sort → Type 0
IsVariable sc inner (types.Int at) None s = ⊥
IsVariable sc inner (types.Int at) (Some b) s = IsDataNumber inner b.low × IsDataNumber inner b.high × (s ≡ int)
IsVariable sc inner (types.Named name) None s = Names sc name s × (is_single s ≡ true)
IsVariable sc inner (types.Named name) (Some b) s = ⊥

-- ---- declarations

-- the declaration with number k has types in a scope, and leaves another
abbrev pub Declares : ℕ → Scope → DeclTree → Scope → Type 0
-- `TYPE NAME [DIMS] = INITIAL;`, where with a named dimension the value is that of an element
Declares k sc (decls.Data t) there =
    (s : Sort) × (is : List Sort) × (inner : Scope) × IsType sc (written t.kind) s × IsNew sc t.name × HasDims sc t.dims is inner × HasInitial inner s (cells_left (dim_names (all_dims t.dims)) is) t.initial
    × (there ≡ declared t.name.text (value (shaped is s)) sc)
-- `range NAME ADD..ADD;`
Declares k sc (decls.Range t) there = IsNew sc t.name × IsDataNumber sc t.low × IsDataNumber sc t.high × (there ≡ declared t.name.text range sc)
-- `enum NAME NAMES;`
Declares k sc (decls.Enumeration t) there = AreNew sc (t.name ∷ enum_names t.names) × (there ≡ with_names k (enum_names t.names) (declared t.name.text (enum_type k) sc))
-- `struct NAME {FIELD FIELD ..};`
Declares k sc (decls.Structure t) there =
    (fields : List Field) × IsNew sc t.name × AreApart (field_names (t.first ∷ t.rest)) × HaveFields sc (t.first ∷ t.rest) fields × (there ≡ declared t.name.text (struct_type k fields) sc)
-- `var TYPE NAME [DIMS] [in ADD..ADD];`
Declares k sc (decls.Variable t) there =
    (s : Sort) × (is : List Sort) × (inner : Scope) × IsNew sc t.name × HasDims sc t.dims is inner × IsVariable sc inner t.kind t.bounds s × (there ≡ declared t.name.text (variable (shaped is s)) sc)
-- `Activity NAME [DIMS] (ADD..ADD);`
Declares k sc (decls.Activity t) there =
    (is : List Sort) × (inner : Scope) × IsNew sc t.name × HasDims sc t.dims is inner × IsDataNumber inner t.shortest × MayBeDataNumber inner t.longest
    × (there ≡ declared t.name.text (activities (shaped is activity)) sc)
-- `UnaryResource NAME [DIMS];`
Declares k sc (decls.Unary t) there = (is : List Sort) × (inner : Scope) × IsNew sc t.name × HasDims sc t.dims is inner × (there ≡ declared t.name.text (resource (shaped is unary)) sc)
-- `DiscreteResource NAME [DIMS] (ADD);`
Declares k sc (decls.Discrete t) there =
    (is : List Sort) × (inner : Scope) × IsNew sc t.name × HasDims sc t.dims is inner × IsDataNumber inner t.capacity × (there ≡ declared t.name.text (resource (shaped is discrete)) sc)
-- `scheduleOrigin = ADD;` and `scheduleHorizon = ADD;`, each at most once
Declares k sc (decls.Schedule t) there = IsDataNumber sc t.value × (is_given t.end sc ≡ false) × (there ≡ given t.end sc)

-- declarations from number k on, each in the scope of those before it
abbrev pub AllDeclare : ℕ → Scope → List DeclTree → Scope → Type 0
AllDeclare k sc [] there = there ≡ sc
AllDeclare k sc (d ∷ ds) there = (behind : Scope) × Declares k sc d behind × AllDeclare (next k) behind ds there
