-- The types of declarations: what each makes visible, and the types of its expressions.
use Rattle.std.specs.Prelude.{ℕ, ◌+◌, ◌-◌, ◌^◌, min, Bool, true, ◌&&◌, not, List, [], ◌∷◌, ◌++◌, Option, Some, None, is_some, is_none, Ok, Err}
use Rattle.opl_tree.specs.declared.declaration.ActivityTree.{ActivityTree}
use Rattle.opl_tree.specs.declared.declaration.BoundsTree.{BoundsTree}
use Rattle.opl_tree.specs.declared.declaration.DataDeclTree.{DataDeclTree}
use Rattle.opl_tree.specs.declared.declaration.DeclTree.{DeclTree}
use Rattle.opl_tree.specs.declared.declaration.DeclTree.TheVariants as decls
use Rattle.opl_tree.specs.declared.declaration.DimTree.{DimTree}
use Rattle.opl_tree.specs.declared.declaration.DimsTree.{DimsTree}
use Rattle.opl_tree.specs.declared.declaration.DiscreteTree.{DiscreteTree}
use Rattle.opl_tree.specs.declared.declaration.EnumNamesTree.{EnumNamesTree}
use Rattle.opl_tree.specs.declared.declaration.EnumNamesTree.TheVariants as names
use Rattle.opl_tree.specs.declared.declaration.EnumTree.{EnumTree}
use Rattle.opl_tree.specs.declared.declaration.FieldTree.{FieldTree}
use Rattle.opl_tree.specs.declared.declaration.InitialTree.{InitialTree}
use Rattle.opl_tree.specs.declared.declaration.InitialTree.TheVariants as initials
use Rattle.opl_tree.specs.declared.declaration.RangeTree.{RangeTree}
use Rattle.opl_tree.specs.declared.declaration.ScheduleEnd.{ScheduleEnd}
use Rattle.opl_tree.specs.declared.declaration.ScheduleEnd.TheVariants as ends
use Rattle.opl_tree.specs.declared.declaration.ScheduleTree.{ScheduleTree}
use Rattle.opl_tree.specs.declared.declaration.StructTree.{StructTree}
use Rattle.opl_tree.specs.declared.declaration.TypeTree.{TypeTree}
use Rattle.opl_tree.specs.declared.declaration.TypeTree.TheFolds.{fold-TypeTree}
use Rattle.opl_tree.specs.declared.declaration.TypeTree.TheOpen.{TypeTree-F}
use Rattle.opl_tree.specs.declared.declaration.UnaryTree.{UnaryTree}
use Rattle.opl_tree.specs.declared.declaration.VariableTree.{VariableTree}
use Rattle.opl_tree.specs.declared.declaration.VariableTypeTree.{VariableTypeTree}
use Rattle.opl_tree.specs.declared.declaration.VariableTypeTree.TheVariants as types
use Rattle.opl_tree.specs.declared.expression.NameTree.{NameTree}
use Rattle.opl_type_rules.specs.declared.fault.TypeFault.TheVariants.{Unknown, Duplicate, Mismatch}
use Rattle.opl_type_rules.specs.Types.{Sort, is_single, is_set, sorts_of}
use Rattle.opl_type_rules.specs.Types.Sort.{int, set, array, activity, unary, discrete, anything}
use Rattle.opl_type_rules.specs.Scope.{Checked, ◌>>=◌, ◌>>◌, unless, Scope, Thing, Field, empty_scope, lookup, declared, fresh, all_fresh, with_values, fits_in, type_of}
use Rattle.opl_type_rules.specs.Scope.Thing.{range, enum_type, enum_name, struct_type, value, variable, activities, resource}
use Rattle.opl_type_rules.specs.Forms.{Form, Forms, Pairs, form_add, form_set}
use Rattle.opl_type_rules.specs.Forms.Form.{cells, keyed_cells}
use Rattle.opl_type_rules.specs.Forms.Forms.{no_forms, more_forms}
use Rattle.opl_type_rules.specs.Forms.Pairs.{no_pairs, more_pairs}
use Rattle.opl_type_rules.specs.Expressions.{Opened, kinds, kinds_in, used, typing, typed_set, or_anything}
use Rattle.opl_type_rules.specs.Expressions.Need.{data_alone}
pub use Rattle.opl_expression_types.specs.Numbers.{number_kinds, maybe_number}

-- ---- types

-- a name that is visible and names a type
abbrev pub known_type : NameTree → Option Sort → Checked Sort
known_type name None = Err (Unknown name.at)
known_type name (Some s) = Ok s

abbrev pub named_type : Scope → NameTree → Checked Sort
named_type sc name = known_type name (type_of (lookup sc name.text))

abbrev pub type_layer : TypeTree-F (Scope → Checked Sort) → Scope → Checked Sort
type_layer (TypeTree-F.Int at) sc = Ok int
type_layer (TypeTree-F.Named name) sc = named_type sc name
type_layer (TypeTree-F.Set at inner) sc = do
  s ← inner sc
  Ok (set s)

-- the type that is written
unfoldable pub written_type : TypeTree → Scope → Checked Sort
written_type = fold-TypeTree (Scope → Checked Sort) type_layer

-- ---- dimensions

-- the types of the indices, the names that some of them have with their types, and the types of the expressions
pub record Dimensions : Type 0 where
  pub indices : List Sort
  pub names : List NameTree
  pub named : List Sort
  pub kinds : List Sort

abbrev pub no_dimensions : Dimensions
no_dimensions = record { indices = []; names = []; named = []; kinds = [] }

-- a name is visible behind all the dimensions, and differs from those before it
abbrev pub fresh_in : Scope → Option NameTree → Checked Scope
fresh_in sc None = Ok sc
fresh_in sc (Some name) = do
  fresh sc name
  Ok (declared name.text (value anything) sc)

abbrev pub with_dimension : Option NameTree → Sort → List Sort → Dimensions → Dimensions
with_dimension None s kinds rest = record { indices = s ∷ rest.indices; names = rest.names; named = rest.named; kinds = kinds ++ rest.kinds }
with_dimension (Some name) s kinds rest = record { indices = s ∷ rest.indices; names = name ∷ rest.names; named = s ∷ rest.named; kinds = kinds ++ rest.kinds }

-- dimensions in `sc`; `taken` has the names of those before, too
abbrev pub dimensions : Scope → Scope → List DimTree → Checked Dimensions
dimensions sc taken [] = Ok no_dimensions
dimensions sc taken (d ∷ ds) = do
  more ← fresh_in taken d.name
  over ← typed_set data_alone is_set sc (form_set d.set)
  rest ← dimensions sc more ds
  Ok (with_dimension d.name (or_anything over.element) (kinds_in over.nodes) rest)

abbrev pub all_dims : Option DimsTree → List DimTree
all_dims None = []
all_dims (Some dims) = dims.first ∷ dims.rest

-- an item, or an array of such over its dimensions
abbrev pub shaped : List Sort → Sort → Sort
shaped [] s = s
shaped (i ∷ is) s = array (sorts_of (i ∷ is)) s

-- ---- initial values

-- `[..]` and `#[..]#` are the cells of an array with these indices; every other value is data of the type
unfoldable mutual
  pub initial : Scope → Sort → List Sort → Form → Checked (List Sort)
  initial sc s (i ∷ is) (cells at fs) = do
    inner ← initial_cells sc s is fs
    Ok (shaped (i ∷ is) s ∷ inner)
  initial sc s (i ∷ is) (keyed_cells at ps) = do
    inner ← initial_pairs sc s i is ps
    Ok (shaped (i ∷ is) s ∷ inner)
  initial sc s is f = do
    n ← typing sc f >>= used data_alone (fits_in sc (shaped is s))
    Ok (kinds n)

  pub initial_cells : Scope → Sort → List Sort → Forms → Checked (List Sort)
  initial_cells sc s is no_forms = Ok []
  initial_cells sc s is (more_forms f fs) = do
    first ← initial sc s is f
    rest ← initial_cells sc s is fs
    Ok (first ++ rest)

  -- each key is an index
  pub initial_pairs : Scope → Sort → Sort → List Sort → Pairs → Checked (List Sort)
  initial_pairs sc s i is no_pairs = Ok []
  initial_pairs sc s i is (more_pairs key cell others) = do
    n ← typing sc key >>= used data_alone (fits_in sc i)
    first ← initial sc s is cell
    rest ← initial_pairs sc s i is others
    Ok (kinds n ++ (first ++ rest))

-- a value in the data files has nothing to look at
abbrev pub initial_kinds : Scope → Sort → List Sort → InitialTree → Checked (List Sort)
initial_kinds sc s is (initials.External at) = Ok []
initial_kinds sc s is (initials.Written t) = initial sc s is (form_add t)

-- where a dimension has a name, the value is that of an element
abbrev pub cells_left : List NameTree → List Sort → List Sort
cells_left [] is = is
cells_left (n ∷ ns) is = []

abbrev pub cell_indices : Dimensions → List Sort
cell_indices d = cells_left d.names d.indices

-- ---- declarations

-- what a declaration leaves visible, with the types of its expressions
abbrev pub makes : Scope → NameTree → Thing → List Sort → Checked Opened
makes sc name thing kinds = Ok (record { scope = declared name.text thing sc; kinds = kinds })

-- the dimensions of an item, and the scope of what stands behind them
pub record Shape : Type 0 where
  pub dims : Dimensions
  pub inner : Scope

abbrev pub shape : Scope → Option DimsTree → Checked Shape
shape sc dims = do
  d ← dimensions sc sc (all_dims dims)
  Ok (record { dims = d; inner = with_values d.names d.named sc })

-- `TYPE NAME [DIMS] = INITIAL;`
abbrev pub data_decl : Scope → DataDeclTree → Checked Opened
data_decl sc t = do
  s ← written_type t.kind sc
  fresh sc t.name
  d ← shape sc t.dims
  kinds ← initial_kinds d.inner s (cell_indices d.dims) t.initial
  makes sc t.name (value (shaped d.dims.indices s)) (d.dims.kinds ++ kinds)

-- `range NAME ADD..ADD;`
abbrev pub range_decl : Scope → RangeTree → Checked Opened
range_decl sc t = do
  fresh sc t.name
  low ← number_kinds sc t.low
  high ← number_kinds sc t.high
  makes sc t.name range (low ++ high)

abbrev pub enum_names : EnumNamesTree → List NameTree
enum_names (names.Listed at first rest) = first ∷ rest
enum_names (names.External at has_sign) = []

abbrev pub with_names : ℕ → List NameTree → Scope → Scope
with_names k [] sc = sc
with_names k (n ∷ ns) sc = with_names k ns (declared n.text (enum_name k) sc)

-- `enum NAME NAMES;`
abbrev pub enum_decl : ℕ → Scope → EnumTree → Checked Opened
enum_decl k sc t = do
  all_fresh sc (t.name ∷ enum_names t.names)
  Ok (record { scope = with_names k (enum_names t.names) (declared t.name.text (enum_type k) sc); kinds = [] })

-- the fields of a struct differ among themselves
abbrev pub field_list : Scope → Scope → List FieldTree → Checked (List Field)
field_list sc taken [] = Ok []
field_list sc taken (f ∷ fs) = do
  s ← written_type f.kind sc
  fresh taken f.name
  rest ← field_list sc (declared f.name.text (value anything) taken) fs
  Ok (record { name = f.name.text; sort = s } ∷ rest)

-- `struct NAME {FIELD FIELD ..};`
abbrev pub struct_decl : ℕ → Scope → StructTree → Checked Opened
struct_decl k sc t = do
  fresh sc t.name
  fields ← field_list sc empty_scope (t.first ∷ t.rest)
  makes sc t.name (struct_type k fields) []

abbrev pub variable_type : Scope → VariableTypeTree → Checked Sort
variable_type sc (types.Int at) = Ok int
variable_type sc (types.Named name) = named_type sc name

abbrev pub bounds_kinds : Scope → Option BoundsTree → Checked (List Sort)
bounds_kinds sc None = Ok []
bounds_kinds sc (Some b) = do
  low ← number_kinds sc b.low
  high ← number_kinds sc b.high
  Ok (low ++ high)

-- `int` with `in`, or a range or an enumeration without
abbrev pub is_decidable : VariableTypeTree → Option BoundsTree → Sort → Bool
is_decidable (types.Int at) bounds s = is_some bounds
is_decidable (types.Named name) bounds s = is_none bounds && is_single s

-- `var TYPE NAME [DIMS] [in ADD..ADD];`
abbrev pub variable_decl : Scope → VariableTree → Checked Opened
variable_decl sc t = do
  s ← variable_type sc t.kind
  fresh sc t.name
  d ← shape sc t.dims
  kinds ← bounds_kinds d.inner t.bounds
  unless (is_decidable t.kind t.bounds s) (Mismatch t.at)
  makes sc t.name (variable (shaped d.dims.indices s)) (d.dims.kinds ++ kinds)

-- `Activity NAME [DIMS] (ADD..ADD);`
abbrev pub activity_decl : Scope → ActivityTree → Checked Opened
activity_decl sc t = do
  fresh sc t.name
  d ← shape sc t.dims
  shortest ← number_kinds d.inner t.shortest
  longest ← maybe_number d.inner t.longest
  makes sc t.name (activities (shaped d.dims.indices activity)) (d.dims.kinds ++ (shortest ++ longest))

-- `UnaryResource NAME [DIMS];`
abbrev pub unary_decl : Scope → UnaryTree → Checked Opened
unary_decl sc t = do
  fresh sc t.name
  d ← shape sc t.dims
  makes sc t.name (resource (shaped d.dims.indices unary)) d.dims.kinds

-- `DiscreteResource NAME [DIMS] (ADD);`
abbrev pub discrete_decl : Scope → DiscreteTree → Checked Opened
discrete_decl sc t = do
  fresh sc t.name
  d ← shape sc t.dims
  kinds ← number_kinds d.inner t.capacity
  makes sc t.name (resource (shaped d.dims.indices discrete)) (d.dims.kinds ++ kinds)

abbrev pub is_given : ScheduleEnd → Scope → Bool
is_given ends.Origin sc = sc.has_origin
is_given ends.Horizon sc = sc.has_horizon

abbrev pub given : ScheduleEnd → Scope → Scope
given ends.Origin sc = record sc { has_origin = true }
given ends.Horizon sc = record sc { has_horizon = true }

-- `scheduleOrigin = ADD;`, at most once, and `scheduleHorizon = ADD;` likewise
abbrev pub schedule_decl : Scope → ScheduleTree → Checked Opened
schedule_decl sc t = do
  kinds ← number_kinds sc t.value
  unless (not (is_given t.end sc)) (Duplicate t.at)
  Ok (record { scope = given t.end sc; kinds = kinds })

-- the declaration with number k
unfoldable pub decl : ℕ → Scope → DeclTree → Checked Opened
decl k sc (decls.Data t) = data_decl sc t
decl k sc (decls.Range t) = range_decl sc t
decl k sc (decls.Enumeration t) = enum_decl k sc t
decl k sc (decls.Structure t) = struct_decl k sc t
decl k sc (decls.Variable t) = variable_decl sc t
decl k sc (decls.Activity t) = activity_decl sc t
decl k sc (decls.Unary t) = unary_decl sc t
decl k sc (decls.Discrete t) = discrete_decl sc t
decl k sc (decls.Schedule t) = schedule_decl sc t

-- the number of the declaration behind the one with number k; it stands still at 2^32 - 1
abbrev pub next : ℕ → ℕ
next k = min (k + 1) (2 ^ 32 - 1)

-- declarations from number k on
abbrev pub all_decls : ℕ → Scope → List DeclTree → Checked Opened
all_decls k sc [] = Ok (record { scope = sc; kinds = [] })
all_decls k sc (d ∷ ds) = do
  first ← decl k sc d
  rest ← all_decls (next k) first.scope ds
  Ok (record { scope = rest.scope; kinds = first.kinds ++ rest.kinds })
