-- Declarations as the program goes through them, one part after the other. The laws between these and the rules stand in proofs.
use Rattle.std.specs.Prelude.{ℕ, Bool, true, false, cond, not, List, [], ◌∷◌, ◌++◌, map, Option, Some, None, is_some, Ok}
use Rattle.opl_tree.specs.declared.declaration.ActivityTree.{ActivityTree}
use Rattle.opl_tree.specs.declared.declaration.BoundsTree.{BoundsTree}
use Rattle.opl_tree.specs.declared.declaration.DataDeclTree.{DataDeclTree}
use Rattle.opl_tree.specs.declared.declaration.DeclTree.{DeclTree}
use Rattle.opl_tree.specs.declared.declaration.DimTree.{DimTree}
use Rattle.opl_tree.specs.declared.declaration.DimsTree.{DimsTree}
use Rattle.opl_tree.specs.declared.declaration.DiscreteTree.{DiscreteTree}
use Rattle.opl_tree.specs.declared.declaration.EnumTree.{EnumTree}
use Rattle.opl_tree.specs.declared.declaration.FieldTree.{FieldTree}
use Rattle.opl_tree.specs.declared.declaration.InitialTree.{InitialTree}
use Rattle.opl_tree.specs.declared.declaration.InitialTree.TheVariants as initials
use Rattle.opl_tree.specs.declared.declaration.RangeTree.{RangeTree}
use Rattle.opl_tree.specs.declared.declaration.ScheduleTree.{ScheduleTree}
use Rattle.opl_tree.specs.declared.declaration.StructTree.{StructTree}
use Rattle.opl_tree.specs.declared.declaration.UnaryTree.{UnaryTree}
use Rattle.opl_tree.specs.declared.declaration.VariableTree.{VariableTree}
use Rattle.opl_tree.specs.declared.expression.AddTree.{AddTree}
use Rattle.opl_tree.specs.declared.expression.NameTree.{NameTree}
use Rattle.opl_declaration_types.specs.declared.declaration.Dimensions as dims
use Rattle.opl_type_rules.specs.declared.fault.TypeFault.TheVariants.{Duplicate, Mismatch}
use Rattle.opl_type_rules.specs.declared.names.Local.{Local}
use Rattle.opl_type_rules.specs.declared.names.Names.{Names}
use Rattle.opl_type_rules.specs.Types.{Sort, is_set, sort}
use Rattle.opl_type_rules.specs.Types.Sort.{activity, unary, discrete}
use Rattle.opl_type_rules.specs.Scope.{Checked, ◌>>=◌, ◌>>◌, unless, Scope, Field, declared, fresh, fits_in, field_sort}
use Rattle.opl_type_rules.specs.Scope.Thing.{range, enum_type, enum_name, struct_type, value, variable, activities, resource}
use Rattle.opl_type_rules.specs.Forms.{Form, Forms, Pair, form_add, form_set}
use Rattle.opl_type_rules.specs.Forms.Forms.{no_forms, more_forms}
use Rattle.opl_type_rules.specs.Expressions.{Opened, kinds, kinds_in, used, typing, typed_set, or_anything}
use Rattle.opl_type_rules.specs.Expressions.Need.{data_alone}
use Rattle.opl_expression_types.specs.Numbers.{number_kinds}
use Rattle.opl_declaration_types.specs.Declarations.{all_dims, decl, enum_names, initial, initial_cells, initial_pairs, is_decidable, is_given, given, makes, next, shaped, variable_type, written_type}
use Rattle.opl_type_rules.specs.Steps.{front, behind}
use Rattle.opl_expression_types.specs.Cells.{Held}
use Rattle.opl_expression_types.specs.Cells.Held.{listed, keyed, other}
use Rattle.opl_type_rules.specs.Values.{within}

-- ---- initial values

-- a value that is no array of cells
abbrev pub plain_value : Scope → Sort → List Sort → Form → Checked (List Sort)
plain_value sc s is f = do
  n ← typing sc f >>= used data_alone (fits_in sc (shaped is s))
  Ok (kinds n)

-- a value of an array with these indices, of which the first is `i`
abbrev pub initial_by : Held → Scope → Sort → Sort → List Sort → Form → Checked (List Sort)
initial_by (listed fs) sc s i is f = do
  inner ← initial_cells sc s is fs
  Ok (shaped (i ∷ is) s ∷ inner)
initial_by (keyed ps) sc s i is f = do
  inner ← initial_pairs sc s i is ps
  Ok (shaped (i ∷ is) s ∷ inner)
initial_by other sc s i is f = plain_value sc s (i ∷ is) f

-- cells behind others, whose types are `ks`
abbrev pub cells_behind : List Sort → Scope → Sort → List Sort → Forms → Checked (List Sort)
cells_behind ks sc s is no_forms = Ok ks
cells_behind ks sc s is (more_forms f fs) = front ks (initial sc s is f) >>= (λ more. cells_behind more sc s is fs)

-- a key is data of the index, and of no array
abbrev pub pair_behind : List Sort → Scope → Sort → Sort → List Sort → Pair → Checked (List Sort)
pair_behind ks sc s i is p = front ks (plain_value sc i [] p.key) >>= (λ keys. front keys (initial sc s is p.cell))

abbrev pub pairs_behind : List Sort → Scope → Sort → Sort → List Sort → List Pair → Checked (List Sort)
pairs_behind ks sc s i is [] = Ok ks
pairs_behind ks sc s i is (p ∷ ps) = pair_behind ks sc s i is p >>= (λ more. pairs_behind more sc s i is ps)

-- ---- dimensions

-- the dimensions so far: the types of the indices, whether one has a name, what stands behind them sees, and the types of the expressions
pub record Seen : Type 0 where
  pub indices : List Sort
  pub is_named : Bool
  pub inner : Scope
  pub kinds : List Sort

abbrev pub fresh_name : Scope → Option NameTree → Checked (Unit {0})
fresh_name sc None = Ok tt
fresh_name sc (Some name) = fresh sc name

abbrev pub seen_more : Option NameTree → Sort → List Sort → Seen → Seen
seen_more None s ks o = record { indices = o.indices ++ s ∷ []; is_named = o.is_named; inner = o.inner; kinds = o.kinds ++ ks }
seen_more (Some name) s ks o = record { indices = o.indices ++ s ∷ []; is_named = true; inner = declared name.text (value s) o.inner; kinds = o.kinds ++ ks }

-- one dimension behind those before, whose set is in `sc`
abbrev pub see_one : Scope → Seen → DimTree → Checked Seen
see_one sc o d = do
  fresh_name o.inner d.name
  over ← typed_set data_alone is_set sc (form_set d.set)
  Ok (seen_more d.name (or_anything over.element) (kinds_in over.nodes) o)

abbrev pub see_each : Scope → Seen → List DimTree → Checked Seen
see_each sc o [] = Ok o
see_each sc o (d ∷ ds) = see_one sc o d >>= (λ m. see_each sc m ds)

abbrev pub nothing_seen : Scope → Seen
nothing_seen sc = record { indices = []; is_named = false; inner = sc; kinds = [] }

abbrev pub seen : Scope → Option DimsTree → Checked Seen
seen sc dims = see_each sc (nothing_seen sc) (all_dims dims)

-- the indices of the cells of a value
abbrev pub cells_seen : Bool → List Sort → List Sort
cells_seen is_named is = cond is_named [] is

abbrev pub is_any : List Local → Bool
is_any [] = false
is_any (l ∷ ls) = true

-- what the program keeps of dimensions
abbrev pub seen_in : Names → dims.Dimensions → Seen
seen_in n d = record { indices = map sort d.indices; is_named = is_any d.names; inner = within n d.names; kinds = map sort d.kinds }

-- ---- declarations behind others, whose types are `ks`

abbrev pub front_numbers : List Sort → Scope → AddTree → AddTree → Checked (List Sort)
front_numbers ks sc low high = front ks (number_kinds sc low) >>= (λ more. front more (number_kinds sc high))

abbrev pub front_number : List Sort → Scope → Option AddTree → Checked (List Sort)
front_number ks sc None = Ok ks
front_number ks sc (Some t) = front ks (number_kinds sc t)

abbrev pub front_bounds : List Sort → Scope → Option BoundsTree → Checked (List Sort)
front_bounds ks sc None = Ok ks
front_bounds ks sc (Some b) = front_numbers ks sc b.low b.high

abbrev pub front_initial : List Sort → Scope → Sort → List Sort → InitialTree → Checked (List Sort)
front_initial ks sc s is (initials.External at) = Ok ks
front_initial ks sc s is (initials.Written t) = front ks (initial sc s is (form_add t))

abbrev pub data_behind : List Sort → Scope → DataDeclTree → Checked Opened
data_behind ks sc t = do
  s ← written_type t.kind sc
  fresh sc t.name
  d ← seen sc t.dims
  more ← front_initial (ks ++ d.kinds) d.inner s (cells_seen d.is_named d.indices) t.initial
  makes sc t.name (value (shaped d.indices s)) more

abbrev pub range_behind : List Sort → Scope → RangeTree → Checked Opened
range_behind ks sc t = do
  fresh sc t.name
  more ← front_numbers ks sc t.low t.high
  makes sc t.name range more

abbrev pub variable_behind : List Sort → Scope → VariableTree → Checked Opened
variable_behind ks sc t = do
  s ← variable_type sc t.kind
  fresh sc t.name
  d ← seen sc t.dims
  more ← front_bounds (ks ++ d.kinds) d.inner t.bounds
  unless (is_decidable t.kind t.bounds s) (Mismatch t.at)
  makes sc t.name (variable (shaped d.indices s)) more

abbrev pub activity_behind : List Sort → Scope → ActivityTree → Checked Opened
activity_behind ks sc t = do
  fresh sc t.name
  d ← seen sc t.dims
  shortest ← front (ks ++ d.kinds) (number_kinds d.inner t.shortest)
  longest ← front_number shortest d.inner t.longest
  makes sc t.name (activities (shaped d.indices activity)) longest

abbrev pub unary_behind : List Sort → Scope → UnaryTree → Checked Opened
unary_behind ks sc t = do
  fresh sc t.name
  d ← seen sc t.dims
  makes sc t.name (resource (shaped d.indices unary)) (ks ++ d.kinds)

abbrev pub discrete_behind : List Sort → Scope → DiscreteTree → Checked Opened
discrete_behind ks sc t = do
  fresh sc t.name
  d ← seen sc t.dims
  more ← front (ks ++ d.kinds) (number_kinds d.inner t.capacity)
  makes sc t.name (resource (shaped d.indices discrete)) more

abbrev pub schedule_behind : List Sort → Scope → ScheduleTree → Checked Opened
schedule_behind ks sc t = do
  more ← front ks (number_kinds sc t.value)
  unless (not (is_given t.end sc)) (Duplicate t.at)
  Ok (record { scope = given t.end sc; kinds = more })

-- ---- names of enumerations, and fields

-- one name more of the enumeration with number k, and several
abbrev pub name_one : ℕ → Scope → NameTree → Checked Scope
name_one k sc n = do
  fresh sc n
  Ok (declared n.text (enum_name k) sc)

abbrev pub name_each : ℕ → Scope → List NameTree → Checked Scope
name_each k sc [] = Ok sc
name_each k sc (n ∷ ns) = name_one k sc n >>= (λ more. name_each k more ns)

abbrev pub enum_steps : ℕ → Scope → EnumTree → Checked Scope
enum_steps k sc t = do
  fresh sc t.name
  name_each k (declared t.name.text (enum_type k) sc) (enum_names t.names)

-- a field behind those before, which have other names, and several
abbrev pub field_one : Scope → List Field → FieldTree → Checked (List Field)
field_one sc fs f = do
  s ← written_type f.kind sc
  unless (not (is_some (field_sort f.name.text fs))) (Duplicate f.name.at)
  Ok (fs ++ record { name = f.name.text; sort = s } ∷ [])

abbrev pub field_each : Scope → List Field → List FieldTree → Checked (List Field)
field_each sc fs [] = Ok fs
field_each sc fs (f ∷ more) = field_one sc fs f >>= (λ done. field_each sc done more)

abbrev pub struct_steps : ℕ → Scope → StructTree → Checked Scope
struct_steps k sc t = do
  fresh sc t.name
  fields ← field_each sc [] (t.first ∷ t.rest)
  Ok (declared t.name.text (struct_type k fields) sc)

-- ---- all declarations

-- declarations from number k on, behind others
abbrev pub decls_behind : ℕ → List Sort → Scope → List DeclTree → Checked Opened
decls_behind k ks sc [] = Ok (record { scope = sc; kinds = ks })
decls_behind k ks sc (d ∷ ds) = behind ks (decl k sc d) >>= (λ o. decls_behind (next k) o.kinds o.scope ds)
