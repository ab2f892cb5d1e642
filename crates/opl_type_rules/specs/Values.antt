-- What the program's values stand for in the definitions.
use Rattle.std.specs.Prelude.{◌≡◌, ℕ, Bool, List, [], ◌∷◌, ◌++◌, map, reverse, cond, nat_eq, Option, None, Some, Result, Ok, Err}
use Rattle.std.specs.List.{list_any, slice_get}
use Rattle.std.specs.Option.{option_map}
use Rattle.std.specs.Str.{bytes_eq}
use Rattle.opl_type_rules.specs.declared.chain.Chain as chains
use Rattle.opl_type_rules.specs.declared.fault.TypeFault.{TypeFault}
use Rattle.opl_type_rules.specs.declared.fault.TypeFault.TheVariants.{Unknown, Duplicate, Mismatch, NotData, OutOfMemory}
use Rattle.opl_type_rules.specs.declared.kind.Ty.{Ty}
use Rattle.opl_type_rules.specs.declared.names.Entry as entries
use Rattle.opl_type_rules.specs.declared.names.Field as fields
use Rattle.opl_type_rules.specs.declared.names.Local as locals
use Rattle.opl_type_rules.specs.declared.names.Names.{Names}
use Rattle.opl_type_rules.specs.declared.names.Thing as things
use Rattle.opl_type_rules.specs.declared.names.Thing.TheVariants as thing
use Rattle.opl_type_rules.specs.declared.node.Need as needs
use Rattle.opl_type_rules.specs.declared.node.Need.TheVariants as need
use Rattle.opl_type_rules.specs.declared.node.Node as nodes
use Rattle.opl_type_rules.specs.declared.rules.Range as ranges
use Rattle.opl_type_rules.specs.Types.{Sort, Sorts, sort, sorts_of}
use Rattle.opl_type_rules.specs.Scope.{Checked, Text, Field, Thing, Scope, declared, is_for}
use Rattle.opl_type_rules.specs.Scope.Thing.{range, enum_type, enum_name, struct_type, value, variable, activities, resource}
use Rattle.opl_type_rules.specs.Expressions.{Node, Need, Range}
use Rattle.opl_type_rules.specs.Expressions.Need.{nothing, data_alone, data_or_questions}

-- what a function answers that finds something, unless memory fails
abbrev pub Gives : {A B : Type 0} → (B → A) → Checked A → Result B TypeFault → Type 0
Gives reading checked (Ok b) = checked ≡ Ok (reading b)
Gives reading checked (Err OutOfMemory) = Unit {0}
Gives reading checked (Err (Unknown at)) = checked ≡ Err (Unknown at)
Gives reading checked (Err (Duplicate at)) = checked ≡ Err (Duplicate at)
Gives reading checked (Err (Mismatch at)) = checked ≡ Err (Mismatch at)
Gives reading checked (Err (NotData at)) = checked ≡ Err (NotData at)

-- what a function does that only memory can stop
abbrev pub Does : {B : Type 0} → (B → Type 0) → Result B TypeFault → Type 0
Does fact (Ok b) = fact b
Does fact (Err e) = e ≡ OutOfMemory

abbrev pub sorts_in : List Ty → Sorts
sorts_in tys = sorts_of (map sort tys)

abbrev pub field_of : fields.Field → Field
field_of f = record { name = f.name; sort = sort f.ty }

abbrev pub field_sort_of : fields.Field → Sort
field_sort_of f = sort f.ty

abbrev pub thing_of : things.Thing → Thing
thing_of thing.Range = range
thing_of (thing.EnumType k) = enum_type k
thing_of (thing.EnumName k) = enum_name k
thing_of (thing.StructType k fs) = struct_type k (map field_of fs)
thing_of (thing.Value ty) = value (sort ty)
thing_of (thing.Variable ty) = variable (sort ty)
thing_of (thing.Activities ty) = activities (sort ty)
thing_of (thing.Resource ty) = resource (sort ty)

-- the program keeps the earliest first
abbrev pub with_entries : List entries.Entry → Scope → Scope
with_entries [] sc = sc
with_entries (e ∷ es) sc = with_entries es (declared e.name (thing_of e.thing) sc)

-- the scope of a model's names, and that of names inside it
unfoldable pub scope_of : Names → Scope
scope_of n = with_entries n.entries (record { entries = []; is_search = n.is_search; has_origin = n.has_origin; has_horizon = n.has_horizon })

abbrev pub with_locals : List locals.Local → Scope → Scope
with_locals [] sc = sc
with_locals (l ∷ ls) sc = with_locals ls (declared l.name (value (sort l.ty)) sc)

unfoldable pub within : Names → List locals.Local → Scope
within n ls = with_locals ls (scope_of n)

-- the thing of the latest entry of a name, else the one before
abbrev pub latest_or : Option things.Thing → Text → List entries.Entry → Option things.Thing
latest_or before name [] = before
latest_or before name (e ∷ es) = latest_or (cond (bytes_eq name e.name) (Some e.thing) before) name es

-- the fields of the struct with that number, else those before
abbrev pub fields_of_thing : List fields.Field → ℕ → things.Thing → List fields.Field
fields_of_thing before k (thing.StructType l fs) = cond (nat_eq k l) fs before
fields_of_thing before k t = before

abbrev pub latest_fields : List fields.Field → ℕ → List entries.Entry → List fields.Field
latest_fields before k [] = before
latest_fields before k (e ∷ es) = latest_fields (fields_of_thing before k e.thing) k es

-- the type of the latest parameter of a name, else the one before
abbrev pub local_or : Option Ty → Text → List locals.Local → Option Ty
local_or before name [] = before
local_or before name (l ∷ ls) = local_or (cond (bytes_eq name l.name) (Some l.ty) before) name ls

-- the type of the parameter at that place
abbrev pub local_at : Option ℕ → List locals.Local → Option Ty
local_at None ls = None
local_at (Some i) ls = option_map (λ l. l.ty) (slice_get ls i)

-- the type of the field at that place
abbrev pub field_at : Option ℕ → List fields.Field → Option Ty
field_at None fs = None
field_at (Some i) fs = option_map (λ f. f.ty) (slice_get fs i)

abbrev pub node_of : nodes.Node → Node
node_of n = record { place = n.place; sort = sort n.ty; decides = n.decides; asks = n.asks; is_one = n.is_one; is_whole = n.is_whole; takes_data = n.takes_data; is_right = n.is_right; inner = map sort n.inner }

abbrev pub need_of : needs.Need → Need
need_of need.Nothing = nothing
need_of need.DataAlone = data_alone
need_of need.DataOrQuestions = data_or_questions

abbrev pub range_of : ranges.Range → Range
range_of r = record { nodes = map node_of r.nodes; element = option_map sort r.element }

-- one of these entries is that of a struct which both types fit
abbrev pub fit_one_of : Scope → Sort → Sort → List entries.Entry → Bool
fit_one_of sc a b es = list_any (λ e. is_for sc a b (thing_of e.thing)) es

-- an expression with what stands behind it
abbrev pub chained : chains.Chain → Node
chained c = record (node_of c.last) { inner = reverse (map sort c.before) ++ map sort c.behind }
