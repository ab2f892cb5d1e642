-- The places of the latest entries, and what stands there.
use Rattle.std.specs.Prelude.{ℕ, ◌+◌, List, [], ◌∷◌, cond, nat_eq, bytes_eq, Option, Some, None}
use Rattle.std.specs.List.{slice_get}
use Rattle.std.specs.Option.{option_map}
use Rattle.opl_type_rules.specs.declared.names.Entry.{Entry}
use Rattle.opl_type_rules.specs.declared.names.Field.{Field}
use Rattle.opl_type_rules.specs.declared.names.Thing.{Thing}
use Rattle.opl_type_rules.specs.declared.names.Thing.TheVariants as things

-- the place of the latest of these entries with that name, where the first of them stands at i; else the place before
abbrev pub place_or : Option ℕ → ℕ → List ℕ → List Entry → Option ℕ
place_or before i name [] = before
place_or before i name (e ∷ es) = place_or (cond (bytes_eq name e.name) (Some i) before) (i + 1) name es

-- the place i, if the struct with that number stands there; else the place before
abbrev pub struct_here : Option ℕ → ℕ → ℕ → Thing → Option ℕ
struct_here before i number (things.StructType l fs) = cond (nat_eq number l) (Some i) before
struct_here before i number t = before

-- the same of the latest struct with that number
abbrev pub struct_or : Option ℕ → ℕ → ℕ → List Entry → Option ℕ
struct_or before i number [] = before
struct_or before i number (e ∷ es) = struct_or (struct_here before i number e.thing) (i + 1) number es

-- what the entry at that place stands for
abbrev pub thing_at : Option ℕ → List Entry → Option Thing
thing_at None es = None
thing_at (Some i) es = option_map (λ e. e.thing) (slice_get es i)

-- the fields of a struct, if it is the one with that number
abbrev pub fields_here : ℕ → Thing → List Field
fields_here number (things.StructType l fs) = cond (nat_eq number l) fs []
fields_here number t = []

abbrev pub fields_at : ℕ → Option Thing → List Field
fields_at number None = []
fields_at number (Some t) = fields_here number t
