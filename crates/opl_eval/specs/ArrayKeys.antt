-- Values in which the places of keys can be found.
use Rattle.std.specs.Prelude.{◌<◌, ◌^◌}
use Rattle.std.specs.Coded.{×_prop, Unit-prop}
use Rattle.std.proofs.Props.{props}
use Rattle.opl_value.specs.declared.value.Value.{Value}
use Rattle.opl_value.specs.declared.value.IndexSpace.{IndexSpace}
use Rattle.opl_value.specs.declared.value.Dimension.TheOpen.{Value-F}
use Rattle.opl_value.specs.declared.value.Dimension.TheViews.{out-Value}
use Rattle.opl_value.specs.Keyed.{AreSorted-prop}
use Rattle.opl_value.specs.Places.{AreSorted, dimensions, elements, lists}

-- an index space with at most 2^64 - 1 keys, by whose dimensions places can be found
abbrev pub HasPlaces : IndexSpace → Type 0
HasPlaces space = AreSorted (dimensions space) × (elements (lists space) < 2 ^ 64)

-- an array over such an index space, or what is no array
abbrev pub keyed_layer : {A : Type 0} → Value-F A Value IndexSpace → Type 0
keyed_layer (Value-F.Array space cells) = HasPlaces space
keyed_layer v = Unit {0}

abbrev pub IsKeyed : Value → Type 0
IsKeyed v = keyed_layer (out-Value v)

small-prop : (space : IndexSpace) → IsProp (elements (lists space) < 2 ^ 64)
small-prop space = hlevel props

HasPlaces-prop : (space : IndexSpace) → IsProp (HasPlaces space)
HasPlaces-prop space = ×_prop (AreSorted-prop (dimensions space)) (small-prop space)

layer-prop : {A : Type 0} (v : Value-F A Value IndexSpace) → IsProp (keyed_layer v)
layer-prop (Value-F.Int n) = Unit-prop
layer-prop (Value-F.Bool b) = Unit-prop
layer-prop (Value-F.Enum d p) = Unit-prop
layer-prop (Value-F.Record parts) = Unit-prop
layer-prop (Value-F.Set vs) = Unit-prop
layer-prop (Value-F.Range l h) = Unit-prop
layer-prop (Value-F.Names ns) = Unit-prop
layer-prop (Value-F.Array space cells) = HasPlaces-prop space

pub IsKeyed-prop : (v : Value) → IsProp (IsKeyed v)
IsKeyed-prop v = layer-prop (out-Value v)
