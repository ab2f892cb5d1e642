-- What the variants of values come to.
use Rattle.std.proofs.Common.{◌≡◌, ℕ, ℤ, Bool, List, None, Some, ap}
use Rattle.opl_value.specs.declared.value.Dimension.TheViews.{out-Value}
use Rattle.opl_value.specs.declared.value.IndexSpace.{IndexSpace}
use Rattle.opl_value.specs.declared.value.Value.{Value}
use Rattle.opl_value.specs.declared.value.Value.TheVariants as made
use Rattle.opl_value.specs.Places.{lists}
use Rattle.opl_draft.specs.Drafts.Leaves.{listed}
use Rattle.opl_draft.specs.Numbers.{cells_layer, data_cells}
use Rattle.opl_form.specs.Parts.{key_layer}
use Rattle.opl_form.specs.Parts.Sort.{whole, named, other}

-- ---- the array that a value is

pub cells-Int : (name : List ℕ) (n : ℤ) → data_cells name (made.Int n) ≡ None
cells-Int name n = ap (cells_layer name) (made.outs-Int n)

pub cells-Bool : (name : List ℕ) (b : Bool) → data_cells name (made.Bool b) ≡ None
cells-Bool name b = ap (cells_layer name) (made.outs-Bool b)

pub cells-Enum : (name : List ℕ) (d p : ℕ) → data_cells name (made.Enum d p) ≡ None
cells-Enum name d p = ap (cells_layer name) (made.outs-Enum d p)

pub cells-Record : (name : List ℕ) (vs : List Value) → data_cells name (made.Record vs) ≡ None
cells-Record name vs = ap (cells_layer name) (made.outs-Record vs)

pub cells-Set : (name : List ℕ) (vs : List Value) → data_cells name (made.Set vs) ≡ None
cells-Set name vs = ap (cells_layer name) (made.outs-Set vs)

pub cells-Range : (name : List ℕ) (l h : ℤ) → data_cells name (made.Range l h) ≡ None
cells-Range name l h = ap (cells_layer name) (made.outs-Range l h)

pub cells-Names : (name : List ℕ) (ns : List (List ℕ)) → data_cells name (made.Names ns) ≡ None
cells-Names name ns = ap (cells_layer name) (made.outs-Names ns)

pub cells-Array : (name : List ℕ) (s : IndexSpace) (vs : List Value) → data_cells name (made.Array s vs) ≡ Some (record { name = name; dims = lists s; leaves = listed vs })
cells-Array name s vs = ap (cells_layer name) (made.outs-Array s vs)

pub ruleset kinds = (cells-Int, cells-Bool, cells-Enum, cells-Record, cells-Set, cells-Range, cells-Names, cells-Array)

-- ---- the sort of an index

pub key-Int : (n : ℤ) → key_layer (out-Value (made.Int n)) ≡ whole
key-Int n = ap key_layer (made.outs-Int n)

pub key-Bool : (b : Bool) → key_layer (out-Value (made.Bool b)) ≡ other
key-Bool b = ap key_layer (made.outs-Bool b)

pub key-Enum : (d p : ℕ) → key_layer (out-Value (made.Enum d p)) ≡ named d
key-Enum d p = ap key_layer (made.outs-Enum d p)

pub key-Record : (vs : List Value) → key_layer (out-Value (made.Record vs)) ≡ other
key-Record vs = ap key_layer (made.outs-Record vs)

pub key-Set : (vs : List Value) → key_layer (out-Value (made.Set vs)) ≡ other
key-Set vs = ap key_layer (made.outs-Set vs)

pub key-Range : (l h : ℤ) → key_layer (out-Value (made.Range l h)) ≡ other
key-Range l h = ap key_layer (made.outs-Range l h)

pub key-Names : (ns : List (List ℕ)) → key_layer (out-Value (made.Names ns)) ≡ other
key-Names ns = ap key_layer (made.outs-Names ns)

pub key-Array : (s : IndexSpace) (vs : List Value) → key_layer (out-Value (made.Array s vs)) ≡ other
key-Array s vs = ap key_layer (made.outs-Array s vs)

pub ruleset sorts = (key-Int, key-Bool, key-Enum, key-Record, key-Set, key-Range, key-Names, key-Array)
