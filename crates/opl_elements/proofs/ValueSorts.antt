-- The sorts of the variants of values.
use Rattle.std.proofs.Common.{◌≡◌, ℕ, ℤ, Bool, List, ap}
use Rattle.opl_value.specs.declared.value.Value.{Value}
use Rattle.opl_value.specs.declared.value.Value.TheVariants as made
use Rattle.opl_value.specs.declared.value.IndexSpace.{IndexSpace}
use Rattle.opl_form.specs.Parts.{key_layer, value_sort}
use Rattle.opl_form.specs.Parts.Sort.{whole, named, other}
use Rattle.opl_elements.specs.Sorts.{sort_of_key, sort_of_value}

pub sort-Int : (n : ℤ) → sort_of_value (made.Int n) ≡ whole
sort-Int n = ap value_sort (made.outs-Int n)

pub sort-Bool : (b : Bool) → sort_of_value (made.Bool b) ≡ whole
sort-Bool b = ap value_sort (made.outs-Bool b)

pub sort-Enum : (d p : ℕ) → sort_of_value (made.Enum d p) ≡ named d
sort-Enum d p = ap value_sort (made.outs-Enum d p)

pub sort-Record : (vs : List Value) → sort_of_value (made.Record vs) ≡ other
sort-Record vs = ap value_sort (made.outs-Record vs)

pub sort-Set : (vs : List Value) → sort_of_value (made.Set vs) ≡ other
sort-Set vs = ap value_sort (made.outs-Set vs)

pub sort-Range : (l h : ℤ) → sort_of_value (made.Range l h) ≡ other
sort-Range l h = ap value_sort (made.outs-Range l h)

pub sort-Names : (ns : List (List ℕ)) → sort_of_value (made.Names ns) ≡ other
sort-Names ns = ap value_sort (made.outs-Names ns)

pub sort-Array : (s : IndexSpace) (vs : List Value) → sort_of_value (made.Array s vs) ≡ other
sort-Array s vs = ap value_sort (made.outs-Array s vs)

pub ruleset value_sorts = (sort-Int, sort-Bool, sort-Enum, sort-Record, sort-Set, sort-Range, sort-Names, sort-Array)

pub key-Int : (n : ℤ) → sort_of_key (made.Int n) ≡ whole
key-Int n = ap key_layer (made.outs-Int n)

pub key-Bool : (b : Bool) → sort_of_key (made.Bool b) ≡ other
key-Bool b = ap key_layer (made.outs-Bool b)

pub key-Enum : (d p : ℕ) → sort_of_key (made.Enum d p) ≡ named d
key-Enum d p = ap key_layer (made.outs-Enum d p)

pub key-Record : (vs : List Value) → sort_of_key (made.Record vs) ≡ other
key-Record vs = ap key_layer (made.outs-Record vs)

pub key-Set : (vs : List Value) → sort_of_key (made.Set vs) ≡ other
key-Set vs = ap key_layer (made.outs-Set vs)

pub key-Range : (l h : ℤ) → sort_of_key (made.Range l h) ≡ other
key-Range l h = ap key_layer (made.outs-Range l h)

pub key-Names : (ns : List (List ℕ)) → sort_of_key (made.Names ns) ≡ other
key-Names ns = ap key_layer (made.outs-Names ns)

pub key-Array : (s : IndexSpace) (vs : List Value) → sort_of_key (made.Array s vs) ≡ other
key-Array s vs = ap key_layer (made.outs-Array s vs)

pub ruleset key_sorts = (key-Int, key-Bool, key-Enum, key-Record, key-Set, key-Range, key-Names, key-Array)
