-- What may be declared as a value: what is no array, and arrays in whose index space places can be found.
use Rattle.std.proofs.Common.{ℕ, ℤ, Bool, List, subst, sym}
use Rattle.opl_value.specs.declared.value.Value.{Value}
use Rattle.opl_value.specs.declared.value.Value.TheVariants as made
use Rattle.opl_value.specs.declared.value.IndexSpace.{IndexSpace}
use Rattle.opl_eval.specs.ArrayKeys.{HasPlaces, IsKeyed, keyed_layer}

pub keyed-Int : (n : ℤ) → IsKeyed (made.Int n)
keyed-Int n = subst keyed_layer (sym (made.outs-Int n)) tt

pub keyed-Bool : (b : Bool) → IsKeyed (made.Bool b)
keyed-Bool b = subst keyed_layer (sym (made.outs-Bool b)) tt

pub keyed-Enum : (k p : ℕ) → IsKeyed (made.Enum k p)
keyed-Enum k p = subst keyed_layer (sym (made.outs-Enum k p)) tt

pub keyed-Record : (vs : List Value) → IsKeyed (made.Record vs)
keyed-Record vs = subst keyed_layer (sym (made.outs-Record vs)) tt

pub keyed-Set : (vs : List Value) → IsKeyed (made.Set vs)
keyed-Set vs = subst keyed_layer (sym (made.outs-Set vs)) tt

pub keyed-Range : (l h : ℤ) → IsKeyed (made.Range l h)
keyed-Range l h = subst keyed_layer (sym (made.outs-Range l h)) tt

pub keyed-Names : (ns : List (List ℕ)) → IsKeyed (made.Names ns)
keyed-Names ns = subst keyed_layer (sym (made.outs-Names ns)) tt

pub keyed-Array : (s : IndexSpace) (vs : List Value) → HasPlaces s → IsKeyed (made.Array s vs)
keyed-Array s vs h = subst keyed_layer (sym (made.outs-Array s vs)) h

pub ruleset keyed_values = (keyed-Int, keyed-Bool, keyed-Enum, keyed-Record, keyed-Set, keyed-Range, keyed-Names, keyed-Array)
