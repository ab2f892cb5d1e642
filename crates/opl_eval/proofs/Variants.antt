-- What the variants of values come to.
use Rattle.std.proofs.Common.{◌≡◌, ℕ, ℤ, pos, ◌+ℤ◌, ◌-ℤ◌, Bool, true, false, ◌&&◌, List, length, ap, Ok}
use Rattle.std.specs.Prelude.{int_le, int_lt}
use Rattle.std.specs.List.{list_any}
use Rattle.opl_value.specs.declared.value.Value.{Value}
use Rattle.opl_value.specs.declared.value.IndexSpace.{IndexSpace}
use Rattle.opl_value.specs.declared.value.Value.TheVariants as made
use Rattle.opl_value.specs.Order.{value_eq}
use Rattle.opl_value.specs.Places.{or_zero}
use Rattle.opl_eval.specs.Arithmetic.{sized}
use Rattle.opl_eval.specs.Compare.{bit, number_layer, number, is_number_layer, is_number, rank_layer, rank, member_layer, is_member, size_layer, cardinality}

pub number-Int : (n : ℤ) → number (made.Int n) ≡ n
number-Int n = ap number_layer (made.outs-Int n)

pub number-Bool : (b : Bool) → number (made.Bool b) ≡ bit b
number-Bool b = ap number_layer (made.outs-Bool b)

pub number-Enum : (d p : ℕ) → number (made.Enum d p) ≡ pos 0
number-Enum d p = ap number_layer (made.outs-Enum d p)

pub number-Record : (vs : List Value) → number (made.Record vs) ≡ pos 0
number-Record vs = ap number_layer (made.outs-Record vs)

pub number-Set : (vs : List Value) → number (made.Set vs) ≡ pos 0
number-Set vs = ap number_layer (made.outs-Set vs)

pub number-Range : (l h : ℤ) → number (made.Range l h) ≡ pos 0
number-Range l h = ap number_layer (made.outs-Range l h)

pub number-Names : (ns : List (List ℕ)) → number (made.Names ns) ≡ pos 0
number-Names ns = ap number_layer (made.outs-Names ns)

pub number-Array : (s : IndexSpace) (vs : List Value) → number (made.Array s vs) ≡ pos 0
number-Array s vs = ap number_layer (made.outs-Array s vs)

pub is_number-Int : (n : ℤ) → is_number (made.Int n) ≡ true
is_number-Int n = ap is_number_layer (made.outs-Int n)

pub is_number-Bool : (b : Bool) → is_number (made.Bool b) ≡ true
is_number-Bool b = ap is_number_layer (made.outs-Bool b)

pub is_number-Enum : (d p : ℕ) → is_number (made.Enum d p) ≡ false
is_number-Enum d p = ap is_number_layer (made.outs-Enum d p)

pub is_number-Record : (vs : List Value) → is_number (made.Record vs) ≡ false
is_number-Record vs = ap is_number_layer (made.outs-Record vs)

pub is_number-Set : (vs : List Value) → is_number (made.Set vs) ≡ false
is_number-Set vs = ap is_number_layer (made.outs-Set vs)

pub is_number-Range : (l h : ℤ) → is_number (made.Range l h) ≡ false
is_number-Range l h = ap is_number_layer (made.outs-Range l h)

pub is_number-Names : (ns : List (List ℕ)) → is_number (made.Names ns) ≡ false
is_number-Names ns = ap is_number_layer (made.outs-Names ns)

pub is_number-Array : (s : IndexSpace) (vs : List Value) → is_number (made.Array s vs) ≡ false
is_number-Array s vs = ap is_number_layer (made.outs-Array s vs)

pub rank-Int : (n : ℤ) → rank (made.Int n) ≡ n
rank-Int n = ap rank_layer (made.outs-Int n)

pub rank-Bool : (b : Bool) → rank (made.Bool b) ≡ bit b
rank-Bool b = ap rank_layer (made.outs-Bool b)

pub rank-Enum : (d p : ℕ) → rank (made.Enum d p) ≡ pos p
rank-Enum d p = ap rank_layer (made.outs-Enum d p)

pub rank-Record : (vs : List Value) → rank (made.Record vs) ≡ pos 0
rank-Record vs = ap rank_layer (made.outs-Record vs)

pub rank-Set : (vs : List Value) → rank (made.Set vs) ≡ pos 0
rank-Set vs = ap rank_layer (made.outs-Set vs)

pub rank-Range : (l h : ℤ) → rank (made.Range l h) ≡ pos 0
rank-Range l h = ap rank_layer (made.outs-Range l h)

pub rank-Names : (ns : List (List ℕ)) → rank (made.Names ns) ≡ pos 0
rank-Names ns = ap rank_layer (made.outs-Names ns)

pub rank-Array : (s : IndexSpace) (vs : List Value) → rank (made.Array s vs) ≡ pos 0
rank-Array s vs = ap rank_layer (made.outs-Array s vs)

pub member-Int : (v : Value) (n : ℤ) → is_member v (made.Int n) ≡ false
member-Int v n = ap (member_layer v) (made.outs-Int n)

pub member-Bool : (v : Value) (b : Bool) → is_member v (made.Bool b) ≡ false
member-Bool v b = ap (member_layer v) (made.outs-Bool b)

pub member-Enum : (v : Value) (d p : ℕ) → is_member v (made.Enum d p) ≡ false
member-Enum v d p = ap (member_layer v) (made.outs-Enum d p)

pub member-Record : (v : Value) (vs : List Value) → is_member v (made.Record vs) ≡ false
member-Record v vs = ap (member_layer v) (made.outs-Record vs)

pub member-Set : (v : Value) (vs : List Value) → is_member v (made.Set vs) ≡ list_any (value_eq v) vs
member-Set v vs = ap (member_layer v) (made.outs-Set vs)

pub member-Range : (v : Value) (l h : ℤ) → is_member v (made.Range l h) ≡ int_le l (number v) && int_le (number v) h
member-Range v l h = ap (member_layer v) (made.outs-Range l h)

pub member-Names : (v : Value) (ns : List (List ℕ)) → is_member v (made.Names ns) ≡ int_lt (rank v) (pos (length ns))
member-Names v ns = ap (member_layer v) (made.outs-Names ns)

pub member-Array : (v : Value) (s : IndexSpace) (vs : List Value) → is_member v (made.Array s vs) ≡ false
member-Array v s vs = ap (member_layer v) (made.outs-Array s vs)

pub size-Int : (at : ℕ) (n : ℤ) → cardinality at (made.Int n) ≡ Ok (pos 0)
size-Int at n = ap (size_layer at) (made.outs-Int n)

pub size-Bool : (at : ℕ) (b : Bool) → cardinality at (made.Bool b) ≡ Ok (pos 0)
size-Bool at b = ap (size_layer at) (made.outs-Bool b)

pub size-Enum : (at : ℕ) (d p : ℕ) → cardinality at (made.Enum d p) ≡ Ok (pos 0)
size-Enum at d p = ap (size_layer at) (made.outs-Enum d p)

pub size-Record : (at : ℕ) (vs : List Value) → cardinality at (made.Record vs) ≡ Ok (pos 0)
size-Record at vs = ap (size_layer at) (made.outs-Record vs)

pub size-Set : (at : ℕ) (vs : List Value) → cardinality at (made.Set vs) ≡ Ok (pos (length vs))
size-Set at vs = ap (size_layer at) (made.outs-Set vs)

pub size-Range : (at : ℕ) (l h : ℤ) → cardinality at (made.Range l h) ≡ sized at (pos (or_zero (h +ℤ pos 1 -ℤ l)))
size-Range at l h = ap (size_layer at) (made.outs-Range l h)

pub size-Names : (at : ℕ) (ns : List (List ℕ)) → cardinality at (made.Names ns) ≡ Ok (pos (length ns))
size-Names at ns = ap (size_layer at) (made.outs-Names ns)

pub size-Array : (at : ℕ) (s : IndexSpace) (vs : List Value) → cardinality at (made.Array s vs) ≡ Ok (pos 0)
size-Array at s vs = ap (size_layer at) (made.outs-Array s vs)

-- what the variants of values come to
pub ruleset variants = (number-Int, number-Bool, number-Enum, number-Record, number-Set, number-Range, number-Names, number-Array, is_number-Int, is_number-Bool, is_number-Enum, is_number-Record, is_number-Set, is_number-Range, is_number-Names, is_number-Array, rank-Int, rank-Bool, rank-Enum, rank-Record, rank-Set, rank-Range, rank-Names, rank-Array, member-Int, member-Bool, member-Enum, member-Record, member-Set, member-Range, member-Names, member-Array, size-Int, size-Bool, size-Enum, size-Record, size-Set, size-Range, size-Names, size-Array)
