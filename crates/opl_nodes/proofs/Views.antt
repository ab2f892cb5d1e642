-- What the variants of values come to.
use Rattle.std.proofs.Common.{◌≡◌, ℕ, ℤ, pos, Bool, false, List, ap}
use Rattle.opl_value.specs.declared.value.Value.{Value}
use Rattle.opl_value.specs.declared.value.IndexSpace.{IndexSpace}
use Rattle.opl_value.specs.declared.value.Value.TheVariants as made
use Rattle.opl_eval.specs.Compare.{bit, rank, rank_layer}
use Rattle.opl_eval.specs.Evaluation.{is_true, truth_layer}

pub rank-Int : (n : ℤ) → rank (made.Int n) ≡ n
rank-Int n = ap rank_layer (made.outs-Int n)

pub rank-Bool : (b : Bool) → rank (made.Bool b) ≡ bit b
rank-Bool b = ap rank_layer (made.outs-Bool b)

pub rank-Enum : (d p : ℕ) → rank (made.Enum d p) ≡ pos p
rank-Enum d p = ap rank_layer (made.outs-Enum d p)

pub rank-Record : (vs : List Value) → rank (made.Record vs) ≡ pos 0
rank-Record vs = ap rank_layer (made.outs-Record vs)

pub rank-Set : (vs : List Value) → rank (made.Set vs) ≡ pos 0
rank-Set vs = ap rank_layer (made.outs-Set vs)

pub rank-Range : (l h : ℤ) → rank (made.Range l h) ≡ pos 0
rank-Range l h = ap rank_layer (made.outs-Range l h)

pub rank-Names : (ns : List (List ℕ)) → rank (made.Names ns) ≡ pos 0
rank-Names ns = ap rank_layer (made.outs-Names ns)

pub rank-Array : (s : IndexSpace) (vs : List Value) → rank (made.Array s vs) ≡ pos 0
rank-Array s vs = ap rank_layer (made.outs-Array s vs)

pub ruleset ranks = (rank-Int, rank-Bool, rank-Enum, rank-Record, rank-Set, rank-Range, rank-Names, rank-Array)

pub true-Int : (n : ℤ) → is_true (made.Int n) ≡ false
true-Int n = ap truth_layer (made.outs-Int n)

pub true-Bool : (b : Bool) → is_true (made.Bool b) ≡ b
true-Bool b = ap truth_layer (made.outs-Bool b)

pub true-Enum : (d p : ℕ) → is_true (made.Enum d p) ≡ false
true-Enum d p = ap truth_layer (made.outs-Enum d p)

pub true-Record : (vs : List Value) → is_true (made.Record vs) ≡ false
true-Record vs = ap truth_layer (made.outs-Record vs)

pub true-Set : (vs : List Value) → is_true (made.Set vs) ≡ false
true-Set vs = ap truth_layer (made.outs-Set vs)

pub true-Range : (l h : ℤ) → is_true (made.Range l h) ≡ false
true-Range l h = ap truth_layer (made.outs-Range l h)

pub true-Names : (ns : List (List ℕ)) → is_true (made.Names ns) ≡ false
true-Names ns = ap truth_layer (made.outs-Names ns)

pub true-Array : (s : IndexSpace) (vs : List Value) → is_true (made.Array s vs) ≡ false
true-Array s vs = ap truth_layer (made.outs-Array s vs)

pub ruleset truths = (true-Int, true-Bool, true-Enum, true-Record, true-Set, true-Range, true-Names, true-Array)
