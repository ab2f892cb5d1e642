-- The ends and the kinds of types, by the variants of values.
use Rattle.std.proofs.Common.{◌≡◌, ℕ, ℤ, pos, ◌-ℤ◌, Bool, List, length, ap}
use Rattle.opl_value.specs.declared.value.Value.{Value}
use Rattle.opl_value.specs.declared.value.Value.TheVariants as made
use Rattle.opl_value.specs.declared.value.IndexSpace.{IndexSpace}
use Rattle.opl_value.specs.declared.value.Dimension.TheViews.{out-Value}
use Rattle.opl_meaning.specs.declared.variable.Kind.TheVariants.{Number, Enumeration}
use Rattle.opl_meaning.specs.VariableReadings.{reach}
use Rattle.opl_meaning.specs.Variables.{no_ends, type_layer}

pub reach-Int : (d : ℕ) (n : ℤ) → reach (type_layer d (out-Value (made.Int n))) ≡ reach no_ends
reach-Int d n = ap (λ v. reach (type_layer d v)) (made.outs-Int n)

pub reach-Bool : (d : ℕ) (b : Bool) → reach (type_layer d (out-Value (made.Bool b))) ≡ reach no_ends
reach-Bool d b = ap (λ v. reach (type_layer d v)) (made.outs-Bool b)

pub reach-Enum : (d k p : ℕ) → reach (type_layer d (out-Value (made.Enum k p))) ≡ reach no_ends
reach-Enum d k p = ap (λ v. reach (type_layer d v)) (made.outs-Enum k p)

pub reach-Record : (d : ℕ) (vs : List Value) → reach (type_layer d (out-Value (made.Record vs))) ≡ reach no_ends
reach-Record d vs = ap (λ v. reach (type_layer d v)) (made.outs-Record vs)

pub reach-Set : (d : ℕ) (vs : List Value) → reach (type_layer d (out-Value (made.Set vs))) ≡ reach no_ends
reach-Set d vs = ap (λ v. reach (type_layer d v)) (made.outs-Set vs)

pub reach-Range : (d : ℕ) (l h : ℤ) → reach (type_layer d (out-Value (made.Range l h))) ≡ record { low = l; high = h }
reach-Range d l h = ap (λ v. reach (type_layer d v)) (made.outs-Range l h)

pub reach-Names : (d : ℕ) (ns : List (List ℕ)) → reach (type_layer d (out-Value (made.Names ns))) ≡ record { low = pos 0; high = pos (length ns) -ℤ pos 1 }
reach-Names d ns = ap (λ v. reach (type_layer d v)) (made.outs-Names ns)

pub reach-Array : (d : ℕ) (s : IndexSpace) (vs : List Value) → reach (type_layer d (out-Value (made.Array s vs))) ≡ reach no_ends
reach-Array d s vs = ap (λ v. reach (type_layer d v)) (made.outs-Array s vs)

pub ruleset reaches = (reach-Int, reach-Bool, reach-Enum, reach-Record, reach-Set, reach-Range, reach-Names, reach-Array)

pub kind-Int : (d : ℕ) (n : ℤ) → (type_layer d (out-Value (made.Int n))).kind ≡ Number
kind-Int d n = ap (λ v. (type_layer d v).kind) (made.outs-Int n)

pub kind-Bool : (d : ℕ) (b : Bool) → (type_layer d (out-Value (made.Bool b))).kind ≡ Number
kind-Bool d b = ap (λ v. (type_layer d v).kind) (made.outs-Bool b)

pub kind-Enum : (d k p : ℕ) → (type_layer d (out-Value (made.Enum k p))).kind ≡ Number
kind-Enum d k p = ap (λ v. (type_layer d v).kind) (made.outs-Enum k p)

pub kind-Record : (d : ℕ) (vs : List Value) → (type_layer d (out-Value (made.Record vs))).kind ≡ Number
kind-Record d vs = ap (λ v. (type_layer d v).kind) (made.outs-Record vs)

pub kind-Set : (d : ℕ) (vs : List Value) → (type_layer d (out-Value (made.Set vs))).kind ≡ Number
kind-Set d vs = ap (λ v. (type_layer d v).kind) (made.outs-Set vs)

pub kind-Range : (d : ℕ) (l h : ℤ) → (type_layer d (out-Value (made.Range l h))).kind ≡ Number
kind-Range d l h = ap (λ v. (type_layer d v).kind) (made.outs-Range l h)

pub kind-Names : (d : ℕ) (ns : List (List ℕ)) → (type_layer d (out-Value (made.Names ns))).kind ≡ Enumeration d
kind-Names d ns = ap (λ v. (type_layer d v).kind) (made.outs-Names ns)

pub kind-Array : (d : ℕ) (s : IndexSpace) (vs : List Value) → (type_layer d (out-Value (made.Array s vs))).kind ≡ Number
kind-Array d s vs = ap (λ v. (type_layer d v).kind) (made.outs-Array s vs)

pub ruleset kinds = (kind-Int, kind-Bool, kind-Enum, kind-Record, kind-Set, kind-Range, kind-Names, kind-Array)
