-- What arithmetic gives is small.
use Rattle.std.proofs.Common.{◌≡◌, ℕ, ◌*◌, ◌^◌, ◌<◌, ◌≤◌, max, ℤ, pos, ◌+ℤ◌, ◌-ℤ◌, ◌*ℤ◌, Bool, true, false, cond, nat_lt, nat_le, int_lt, int_div, fold, unsigned_abs, List, [], ◌∷◌, map, Ok, Err, refl, sym, ap, subst, arith}
use Rattle.std.specs.Int.{int_min, int_max}
use Rattle.std.specs.Ordering.{int_eq}
use Rattle.opl_value.specs.declared.value.Dimension.{Dimension}
use Rattle.opl_value.specs.declared.value.IndexSpace.{IndexSpace}
use Rattle.opl_value.specs.declared.value.Value.{Value}
use Rattle.opl_value.specs.declared.value.Value.TheVariants as values
use Rattle.opl_value.specs.declared.value.Dimension.TheOpen.{Value-F}
use Rattle.opl_value.specs.declared.value.Dimension.TheViews.{out-Value}
use Rattle.opl_eval.specs.declared.arithmetic.Operation.{Operation}
use Rattle.opl_eval.specs.declared.arithmetic.Operation.TheVariants.{Plus, Minus, Times, Quotient, Remainder}
use Rattle.opl_eval.specs.declared.fault.EvalFault.TheVariants.{DivByZero, TooLarge}
use Rattle.opl_eval.specs.Arithmetic as arithmetic
use Rattle.opl_eval.specs.Arithmetic.{applied, run, then}
use Rattle.opl_eval.specs.Compare as compare
use Rattle.opl_eval.specs.Compare.{number_layer, rank, rank_layer}
use Rattle.opl_eval.specs.Evaluation.{Found, integer}
use Rattle.opl_expr.specs.Sound.{IsSmall}
use Rattle.opl_form.specs.Nodes.{chain_of}
use Rattle.opl_form.proofs.Nodes.{ok-same}

-- ---- numbers

pub lt-out : (s n : ℕ) → nat_lt s n ≡ true → s < n
lt-out s n h = grind arith

pub le-out : (s n : ℕ) → nat_le s n ≡ true → s ≤ n
le-out s n h = grind arith

pub zero-small : IsSmall (unsigned_abs (pos 0))
zero-small = omega arith

pub one-small : IsSmall (unsigned_abs (pos 1))
one-small = omega arith

pub nothing-times : (k : ℕ) → unsigned_abs (pos 0) * k < 2 ^ 127
nothing-times k = omega arith

pub max-small : (k : ℕ) → max 1 k < 2 ^ 127 → k < 2 ^ 127
max-small k h = omega (arith, h)

-- ---- what arithmetic gives is small

abbrev pub SmallResult : Found ℤ → Type 0
SmallResult r = (z : ℤ) → r ≡ Ok z → IsSmall (unsigned_abs z)

pub sized-result : (at : ℕ) (z : ℤ) → SmallResult (arithmetic.sized at z)
unfolding arithmetic.sized
sized-result at z y h = by (nat_lt (unsigned_abs z) (2 ^ 127)) refl h
  where
    by : (b : Bool) → nat_lt (unsigned_abs z) (2 ^ 127) ≡ b → ◌≡◌ {A = Found ℤ} (cond b (Ok z) (Err (TooLarge at))) (Ok y) → IsSmall (unsigned_abs y)
    by true t h = subst (λ y. IsSmall (unsigned_abs y)) (ok-same z y h) (lt-out (unsigned_abs z) (2 ^ 127) t)
    by false t h = absurd (cc)

pub divided-result : (b : Bool) (at : ℕ) (q : Found ℤ) → SmallResult q → SmallResult (cond b (Err (DivByZero at)) q)
divided-result true at q s y h = absurd (cc)
divided-result false at q s y h = s y h

pub applied-result : (at : ℕ) (a : ℤ) (o : Operation) → SmallResult (applied at a o)
applied-result at a (Plus b) = sized-result at (a +ℤ b)
applied-result at a (Minus b) = sized-result at (a -ℤ b)
applied-result at a (Times b) = sized-result at (a *ℤ b)
applied-result at a (Quotient b) = divided-result (int_eq b (pos 0)) at (arithmetic.sized at (int_div a b)) (sized-result at (int_div a b))
applied-result at a (Remainder b) = divided-result (int_eq b (pos 0)) at (arithmetic.sized at (a -ℤ b *ℤ int_div a b)) (sized-result at (a -ℤ b *ℤ int_div a b))

run-result : (at : ℕ) (a : ℤ) (os : List Operation) → IsSmall (unsigned_abs a) → SmallResult (run at a os)
run-result at a [] h y e = subst (λ y. IsSmall (unsigned_abs y)) (ok-same a y e) h
run-result at a (o ∷ os) h y e = by (applied at a o) (applied-result at a o) (λ b s f. run-result at b os s y f) e
  where
    by : (r : Found ℤ) → SmallResult r → ((b : ℤ) → IsSmall (unsigned_abs b) → run at b os ≡ Ok y → IsSmall (unsigned_abs y)) → then r (λ b. run at b os) ≡ Ok y → IsSmall (unsigned_abs y)
    by (Ok b) s f e = f b (s b refl) e
    by (Err fault) s f e = absurd (cc)

-- ---- values whose numbers and ranks are small

abbrev pub IsSmallValue : Value → Type 0
IsSmallValue v = IsSmall (unsigned_abs (compare.number v)) × IsSmall (unsigned_abs (rank v))

abbrev pub AreSmallValues : List Value → Type 0
AreSmallValues [] = Unit {0}
AreSmallValues (v ∷ vs) = IsSmallValue v × AreSmallValues vs

pub small-Int : (n : ℤ) → IsSmall (unsigned_abs n) → IsSmallValue (values.Int n)
small-Int n h = (subst (λ z. IsSmall (unsigned_abs z)) (sym (ap number_layer (values.outs-Int n))) h, subst (λ z. IsSmall (unsigned_abs z)) (sym (ap rank_layer (values.outs-Int n))) h)

pub small-Bool : (b : Bool) → IsSmallValue (values.Bool b)
small-Bool b = (subst (λ z. IsSmall (unsigned_abs z)) (sym (ap number_layer (values.outs-Bool b))) (bit b), subst (λ z. IsSmall (unsigned_abs z)) (sym (ap rank_layer (values.outs-Bool b))) (bit b))
  where
    bit : (b : Bool) → IsSmall (unsigned_abs (cond b (pos 1) (pos 0)))
    bit true = one-small
    bit false = zero-small

-- a value whose rank is small has a small number
pub small-rank : (v : Value) → IsSmall (unsigned_abs (rank v)) → IsSmallValue v
small-rank v h = (by (out-Value v) h, h)
  where
    by : (d : Value-F Dimension Value IndexSpace) → IsSmall (unsigned_abs (rank_layer d)) → IsSmall (unsigned_abs (number_layer d))
    by (Value-F.Int n) h = h
    by (Value-F.Bool b) h = h
    by (Value-F.Enum e p) h = zero-small
    by (Value-F.Record vs) h = zero-small
    by (Value-F.Set vs) h = zero-small
    by (Value-F.Range l m) h = zero-small
    by (Value-F.Names ns) h = zero-small
    by (Value-F.Array s vs) h = zero-small

-- a fault, or a small value
abbrev pub SmallFound : Found Value → Type 0
SmallFound r = (v : Value) → r ≡ Ok v → IsSmallValue v

pub integer-small : (r : Found ℤ) → SmallResult r → SmallFound (integer r)
integer-small (Ok z) s v e = subst IsSmallValue (ok-same (values.Int z) v e) (small-Int z (s z refl))
integer-small (Err fault) s v e = absurd (cc)

pub bool-small : (b : Bool) → SmallFound (Ok (values.Bool b))
bool-small b v e = subst IsSmallValue (ok-same (values.Bool b) v e) (small-Bool b)

pub sum-result : (at : ℕ) (vs : List Value) → SmallFound (integer (arithmetic.sum at (map compare.number vs)))
sum-result at vs = integer-small (arithmetic.sum at (map compare.number vs)) (run-result at (pos 0) (map Plus (map compare.number vs)) zero-small)

pub chain-result : (at : ℕ) (vs : List Value) → AreSmallValues vs → SmallFound (chain_of at vs)
chain-result at [] s v e = subst IsSmallValue (ok-same (values.Int (pos 0)) v e) (small-Int (pos 0) zero-small)
chain-result at (u ∷ us) s v e = integer-small (run at (compare.number u) (map Plus (map compare.number us))) (run-result at (compare.number u) (map Plus (map compare.number us)) s.0.0) v e

-- the least and the greatest of small numbers are small
fold-small : (f : ℤ → ℤ → ℤ) → ((a b : ℤ) → IsSmall (unsigned_abs a) → IsSmall (unsigned_abs b) → IsSmall (unsigned_abs (f a b))) → (a : ℤ) (vs : List Value) → IsSmall (unsigned_abs a) → AreSmallValues vs → IsSmall (unsigned_abs (fold f a (map compare.number vs)))
fold-small f keeps a [] h s = h
fold-small f keeps a (v ∷ vs) h s = fold-small f keeps (f a (compare.number v)) vs (keeps a (compare.number v) h s.0.0) s.1

min-small : (a b : ℤ) → IsSmall (unsigned_abs a) → IsSmall (unsigned_abs b) → IsSmall (unsigned_abs (int_min a b))
min-small a b h k = by (int_lt b a)
  where
    by : (t : Bool) → IsSmall (unsigned_abs (cond t b a))
    by true = k
    by false = h

max-kept : (a b : ℤ) → IsSmall (unsigned_abs a) → IsSmall (unsigned_abs b) → IsSmall (unsigned_abs (int_max a b))
max-kept a b h k = grind (arith, h, k)

pub least-result : (at : ℕ) (vs : List Value) → AreSmallValues vs → SmallFound (integer (arithmetic.least at (map compare.number vs)))
least-result at [] s v e = absurd (cc)
least-result at (u ∷ us) s v e =
    let z : ℤ = fold int_min (compare.number u) (map compare.number us) in
    subst IsSmallValue (ok-same (values.Int z) v e) (small-Int z (fold-small int_min min-small (compare.number u) us s.0.0 s.1))

pub greatest-result : (at : ℕ) (vs : List Value) → AreSmallValues vs → SmallFound (integer (arithmetic.greatest at (map compare.number vs)))
greatest-result at [] s v e = absurd (cc)
greatest-result at (u ∷ us) s v e =
    let z : ℤ = fold int_max (compare.number u) (map compare.number us) in
    subst IsSmallValue (ok-same (values.Int z) v e) (small-Int z (fold-small int_max max-kept (compare.number u) us s.0.0 s.1))
