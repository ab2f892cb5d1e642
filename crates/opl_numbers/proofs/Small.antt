-- What values come to is small.
use Rattle.std.proofs.Common.{◌≡◌, ℕ, ◌^◌, ◌<◌, ℤ, pos, fold, List, [], ◌∷◌, map, Ok, sym, subst, arith}
use Rattle.std.specs.Prelude.{neg_ℤ, unsigned_abs}
use Rattle.std.specs.Int.{int_max, int_min}
use Rattle.std.specs.List.{All}
use Rattle.std.proofs.lemmas.Int.{ints}
use Rattle.std.proofs.lemmas.List.Elements.{All-cons, All-head, All-nil, All-tail}
use Rattle.opl_value.specs.declared.value.Value.TheVariants as values
use Rattle.opl_eval.specs.declared.arithmetic.Operation.TheVariants.{Plus, Quotient, Remainder, Times}
use Rattle.opl_eval.specs.Arithmetic as arithmetic
use Rattle.opl_eval.specs.Arithmetic.{IsSmall}
use Rattle.opl_eval.specs.Compare.{rank}
use Rattle.opl_eval.proofs.NumberLaws.{results_small}
use Rattle.opl_form.specs.Parts.{Form, ranked}
use Rattle.opl_form.specs.Parts.Form.{known, number, name, condition, truth}
use Rattle.opl_form.proofs.Nodes.{ok-same}
use Rattle.opl_form.proofs.SoundValues.{applied-result, sized-result, small-rank}
use Rattle.opl_nodes.specs.declared.context.Context.{Context}
use Rattle.opl_nodes.specs.declared.part.Part.{Part}
use Rattle.opl_nodes.specs.Pieces.{IsPart, form, forms, magnitude}
use Rattle.opl_nodes.proofs.Measures.{magnitude-Const}
use Rattle.opl_nodes.proofs.Views.{rank-Int}
use Rattle.opl_numbers.specs.Numbers.{number_of}

-- what operations give
pub negative-small : (at : ℕ) (a n : ℤ) → arithmetic.negative at a ≡ Ok n → IsSmall n
negative-small at a n e = sized-result at (neg_ℤ a) n e

pub absolute-small : (at : ℕ) (a n : ℤ) → arithmetic.absolute at a ≡ Ok n → IsSmall n
absolute-small at a n e = sized-result at (pos (unsigned_abs a)) n e

pub times-small : (at : ℕ) (a b n : ℤ) → arithmetic.times at a b ≡ Ok n → IsSmall n
times-small at a b n e = applied-result at a (Times b) n e

pub quotient-small : (at : ℕ) (a b n : ℤ) → arithmetic.quotient at a b ≡ Ok n → IsSmall n
quotient-small at a b n e = applied-result at a (Quotient b) n e

pub remainder-small : (at : ℕ) (a b n : ℤ) → arithmetic.remainder at a b ≡ Ok n → IsSmall n
remainder-small at a b n e = applied-result at a (Remainder b) n e

-- a sum of small numbers
pub sum-small : (at : ℕ) (ns : List ℤ) (n : ℤ) → arithmetic.sum at ns ≡ Ok n → IsSmall n
sum-small at ns n e = results_small at (pos 0) (map Plus ns) n zero e
  where
    zero : IsSmall (pos 0)
    zero = omega arith

min-small : (a b : ℤ) → IsSmall a → IsSmall b → IsSmall (int_min a b)
min-small a b h k = grind (arith, ints)

max-small : (a b : ℤ) → IsSmall a → IsSmall b → IsSmall (int_max a b)
max-small a b h k = grind (arith, ints)

fold-small : (f : ℤ → ℤ → ℤ) → ((a b : ℤ) → IsSmall a → IsSmall b → IsSmall (f a b)) → (a : ℤ) (ns : List ℤ) → IsSmall a → All IsSmall ns → IsSmall (fold f a ns)
fold-small f keeps a [] h s = h
fold-small f keeps a (n ∷ ns) h s = fold-small f keeps (f a n) ns (keeps a n h (All-head IsSmall n ns s)) (All-tail IsSmall n ns s)

pub least-small : (at : ℕ) (ns : List ℤ) (n : ℤ) → All IsSmall ns → arithmetic.least at ns ≡ Ok n → IsSmall n
least-small at [] n s e = absurd (cc)
least-small at (m ∷ ms) n s e = subst IsSmall (ok-same (fold int_min m ms) n e) (fold-small int_min min-small m ms (All-head IsSmall m ms s) (All-tail IsSmall m ms s))

pub greatest-small : (at : ℕ) (ns : List ℤ) (n : ℤ) → All IsSmall ns → arithmetic.greatest at ns ≡ Ok n → IsSmall n
greatest-small at [] n s e = absurd (cc)
greatest-small at (m ∷ ms) n s e = subst IsSmall (ok-same (fold int_max m ms) n e) (fold-small int_max max-small m ms (All-head IsSmall m ms s) (All-tail IsSmall m ms s))

-- ---- numbers of parts

-- a form within its magnitude counts as a small number
number-small : (c : Context) (g : Form) → magnitude c (ranked g) < 2 ^ 127 → IsSmall (number_of g)
number-small c (known v) h = (small-rank v (subst (λ n. n < 2 ^ 127) (magnitude-Const c (rank v)) h)).0
number-small c (number e) h = omega arith
number-small c (name d e) h = omega arith
number-small c (condition d) h = omega arith
number-small c (truth d) h = omega arith

pub part-small : (c : Context) (p : Part) → IsPart c p → IsSmall (number_of (form p))
part-small c p h = number-small c (form p) (subst (λ n. n < 2 ^ 127) h.size h.is_small)

pub parts-small : (c : Context) (ps : List Part) → All (IsPart c) ps → All IsSmall (map number_of (forms ps))
parts-small c [] h = All-nil IsSmall
parts-small c (p ∷ ps) h = All-cons IsSmall (number_of (form p)) (map number_of (forms ps)) (part-small c p (All-head (IsPart c) p ps h)) (parts-small c ps (All-tail (IsPart c) p ps h))

-- a small number as a value
pub int-small : (z : ℤ) → IsSmall z → unsigned_abs (rank (values.Int z)) < 2 ^ 127
int-small z h = subst (λ z. unsigned_abs z < 2 ^ 127) (sym (rank-Int z)) h
