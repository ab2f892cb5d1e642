-- The sets of a new store.
use Rattle.std.proofs.Common.{◌≡◌, ◌∙◌, ℕ, zero, suc, ◌+◌, ◌-◌, ◌*◌, ◌/◌, ◌%◌, ◌<◌, ◌^◌, false, refl, List, [], ◌∷◌, ◌++◌, length, replicate, map, ℤ, pos, ◌+ℤ◌, ap, sym, subst, arith, inl, inr}
use Rattle.std.specs.Prelude.{slice_index, slice_get, Some, nat_eq}
use Rattle.std.specs.List.{All}
use Rattle.std.specs.Int.{bit_at}
use Rattle.std.proofs.lemmas.Int.{ints}
use Rattle.std.proofs.lemmas.Bool.{cases_lt}
use Rattle.std.proofs.lemmas.Nat.Bits.{bit_at-zero}
use Rattle.std.proofs.lemmas.List.{get_or-replicate, get_or_past, length-replicate, append_assoc}
use Rattle.std.proofs.lemmas.List.Elements.{All-head, All-tail}
use Rattle.opl_domain.specs.Span.{ints_from, values}
use Rattle.opl_domain.proofs.Sets.{size_is}
use Rattle.opl_store.specs.declared.shape.Shape.{Shape}
use Rattle.opl_trail.specs.Gone.{is_gone}
use Rattle.opl_trail.specs.Levels.{Levels}
use Rattle.opl_store.specs.Stacks.{IsRange, size_between, values_between, blocks, all_blocks}
use Rattle.opl_store.specs.Stored.{range_of, shapes_from, FillsFrom, picked, low_gone, high_gone, set_in, family_from, family_in, IsSet, IsShape, IsStore}

read_zero : (n p : ℕ) → slice_index (replicate n 0) p ≡ 0
read_zero n p = elim (cases_lt p n) [
  | inl l ↦ get_or-replicate n p 0 0 l
  | inr l ↦ get_or_past (replicate n 0) p 0 (omega (arith, l, length-replicate {A = ℕ} n 0))
]

none_gone : (n g : ℕ) → is_gone (replicate n 0) g ≡ false
unfolding is_gone
none_gone n g = ap (λ w. nat_eq (bit_at w (g % 64)) 1) (read_zero n (g / 64)) ∙ ap (λ b. nat_eq b 1) (bit_at-zero (g % 64))

all_picked : (n g : ℕ) (v : ℤ) (k : ℕ) → picked (replicate n 0) g v k ≡ ints_from v k
all_picked n g v zero = refl
all_picked n g v (suc k) = rw (none_gone n g, all_picked n (suc g) (v +ℤ pos 1) k) refl

set_zero : (n x : ℕ) (s : Shape) → set_in (replicate n 0) x s ≡ ints_from s.least s.size
unfolding set_in low_gone high_gone
set_zero n x s =
    let z : s.least +ℤ pos 0 ≡ s.least = omega (arith, ints) in
    let m : s.size - 0 - 0 ≡ s.size = omega arith in
    rw (read_zero n x) (all_picked n (s.first * 64 + 0) (s.least +ℤ pos 0) (s.size - 0 - 0) ∙ ap (λ v. ints_from v (s.size - 0 - 0)) z ∙ ap (ints_from s.least) m)

new_from : (n x first : ℕ) (ps : List (ℤ × ℤ)) → family_from (replicate n 0) x (shapes_from first ps) ≡ map values_between ps
unfolding values
new_from n x first [] = refl
new_from n x first (p ∷ ps) = rw (set_zero n x (record { least = p.0; size = size_between p; first = first }), new_from n (suc x) (first + blocks p) ps) refl

pub new_family : (n first : ℕ) (ps : List (ℤ × ℤ)) → family_in (shapes_from first ps) (replicate n 0) ≡ map values_between ps
unfolding family_in
new_family n first ps = new_from n 0 first ps

pub length-shapes : (first : ℕ) (ps : List (ℤ × ℤ)) → length (shapes_from first ps) ≡ length ps
length-shapes first [] = refl
length-shapes first (p ∷ ps) = ap suc (length-shapes (first + blocks p) ps)

-- where the sets are kept
fills_new : (first : ℕ) (ps : List (ℤ × ℤ)) → FillsFrom first (first + all_blocks ps) (shapes_from first ps)
fills_new first [] = omega arith
fills_new first (p ∷ ps) = let e : first + blocks p + all_blocks ps ≡ first + all_blocks (p ∷ ps) = omega arith in (refl, subst (λ n. FillsFrom (first + blocks p) n (shapes_from (first + blocks p) ps)) e (fills_new (first + blocks p) ps))

-- what is known of the shape of a set
record IsNew (s : Shape) : Type 0 where
  pub some : 0 < s.size
  pub shape : IsShape s

new_at : (first x : ℕ) (ps : List (ℤ × ℤ)) (s : Shape) → All IsRange ps → slice_get (shapes_from first ps) x ≡ Some s → IsNew s
new_at first x [] s a h = cc
new_at first zero (p ∷ ps) s a h =
    let r = All-head IsRange p ps a in
    let z = size_is p.0 p.1 r.0 in
    let e : record { least = p.0; size = size_between p; first = first } ≡ s = cc in
    subst (λ t. IsNew t) e (record { some = omega (arith, ints, z, r.0); shape = record { few = r.1; fits = omega (arith, ints, z, r.2) } })
new_at first (suc x) (p ∷ ps) s a h = new_at (first + blocks p) x ps s (All-tail IsRange p ps a) h

-- a shape has its declared set
pub declared_new : (first : ℕ) (ps : List (ℤ × ℤ)) → All IsRange ps → map range_of (shapes_from first ps) ≡ ps
declared_new first [] a = refl
declared_new first (p ∷ ps) a =
    let r = All-head IsRange p ps a in
    let z = size_is p.0 p.1 r.0 in
    let e : p.0 +ℤ pos (size_between p - 1) ≡ p.1 = omega (arith, ints, z, r.0) in
    rw (e, declared_new (first + blocks p) ps (All-tail IsRange p ps a)) refl

set_new : (n x : ℕ) (s : Shape) → 0 < s.size → IsSet (replicate n 0) x s
unfolding low_gone high_gone
set_new n x s h = record {
  order = rw (read_zero n x) (omega arith);
  low = none_gone n (s.first * 64 + low_gone (slice_index (replicate n 0) x));
  high = none_gone n (s.first * 64 + (s.size - 1 - high_gone (slice_index (replicate n 0) x)));
}

pub new_store : (ps : List (ℤ × ℤ)) (levels : Levels) → All IsRange ps → length ps + all_blocks ps < 2 ^ 32 → levels ≡ record { top = replicate (length ps + all_blocks ps) 0; below = [] } → IsStore (shapes_from (length ps) ps) (length levels.top) levels
new_store ps levels a h e =
    let n : ℕ = length ps + all_blocks ps in
    let l : length (replicate {A = ℕ} n 0) ≡ n = length-replicate {A = ℕ} n 0 in
    rw (e, l) (record {
      small = h;
      shapes_fit = record {
        each = λ x s k. (new_at (length ps) x ps s a k).shape;
        fills = subst (λ k. FillsFrom k n (shapes_from (length ps) ps)) (sym (length-shapes (length ps) ps)) (fills_new (length ps) ps);
      };
      sets = ((l, λ x s k. set_new n x s (new_at (length ps) x ps s a k).some), tt);
      narrower = tt;
    })

-- one more set
pub shapes_more : (first : ℕ) (ps : List (ℤ × ℤ)) (p : ℤ × ℤ) (rest : List (ℤ × ℤ)) → ps ≡ p ∷ rest → shapes_from first ps ≡ record { least = p.0; size = size_between p; first = first } ∷ shapes_from (first + blocks p) rest
shapes_more first ps p rest e = rw e refl

pub shapes_step : (old new others : List Shape) (first size : ℕ) (p : ℤ × ℤ) (ps rest : List (ℤ × ℤ)) (s : Shape) → new ≡ old ++ s ∷ [] → s ≡ record { least = p.0; size = size; first = first } → size ≡ size_between p → ps ≡ p ∷ rest → old ++ shapes_from first ps ≡ others → new ++ shapes_from (first + (size + 63) / 64) rest ≡ others
shapes_step old new others first size p ps rest s e i j d h =
    rw (e, i, j) (append_assoc old (record { least = p.0; size = size_between p; first = first } ∷ []) (shapes_from (first + blocks p) rest) ∙ sym (ap (λ qs. old ++ shapes_from first qs) d) ∙ h)

pub words_step : (first size n : ℕ) (p : ℤ × ℤ) (ps rest : List (ℤ × ℤ)) → size ≡ size_between p → ps ≡ p ∷ rest → first + all_blocks ps ≡ n → first + (size + 63) / 64 + all_blocks rest ≡ n
words_step first size n p ps rest j d h = let k = ap all_blocks d in rw j (omega (arith, h, k))
