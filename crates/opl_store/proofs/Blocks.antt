-- The words of blocks that differ between a level and the level below.
use Rattle.std.proofs.Common.{◌≡◌, ◌∙◌, ℕ, zero, suc, ◌+◌, ◌-◌, ◌*◌, ◌/◌, ◌<◌, ◌≤◌, ◌&&◌, Bool, true, false, cond, refl, List, [], ◌∷◌, length, map, ℤ, pos, ◌+ℤ◌, ap, sym, subst, arith, inl, inr}
use Rattle.std.specs.Prelude.{not, nat_eq, slice_index, slice_get, Some}
use Rattle.std.proofs.lemmas.Int.{ints}
use Rattle.std.proofs.lemmas.Bool.Decides.{nat_tests}
use Rattle.opl_domain.specs.Family.{Family, member, set_of}
use Rattle.opl_domain.proofs.Sets.{size_is}
use Rattle.opl_trail.specs.Gone.{is_gone}
use Rattle.opl_trail.specs.Levels.{Levels, changed}
use Rattle.opl_store.specs.declared.shape.Shape.{Shape}
use Rattle.opl_store.specs.Stacks.{size_between, blocks, agree, blocks_differing, differing_from, differing_blocks}
use Rattle.opl_store.specs.Stored.{set_in, family_in, IsStore, Narrows, FillsFrom, blocks_of, range_of}
use Rattle.opl_store.proofs.Ends.{from_set, in_set}
use Rattle.opl_store.proofs.Families.{fills_most, set_of_family}

-- words in two parts
changed_split : (ws vs : List ℕ) (k m n : ℕ) → changed ws vs k (m + n) ≡ changed ws vs k m + changed ws vs (k + m) n
changed_split ws vs k zero n = let z : k + 0 ≡ k = omega arith in let y : 0 + n ≡ n = omega arith in rw (z, y) (omega arith)
changed_split ws vs k (suc m) n =
    let z : k + suc m ≡ suc k + m = omega arith in
    let y : suc m + n ≡ suc (m + n) = omega arith in
    let r = changed_split ws vs (suc k) m n in
    rw (z, y) (omega (arith, r))

-- lists that agree have the same of each number
agree_at : (n j : ℕ) (v : ℤ) (xs ys : List ℤ) → agree n v xs ys ≡ true → j < n → member (v +ℤ pos j) xs ≡ member (v +ℤ pos j) ys
agree_at zero j v xs ys h l = absurd (omega arith)
agree_at (suc n) zero v xs ys h l =
    let z : v +ℤ pos 0 ≡ v = omega (arith, ints) in
    rw z (elim (member v xs) as (λ b. (cond b (member v ys) (not (member v ys)) && agree n (v +ℤ pos 1) xs ys) ≡ true → b ≡ member v ys) [
      | true ↦ λ k. elim (member v ys) as (λ c. (c && agree n (v +ℤ pos 1) xs ys) ≡ true → true ≡ c) [ true ↦ λ i. refl | false ↦ λ i. sym i ] k
      | false ↦ λ k. elim (member v ys) as (λ c. (not c && agree n (v +ℤ pos 1) xs ys) ≡ true → false ≡ c) [ true ↦ λ i. i | false ↦ λ i. refl ] k
    ] h)
agree_at (suc n) (suc j) v xs ys h l =
    let e : v +ℤ pos (suc j) ≡ v +ℤ pos 1 +ℤ pos j = omega (arith, ints) in
    let rest : agree n (v +ℤ pos 1) xs ys ≡ true = elim (cond (member v xs) (member v ys) (not (member v ys))) as (λ b. (b && agree n (v +ℤ pos 1) xs ys) ≡ true → agree n (v +ℤ pos 1) xs ys ≡ true) [ true ↦ λ k. k | false ↦ λ k. cc ] h in
    rw e (agree_at n j (v +ℤ pos 1) xs ys rest (omega (arith, l)))

-- a word of a block is the same where the sets agree on the block
same_block : (above under : List ℕ) (x b : ℕ) (s : Shape) → Narrows x s under above → b < blocks_of s → agree 64 (s.least +ℤ pos (64 * b)) (set_in above x s) (set_in under x s) ≡ true → slice_index above (s.first + b) ≡ slice_index under (s.first + b)
same_block above under x b s n l a = elim (n.blocks b l) [
  | inl e ↦ e
  | inr h ↦ absurd (
      let j : ℕ = h.offset - 64 * b in
      let e : s.least +ℤ pos (64 * b) +ℤ pos j ≡ s.least +ℤ pos h.offset = omega (arith, ints, h.block) in
      let i = agree_at 64 j (s.least +ℤ pos (64 * b)) (set_in above x s) (set_in under x s) a (omega (arith, h.block)) in
      let m : member (s.least +ℤ pos h.offset) (set_in above x s) ≡ true = rw e at i ∙ in_set under x s h.offset h.low h.high h.was in
      let o = from_set above x s (s.least +ℤ pos h.offset) m in
      let k : o.offset ≡ h.offset = omega (arith, ints, o.value) in
      let left : is_gone above (s.first * 64 + h.offset) ≡ false = subst (λ q. is_gone above (s.first * 64 + q) ≡ false) k o.is_left in
      let gone = h.gone in
      cc)
]

one_block : (w v : ℕ) (b : Bool) → (b ≡ true → w ≡ v) → cond (nat_eq w v) 0 1 ≤ cond b 0 1
one_block w v b h = elim b as (λ c. (c ≡ true → w ≡ v) → cond (nat_eq w v) 0 1 ≤ cond c 0 1) [ true ↦ λ f. let e = f refl in grind (arith, nat_tests) | false ↦ λ f. grind (arith, nat_tests) ] h

-- of the blocks of one variable, those from block b on
few_blocks : (above under : List ℕ) (x b c : ℕ) (s : Shape) (xs ys : List ℤ) → Narrows x s under above → xs ≡ set_in above x s → ys ≡ set_in under x s → b + c ≤ blocks_of s → changed above under (s.first + b) c ≤ blocks_differing c (s.least +ℤ pos (64 * b)) xs ys
few_blocks above under x b zero s xs ys n i j l = omega arith
few_blocks above under x b (suc c) s xs ys n i j l =
    let v : ℤ = s.least +ℤ pos (64 * b) in
    let first = one_block (slice_index above (s.first + b)) (slice_index under (s.first + b)) (agree 64 v xs ys) (λ a. same_block above under x b s n (omega (arith, l)) (rw (i, j) at a)) in
    let e : v +ℤ pos 64 ≡ s.least +ℤ pos (64 * suc b) = omega (arith, ints) in
    let k : suc (s.first + b) ≡ s.first + suc b = omega arith in
    let r = few_blocks above under x (suc b) c s xs ys n i j (omega (arith, l)) in
    rw (e, k) (omega (arith, first, r))

-- what is known of one variable at two levels
pub record IsTwice (above under : List ℕ) (F G : Family) (x : ℕ) (s : Shape) : Type 0 where
  pub narrows : Narrows x s under above
  pub some : 0 < s.size
  pub top : set_of F x ≡ set_in above x s
  pub below : set_of G x ≡ set_in under x s

blocks_same : (s : Shape) → 0 < s.size → blocks (range_of s) ≡ blocks_of s
blocks_same s h = let z = size_is s.least (s.least +ℤ pos (s.size - 1)) (omega (arith, ints)) in let e : size_between (range_of s) ≡ s.size = omega (arith, ints, z, h) in ap (λ n. (n + 63) / 64) e

few_from : (above under : List ℕ) (F G : Family) (k n x : ℕ) (shapes : List Shape) → FillsFrom k n shapes → ((y : ℕ) (s : Shape) → slice_get shapes y ≡ Some s → IsTwice above under F G (x + y) s) → changed above under k (n - k) ≤ differing_from (map range_of shapes) x F G
few_from above under F G k n x [] f h = let z : n - k ≡ 0 = omega (arith, f) in rw z (omega arith)
few_from above under F G k n x (s ∷ shapes) f h =
    let z : x + 0 ≡ x = omega arith in
    let t : IsTwice above under F G x s = rw z at (h 0 s refl) in
    let m = fills_most (k + blocks_of s) n shapes f.1 in
    let e : n - k ≡ blocks_of s + (n - (k + blocks_of s)) = omega (arith, m) in
    let split = changed_split above under k (blocks_of s) (n - (k + blocks_of s)) in
    let here = few_blocks above under x 0 (blocks_of s) s (set_of F x) (set_of G x) t.narrows t.top t.below (omega arith) in
    let w : s.least +ℤ pos (64 * 0) ≡ s.least = omega (arith, ints) in
    let q : s.first + 0 ≡ k = omega (arith, f.0) in
    let first = rw (w, q) at here in
    let rest = few_from above under F G (k + blocks_of s) n (suc x) shapes f.1 (λ y u g. let i : x + suc y ≡ suc x + y = omega arith in rw i at (h (suc y) u g)) in
    rw (e, blocks_same s t.some) (omega (arith, split, first, rest))

-- closing a level changes at most the words of blocks that differ
pub few_words : (shapes : List Shape) (levels new : Levels) → IsStore shapes (length levels.top) levels → levels.below ≡ new.top ∷ new.below → changed levels.top new.top (length shapes) (length levels.top - length shapes) ≤ differing_blocks (map range_of shapes) (family_in shapes levels.top) (family_in shapes new.top)
few_words shapes levels new i e =
    let narrow = (rw e at i.narrower).0 in
    few_from levels.top new.top (family_in shapes levels.top) (family_in shapes new.top) (length shapes) (length levels.top) 0 shapes i.shapes_fit.fills (λ y s g.
    let z : 0 + y ≡ y = omega arith in
    let a = i.sets.0.1 y s g in
    rw z (record {
      narrows = narrow y s g;
      some = omega (arith, a.order);
      top = set_of_family levels.top y shapes s g;
      below = set_of_family new.top y shapes s g;
    }))

pub fits_split : (shapes : List Shape) (levels : Levels) → IsStore shapes (length levels.top) levels → length shapes ≤ length levels.top
fits_split shapes levels i = fills_most (length shapes) (length levels.top) shapes i.shapes_fit.fills
