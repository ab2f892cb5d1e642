-- The values that are left.
use Rattle.std.proofs.Common.{◌≡◌, ℕ, zero, suc, ◌+◌, ◌<◌, ◌≤◌, Bool, true, false, cond, ◌||◌, ◌⊎◌, refl, List, [], ◌∷◌, length, ℤ, pos, ◌+ℤ◌, sym, subst, arith, inl, inr}
use Rattle.std.specs.Prelude.{not}
use Rattle.std.specs.List.{filter}
use Rattle.std.proofs.lemmas.Int.{ints}
use Rattle.opl_domain.specs.Family.{member, IsRising, is_outside, outside}
use Rattle.opl_domain.proofs.Members.{member_cases, member_later, member_here}
use Rattle.opl_trail.specs.Gone.{is_gone, count_left}
use Rattle.opl_store.specs.Stored.{picked}

pub in_picked : (words : List ℕ) (g : ℕ) (v : ℤ) (n k : ℕ) → k < n → is_gone words (g + k) ≡ false → member (v +ℤ pos k) (picked words g v n) ≡ true
in_picked words g v zero k l h = absurd (omega arith)
in_picked words g v (suc n) zero l h =
    let i : is_gone words g ≡ false = subst (λ q. is_gone words q ≡ false) (omega arith) h in
    rw i (member_here (v +ℤ pos 0) v (picked words (suc g) (v +ℤ pos 1) n) (omega (arith, ints)))
in_picked words g v (suc n) (suc k) l h =
    let i : is_gone words (suc g + k) ≡ false = subst (λ q. is_gone words q ≡ false) (omega arith) h in
    let r = in_picked words (suc g) (v +ℤ pos 1) n k (omega arith) i in
    let e : v +ℤ pos 1 +ℤ pos k ≡ v +ℤ pos (suc k) = omega (arith, ints) in
    let s = subst (λ u. member u (picked words (suc g) (v +ℤ pos 1) n) ≡ true) e r in
    elim (is_gone words g) as (λ b. member (v +ℤ pos (suc k)) (cond b (picked words (suc g) (v +ℤ pos 1) n) (v ∷ picked words (suc g) (v +ℤ pos 1) n)) ≡ true) [ true ↦ s | false ↦ member_later (v +ℤ pos (suc k)) v (picked words (suc g) (v +ℤ pos 1) n) s ]

-- where a value stands
pub record IsAt (words : List ℕ) (g : ℕ) (v : ℤ) (n : ℕ) (u : ℤ) : Type 0 where
  pub place : ℕ
  pub within : place < n
  pub is_left : is_gone words (g + place) ≡ false
  pub value : u ≡ v +ℤ pos place

later : (words : List ℕ) (g : ℕ) (v : ℤ) (n : ℕ) (u : ℤ) → IsAt words (suc g) (v +ℤ pos 1) n u → IsAt words g v (suc n) u
later words g v n u r = record {
  place = suc r.place;
  within = omega (arith, r.within);
  is_left = subst (λ q. is_gone words q ≡ false) (omega arith) r.is_left;
  value = omega (arith, ints, r.value);
}

pub from_picked : (words : List ℕ) (g : ℕ) (v : ℤ) (n : ℕ) (u : ℤ) → member u (picked words g v n) ≡ true → IsAt words g v n u
from_picked words g v zero u h = cc
from_picked words g v (suc n) u h =
    elim (is_gone words g) as (λ b. is_gone words g ≡ b → member u (cond b (picked words (suc g) (v +ℤ pos 1) n) (v ∷ picked words (suc g) (v +ℤ pos 1) n)) ≡ true → IsAt words g v (suc n) u) [
      | true ↦ λ e k. later words g v n u (from_picked words (suc g) (v +ℤ pos 1) n u k)
      | false ↦ λ e k. elim (member_cases u v (picked words (suc g) (v +ℤ pos 1) n) k) [
        | inl i ↦ record { place = 0; within = omega arith; is_left = subst (λ q. is_gone words q ≡ false) (omega arith) e; value = omega (arith, ints, i) }
        | inr q ↦ later words g v n u (from_picked words (suc g) (v +ℤ pos 1) n u q)
      ]
    ] refl h

pub picked_rises : (words : List ℕ) (g : ℕ) (v : ℤ) (n : ℕ) → IsRising (picked words g v n)
picked_rises words g v zero = tt
picked_rises words g v (suc n) = elim (is_gone words g) as (λ b. IsRising (cond b (picked words (suc g) (v +ℤ pos 1) n) (v ∷ picked words (suc g) (v +ℤ pos 1) n))) [
  | true ↦ picked_rises words (suc g) (v +ℤ pos 1) n
  | false ↦ (λ w h. let r = from_picked words (suc g) (v +ℤ pos 1) n w h in omega (arith, ints, r.value), picked_rises words (suc g) (v +ℤ pos 1) n)
]

-- the same places are left
pub picked_same : (old new : List ℕ) (g : ℕ) (v : ℤ) (n : ℕ) → ((k : ℕ) → g ≤ k → k < g + n → is_gone new k ≡ is_gone old k) → picked new g v n ≡ picked old g v n
picked_same old new g v zero h = refl
picked_same old new g v (suc n) h =
    let r = picked_same old new (suc g) (v +ℤ pos 1) n (λ k a b. h k (omega arith) (omega (arith, b))) in
    rw (h g (omega arith) (omega arith), r) refl

outside_more : (p : ℤ → Bool) (v : ℤ) (vs : List ℤ) → p v ≡ true → filter p (v ∷ vs) ≡ v ∷ filter p vs
outside_more p v vs h = rw h refl

outside_less : (p : ℤ → Bool) (v : ℤ) (vs : List ℤ) → p v ≡ false → filter p (v ∷ vs) ≡ filter p vs
outside_less p v vs h = rw h refl

-- values go between two others
pub picked_outside : (old new : List ℕ) (g : ℕ) (v lo hi : ℤ) (n : ℕ) → ((k : ℕ) → k < n → is_gone new (g + k) ≡ (is_gone old (g + k) || not (is_outside lo hi (v +ℤ pos k)))) → picked new g v n ≡ outside lo hi (picked old g v n)
picked_outside old new g v lo hi zero h = refl
picked_outside old new g v lo hi (suc n) h =
    let r = picked_outside old new (suc g) (v +ℤ pos 1) lo hi n (λ k l. let e : g + suc k ≡ suc g + k = omega arith in let f : v +ℤ pos (suc k) ≡ v +ℤ pos 1 +ℤ pos k = omega (arith, ints) in rw (e, f) at (h (suc k) (omega (arith, l)))) in
    let e : g + 0 ≡ g = omega arith in
    let f : v +ℤ pos 0 ≡ v = omega (arith, ints) in
    let first = rw (e, f) at (h 0 (omega arith)) in
    elim (is_gone old g) as (λ b. is_gone new g ≡ (b || not (is_outside lo hi v)) → cond (is_gone new g) (picked new (suc g) (v +ℤ pos 1) n) (v ∷ picked new (suc g) (v +ℤ pos 1) n) ≡ outside lo hi (cond b (picked old (suc g) (v +ℤ pos 1) n) (v ∷ picked old (suc g) (v +ℤ pos 1) n))) [
      | true ↦ λ i. rw i r
      | false ↦ λ i. elim (is_outside lo hi v) as (λ b. is_outside lo hi v ≡ b → is_gone new g ≡ not b → cond (is_gone new g) (picked new (suc g) (v +ℤ pos 1) n) (v ∷ picked new (suc g) (v +ℤ pos 1) n) ≡ outside lo hi (v ∷ picked old (suc g) (v +ℤ pos 1) n)) [
        | true ↦ λ o j. rw (j, r) (sym (outside_more (is_outside lo hi) v (picked old (suc g) (v +ℤ pos 1) n) o))
        | false ↦ λ o j. rw (j, r) (sym (outside_less (is_outside lo hi) v (picked old (suc g) (v +ℤ pos 1) n) o))
      ] refl i
    ] first

-- all stay
picked_all : (words : List ℕ) (g : ℕ) (v lo hi : ℤ) (n : ℕ) → ((k : ℕ) → k < n → is_outside lo hi (v +ℤ pos k) ≡ true) → picked words g v n ≡ outside lo hi (picked words g v n)
picked_all words g v lo hi n h = picked_outside words words g v lo hi n (λ k l. rw (h k l) (elim (is_gone words (g + k)) as (λ b. b ≡ (b || false)) [ true ↦ refl | false ↦ refl ]))

-- the first d values go
pub picked_tail : (words : List ℕ) (g : ℕ) (v lo hi : ℤ) (d n : ℕ) → ((k : ℕ) → k < d → (is_gone words (g + k) ≡ true) ⊎ (is_outside lo hi (v +ℤ pos k) ≡ false)) → ((k : ℕ) → d ≤ k → k < d + n → is_outside lo hi (v +ℤ pos k) ≡ true) →
    picked words (g + d) (v +ℤ pos d) n ≡ outside lo hi (picked words g v (d + n))
picked_tail words g v lo hi zero n h s =
    let e : g + 0 ≡ g = omega arith in
    let f : v +ℤ pos 0 ≡ v = omega (arith, ints) in
    let m : 0 + n ≡ n = omega arith in
    rw (e, f, m) (picked_all words g v lo hi n (λ k l. s k (omega arith) (omega (arith, l))))
picked_tail words g v lo hi (suc d) n h s =
    let r = picked_tail words (suc g) (v +ℤ pos 1) lo hi d n
    (λ k l. let e : g + suc k ≡ suc g + k = omega arith in let f : v +ℤ pos (suc k) ≡ v +ℤ pos 1 +ℤ pos k = omega (arith, ints) in rw (e, f) at (h (suc k) (omega (arith, l))))
    (λ k a b. let f : v +ℤ pos (suc k) ≡ v +ℤ pos 1 +ℤ pos k = omega (arith, ints) in rw f at (s (suc k) (omega (arith, a)) (omega (arith, b)))) in
    let e : g + suc d ≡ suc g + d = omega arith in
    let f : v +ℤ pos (suc d) ≡ v +ℤ pos 1 +ℤ pos d = omega (arith, ints) in
    let m : suc d + n ≡ suc (d + n) = omega arith in
    let e0 : g + 0 ≡ g = omega arith in
    let f0 : v +ℤ pos 0 ≡ v = omega (arith, ints) in
    let first = rw (e0, f0) at (h 0 (omega arith)) in
    rw (e, f, m, r) (elim (is_gone words g) as (λ b. is_gone words g ≡ b → outside lo hi (picked words (suc g) (v +ℤ pos 1) (d + n)) ≡ outside lo hi (cond b (picked words (suc g) (v +ℤ pos 1) (d + n)) (v ∷ picked words (suc g) (v +ℤ pos 1) (d + n)))) [
      | true ↦ λ i. refl
      | false ↦ λ i. elim first [ inl a ↦ absurd (cc) | inr o ↦ sym (outside_less (is_outside lo hi) v (picked words (suc g) (v +ℤ pos 1) (d + n)) o) ]
    ] refl)

none_left : (words : List ℕ) (g : ℕ) (v lo hi : ℤ) (n : ℕ) → ((k : ℕ) → k < n → (is_gone words (g + k) ≡ true) ⊎ (is_outside lo hi (v +ℤ pos k) ≡ false)) → [] ≡ outside lo hi (picked words g v n)
none_left words g v lo hi n h = let m : n + 0 ≡ n = omega arith in subst (λ k. [] ≡ outside lo hi (picked words g v k)) m (picked_tail words g v lo hi n 0 h (λ k a b. absurd (omega arith)))

-- the last values go
pub picked_front : (words : List ℕ) (g : ℕ) (v lo hi : ℤ) (m d : ℕ) → ((k : ℕ) → k < m → is_outside lo hi (v +ℤ pos k) ≡ true) → ((k : ℕ) → m ≤ k → k < m + d → (is_gone words (g + k) ≡ true) ⊎ (is_outside lo hi (v +ℤ pos k) ≡ false)) →
    picked words g v m ≡ outside lo hi (picked words g v (m + d))
picked_front words g v lo hi zero d s h = let m : 0 + d ≡ d = omega arith in rw m (none_left words g v lo hi d (λ k l. h k (omega arith) (omega (arith, l))))
picked_front words g v lo hi (suc m) d s h =
    let r = picked_front words (suc g) (v +ℤ pos 1) lo hi m d
    (λ k l. let f : v +ℤ pos (suc k) ≡ v +ℤ pos 1 +ℤ pos k = omega (arith, ints) in rw f at (s (suc k) (omega (arith, l))))
    (λ k a b. let e : g + suc k ≡ suc g + k = omega arith in let f : v +ℤ pos (suc k) ≡ v +ℤ pos 1 +ℤ pos k = omega (arith, ints) in rw (e, f) at (h (suc k) (omega (arith, a)) (omega (arith, b)))) in
    let f0 : v +ℤ pos 0 ≡ v = omega (arith, ints) in
    let o = rw f0 at (s 0 (omega arith)) in
    let n : suc m + d ≡ suc (m + d) = omega arith in
    rw (n, r) (elim (is_gone words g) as (λ b. cond b (outside lo hi (picked words (suc g) (v +ℤ pos 1) (m + d))) (v ∷ outside lo hi (picked words (suc g) (v +ℤ pos 1) (m + d))) ≡ outside lo hi (cond b (picked words (suc g) (v +ℤ pos 1) (m + d)) (v ∷ picked words (suc g) (v +ℤ pos 1) (m + d)))) [
      | true ↦ refl
      | false ↦ sym (outside_more (is_outside lo hi) v (picked words (suc g) (v +ℤ pos 1) (m + d)) o)
    ])

-- as many values as places that are left
pub length-picked : (words : List ℕ) (g : ℕ) (v : ℤ) (n : ℕ) → length (picked words g v n) ≡ count_left words g n
length-picked words g v zero = refl
length-picked words g v (suc n) =
    let r = length-picked words (suc g) (v +ℤ pos 1) n in
    elim (is_gone words g) as (λ b. length (cond b (picked words (suc g) (v +ℤ pos 1) n) (v ∷ picked words (suc g) (v +ℤ pos 1) n)) ≡ cond b 0 1 + count_left words (suc g) n) [ true ↦ omega (arith, r) | false ↦ omega (arith, r) ]

pub count_most : (words : List ℕ) (g n : ℕ) → count_left words g n ≤ n
count_most words g zero = omega arith
count_most words g (suc n) = let r = count_most words (suc g) n in elim (is_gone words g) as (λ b. cond b 0 1 + count_left words (suc g) n ≤ suc n) [ true ↦ omega (arith, r) | false ↦ omega (arith, r) ]
