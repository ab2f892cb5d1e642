-- The families that words keep.
use Rattle.std.proofs.Common.{◌≡◌, ◌∙◌, ℕ, zero, suc, ◌+◌, ◌-◌, ◌*◌, ◌/◌, ◌<◌, ◌≤◌, ◌⊎◌, true, false, refl, List, [], ◌∷◌, length, get_or, set, ℤ, pos, ◌+ℤ◌, ap, sym, subst, arith, inl, inr}
use Rattle.std.specs.Prelude.{slice_index, slice_get, Some, ◌≢◌}
use Rattle.std.proofs.lemmas.Bool.{cases_eq, cases_lt}
use Rattle.std.proofs.lemmas.Option.{slice_get_within, slice_get_read, slice_get-get_or}
use Rattle.opl_domain.specs.Family.{IsFamily, IsRising, member, set_of, cut_of, outside, Full}
use Rattle.opl_domain.proofs.Sets.{set_of-past}
use Rattle.opl_store.specs.declared.shape.Shape.{Shape}
use Rattle.opl_trail.specs.Gone.{is_gone}
use Rattle.opl_trail.specs.Levels.{Levels}
use Rattle.opl_store.specs.Stacks.{Stack}
use Rattle.opl_store.specs.Stored.{stack_in, low_gone, high_gone, between_ends, set_in, family_from, family_in, IsSet, AreSets, AreShapes, IsStore, IsReady, TouchesOnly, Narrows, AllNarrow, AreNarrower, FillsFrom, blocks_of}
use Rattle.opl_trail.proofs.Words.{same_gone}
use Rattle.opl_store.proofs.Picked.{picked_same, in_picked, picked_rises}
use Rattle.opl_store.proofs.Ends.{narrows_same, narrows_refl, narrows_on}

pub length-family : (words : List ℕ) (k : ℕ) (shapes : List Shape) → length (family_from words k shapes) ≡ length shapes
length-family words k [] = refl
length-family words k (s ∷ shapes) = ap suc (length-family words (suc k) shapes)

read_family : (words : List ℕ) (k x : ℕ) (shapes : List Shape) (s : Shape) → slice_get shapes x ≡ Some s → get_or (family_from words k shapes) x [] ≡ set_in words (k + x) s
read_family words k x [] s h = cc
read_family words k zero (t ∷ shapes) s h = let e : t ≡ s = cc in let z : k + 0 ≡ k = omega arith in rw (z, e) refl
read_family words k (suc x) (t ∷ shapes) s h = let e : k + suc x ≡ suc k + x = omega arith in rw e (read_family words (suc k) x shapes s h)

pub set_of_family : (words : List ℕ) (x : ℕ) (shapes : List Shape) (s : Shape) → slice_get shapes x ≡ Some s → set_of (family_in shapes words) x ≡ set_in words x s
unfolding set_of family_in
set_of_family words x shapes s h = let z : 0 + x ≡ x = omega arith in read_family words 0 x shapes s h ∙ ap (λ y. set_in words y s) z

unwritten : (old new : List ℕ) (k : ℕ) (shapes : List Shape) → ((y : ℕ) (t : Shape) → slice_get shapes y ≡ Some t → set_in new (k + y) t ≡ set_in old (k + y) t) → family_from new k shapes ≡ family_from old k shapes
unwritten old new k [] f = refl
unwritten old new k (t ∷ shapes) f =
    let z : k + 0 ≡ k = omega arith in
    let here : set_in new k t ≡ set_in old k t = rw z at (f 0 t refl) in
    let rest = unwritten old new (suc k) shapes (λ y u g. let j : k + suc y ≡ suc k + y = omega arith in rw j at (f (suc y) u g)) in
    rw (here, rest) refl

written : (old new : List ℕ) (k x : ℕ) (shapes : List Shape) (s : Shape) (vs : List ℤ) → slice_get shapes x ≡ Some s → set_in new (k + x) s ≡ vs → ((y : ℕ) (t : Shape) → slice_get shapes y ≡ Some t → y ≢ x → set_in new (k + y) t ≡ set_in old (k + y) t) → family_from new k shapes ≡ set (family_from old k shapes) x vs
written old new k x [] s vs h e f = cc
written old new k zero (t ∷ shapes) s vs h e f =
    let i : t ≡ s = cc in
    let z : k + 0 ≡ k = omega arith in
    let here : set_in new k t ≡ vs = rw i (subst (λ y. set_in new y s ≡ vs) z e) in
    let rest : family_from new (suc k) shapes ≡ family_from old (suc k) shapes = unwritten old new (suc k) shapes (λ y u g. let j : k + suc y ≡ suc k + y = omega arith in rw j at (f (suc y) u g (λ q. cc))) in
    rw (here, rest) refl
written old new k (suc x) (t ∷ shapes) s vs h e f =
    let z : k + 0 ≡ k = omega arith in
    let j : k + suc x ≡ suc k + x = omega arith in
    let here : set_in new k t ≡ set_in old k t = rw z at (f 0 t refl (λ q. cc)) in
    let rest = written old new (suc k) x shapes s vs h (rw j at e) (λ y u g n. let i : k + suc y ≡ suc k + y = omega arith in rw i at (f (suc y) u g (λ q. n (cc)))) in
    rw (here, rest) refl

-- ---- what another variable's words leave

pub fills_most : (k n : ℕ) (shapes : List Shape) → FillsFrom k n shapes → k ≤ n
fills_most k n [] f = omega (arith, f)
fills_most k n (s ∷ shapes) f = let r = fills_most (k + blocks_of s) n shapes f.1 in omega (arith, r)

-- the blocks of a variable stand where its shape says, and those of a later one behind them
pub fills_at : (k n x : ℕ) (shapes : List Shape) (s : Shape) → FillsFrom k n shapes → slice_get shapes x ≡ Some s → (k ≤ s.first) × (s.first + blocks_of s ≤ n)
fills_at k n x [] s f h = cc
fills_at k n zero (t ∷ shapes) s f h =
    let e : t ≡ s = cc in
    let m = fills_most (k + blocks_of t) n shapes f.1 in
    subst (λ u. (k ≤ u.first) × (u.first + blocks_of u ≤ n)) e (omega (arith, f.0), omega (arith, f.0, m))
fills_at k n (suc x) (t ∷ shapes) s f h = let r = fills_at (k + blocks_of t) n x shapes s f.1 h in (omega (arith, r.0), r.1)

pub fills_apart : (k n x y : ℕ) (shapes : List Shape) (s t : Shape) → FillsFrom k n shapes → slice_get shapes x ≡ Some s → slice_get shapes y ≡ Some t → x < y → s.first + blocks_of s ≤ t.first
fills_apart k n x y [] s t f h i l = cc
fills_apart k n x zero (u ∷ shapes) s t f h i l = absurd (omega arith)
fills_apart k n zero (suc y) (u ∷ shapes) s t f h i l =
    let e : u ≡ s = cc in
    let r = fills_at (k + blocks_of u) n y shapes t f.1 i in
    subst (λ v. v.first + blocks_of v ≤ t.first) e (omega (arith, f.0, r.0))
fills_apart k n (suc x) (suc y) (u ∷ shapes) s t f h i l = fills_apart (k + blocks_of u) n x y shapes s t f.1 h i (omega arith)

elsewhere : (shapes : List Shape) (n x y : ℕ) (s t : Shape) → AreShapes n shapes → slice_get shapes x ≡ Some s → slice_get shapes y ≡ Some t → y ≢ x → (s.first + blocks_of s ≤ t.first) ⊎ (t.first + blocks_of t ≤ s.first)
elsewhere shapes n x y s t a h k d = elim (cases_lt x y) [ inl l ↦ inl (fills_apart (length shapes) n x y shapes s t a.fills h k l) | inr l ↦ inr (fills_apart (length shapes) n y x shapes t s a.fills k h (omega (arith, d, l))) ]

-- all words of another variable stay
pub record Stays (y : ℕ) (t : Shape) (old new : List ℕ) : Type 0 where
  pub ends : slice_index new y ≡ slice_index old y
  pub blocks : (k : ℕ) → t.first ≤ k → k < t.first + blocks_of t → slice_index new k ≡ slice_index old k

pub others_stay : (shapes : List Shape) (n x y : ℕ) (s t : Shape) (old new : List ℕ) → AreShapes n shapes → slice_get shapes x ≡ Some s → slice_get shapes y ≡ Some t → y ≢ x → TouchesOnly x s old new → Stays y t old new
others_stay shapes n x y s t old new a h k d u =
    let e = elsewhere shapes n x y s t a h k d in
    let i = fills_at (length shapes) n x shapes s a.fills h in
    let j = fills_at (length shapes) n y shapes t a.fills k in
    let inside = slice_get_within shapes x s h in
    let within = slice_get_within shapes y t k in
    record {
      ends = u.words y d (inl (omega (arith, i.0, within)));
      blocks = λ b p q. u.words b (omega (arith, j.0, inside, p)) (elim e [ inl l ↦ inr (omega (arith, l, p)) | inr l ↦ inl (omega (arith, l, q)) ]);
    }

pub others_same : (y : ℕ) (t : Shape) (old new : List ℕ) → Stays y t old new → IsSet old y t → (set_in new y t ≡ set_in old y t) × IsSet new y t
unfolding set_in
others_same y t old new u i =
    let w = u.ends in
    let same : (g : ℕ) → t.first * 64 ≤ g → g < t.first * 64 + t.size → is_gone new g ≡ is_gone old g = λ g p q. same_gone old new g (u.blocks (g / 64) (omega (arith, p)) (omega (arith, q))) in
    let low : ℕ = low_gone (slice_index old y) in
    let high : ℕ = high_gone (slice_index old y) in (
      rw w (picked_same old new (t.first * 64 + low) (t.least +ℤ pos low) (t.size - high - low) (λ g p q. same g (omega (arith, p)) (omega (arith, q, i.order)))),
      record {
        order = rw w i.order;
        low = rw w (same (t.first * 64 + low) (omega arith) (omega (arith, i.order)) ∙ i.low);
        high = rw w (same (t.first * 64 + (t.size - 1 - high)) (omega arith) (omega (arith, i.order)) ∙ i.high);
      },
    )

-- ---- what a store's fields tell

read_shape : (shapes : List Shape) (x : ℕ) (s : Shape) → x < length shapes → s ≡ get_or shapes x s → slice_get shapes x ≡ Some s
read_shape shapes x s l e = slice_get_read shapes (length shapes) x s refl l e

pub in_shapes : (shapes : List Shape) (levels : Levels) (st : Stack) (x : ℕ) → stack_in shapes levels ≡ st → x < length st.top → x < length shapes
unfolding family_in
in_shapes shapes levels st x e l = let k = ap (λ (t : Stack). length t.top) e in omega (arith, k, l, length-family levels.top 0 shapes)

ready_of : (shapes : List Shape) (levels : Levels) (x : ℕ) (s : Shape) → IsStore shapes (length levels.top) levels → slice_get shapes x ≡ Some s → IsReady levels.top x s
ready_of shapes levels x s i h =
    let e = i.shapes_fit.each x s h in
    let w = slice_get_within shapes x s h in
    let f = fills_at (length shapes) (length levels.top) x shapes s i.shapes_fit.fills h in
    record { small = i.small; behind = omega (arith, f.0, w); within = omega (arith, f.1); few = e.few; fits = e.fits; set = i.sets.0.1 x s h }

set_is : (shapes : List Shape) (levels : Levels) (st : Stack) (x : ℕ) (s : Shape) → stack_in shapes levels ≡ st → slice_get shapes x ≡ Some s → set_in levels.top x s ≡ set_of st.top x
set_is shapes levels st x s e h = sym (set_of_family levels.top x shapes s h) ∙ ap (λ (t : Stack). set_of t.top x) e

-- the same at a variable of the family that is seen
pub shape_at : (shapes : List Shape) (levels : Levels) (st : Stack) (x : ℕ) (s : Shape) → stack_in shapes levels ≡ st → x < length st.top → s ≡ get_or shapes x s → slice_get shapes x ≡ Some s
shape_at shapes levels st x s e l h = read_shape shapes x s (in_shapes shapes levels st x e l) h

pub ready_at : (shapes : List Shape) (levels : Levels) (st : Stack) (x : ℕ) (s : Shape) → IsStore shapes (length levels.top) levels → stack_in shapes levels ≡ st → x < length st.top → s ≡ get_or shapes x s → IsReady levels.top x s
ready_at shapes levels st x s i e l h = ready_of shapes levels x s i (shape_at shapes levels st x s e l h)

pub set_at : (shapes : List Shape) (levels : Levels) (st : Stack) (x : ℕ) (s : Shape) → stack_in shapes levels ≡ st → x < length st.top → s ≡ get_or shapes x s → set_in levels.top x s ≡ set_of st.top x
set_at shapes levels st x s e l h = set_is shapes levels st x s e (shape_at shapes levels st x s e l h)

none_shape : Shape
none_shape = record { least = pos 0; size = 0; first = 0 }

long_in : (shapes : List Shape) (words : List ℕ) (x : ℕ) → x < length (family_in shapes words) → x < length shapes
unfolding family_in
long_in shapes words x l = omega (arith, length-family words 0 shapes)

past_in : (shapes : List Shape) (words : List ℕ) (x : ℕ) → length shapes ≤ x → length (family_in shapes words) ≤ x
unfolding family_in
past_in shapes words x l = omega (arith, length-family words 0 shapes)

first_of : List ℕ → ℕ → Shape → ℤ
first_of words x s = (s.least +ℤ pos (low_gone (slice_index words x))) +ℤ pos 0

first_in : (words : List ℕ) (x : ℕ) (s : Shape) → IsSet words x s → member (first_of words x s) (set_in words x s) ≡ true
unfolding set_in first_of
first_in words x s i = in_picked words (s.first * 64 + low_gone (slice_index words x)) (s.least +ℤ pos (low_gone (slice_index words x))) (between_ends s (slice_index words x)) 0 (omega (arith, i.order)) (subst (λ g. is_gone words g ≡ false) (omega arith) i.low)

set_rises : (words : List ℕ) (x : ℕ) (s : Shape) → IsRising (set_in words x s)
unfolding set_in
set_rises words x s = picked_rises words (s.first * 64 + low_gone (slice_index words x)) (s.least +ℤ pos (low_gone (slice_index words x))) (between_ends s (slice_index words x))

full_in : (shapes : List Shape) (words : List ℕ) → AreSets shapes words → Full (family_in shapes words)
full_in shapes words a x l =
    let k : x < length shapes = long_in shapes words x l in
    let s = get_or shapes x none_shape in
    let h = slice_get-get_or shapes x none_shape k in
    let i = a x s h in
    (first_of words x s, subst (λ vs. member (first_of words x s) vs ≡ true) (sym (set_of_family words x shapes s h)) (first_in words x s i))

rising_in : (shapes : List Shape) (words : List ℕ) (x : ℕ) → IsRising (set_of (family_in shapes words) x)
rising_in shapes words x = elim (cases_lt x (length shapes)) [
  | inl k ↦ let s = get_or shapes x none_shape in let h = slice_get-get_or shapes x none_shape k in subst (λ vs. IsRising vs) (sym (set_of_family words x shapes s h)) (set_rises words x s)
  | inr k ↦ subst (λ vs. IsRising vs) (sym (set_of-past (family_in shapes words) x (past_in shapes words x k))) tt
]

pub family_of : (shapes : List Shape) (levels : Levels) → IsStore shapes (length levels.top) levels → IsFamily (family_in shapes levels.top)
family_of shapes levels i = record { full = full_in shapes levels.top i.sets.0.1; rising = rising_in shapes levels.top }

-- a cut of one set
pub cut_family : (shapes : List Shape) (n x : ℕ) (s : Shape) (old new : List ℕ) (lo hi : ℤ) → AreShapes n shapes → slice_get shapes x ≡ Some s → TouchesOnly x s old new → AreSets shapes old → set_in new x s ≡ outside lo hi (set_in old x s) → family_in shapes new ≡ cut_of (family_in shapes old) x lo hi
unfolding family_in cut_of
cut_family shapes n x s old new lo hi a h t sets e =
    let z : 0 + x ≡ x = omega arith in
    let vs : List ℤ = outside lo hi (set_of (family_in shapes old) x) in
    let here : set_in new (0 + x) s ≡ vs = rw z (e ∙ ap (outside lo hi) (sym (set_of_family old x shapes s h))) in
    written old new 0 x shapes s vs h here (λ y u k d. let i : 0 + y ≡ y = omega arith in rw i (others_same y u old new (others_stay shapes n x y s u old new a h k d t) (sets y u k)).0)

pub cut_sets : (shapes : List Shape) (n x : ℕ) (s : Shape) (old new : List ℕ) → AreShapes n shapes → slice_get shapes x ≡ Some s → TouchesOnly x s old new → AreSets shapes old → IsSet new x s → AreSets shapes new
cut_sets shapes n x s old new a h t sets i y u k = elim (cases_eq y x) [
  | inl e ↦ let j : Some s ≡ Some u = sym h ∙ ap (slice_get shapes) (sym e) ∙ k in let q : s ≡ u = cc in subst (λ v. IsSet new y v) q (subst (λ z. IsSet new z s) (sym e) i)
  | inr d ↦ (others_same y u old new (others_stay shapes n x y s u old new a h k d t) (sets y u k)).1
]

-- ---- levels

pub open_store : (shapes : List Shape) (levels new : Levels) → IsStore shapes (length levels.top) levels → new ≡ record { top = levels.top; below = levels.top ∷ levels.below } → IsStore shapes (length new.top) new
open_store shapes levels new i e =
    rw e (record {
      small = i.small;
      shapes_fit = i.shapes_fit;
      sets = (i.sets.0, i.sets);
      narrower = (λ x s h. narrows_refl levels.top x s, i.narrower);
    })

pub close_store : (shapes : List Shape) (levels new : Levels) → IsStore shapes (length levels.top) levels → levels.below ≡ new.top ∷ new.below → IsStore shapes (length new.top) new
close_store shapes levels new i e =
    let s = rw e at i.sets.1 in
    let l : length new.top ≡ length levels.top = s.0.0 in
    rw l (record { small = i.small; shapes_fit = i.shapes_fit; sets = s; narrower = (rw e at i.narrower).1 })

narrower_on : (shapes : List Shape) (old new : List ℕ) (below : List (List ℕ)) → AllNarrow shapes old new → AreNarrower shapes old below → AreNarrower shapes new below
narrower_on shapes old new [] n a = tt
narrower_on shapes old new (words ∷ below) n a = (λ x s h. narrows_on x s words old new (a.0 x s h) (n x s h), a.1)

-- a cut narrows its own variable, and leaves the others
all_narrow : (shapes : List Shape) (n x : ℕ) (s : Shape) (old new : List ℕ) → AreShapes n shapes → slice_get shapes x ≡ Some s → TouchesOnly x s old new → Narrows x s old new → AllNarrow shapes old new
all_narrow shapes n x s old new a h t m y u k = elim (cases_eq y x) [
  | inl e ↦ let j : Some s ≡ Some u = sym h ∙ ap (slice_get shapes) (sym e) ∙ k in let q : s ≡ u = cc in subst (λ v. Narrows y v old new) q (subst (λ z. Narrows z s old new) (sym e) m)
  | inr d ↦ let o = others_stay shapes n x y s u old new a h k d t in narrows_same old new y u o.ends o.blocks
]

pub cut_store : (shapes : List Shape) (levels new : Levels) (x : ℕ) (s : Shape) → IsStore shapes (length levels.top) levels → slice_get shapes x ≡ Some s → TouchesOnly x s levels.top new.top → Narrows x s levels.top new.top → IsReady new.top x s → new.below ≡ levels.below → IsStore shapes (length new.top) new
cut_store shapes levels new x s i h t m r e =
    let all = all_narrow shapes (length levels.top) x s levels.top new.top i.shapes_fit h t m in
    rw t.same (record {
      small = i.small;
      shapes_fit = i.shapes_fit;
      sets = ((t.same, cut_sets shapes (length levels.top) x s levels.top new.top i.shapes_fit h t i.sets.0.1 r.set), rw e i.sets.1);
      narrower = rw e (narrower_on shapes levels.top new.top levels.below all i.narrower);
    })

pub length-in : (shapes : List Shape) (words : List ℕ) → length (family_in shapes words) ≡ length shapes
unfolding family_in
length-in shapes words = length-family words 0 shapes
