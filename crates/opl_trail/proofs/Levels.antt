-- What raising a word, and opening and closing a level, leave of the levels.
use Rattle.std.proofs.Common.{◌≡◌, ◌∙◌, ℕ, zero, suc, ◌+◌, ◌-◌, ◌<◌, ◌≤◌, ◌^◌, cond, refl, List, [], ◌∷◌, ◌++◌, length, get_or, set, take, drop, ap, sym, subst, arith, inl, inr, ◌⊎◌}
use Rattle.std.specs.Prelude.{nat_eq, nat_lt, ◌≢◌, slice_index}
use Rattle.std.specs.List.{All}
use Rattle.std.proofs.lemmas.Bool.{cases_eq, cases_lt}
use Rattle.std.proofs.lemmas.List.{length-set, get_or-set_same, get_or-set_other, set-set, set-get_or, length-take-le, length-drop, take-append-le, drop-append-le, length_push, take_all, drop_all}
use Rattle.std.proofs.lemmas.List.Elements.{All-push, All-take, All-drop, All-head, All-tail}
use Rattle.std.proofs.lemmas.Bool.Decides.{nat_tests}
use Rattle.opl_trail.specs.declared.trail.Saved.{Saved}
use Rattle.opl_trail.specs.Levels.{changed}
use Rattle.opl_trail.specs.Trails.{undo, word_of, at_of, below, saves_of, saves_in, AreWithin, AreLevels, HasRoom, IsTrail}
use Rattle.opl_trail.proofs.Undo.{length-undo, undo_saved, undo_last}

-- ---- one number of a list changes

pub set_read : (xs : List ℕ) (p q v : ℕ) → p < length xs → (slice_index (set xs p v) q ≡ v) × (q ≡ p) ⊎ (slice_index (set xs p v) q ≡ slice_index xs q) × (q ≢ p)
set_read xs p q v l = elim (cases_eq q p) [
  | inl i ↦ inl (subst (λ k. get_or (set xs p v) k 0 ≡ v) (sym i) (get_or-set_same xs p v 0 l), i)
  | inr n ↦ inr (get_or-set_other xs p q v 0 n, n)
]

since : (m a : ℕ) → m < a → ◌≡◌ {A = ℕ} (cond (nat_lt m a) 1 0) 1
since m a h = grind (arith, nat_tests)

not_since : (m a : ℕ) → a ≤ m → ◌≡◌ {A = ℕ} (cond (nat_lt m a) 1 0) 0
not_since m a h = grind (arith, nat_tests)

here : (p q : ℕ) → p ≡ q → ◌≡◌ {A = ℕ} (cond (nat_eq p q) 1 0) 1
here p q h = grind (arith, nat_tests)

elsewhere : (p q : ℕ) → p ≢ q → ◌≡◌ {A = ℕ} (cond (nat_eq p q) 1 0) 0
elsewhere p q h = grind (arith, nat_tests)

at_most_one : (m a : ℕ) → cond (nat_lt m a) 1 0 ≤ 1
at_most_one m a = grind (arith, nat_tests)

-- ---- raising a word

-- a word that was saved in this level
pub raise_saved : (m : ℕ) (marks : List ℕ) (trail : List Saved) (ats words : List ℕ) (size p w : ℕ) → IsTrail (m ∷ marks) trail ats words size → p < length words → slice_index words p < w → m < slice_index ats p →
    IsTrail (m ∷ marks) trail ats (set words p w) size × (below (m ∷ marks) trail (set words p w) ≡ below (m ∷ marks) trail words)
raise_saved m marks trail ats words size p w t l s h =
    let level = t.levels.0 in
    let old : undo word_of (drop m trail) (set words p w) ≡ undo word_of (drop m trail) words = undo_saved word_of (drop m trail) words p w (omega (arith, level.once p, since m (slice_index ats p) h)) in
    let wide = length-set words p w in (
      record {
        same = t.same ∙ sym wide;
        few = omega (arith, t.few, wide);
        places = subst (λ n. All (λ (e : Saved). e.place < n) trail) (sym wide) t.places;
        levels = (
          record {
            start = level.start;
            within = level.within;
            once = level.once;
            grows = λ q. rw old (elim (set_read words p q w l) [
              | inl r ↦ let k = level.grows q in let e : slice_index words q ≡ slice_index words p = ap (slice_index words) r.1 in omega (arith, r.0, k, e, s)
              | inr r ↦ let k = level.grows q in omega (arith, r.0, k)
            ]);
            more = λ q g. rw old (elim (set_read words p q w l) [
              | inl r ↦ let k = level.more q g in let e : slice_index words q ≡ slice_index words p = ap (slice_index words) r.1 in omega (arith, r.0, k, e, s)
              | inr r ↦ let k = level.more q g in omega (arith, r.0, k)
            ]);
          },
          subst (λ vs. AreLevels marks (take m trail) (undo at_of (drop m trail) ats) vs) (sym old) t.levels.1,
        );
        room = subst (λ n. HasRoom (m ∷ marks) n size) (sym wide) t.room;
      },
      rw old refl,
    )

-- one save more
saves_push : (es : List Saved) (e : Saved) (p : ℕ) → saves_of p (es ++ e ∷ []) ≡ saves_of p es + cond (nat_eq p e.place) 1 0
saves_push [] e p = omega arith
saves_push (f ∷ es) e p = let r = saves_push es e p in omega (arith, r)

saved_once : (m : ℕ) (trail : List Saved) (ats : List ℕ) (p q : ℕ) (e : Saved) → ((k : ℕ) → saves_of k (drop m trail) ≡ cond (nat_lt m (slice_index ats k)) 1 0) → p < length ats → slice_index ats p ≤ m → m < length trail + 1 → e.place ≡ p →
    saves_of q (drop m trail) + cond (nat_eq q e.place) 1 0 ≡ cond (nat_lt m (slice_index (set ats p (length trail + 1)) q)) 1 0
saved_once m trail ats p q e once inside h s ep = elim (set_read ats p q (length trail + 1) inside) [
  | inl r ↦
      let i : slice_index ats q ≡ slice_index ats p = ap (slice_index ats) r.1 in
      let a = not_since m (slice_index ats q) (omega (arith, i, h)) in
      let b = here q e.place (r.1 ∙ sym ep) in
      let c = since m (slice_index (set ats p (length trail + 1)) q) (omega (arith, r.0, s)) in
      omega (arith, once q, a, b, c)
  | inr r ↦
      let b = elsewhere q e.place (λ i. r.1 (i ∙ ep)) in
      let c : ◌≡◌ {A = ℕ} (cond (nat_lt m (slice_index (set ats p (length trail + 1)) q)) 1 0) (cond (nat_lt m (slice_index ats q)) 1 0) = ap (λ a. cond {A = ℕ} (nat_lt m a) 1 0) r.0 in
      omega (arith, once q, b, c)
]

-- a word that was not: it is saved
pub raise_unsaved : (m : ℕ) (marks : List ℕ) (trail : List Saved) (ats words : List ℕ) (size p w : ℕ) (e : Saved) → IsTrail (m ∷ marks) trail ats words size → p < length words → slice_index words p < w → slice_index ats p ≤ m →
    e.place ≡ p → e.at ≡ slice_index ats p → e.word ≡ slice_index words p →
    IsTrail (m ∷ marks) (trail ++ e ∷ []) (set ats p (length trail + 1)) (set words p w) size × (below (m ∷ marks) (trail ++ e ∷ []) (set words p w) ≡ below (m ∷ marks) trail words)
raise_unsaved m marks trail ats words size p w e t l s h ep ea ew =
    let level = t.levels.0 in
    let n = length trail in
    let ats' = set ats p (n + 1) in
    let words' = set words p w in
    let inside : p < length ats = omega (arith, t.same) in
    let dropped : drop m (trail ++ e ∷ []) ≡ drop m trail ++ e ∷ [] = drop-append-le m trail (e ∷ []) level.start in
    let kept : take m (trail ++ e ∷ []) ≡ take m trail = take-append-le m trail (e ∷ []) level.start in
    let back : set words' e.place e.word ≡ words = rw (ep, ew) (set-set words p w (slice_index words p) ∙ set-get_or words p 0) in
    let back_at : set ats' e.place e.at ≡ ats = rw (ep, ea) (set-set ats p (n + 1) (slice_index ats p) ∙ set-get_or ats p 0) in
    let old : undo word_of (drop m (trail ++ e ∷ [])) words' ≡ undo word_of (drop m trail) words =
    ap (λ es. undo word_of es words') dropped ∙ undo_last word_of (drop m trail) e words' ∙ ap (undo word_of (drop m trail)) back in
    let old_at : undo at_of (drop m (trail ++ e ∷ [])) ats' ≡ undo at_of (drop m trail) ats =
    ap (λ es. undo at_of es ats') dropped ∙ undo_last at_of (drop m trail) e ats' ∙ ap (undo at_of (drop m trail)) back_at in
    let long : length (trail ++ e ∷ []) ≡ n + 1 = length_push trail e in
    let wide : length words' ≡ length words = length-set words p w in (
      record {
        same = length-set ats p (n + 1) ∙ t.same ∙ sym wide;
        few = omega (arith, t.few, wide);
        places = subst (λ k. All (λ (f : Saved). f.place < k) (trail ++ e ∷ [])) (sym wide) (All-push (λ (f : Saved). f.place < length words) trail e t.places (omega (arith, ep)));
        levels = (
          record {
            start = omega (arith, level.start, long);
            within = λ q. elim (set_read ats p q (n + 1) inside) [ inl r ↦ omega (arith, r.0, long) | inr r ↦ let k = level.within q in omega (arith, r.0, k, long) ];
            once = λ q. rw dropped (saves_push (drop m trail) e q ∙ saved_once m trail ats p q e level.once inside h (omega (arith, level.start)) ep);
            grows = λ q. rw old (elim (set_read words p q w l) [
              | inl r ↦ let k = level.grows q in let i : slice_index words q ≡ slice_index words p = ap (slice_index words) r.1 in omega (arith, r.0, k, i, s)
              | inr r ↦ let k = level.grows q in omega (arith, r.0, k)
            ]);
            more = λ q g. rw old (elim (set_read words p q w l) [
              | inl r ↦ let k = level.grows q in let i : slice_index words q ≡ slice_index words p = ap (slice_index words) r.1 in omega (arith, r.0, k, i, s)
              | inr r ↦ elim (set_read ats p q (n + 1) inside) [
                | inl a ↦ absurd (r.1 a.1)
                | inr a ↦ let k = level.more q (omega (arith, a.0, g)) in omega (arith, r.0, k)
              ]
            ]);
          },
          rw (kept, old_at, old) t.levels.1,
        );
        room = subst (λ k. HasRoom (m ∷ marks) k size) (sym wide) t.room;
      },
      rw (old, kept) refl,
    )

-- where no level is open
pub raise_base : (trail : List Saved) (ats words : List ℕ) (size p w : ℕ) → IsTrail [] trail ats words size → IsTrail [] trail ats (set words p w) size
raise_base trail ats words size p w t =
    let wide = length-set words p w in
    record {
      same = t.same ∙ sym wide;
      few = omega (arith, t.few, wide);
      places = subst (λ n. All (λ (e : Saved). e.place < n) trail) (sym wide) t.places;
      levels = t.levels;
      room = tt;
    }

-- ---- counts of saves

-- of two lists of saves
saves_cons : (k n : ℕ) (e : Saved) (es : List Saved) → saves_in k n (e ∷ es) ≡ saves_in k n (e ∷ []) + saves_in k n es
saves_cons k zero e es = omega arith
saves_cons k (suc n) e es = let r = saves_cons (suc k) n e es in omega (arith, r)

saves_in_push : (k n : ℕ) (es : List Saved) (e : Saved) → saves_in k n (es ++ e ∷ []) ≡ saves_in k n es + saves_in k n (e ∷ [])
saves_in_push k zero es e = omega arith
saves_in_push k (suc n) es e = let r = saves_in_push (suc k) n es e in let p = saves_push es e k in omega (arith, r, p)

-- of one save
saves_none : (k n : ℕ) (e : Saved) → (e.place < k) ⊎ (k + n ≤ e.place) → saves_in k n (e ∷ []) ≡ 0
saves_none k zero e h = refl
saves_none k (suc n) e h =
    let r = saves_none (suc k) n e (elim h [ inl l ↦ inl (omega (arith, l)) | inr l ↦ inr (omega (arith, l)) ]) in
    let d : k ≢ e.place = λ i. elim h [ inl l ↦ omega (arith, l, i) | inr l ↦ omega (arith, l, i) ] in
    omega (arith, r, elsewhere k e.place d)

saves_one : (k n : ℕ) (e : Saved) → k ≤ e.place → e.place < k + n → saves_in k n (e ∷ []) ≡ 1
saves_one k zero e h l = absurd (omega arith)
saves_one k (suc n) e h l = elim (cases_eq k e.place) [
  | inl i ↦ omega (arith, here k e.place i, saves_none (suc k) n e (inl (omega (arith, i))))
  | inr d ↦ omega (arith, elsewhere k e.place d, saves_one (suc k) n e (omega (arith, h, d)) (omega (arith, l)))
]

-- the last save of a trail, before place k and from there on
pub save_before : (k : ℕ) (e : Saved) → saves_in 0 k (e ∷ []) ≡ cond (nat_lt e.place k) 1 0
save_before k e = elim (cases_lt e.place k) [
  | inl l ↦ saves_one 0 k e (omega arith) (omega (arith, l)) ∙ sym (since e.place k l)
  | inr l ↦ saves_none 0 k e (inr (omega (arith, l))) ∙ sym (not_since e.place k l)
]

pub save_from : (k n : ℕ) (e : Saved) → k ≤ n → e.place < n → saves_in k (n - k) (e ∷ []) ≡ cond (nat_lt e.place k) 0 1
save_from k n e h s = elim (cases_lt e.place k) [
  | inl l ↦ saves_none k (n - k) e (inl l) ∙ grind (arith, nat_tests)
  | inr l ↦ saves_one k (n - k) e l (omega (arith, h, s)) ∙ grind (arith, nat_tests)
]

pub saves_back : (m k n : ℕ) (es fs : List Saved) (e : Saved) → es ≡ fs ++ e ∷ [] → m ≤ length fs → saves_in k n (drop m es) ≡ saves_in k n (drop m fs) + saves_in k n (e ∷ [])
saves_back m k n es fs e i l = ap (λ gs. saves_in k n (drop m gs)) i ∙ ap (saves_in k n) (drop-append-le m fs (e ∷ []) l) ∙ saves_in_push k n (drop m fs) e

-- of all saves
saves_nothing : (k n : ℕ) → saves_in k n [] ≡ 0
saves_nothing k zero = refl
saves_nothing k (suc n) = let r = saves_nothing (suc k) n in omega (arith, r)

saves_all : (n : ℕ) (es : List Saved) → All (λ e. e.place < n) es → length es ≡ saves_in 0 n es
saves_all n [] a = sym (saves_nothing 0 n)
saves_all n (e ∷ es) a =
    let r = saves_all n es (All-tail (λ (f : Saved). f.place < n) e es a) in
    let inside = All-head (λ (f : Saved). f.place < n) e es a in
    let one = saves_one 0 n e (omega arith) (omega (arith, inside)) in
    omega (arith, r, one, saves_cons 0 n e es)

saves_few : (k n : ℕ) (es : List Saved) → ((p : ℕ) → saves_of p es ≤ 1) → saves_in k n es ≤ n
saves_few k zero es f = omega arith
saves_few k (suc n) es f = let r = saves_few (suc k) n es f in omega (arith, r, f k)

-- where one place was not saved, fewer than all were
saves_fewer : (k n : ℕ) (es : List Saved) (p : ℕ) → ((q : ℕ) → saves_of q es ≤ 1) → saves_of p es ≡ 0 → k ≤ p → p < k + n → saves_in k n es < n
saves_fewer k zero es p f z h l = absurd (omega arith)
saves_fewer k (suc n) es p f z h l = elim (cases_eq k p) [
  | inl i ↦ let r = saves_few (suc k) n es f in let y : saves_of k es ≡ 0 = ap (λ q. saves_of q es) i ∙ z in omega (arith, r, y)
  | inr d ↦ let r = saves_fewer (suc k) n es p f z (omega (arith, h, d)) (omega (arith, l)) in omega (arith, r, f k)
]

-- there is room for one more
pub has_space : (m : ℕ) (marks : List ℕ) (trail : List Saved) (ats words : List ℕ) (size p : ℕ) → IsTrail (m ∷ marks) trail ats words size → p < length words → slice_index ats p ≤ m → (length trail < size) × (length trail + 1 < 2 ^ 32)
has_space m marks trail ats words size p t l h =
    let level = t.levels.0 in
    let n = length words in
    let all = saves_all n (drop m trail) (All-drop (λ (e : Saved). e.place < n) m trail t.places) in
    let few = saves_fewer 0 n (drop m trail) p (λ q. omega (arith, level.once q, at_most_one m (slice_index ats q))) (level.once p ∙ not_since m (slice_index ats p) h) (omega arith) (omega (arith, l)) in
    let long : length (drop m trail) ≡ length trail - m = length-drop m trail in
    (omega (arith, all, few, long, level.start, t.room.0), omega (arith, all, few, long, level.start, t.room.1))

-- ---- opening and closing

all_within : (marks : List ℕ) (trail : List Saved) (ats words : List ℕ) → AreLevels marks trail ats words → AreWithin ats trail
all_within [] trail ats words h = h
all_within (m ∷ marks) trail ats words h = h.0.within

pub open_trail : (marks : List ℕ) (trail : List Saved) (ats words : List ℕ) (size : ℕ) (room : ℕ) → IsTrail marks trail ats words size → length trail + length words ≤ room → length trail + length words < 2 ^ 32 →
    IsTrail (length trail ∷ marks) trail ats words room
open_trail marks trail ats words size room t h k =
    let within = all_within marks trail ats words t.levels in
    let none : drop (length trail) trail ≡ [] = drop_all (length trail) trail (omega arith) in
    record {
      same = t.same;
      few = t.few;
      places = t.places;
      levels = (
        record {
          start = omega arith;
          within = within;
          once = λ p. rw none (sym (not_since (length trail) (slice_index ats p) (within p)));
          grows = λ p. rw none (omega arith);
          more = λ p g. absurd (let w = within p in omega (arith, w, g));
        },
        rw (none, take_all (length trail) trail (omega arith)) t.levels,
      );
      room = (h, k);
    }

less_room : (m : ℕ) (marks : List ℕ) (trail : List Saved) (ats words : List ℕ) (size : ℕ) → IsTrail (m ∷ marks) trail ats words size → HasRoom marks (length words) size
less_room m [] trail ats words size t = tt
less_room m (k ∷ marks) trail ats words size t =
    let start = t.levels.1.0.start in
    let long = length-take-le m trail t.levels.0.start in
    (omega (arith, start, long, t.room.0), omega (arith, start, long, t.room.1))

pub close_trail : (m : ℕ) (marks : List ℕ) (trail : List Saved) (ats words : List ℕ) (size : ℕ) → IsTrail (m ∷ marks) trail ats words size →
    IsTrail marks (take m trail) (undo at_of (drop m trail) ats) (undo word_of (drop m trail) words) size
close_trail m marks trail ats words size t =
    let wide : length (undo word_of (drop m trail) words) ≡ length words = length-undo word_of (drop m trail) words in
    record {
      same = length-undo at_of (drop m trail) ats ∙ t.same ∙ sym wide;
      few = omega (arith, t.few, wide);
      places = subst (λ n. All (λ (e : Saved). e.place < n) (take m trail)) (sym wide) (All-take (λ (e : Saved). e.place < length words) m trail t.places);
      levels = t.levels.1;
      room = rw wide (less_room m marks trail ats words size t);
    }

one_differs : (m a w v : ℕ) → (m < a → v < w) → cond (nat_lt m a) 1 0 ≤ cond (nat_eq w v) 0 1
one_differs m a w v h = grind (arith, nat_tests)

-- a level that is closed writes at most the words that differ
saves_differ : (m k n : ℕ) (es : List Saved) (ats ws vs : List ℕ) → ((p : ℕ) → saves_of p es ≡ cond (nat_lt m (slice_index ats p)) 1 0) → ((p : ℕ) → m < slice_index ats p → slice_index vs p < slice_index ws p) → saves_in k n es ≤ changed ws vs k n
saves_differ m k zero es ats ws vs once more = omega arith
saves_differ m k (suc n) es ats ws vs once more =
    let r = saves_differ m (suc k) n es ats ws vs once more in
    let first : cond (nat_lt m (slice_index ats k)) 1 0 ≤ cond (nat_eq (slice_index ws k) (slice_index vs k)) 0 1 = one_differs m (slice_index ats k) (slice_index ws k) (slice_index vs k) (more k) in
    omega (arith, r, once k, first)

pub few_writes : (m k n : ℕ) (marks : List ℕ) (trail : List Saved) (ats words : List ℕ) (size : ℕ) → IsTrail (m ∷ marks) trail ats words size → saves_in k n (drop m trail) ≤ changed words (undo word_of (drop m trail) words) k n
few_writes m k n marks trail ats words size t = saves_differ m k n (drop m trail) ats words (undo word_of (drop m trail) words) t.levels.0.once t.levels.0.more

-- a trail with more room
pub wider : (marks : List ℕ) (trail : List Saved) (ats words : List ℕ) (size room : ℕ) → IsTrail marks trail ats words size → size ≤ room → IsTrail marks trail ats words room
wider [] trail ats words size room t h = record { same = t.same; few = t.few; places = t.places; levels = t.levels; room = tt }
wider (m ∷ marks) trail ats words size room t h = record { same = t.same; few = t.few; places = t.places; levels = t.levels; room = (omega (arith, t.room.0), t.room.1) }

-- as many levels as marks
pub length-below : (marks : List ℕ) (trail : List Saved) (words : List ℕ) → length (below marks trail words) ≡ length marks
length-below [] trail words = refl
length-below (m ∷ marks) trail words = ap suc (length-below marks (take m trail) (undo word_of (drop m trail) words))
