-- What a crowd of members keeps.
use Rattle.std.proofs.Common.{◌≡◌, ◌∙◌, ℕ, zero, suc, ◌+◌, ◌<◌, ◌≤◌, ◌^◌, Bool, true, false, cond, refl, List, [], ◌∷◌, ◌++◌, length, map, take, set, ap, sym, subst, arith, inl, inr, length-set}
use Rattle.std.specs.Prelude.{slice_get, Some}
use Rattle.std.proofs.lemmas.Bool.{cases_lt}
use Rattle.std.proofs.lemmas.List.{length-append, length-take}
use Rattle.opl_closure.specs.Waits.{watches}
use Rattle.opl_closure.specs.Watching.{KeepsBefore}
use Rattle.opl_closure.specs.Members.{Each, AreWatched}
use Rattle.opl_closure.proofs.Turns.{from_map, to_map}
use Rattle.opl_engine.specs.declared.member.Member.{Member}
use Rattle.opl_engine.specs.Members.{names, sees_ends, wakes_on, wakes_by_ends}
use Rattle.opl_engine.specs.Crowds.{IsCrowd}
use Rattle.opl_engine.proofs.Lists.{the_one, there, get_first, length_map}

pub crowd_none : (ws vs : List (List ℕ)) → length vs ≡ length ws → IsCrowd [] ws vs []
crowd_none ws vs e = record { few = omega arith; same = refl; watched = λ i p h x k. cc; watched_ends = λ i p h x k. cc; alike = e }

-- who watches what, by the members themselves, each of whom some variables wake
watched_by : (wakes : Member → ℕ → Bool) (ms : List Member) (ws : List (List ℕ)) → AreWatched ws (map wakes ms) → (i : ℕ) (m : Member) → slice_get ms i ≡ Some m → (x : ℕ) → wakes m x ≡ true → watches ws i x ≡ true
watched_by wakes ms ws w i m h x k = w i (wakes m) (to_map wakes ms i m h) x k

watched_from : (wakes : Member → ℕ → Bool) (ms : List Member) (ws : List (List ℕ)) → ((i : ℕ) (m : Member) → slice_get ms i ≡ Some m → (x : ℕ) → wakes m x ≡ true → watches ws i x ≡ true) → AreWatched ws (map wakes ms)
watched_from wakes ms ws w i p h x k =
    let r = from_map wakes ms i p h in
    w i r.0 r.1 x (sym (ap (λ q. q x) r.2) ∙ k)

-- more watch, and those before go on
watched_kept : (wakes : Member → ℕ → Bool) (ms : List Member) (ws vs : List (List ℕ)) → AreWatched ws (map wakes ms) → KeepsBefore (length ms) ws vs → AreWatched vs (map wakes ms)
watched_kept wakes ms ws vs w k = watched_from wakes ms vs (λ i m h x q. k i x (there ms i m h) (watched_by wakes ms ws w i m h x q))

pub crowd_kept : (ms : List Member) (ws vs us ts : List (List ℕ)) (w : List Bool) → IsCrowd ms ws us w → KeepsBefore (length ms) ws vs → KeepsBefore (length ms) us ts → length ts ≡ length vs → IsCrowd ms vs ts w
crowd_kept ms ws vs us ts w c k l e = record {
  few = c.few;
  same = c.same;
  watched = watched_kept wakes_on ms ws vs c.watched k;
  watched_ends = watched_kept wakes_by_ends ms us ts c.watched_ends l;
  alike = e;
}

last_is : {A : Type 0} (xs : List A) (x : A) (i : ℕ) (a : A) → length xs ≤ i → slice_get (xs ++ x ∷ []) i ≡ Some a → (i ≡ length xs) × (x ≡ a)
last_is [] x zero a l e = (refl, the_one x a e)
last_is [] x (suc i) a l e = cc
last_is (y ∷ xs) x zero a l e = absurd (omega arith)
last_is (y ∷ xs) x (suc i) a l e = let r = last_is xs x i a (omega arith) e in (ap suc r.0, r.1)

-- one more member, who waits
watched_added : (wakes : Member → ℕ → Bool) (ms : List Member) (m : Member) (ws vs : List (List ℕ)) → AreWatched ws (map wakes ms) → KeepsBefore (length ms) ws vs → ((x : ℕ) → wakes m x ≡ true → watches vs (length ms) x ≡ true) → AreWatched vs (map wakes (ms ++ m ∷ []))
watched_added wakes ms m ws vs w k n = watched_from wakes (ms ++ m ∷ []) vs (λ i a h x q. elim (cases_lt i (length ms)) [
  | inl b ↦ k i x b (watched_by wakes ms ws w i a (sym (get_first ms (m ∷ []) i b) ∙ h) x q)
  | inr b ↦ let r = last_is ms m i a b h in subst (λ j. watches vs j x ≡ true) (sym r.0) (n x (ap (λ z. wakes z x) r.1 ∙ q))
])

pub crowd_added : (ms : List Member) (m : Member) (ws vs us ts : List (List ℕ)) (w : List Bool) → IsCrowd ms ws us w → length ms + 1 < 2 ^ 32 → KeepsBefore (length ms) ws vs → KeepsBefore (length ms) us ts → length ts ≡ length vs →
    ((x : ℕ) → wakes_on m x ≡ true → watches vs (length ms) x ≡ true) → ((x : ℕ) → wakes_by_ends m x ≡ true → watches ts (length ms) x ≡ true) → IsCrowd (ms ++ m ∷ []) vs ts (w ++ true ∷ [])
crowd_added ms m ws vs us ts w c l k j e n o = record {
  few = omega (arith, length-append ms (m ∷ []), l);
  same = length-append w (true ∷ []) ∙ ap (λ a. a + 1) c.same ∙ sym (length-append ms (m ∷ []));
  watched = watched_added wakes_on ms m ws vs c.watched k n;
  watched_ends = watched_added wakes_by_ends ms m us ts c.watched_ends j o;
  alike = e;
}

get_taken : {A : Type 0} (n : ℕ) (xs : List A) (i : ℕ) (a : A) → slice_get (take n xs) i ≡ Some a → slice_get xs i ≡ Some a
get_taken zero xs i a h = cc
get_taken (suc n) [] i a h = cc
get_taken (suc n) (x ∷ xs) zero a h = h
get_taken (suc n) (x ∷ xs) (suc i) a h = get_taken n xs i a h

-- the first members
watched_taken : (wakes : Member → ℕ → Bool) (ms : List Member) (ws : List (List ℕ)) (n : ℕ) → AreWatched ws (map wakes ms) → AreWatched ws (map wakes (take n ms))
watched_taken wakes ms ws n w = watched_from wakes (take n ms) ws (λ i m h x q. watched_by wakes ms ws w i m (get_taken n ms i m h) x q)

pub crowd_taken : (ms : List Member) (ws us : List (List ℕ)) (w v : List Bool) (n : ℕ) → IsCrowd ms ws us w → n ≤ length ms → length v ≡ n → IsCrowd (take n ms) ws us v
crowd_taken ms ws us w v n c l e = record {
  few = omega (arith, c.few, length-take n ms);
  same = omega (arith, length-take n ms, l, e);
  watched = watched_taken wakes_on ms ws n c.watched;
  watched_ends = watched_taken wakes_by_ends ms us n c.watched_ends;
  alike = c.alike;
}

pub each_taken : {A : Type 0} (good : A → Type 0) (n : ℕ) (xs : List A) → Each (λ i a. good a) xs → Each (λ i a. good a) (take n xs)
each_taken good n xs h i a e = h i a (get_taken n xs i a e)

get_set : {A : Type 0} (xs : List A) (y : A) (i : ℕ) (a : A) → slice_get (set xs 0 y) (suc i) ≡ Some a → slice_get xs (suc i) ≡ Some a
get_set [] y i a h = cc
get_set (x ∷ xs) y i a h = h

set_first : {A : Type 0} (xs : List A) (y a : A) → slice_get (set xs 0 y) 0 ≡ Some a → y ≡ a
set_first [] y a h = cc
set_first (x ∷ xs) y a h = the_one y a h

first_there : {A : Type 0} (xs : List A) → 0 < length xs → (a : A) × (slice_get xs 0 ≡ Some a)
first_there [] l = absurd (omega arith)
first_there (x ∷ xs) l = (x, refl)

-- the first member is replaced by one whom the same variables wake
watched_set : (wakes : Member → ℕ → Bool) (ms : List Member) (ws : List (List ℕ)) (m : Member) → AreWatched ws (map wakes ms) → ((a : Member) → slice_get ms 0 ≡ Some a → (x : ℕ) → wakes m x ≡ wakes a x) → AreWatched ws (map wakes (set ms 0 m))
watched_set wakes ms ws m w e = watched_from wakes (set ms 0 m) ws at
  where
    at : (i : ℕ) (a : Member) → slice_get (set ms 0 m) i ≡ Some a → (x : ℕ) → wakes a x ≡ true → watches ws i x ≡ true
    at zero a h x q =
        let l : 0 < length ms = omega (arith, there (set ms 0 m) 0 a h, length-set ms 0 m) in
        let f = first_there ms l in
        watched_by wakes ms ws w 0 f.0 f.1 x (sym (e f.0 f.1 x) ∙ ap (λ z. wakes z x) (set_first ms m a h) ∙ q)
    at (suc i) a h x q = watched_by wakes ms ws w (suc i) a (get_set ms m i a h) x q

pub crowd_set : (ms : List Member) (ws us : List (List ℕ)) (w : List Bool) (m : Member) → IsCrowd ms ws us w → ((a : Member) → slice_get ms 0 ≡ Some a → (x : ℕ) → names m x ≡ names a x) → ((a : Member) → slice_get ms 0 ≡ Some a → sees_ends m ≡ sees_ends a) → IsCrowd (set ms 0 m) ws us (set w 0 true)
crowd_set ms ws us w m c n e = record {
  few = omega (arith, c.few, length-set ms 0 m);
  same = length-set w 0 true ∙ c.same ∙ sym (length-set ms 0 m);
  watched = watched_set wakes_on ms ws m c.watched (λ a h x. ap (λ b. cond b false (names m x)) (e a h) ∙ ap (λ b. cond (sees_ends a) false b) (n a h x));
  watched_ends = watched_set wakes_by_ends ms us m c.watched_ends (λ a h x. ap (λ b. cond b (names m x) false) (e a h) ∙ ap (λ b. cond (sees_ends a) b false) (n a h x));
  alike = c.alike;
}

pub each_set : {A : Type 0} (good : A → Type 0) (xs : List A) (y : A) → Each (λ i a. good a) xs → good y → Each (λ i a. good a) (set xs 0 y)
each_set good xs y h g zero a e = subst good (set_first xs y a e) g
each_set good xs y h g (suc i) a e = h (suc i) a (get_set xs y i a e)

-- members who have worked: the same variables wake them
pub crowd_worked : (ms ns : List Member) (ws us : List (List ℕ)) (w v : List Bool) → IsCrowd ms ws us w → map wakes_on ns ≡ map wakes_on ms → map wakes_by_ends ns ≡ map wakes_by_ends ms → length v ≡ length w → IsCrowd ns ws us v
crowd_worked ms ns ws us w v c e d l =
    let n : length ns ≡ length ms = sym (length_map wakes_on ns) ∙ ap length e ∙ length_map wakes_on ms in
    record {
      few = omega (arith, c.few, n);
      same = l ∙ c.same ∙ sym n;
      watched = subst (AreWatched ws) (sym e) c.watched;
      watched_ends = subst (AreWatched us) (sym d) c.watched_ends;
      alike = c.alike;
    }

-- others wait
pub crowd_waits : (ms : List Member) (ws us : List (List ℕ)) (w v : List Bool) → IsCrowd ms ws us w → length v ≡ length w → IsCrowd ms ws us v
crowd_waits ms ws us w v c e = record { few = c.few; same = e ∙ c.same; watched = c.watched; watched_ends = c.watched_ends; alike = c.alike }
