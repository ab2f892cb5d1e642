-- Propagation over members that wait.
use Rattle.std.proofs.Common.{◌≡◌, ◌∙◌, ℕ, zero, suc, ◌+◌, ◌*◌, ◌<◌, ◌≤◌, ◌⊎◌, Bool, true, false, ◌||◌, cond, refl, List, [], ◌∷◌, length, get_or, set, map, ap, sym, subst, arith, inl, inr}
use Rattle.std.specs.Prelude.{slice_get, Some, ◌≢◌}
use Rattle.std.proofs.lemmas.Bool.{cases_eq}
use Rattle.std.proofs.Math.Nat.{mul-le-mul_right}
use Rattle.std.proofs.Math.Seq.{map-set_same}
use Rattle.std.proofs.lemmas.Option.{slice_get-map, slice_get-get_or}
use Rattle.std.specs.Option.{option_map}
use Rattle.std.proofs.lemmas.List.{get_or-set_same, get_or-set_other, length-set}
use Rattle.opl_domain.specs.Family.{Family, set_of, hull, only, Below, Full, IsFamily}
use Rattle.opl_domain.proofs.Sets.{only_here, only_there, length-only}
use Rattle.opl_expr.specs.Forms.{Fact}
use Rattle.opl_expr.specs.Range.{is_possible}
use Rattle.opl_trace.specs.Stable.{IsMonotone, IsStable, IsGreatestStable, HasFailed}
use Rattle.opl_trace.specs.Sweeps.{size}
use Rattle.opl_trace.proofs.Families.{only_full}
use Rattle.opl_filter.specs.Filtering.{refutes, IsLeftOf, IsBetween}
use Rattle.opl_filter.specs.Mentions.{mentions}
use Rattle.opl_filter.proofs.Removals.{left_join, left_sets, left_below, lose_none, left_wider}
use Rattle.opl_filter.proofs.Agreeing.{agreeing_same}
use Rattle.opl_filter.proofs.Refuting.{refutes_falls}
use Rattle.opl_closure.specs.Waits.{waits, watches, Wakes, count_waits}
use Rattle.opl_closure.specs.Members.{refutes_one, Each, AreWatched, WaitOrAreStable}

the_same : {A : Type 0} (m d : A) → Some m ≡ Some d → m ≡ d
the_same m d h = cc

-- ---- one of a list

or_left : (a b : Bool) → a ≡ true → (a || b) ≡ true
or_left a b h = rw h refl

or_right : (a b : Bool) → b ≡ true → (a || b) ≡ true
or_right a b h = elim a as (λ c. (c || b) ≡ true) [ true ↦ refl | false ↦ h ]

or_none : (a b : Bool) → (a || b) ≡ false → (a ≡ false) × (b ≡ false)
or_none true b h = cc
or_none false b h = (refl, h)

or_some : (a b : Bool) → (a || b) ≡ true → (a ≡ true) ⊎ (b ≡ true)
or_some true b h = inl refl
or_some false b h = inr h

pub some_at : (ms : List Fact) (i : ℕ) (c : Fact) (G : Family) → slice_get ms i ≡ Some c → refutes c G ≡ true → refutes_one ms G ≡ true
some_at [] i c G h k = cc
some_at (m ∷ ms) zero c G h k = or_left (refutes m G) (refutes_one ms G) (ap (λ d. refutes d G) (the_same m c h) ∙ k)
some_at (m ∷ ms) (suc i) c G h k = or_right (refutes m G) (refutes_one ms G) (some_at ms i c G h k)

pub none_at : (ms : List Fact) (i : ℕ) (c : Fact) (G : Family) → slice_get ms i ≡ Some c → refutes_one ms G ≡ false → refutes c G ≡ false
none_at [] i c G h k = cc
none_at (m ∷ ms) zero c G h k = sym (ap (λ d. refutes d G) (the_same m c h)) ∙ (or_none (refutes m G) (refutes_one ms G) k).0
none_at (m ∷ ms) (suc i) c G h k = none_at ms i c G h (or_none (refutes m G) (refutes_one ms G) k).1

some_falls_by : (ms : List Fact) (F G : Family) → Full F → Below F G → refutes_one ms G ≡ true → refutes_one ms F ≡ true
some_falls_by [] F G f b k = cc
some_falls_by (m ∷ ms) F G f b k = elim (or_some (refutes m G) (refutes_one ms G) k) [
  | inl e ↦ or_left (refutes m F) (refutes_one ms F) ((refutes_falls m).falls F G f b e)
  | inr e ↦ or_right (refutes m F) (refutes_one ms F) (some_falls_by ms F G f b e)
]

pub some_falls : (ms : List Fact) → IsMonotone (refutes_one ms)
some_falls ms = record { falls = some_falls_by ms }

pub stable_at : (ms : List Fact) (i : ℕ) (c : Fact) (F : Family) → slice_get ms i ≡ Some c → IsStable (refutes_one ms) F → IsStable (refutes c) F
stable_at ms i c F h s = record { full = s.full; spared = none_at ms i c F h s.spared; each = λ x v l k. none_at ms i c (only F x v) h (s.each x v l k) }

none_of : (ms : List Fact) (F : Family) → Each (λ i c. refutes c F ≡ false) ms → refutes_one ms F ≡ false
none_of [] F h = refl
none_of (m ∷ ms) F h = rw (h 0 m refl) (none_of ms F (λ i d j. h (suc i) d j))

pub all_stable : (ms : List Fact) (F : Family) → Full F → Each (λ i c. IsStable (refutes c) F) ms → IsStable (refutes_one ms) F
all_stable ms F f h = record {
  full = f;
  spared = none_of ms F (λ i d j. (h i d j).spared);
  each = λ x v l k. none_of ms (only F x v) (λ i d j. (h i d j).each x v l k);
}

-- ---- a member whose variables have lost nothing

looks : (c : Fact) (F G : Family) → Full F → Full G → length F ≡ length G → ((x : ℕ) → mentions c x ≡ true → set_of F x ≡ set_of G x) → refutes c F ≡ refutes c G
looks c F G f g e h = ap (λ r. cond (is_possible r) false true) (agreeing_same c F G (record { same = e; first = f; second = g; sets = h }))

pub stable_moves : (c : Fact) (F G : Family) → IsStable (refutes c) F → Full G → Below G F → ((x : ℕ) → mentions c x ≡ true → set_of G x ≡ set_of F x) → IsStable (refutes c) G
stable_moves c F G s g b same = record {
  full = g;
  spared = looks c G F g s.full b.same same ∙ s.spared;
  each = λ x v l h. elim (mentions c x) as (λ q. mentions c x ≡ q → refutes c (only G x v) ≡ false) [
    | true ↦ λ e.
        let k : x < length F = omega (arith, b.same, l) in
        looks c (only G x v) (only F x v) (only_full G x v g) (only_full F x v s.full) (length-only G x v ∙ b.same ∙ sym (length-only F x v))
        (λ y w. elim (cases_eq y x) [
          | inl j ↦ subst (λ z. set_of (only G x v) z ≡ set_of (only F x v) z) (sym j) (only_here G x v l ∙ sym (only_here F x v k))
          | inr n ↦ only_there G x y v n ∙ same y w ∙ sym (only_there F x y v n)
        ]) ∙ s.each x v k (b.sub x v h)
    | false ↦ λ e.
        looks c (only G x v) G (only_full G x v g) g (length-only G x v)
        (λ y w. elim (cases_eq y x) [
          | inl j ↦ absurd (let r = subst (λ z. mentions c z ≡ true) j w in cc)
          | inr n ↦ only_there G x y v n
        ]) ∙ looks c G F g s.full b.same same ∙ s.spared
  ] refl;
}

-- ---- who waits

pub count_most : (w : List Bool) → count_waits w ≤ length w
count_most [] = omega arith
count_most (b ∷ w) = let r = count_most w in elim b as (λ c. cond c 1 0 + count_waits w ≤ suc (length w)) [ true ↦ omega (arith, r) | false ↦ omega (arith, r) ]

pub count_taken : (w : List Bool) (i : ℕ) → i < length w → waits w i ≡ true → count_waits (set w i false) + 1 ≡ count_waits w
count_taken [] i l h = absurd (omega arith)
count_taken (b ∷ w) zero l h = let e : b ≡ true = h in rw e (omega arith)
count_taken (b ∷ w) (suc i) l h = let r = count_taken w i (omega arith) h in omega (arith, r)

pub count_done : (w : List Bool) (i : ℕ) → i < length w → count_waits (set w i false) ≤ count_waits w
count_done [] i l = absurd (omega arith)
count_done (b ∷ w) zero l = elim b as (λ c. cond false 1 0 + count_waits w ≤ cond c 1 0 + count_waits w) [ true ↦ omega arith | false ↦ omega arith ]
count_done (b ∷ w) (suc i) l = let r = count_done w i (omega arith) in omega (arith, r)

plus_one_times : (a b : ℕ) → (a + 1) * b ≡ a * b + b
plus_one_times a b = grind arith

-- the measure falls in a turn: F before, G afterwards; w before, u once member i was taken, v once it has run, and then it is done
pub turn_ends : (F G : Family) (w u v : List Bool) (i : ℕ) (s d : ℕ → ℕ → Bool) → i < length w → waits w i ≡ true → u ≡ set w i false → Wakes s d u F v G → size G * suc (length (set v i false)) + count_waits (set v i false) < size F * suc (length w) + count_waits w
turn_ends F G w u v i s d l h e k =
    let n : length v ≡ length w = k.same ∙ ap length e ∙ length-set w i false in
    let m = length-set v i false in
    let long : length (set v i false) ≡ length w = m ∙ n in
    let most = count_most (set v i false) in
    let inside : i < length v = omega (arith, n, l) in
    let done = count_done v i inside in
    let taken = count_taken w i l h in
    let counted : count_waits u ≡ count_waits (set w i false) = ap count_waits e in
    rw long (elim k.ends [
      | inl a ↦ let p = mul-le-mul_right {m = size G + 1} {n = size F} (suc (length w)) (omega (arith, a)) in let q : (size G + 1) * suc (length w) ≡ size G * suc (length w) + suc (length w) = plus_one_times (size G) (suc (length w)) in omega (arith, p, q, most, long)
      | inr a ↦ let p = mul-le-mul_right {m = size G} {n = size F} (suc (length w)) k.smaller in let c : count_waits v ≡ count_waits u = ap count_waits a in omega (arith, p, c, counted, taken, done)
    ])

-- ---- a turn

-- a member of n variables whose watched sets stay, and whose watched ends do, is stable still
abbrev pub Settles : ℕ → List (List ℕ) → List (List ℕ) → List Fact → Type 0
Settles n watchers end_watchers ms = Each (λ i c. (F G : Family) → length F ≡ n → IsStable (refutes c) F → Full G → Below G F → ((x : ℕ) → watches watchers i x ≡ true → set_of G x ≡ set_of F x) → ((x : ℕ) → watches end_watchers i x ≡ true → hull G x ≡ hull F x) → IsStable (refutes c) G) ms

inside : {A : Type 0} (xs : List A) (i : ℕ) (a : A) → slice_get xs i ≡ Some a → i < length xs
inside [] i a h = cc
inside (x ∷ xs) zero a h = omega arith
inside (x ∷ xs) (suc i) a h = let r = inside xs i a h in omega (arith, r)

pub wait_next : (n : ℕ) (watchers end_watchers : List (List ℕ)) (ms : List Fact) (c : Fact) (w u v : List Bool) (F G : Family) (i : ℕ) → length w ≡ length ms → length F ≡ n → Settles n watchers end_watchers ms → Full G → slice_get ms i ≡ Some c → u ≡ set w i false → WaitOrAreStable ms w F → Wakes (watches watchers) (watches end_watchers) u F v G → IsStable (refutes c) G → WaitOrAreStable ms (set v i false) G
wait_next long watchers end_watchers ms c w u v F G i many wide look full here e fits k s j d h q =
    elim (cases_eq j i) [
      | inl a ↦ let b : Some c ≡ Some d = sym here ∙ ap (slice_get ms) (sym a) ∙ h in subst (λ f. IsStable (refutes f) G) (the_same c d b) s
      | inr n ↦
          let p : waits v j ≡ false = sym (get_or-set_other v i j false false n) ∙ q in
          let r = k.woken j (omega (arith, inside ms j d h, many, ap length e, length-set w i false)) p in
          let o : waits w j ≡ false = sym (get_or-set_other w i j false false n) ∙ sym (ap (λ z. waits z j) e) ∙ r.0 in
          look j d h F G wide (fits j d h o) full k.below r.1 r.2
    ]

-- a member that fails waits again
pub wait_failed : (n : ℕ) (watchers end_watchers : List (List ℕ)) (ms : List Fact) (w u v : List Bool) (F G : Family) (i : ℕ) → length w ≡ length ms → length F ≡ n → Settles n watchers end_watchers ms → Full G → i < length v → u ≡ set w i false → WaitOrAreStable ms w F → Wakes (watches watchers) (watches end_watchers) u F v G → WaitOrAreStable ms (set v i true) G
wait_failed long watchers end_watchers ms w u v F G i many wide look full l e fits k j d h q =
    elim (cases_eq j i) [
      | inl a ↦ absurd (let p : waits (set v i true) i ≡ true = get_or-set_same v i true false l in let r = subst (λ z. waits (set v i true) z ≡ false) a q in cc)
      | inr n ↦
          let p : waits v j ≡ false = sym (get_or-set_other v i j true false n) ∙ q in
          let r = k.woken j (omega (arith, inside ms j d h, many, ap length e, length-set w i false)) p in
          let o : waits w j ≡ false = sym (get_or-set_other w i j false false n) ∙ sym (ap (λ z. waits z j) e) ∙ r.0 in
          look j d h F G wide (fits j d h o) full k.below r.1 r.2
    ]

pub left_next : (ms : List Fact) (c : Fact) (D F G : Family) (i : ℕ) → slice_get ms i ≡ Some c → IsLeftOf (refutes_one ms) D F → IsBetween (refutes c) F G → IsLeftOf (refutes_one ms) D G
left_next ms c D F G i h a b = left_join (refutes_one ms) D F G a (left_wider (refutes c) (refutes_one ms) F G (λ H k. some_at ms i c H h k) b.removals)

pub member_fails : (ms : List Fact) (c : Fact) (D F : Family) (i : ℕ) → slice_get ms i ≡ Some c → IsLeftOf (refutes_one ms) D F → HasFailed (refutes c) F → HasFailed (refutes_one ms) D
member_fails ms c D F i h a f G s =
    f G (record { stable = stable_at ms i c G h s.stable; within = lose_none (refutes_one ms) D F G (some_falls ms) a s })

pub rounds_done : (ms : List Fact) (w : List Bool) (D F : Family) → IsFamily F → IsLeftOf (refutes_one ms) D F → WaitOrAreStable ms w F → ((i : ℕ) → waits w i ≡ false) → IsGreatestStable (refutes_one ms) D F
rounds_done ms w D F f a fits none = record {
  is_stable = record { stable = all_stable ms F f.full (λ i d h. fits i d h (none i)); within = left_below (refutes_one ms) D F a };
  most = λ G s. lose_none (refutes_one ms) D F G (some_falls ms) a s;
}

pub between_now : (ms : List Fact) (D F : Family) → IsFamily D → IsLeftOf (refutes_one ms) D F → IsBetween (refutes_one ms) D F
between_now ms D F f a = record { removals = a; below = left_below (refutes_one ms) D F a; sets = left_sets (refutes_one ms) D F f a }

pub here_is : {A B : Type 0} (f : A → B) (xs : List A) (ys : List B) (i : ℕ) (d : A) → map f xs ≡ ys → i < length xs → slice_get ys i ≡ Some (f (get_or xs i d))
here_is f xs ys i d e l = sym (ap (λ zs. slice_get zs i) e) ∙ slice_get-map f xs i ∙ ap (option_map f) (slice_get-get_or xs i d l)

pub same_after : {A B : Type 0} (f : A → B) (xs : List A) (i : ℕ) (d y : A) → f y ≡ f (get_or xs i d) → map f (set xs i y) ≡ map f xs
same_after f xs i d y h = map-set_same f xs i y d h

-- functions that agree are one
pub same_test : {A B : Type 0} (f g : A → B) → ((a : A) → f a ≡ g a) → f ≡ g
same_test f g h = λ i a. h a i

-- one of a list is replaced
pub each_set : {A : Type 0} (good : ℕ → A → Type 0) (xs : List A) (i : ℕ) (y : A) → good i y → ((j : ℕ) (a : A) → j ≢ i → slice_get xs j ≡ Some a → good j a) → Each good (set xs i y)
each_set good [] i y h k j a e = cc
each_set good (x ∷ xs) zero y h k zero a e = subst (good 0) (the_same y a e) h
each_set good (x ∷ xs) zero y h k (suc j) a e = k (suc j) a (λ n. omega (arith, n)) e
each_set good (x ∷ xs) (suc i) y h k zero a e = k zero a (λ n. omega (arith, n)) e
each_set good (x ∷ xs) (suc i) y h k (suc j) a e = each_set (λ j. good (suc j)) xs i y h (λ m b n. k (suc m) b (λ q. n (omega (arith, q)))) j a e

pub each_at : {A : Type 0} (good : ℕ → A → Type 0) (xs : List A) (i : ℕ) (d : A) → Each good xs → i < length xs → good i (get_or xs i d)
each_at good xs i d h l = h i (get_or xs i d) (slice_get-get_or xs i d l)

-- ---- members as they were made

pub from_map : {A B : Type 0} (f : A → B) (xs : List A) (i : ℕ) (b : B) → slice_get (map f xs) i ≡ Some b → (a : A) × (slice_get xs i ≡ Some a) × (b ≡ f a)
from_map f [] i b h = cc
from_map f (x ∷ xs) zero b h = (x, refl, sym (the_same (f x) b h))
from_map f (x ∷ xs) (suc i) b h = from_map f xs i b h

pub to_map : {A B : Type 0} (f : A → B) (xs : List A) (i : ℕ) (a : A) → slice_get xs i ≡ Some a → slice_get (map f xs) i ≡ Some (f a)
to_map f xs i a h = slice_get-map f xs i ∙ ap (option_map f) h

-- what the law of each member tells of its constraint and those who wake it
pub settled : {A : Type 0} (n : ℕ) (watchers end_watchers : List (List ℕ)) (xs : List A) (constraint : A → Fact) (woken_by woken_by_ends : A → ℕ → Bool) (made : A → Type 0) →
    ((a : A) (F G : Family) → made a → length F ≡ n → IsStable (refutes (constraint a)) F → Full G → Below G F → ((x : ℕ) → woken_by a x ≡ true → set_of G x ≡ set_of F x) → ((x : ℕ) → woken_by_ends a x ≡ true → hull G x ≡ hull F x) → IsStable (refutes (constraint a)) G) →
    Each (λ i a. made a) xs → AreWatched watchers (map woken_by xs) → AreWatched end_watchers (map woken_by_ends xs) → Settles n watchers end_watchers (map constraint xs)
settled n watchers end_watchers xs constraint woken_by woken_by_ends made law m w v i c h F G wide s g b same ends =
    let r = from_map constraint xs i c h in
    subst (λ d. IsStable (refutes d) G) (sym r.2)
    (law r.0 F G (m i r.0 r.1) wide (subst (λ d. IsStable (refutes d) F) r.2 s) g b (λ x k. same x (w i (woken_by r.0) (to_map woken_by xs i r.0 r.1) x k)) (λ x k. ends x (v i (woken_by_ends r.0) (to_map woken_by_ends xs i r.0 r.1) x k)))
