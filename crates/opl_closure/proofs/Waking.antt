-- Who is woken.
use Rattle.std.proofs.Common.{append-nil, add-one, map, replicate, ◌≡◌, ◌∙◌, ℕ, zero, suc, ◌+◌, ◌<◌, ◌≤◌, ◌⊎◌, Bool, true, false, ◌||◌, cond, refl, List, [], ◌∷◌, ◌++◌, length, get_or, set, take, ℤ, ◌≤ℤ◌, ◌<ℤ◌, ap, sym, subst, arith, inl, inr}
use Rattle.std.specs.Prelude.{◌-◌, ◌≢◌, nat_eq, int_lt, int_le, slice_get, Option, Some, None}
use Rattle.std.specs.Option.{option_to_list}
use Rattle.std.specs.List.{filter}
use Rattle.std.proofs.lemmas.Int.{ints}
use Rattle.std.proofs.lemmas.Bool.{cases_eq, cases_lt}
use Rattle.std.proofs.lemmas.Bool.Decides.{nat_tests}
use Rattle.std.proofs.lemmas.List.{get_or-set_same, get_or-set_other, length-append, length-map, map-set, take_more}
use Rattle.opl_domain.specs.Span.{Span, hull_of, hull_some}
use Rattle.opl_domain.specs.Family.{Family, member, is_outside, outside, set_of, hull, cut_of, IsLeast, IsGreatest, IsLeastAbove}
use Rattle.opl_domain.proofs.Members.{member_cases, member_first, member_later, member_filter, from_filter, hull_is}
use Rattle.opl_domain.proofs.Sets.{cut_here, cut_there}
use Rattle.opl_trace.specs.Sweeps.{size}
use Rattle.opl_trace.proofs.Removals.{lt_or_eq}
use Rattle.opl_filter.specs.Mentions.{lists}
use Rattle.opl_filter.proofs.Removals.{cut_below}
use Rattle.opl_closure.specs.Waits.{waits, watches, Between, Wakes, WakesFor}

pub listed_at : (js : List ℕ) (k : ℕ) → k < length js → lists js (get_or js k 0) ≡ true
listed_at [] k l = absurd (omega arith)
listed_at (j ∷ js) zero l = grind (arith, nat_tests)
listed_at (j ∷ js) (suc k) l = let r = listed_at js k (omega arith) in elim (nat_eq (get_or js k 0) j) as (λ b. (b || lists js (get_or js k 0)) ≡ true) [ true ↦ refl | false ↦ r ]

pub listed_push : (js : List ℕ) (j i : ℕ) → lists (js ++ j ∷ []) i ≡ (lists js i || nat_eq i j)
listed_push [] j i = elim (nat_eq i j) as (λ b. (b || false) ≡ b) [ true ↦ refl | false ↦ refl ]
listed_push (k ∷ js) j i = elim (nat_eq i k) as (λ b. (b || lists (js ++ j ∷ []) i) ≡ ((b || lists js i) || nat_eq i j)) [ true ↦ refl | false ↦ listed_push js j i ]

or_true : (a b : Bool) → b ≡ true → (a || b) ≡ true
or_true a b h = elim a as (λ c. (c || b) ≡ true) [ true ↦ refl | false ↦ h ]

or_false : (a b : Bool) → b ≡ false → (a || b) ≡ a
or_false a b h = elim a as (λ c. (c || b) ≡ c) [ true ↦ refl | false ↦ h ]

or_or : (a b c : Bool) → ((a || b) || c) ≡ (a || (b || c))
or_or a b c = elim a as (λ d. ((d || b) || c) ≡ (d || (b || c))) [ true ↦ refl | false ↦ refl ]

pub wake_one : (w : List Bool) (i j : ℕ) → j < length w → waits (set w j true) i ≡ (waits w i || nat_eq i j)
wake_one w i j l = elim (cases_eq i j) [
  | inl e ↦ subst (λ k. waits (set w j true) k ≡ (waits w k || nat_eq k j)) (sym e) (get_or-set_same w j true false l ∙ sym (or_true (waits w j) (nat_eq j j) (grind (arith, nat_tests))))
  | inr n ↦ get_or-set_other w j i true false n ∙ sym (or_false (waits w i) (nat_eq i j) (grind (arith, nat_tests)))
]

-- one more of the list is woken, and so each before it
pub wake_more : (old now new : List Bool) (js : List ℕ) (k i : ℕ) → k < length js → waits now i ≡ (waits old i || lists (take k js) i) → waits new i ≡ (waits now i || nat_eq i (get_or js k 0)) → waits new i ≡ (waits old i || lists (take (k + 1) js) i)
wake_more old now new js k i l h e =
    e ∙ ap (λ c. c || nat_eq i (get_or js k 0)) h ∙ or_or (waits old i) (lists (take k js) i) (nat_eq i (get_or js k 0))
    ∙ ap (λ c. waits old i || c) (sym (listed_push (take k js) (get_or js k 0) i) ∙ ap (λ ks. lists ks i) (sym (take_more js k 0 l)))

-- a number that is none of the members wakes nobody
pub wake_nobody : (w : List Bool) (i j : ℕ) → i < length w → length w ≤ j → waits w i ≡ (waits w i || nat_eq i j)
wake_nobody w i j l m = sym (or_false (waits w i) (nat_eq i j) (grind (arith, nat_tests)))

or_parts : (a b : Bool) → (a || b) ≡ false → (a ≡ false) × (b ≡ false)
or_parts true b h = cc
or_parts false b h = (refl, h)

below_or : (v w : ℤ) → (w <ℤ v) ⊎ ((w ≡ v) ⊎ (v <ℤ w))
below_or = lt_or_eq

-- ---- values between two others

out_low : (lo hi v : ℤ) → v <ℤ lo → is_outside lo hi v ≡ true
unfolding is_outside
out_low lo hi v h = grind (arith, ints)

pub outside_cases : (lo hi v : ℤ) → (v <ℤ lo) ⊎ (hi <ℤ v) → is_outside lo hi v ≡ true
unfolding is_outside
outside_cases lo hi v h = elim h [ inl l ↦ grind (arith, ints) | inr l ↦ elim (int_lt v lo) as (λ b. (b || int_lt hi v) ≡ true) [ true ↦ refl | false ↦ grind (arith, ints) ] ]

pub inside_is : (lo hi v : ℤ) → lo ≤ℤ v → v ≤ℤ hi → is_outside lo hi v ≡ false
unfolding is_outside
inside_is lo hi v h k = grind (arith, ints)

pub between_next : (vs : List ℤ) (lo hi v : ℤ) → member lo vs ≡ false → IsLeastAbove vs lo v → Between vs lo hi (int_le v hi)
between_next vs lo hi v n l =
    elim (int_le v hi) as (λ b. int_le v hi ≡ b → Between vs lo hi b) [
      | true ↦ λ e. (v, l.among, inside_is lo hi v (omega (arith, ints, l.above)) (grind (arith, ints)))
      | false ↦ λ e w m. elim (below_or lo w) [
        | inl q ↦ outside_cases lo hi w (inl q)
        | inr q ↦ elim q [
          | inl i ↦ absurd (let k = subst (λ u. member u vs ≡ true) i m in cc)
          | inr g ↦ let k = l.least w m g in outside_cases lo hi w (inr (grind (arith, ints)))
        ]
      ]
    ] refl

pub between_none : (vs : List ℤ) (lo hi : ℤ) → member lo vs ≡ false → ((w : ℤ) → member w vs ≡ true → w ≤ℤ lo) → Between vs lo hi false
between_none vs lo hi n h w m = elim (below_or lo w) [
  | inl q ↦ outside_cases lo hi w (inl q)
  | inr q ↦ elim q [
    | inl i ↦ absurd (let k = subst (λ u. member u vs ≡ true) i m in cc)
    | inr g ↦ absurd (let k = h w m in omega (arith, ints, k, g))
  ]
]

pub between_here : (vs : List ℤ) (lo hi : ℤ) → member lo vs ≡ true → Between vs lo hi (int_le lo hi)
between_here vs lo hi m = elim (int_le lo hi) as (λ b. int_le lo hi ≡ b → Between vs lo hi b) [
  | true ↦ λ e. (lo, m, inside_is lo hi lo (omega (arith, ints)) (grind (arith, ints)))
  | false ↦ λ e w k. elim (below_or lo w) [
    | inl q ↦ outside_cases lo hi w (inl q)
    | inr q ↦ outside_cases lo hi w (inr (elim q [ inl i ↦ grind (arith, ints) | inr g ↦ grind (arith, ints) ]))
  ]
] refl

-- ---- what a cut does to sizes

size_set : (F : Family) (x : ℕ) (vs : List ℤ) → x < length F → size (set F x vs) + length (set_of F x) ≡ size F + length vs
unfolding set_of
size_set [] x vs h = absurd (omega arith)
size_set (us ∷ F) zero vs h = omega arith
size_set (us ∷ F) (suc x) vs h = let r = size_set F x vs (omega arith) in omega (arith, r)

shorter : (p : ℤ → Bool) (vs : List ℤ) → length (filter p vs) ≤ length vs
shorter p [] = omega arith
shorter p (v ∷ vs) = let r = shorter p vs in elim (p v) as (λ b. length (cond b (v ∷ filter p vs) (filter p vs)) ≤ suc (length vs)) [ true ↦ omega (arith, r) | false ↦ omega (arith, r) ]

strictly : (p : ℤ → Bool) (vs : List ℤ) (u : ℤ) → member u vs ≡ true → p u ≡ false → length (filter p vs) < length vs
strictly p [] u m h = cc
strictly p (v ∷ vs) u m h =
    let s = shorter p vs in
    elim (p v) as (λ b. p v ≡ b → length (cond b (v ∷ filter p vs) (filter p vs)) < suc (length vs)) [
      | true ↦ λ e. elim (member_cases u v vs m) [
        | inl i ↦ absurd (let k = ap p i in cc)
        | inr k ↦ let r = strictly p vs u k h in omega (arith, r)
      ]
      | false ↦ λ e. omega (arith, s)
    ] refl

all_pass : (p : ℤ → Bool) (vs : List ℤ) → ((u : ℤ) → member u vs ≡ true → p u ≡ true) → filter p vs ≡ vs
all_pass p [] h = refl
all_pass p (v ∷ vs) h = rw (h v (member_first v vs), all_pass p vs (λ u m. h u (member_later u v vs m))) refl

-- one list alone was woken, and the ends stay
pub woken_once : (watchers end_watchers : List (List ℕ)) (old new : List Bool) (F : Family) (x : ℕ) (G : Family) → hull G x ≡ hull F x → length new ≡ length old → ((i : ℕ) → i < length old → waits new i ≡ (waits old i || watches watchers i x)) → WakesFor watchers end_watchers old new F x G
woken_once watchers end_watchers old new F x G stay s w = record {
  same = s;
  woken = λ i l h. let p = or_parts (waits old i) (watches watchers i x) (sym (w i l) ∙ h) in (p.0, p.1, inr stay);
}

-- both lists were woken
pub woken_twice : (watchers end_watchers : List (List ℕ)) (old middle new : List Bool) (F : Family) (x : ℕ) (G : Family) → length middle ≡ length old → ((i : ℕ) → i < length old → waits middle i ≡ (waits old i || watches watchers i x)) →
    length new ≡ length middle → ((i : ℕ) → i < length middle → waits new i ≡ (waits middle i || watches end_watchers i x)) → WakesFor watchers end_watchers old new F x G
woken_twice watchers end_watchers old middle new F x G s w t v = record {
  same = t ∙ s;
  woken = λ i l h.
      let p = or_parts (waits middle i) (watches end_watchers i x) (sym (v i (omega (arith, l, s))) ∙ h) in
      let q = or_parts (waits old i) (watches watchers i x) (sym (w i l) ∙ p.0) in
      (q.0, q.1, inl p.1);
}

hull_there : (F : Family) (x y : ℕ) (lo hi : ℤ) → y ≢ x → hull (cut_of F x lo hi) y ≡ hull F y
unfolding hull
hull_there F x y lo hi n = ap hull_of (cut_there F x y lo hi n)

-- a set loses a value; who watches it is woken, and so is who watches its ends, or these stay
pub wakes_cut : (watchers end_watchers : List (List ℕ)) (old new : List Bool) (F : Family) (x : ℕ) (lo hi : ℤ) → x < length F → Between (set_of F x) lo hi true → WakesFor watchers end_watchers old new F x (cut_of F x lo hi) → Wakes (watches watchers) (watches end_watchers) old F new (cut_of F x lo hi)
unfolding cut_of
wakes_cut watchers end_watchers old new F x lo hi l b w =
    let k = size_set F x (outside lo hi (set_of F x)) l in
    let m = strictly (is_outside lo hi) (set_of F x) b.0 b.1 b.2 in
    record {
      same = w.same;
      below = cut_below F x lo hi;
      smaller = omega (arith, k, m);
      woken = λ i n h. let p = w.woken i n h in (
        p.0,
        λ y q. elim (cases_eq y x) [ inl j ↦ absurd (let r = subst (λ z. watches watchers i z ≡ true) j q in let f = p.1 in cc) | inr d ↦ cut_there F x y lo hi d ],
        λ y q. elim (cases_eq y x) [
          | inl j ↦ elim p.2 [
            | inl f ↦ absurd (let r = subst (λ z. watches end_watchers i z ≡ true) j q in cc)
            | inr e ↦ subst (λ z. hull (cut_of F x lo hi) z ≡ hull F z) (sym j) e
          ]
          | inr d ↦ hull_there F x y lo hi d
        ],
      );
      ends = inl (omega (arith, k, m));
    }

hull_same : (G F : Family) (y : ℕ) → set_of G y ≡ set_of F y → hull G y ≡ hull F y
unfolding hull
hull_same G F y e = ap hull_of e

-- no set loses a value
pub wakes_none : (watchers end_watchers : List (List ℕ)) (w : List Bool) (F : Family) (x : ℕ) (lo hi : ℤ) → x < length F → Between (set_of F x) lo hi false → Wakes (watches watchers) (watches end_watchers) w F w (cut_of F x lo hi)
unfolding cut_of
wakes_none watchers end_watchers w F x lo hi l b =
    let e : outside lo hi (set_of F x) ≡ set_of F x = all_pass (is_outside lo hi) (set_of F x) b in
    let k = size_set F x (outside lo hi (set_of F x)) l in
    let n = ap length e in
    let same : (y : ℕ) → set_of (cut_of F x lo hi) y ≡ set_of F y = λ y.
    elim (cases_eq y x) [ inl j ↦ subst (λ z. set_of (cut_of F x lo hi) z ≡ set_of F z) (sym j) (cut_here F x lo hi l ∙ e) | inr n ↦ cut_there F x y lo hi n ] in
    record {
      same = refl;
      below = cut_below F x lo hi;
      smaller = omega (arith, k, n);
      woken = λ i m h. (h, λ y q. same y, λ y q. hull_same (cut_of F x lo hi) F y (same y));
      ends = inr refl;
    }

the_span : (a b : Span) → Some a ≡ Some b → a ≡ b
the_span a b h = cc

hull_by_ends : (vs : List ℤ) (l h : ℤ) → member l vs ≡ true → hull_some vs ≡ Some (record { low = l; high = h }) → hull_of vs ≡ record { low = l; high = h }
hull_by_ends [] l h m e = cc
hull_by_ends (v ∷ vs) l h m e = the_span (hull_of (v ∷ vs)) (record { low = l; high = h }) e

-- what goes lies between the ends of a set: they stay
pub ends_stay : (F : Family) (x : ℕ) (lo hi l h : ℤ) → x < length F → IsLeast (set_of F x) l → IsGreatest (set_of F x) h → l <ℤ lo → hi <ℤ h → hull (cut_of F x lo hi) x ≡ hull F x
unfolding hull
ends_stay F x lo hi l h k a b c d =
    let vs = set_of F x in
    let inside : member l (outside lo hi vs) ≡ true = member_filter (is_outside lo hi) vs l a.among (outside_cases lo hi l (inl c)) in
    let upper : member h (outside lo hi vs) ≡ true = member_filter (is_outside lo hi) vs h b.among (outside_cases lo hi h (inr d)) in
    let all : hull_some vs ≡ Some (record { low = l; high = h }) = hull_is vs l h a.among b.among (λ u m. (a.least u m, b.most u m)) in
    let rest : hull_some (outside lo hi vs) ≡ Some (record { low = l; high = h }) =
    hull_is (outside lo hi vs) l h inside upper (λ u m. let r = from_filter (is_outside lo hi) vs u m in (a.least u r.0, b.most u r.0)) in
    ap hull_of (cut_here F x lo hi k) ∙ hull_by_ends (outside lo hi vs) l h inside rest ∙ sym (hull_by_ends vs l h a.among all)

-- ---- lists that grow and shrink at their ends

last_at : (js : List ℕ) (v : ℕ) → slice_get (js ++ v ∷ []) (length js) ≡ Some v
last_at [] v = refl
last_at (j ∷ js) v = last_at js v

last_is : (js : List ℕ) (v last n : ℕ) → n ≡ length js → Some last ≡ slice_get (js ++ v ∷ []) n → last ≡ v
last_is js v last n e h = let k : Some last ≡ Some v = h ∙ ap (slice_get (js ++ v ∷ [])) e ∙ last_at js v in cc

first_of_two : (a b : Bool) → (a || b) ≡ true → b ≡ false → a ≡ true
first_of_two true b h k = refl
first_of_two false b h k = absurd (let e = sym k ∙ h in cc)

-- one who doesn't come before i has gone from the end
pub popped : (old new : List ℕ) (r : Option ℕ) (last i j : ℕ) → old ≡ new ++ option_to_list r → Some last ≡ slice_get old (length old - 1) → i ≤ last → j < i → lists old j ≡ true → lists new j ≡ true
popped old new None last i j e a b l h = subst (λ js. lists js j ≡ true) (e ∙ append-nil new) h
popped old new (Some v) last i j e a b l h =
    let n : length old - 1 ≡ length new = omega (arith, ap length e, length-append new (v ∷ [])) in
    let k : last ≡ v = last_is new v last (length old - 1) n (a ∙ ap (λ js. slice_get js (length old - 1)) e) in
    first_of_two (lists new j) (nat_eq j v) (sym (listed_push new v j) ∙ sym (ap (λ js. lists js j) e) ∙ h) (grind (arith, nat_tests))

pub put_last : (js : List ℕ) (i : ℕ) → lists (js ++ i ∷ []) i ≡ true
put_last js i = listed_push js i i ∙ or_true (lists js i) (nat_eq i i) (grind (arith, nat_tests))

pub put_before : (js : List ℕ) (i j : ℕ) → lists js j ≡ true → lists (js ++ i ∷ []) j ≡ true
put_before js i j h = listed_push js i j ∙ ap (λ b. b || nat_eq j i) h

pub map_push : {A B : Type 0} (f : A → B) (xs : List A) (x : A) (ys : List B) (y : B) → map f xs ≡ ys → f x ≡ y → map f (xs ++ x ∷ []) ≡ ys ++ y ∷ []
map_push f [] x ys y e h = ap (λ z. z ∷ []) h ∙ ap (λ zs. zs ++ y ∷ []) e
map_push f (w ∷ xs) x ys y e h = ap (λ zs. f w ∷ zs) (map_push f xs x (map f xs) y refl h) ∙ ap (λ zs. zs ++ y ∷ []) e

pub replicate_push : {A : Type 0} (n : ℕ) (y : A) → replicate n y ++ y ∷ [] ≡ replicate (n + 1) y
replicate_push n y = grown n ∙ ap (λ m. replicate m y) (sym (add-one n))
  where
    grown : (n : ℕ) → replicate n y ++ y ∷ [] ≡ replicate (suc n) y
    grown zero = refl
    grown (suc n) = ap (λ zs. y ∷ zs) (grown n)

-- one list is another now: who comes before i is still listed
pub lists_kept : (ls : List (List ℕ)) (js : List ℕ) (x i j y : ℕ) → ((k : ℕ) → k < i → lists (get_or ls x []) k ≡ true → lists js k ≡ true) → j < i → watches ls j y ≡ true → watches (set ls x js) j y ≡ true
lists_kept ls js x i j y k l h = elim (cases_eq y x) [
  | inl e ↦ elim (cases_lt x (length ls)) [
    | inl b ↦ subst (λ z. lists (get_or (set ls x js) z []) j ≡ true) (sym e) (subst (λ zs. lists zs j ≡ true) (sym (get_or-set_same ls x js [] b)) (k j l (subst (λ z. lists (get_or ls z []) j ≡ true) e h)))
    | inr b ↦ subst (λ zs. lists (get_or zs y []) j ≡ true) (sym (set_past ls x js b)) h
  ]
  | inr n ↦ subst (λ zs. lists zs j ≡ true) (sym (get_or-set_other ls x y js [] n)) h
]
  where
    set_past : (ls : List (List ℕ)) (x : ℕ) (js : List ℕ) → length ls ≤ x → set ls x js ≡ ls
    set_past [] x js b = refl
    set_past (l ∷ ls) zero js b = absurd (omega arith)
    set_past (l ∷ ls) (suc x) js b = ap (λ zs. l ∷ zs) (set_past ls x js (omega arith))

-- and i itself is where it was put
pub lists_put : (ls : List (List ℕ)) (js : List ℕ) (x i y : ℕ) → x < length ls → lists js i ≡ true → (watches ls i y ≡ true → watches (set ls x js) i y ≡ true) × (watches (set ls x js) i x ≡ true)
lists_put ls js x i y b h =
    let here : watches (set ls x js) i x ≡ true = subst (λ zs. lists zs i ≡ true) (sym (get_or-set_same ls x js [] b)) h in (
      λ k. elim (cases_eq y x) [
        | inl e ↦ subst (λ z. watches (set ls x js) i z ≡ true) (sym e) here
        | inr n ↦ subst (λ zs. lists zs i ≡ true) (sym (get_or-set_other ls x y js [] n)) k
      ],
      here,
    )

get_map : {V : Type 0} (vs : List V) (f : V → List ℕ) (d : V) (x : ℕ) → x < length vs → get_or (map f vs) x [] ≡ f (get_or vs x d)
get_map [] f d x b = absurd (omega arith)
get_map (v ∷ vs) f d zero b = refl
get_map (v ∷ vs) f d (suc x) b = get_map vs f d x (omega arith)

-- the same of lists that are parts of something
pub vec_kept : {V : Type 0} (vs : List V) (f : V → List ℕ) (d v : V) (x i j y : ℕ) → x < length vs → ((k : ℕ) → k < i → lists (f (get_or vs x d)) k ≡ true → lists (f v) k ≡ true) → j < i → watches (map f vs) j y ≡ true → watches (map f (set vs x v)) j y ≡ true
vec_kept vs f d v x i j y b g l h =
    subst (λ ls. watches ls j y ≡ true) (sym (map-set f vs x v))
    (lists_kept (map f vs) (f v) x i j y (λ k m q. g k m (subst (λ js. lists js k ≡ true) (get_map vs f d x b) q)) l h)

pub vec_put : {V : Type 0} (vs : List V) (f : V → List ℕ) (v : V) (x i y : ℕ) → x < length vs → lists (f v) i ≡ true → (watches (map f vs) i y ≡ true → watches (map f (set vs x v)) i y ≡ true) × (watches (map f (set vs x v)) i x ≡ true)
vec_put vs f v x i y b h =
    let p = lists_put (map f vs) (f v) x i y (omega (arith, b, length-map vs f)) h in (
      λ k. subst (λ ls. watches ls i y ≡ true) (sym (map-set f vs x v)) (p.0 k),
      subst (λ ls. watches ls i x ≡ true) (sym (map-set f vs x v)) p.1,
    )

pub listed_more : (js : List ℕ) (k i : ℕ) → k < length js → lists (take (k + 1) js) i ≡ true → (lists (take k js) i ≡ true) ⊎ (i ≡ get_or js k 0)
listed_more js k i l h = elim (or_some (lists (take k js) i) (nat_eq i (get_or js k 0)) (sym (listed_push (take k js) (get_or js k 0) i) ∙ ap (λ ks. lists ks i) (sym (take_more js k 0 l)) ∙ h)) [
  | inl e ↦ inl e
  | inr e ↦ inr (grind (arith, nat_tests))
]
  where
    or_some : (a b : Bool) → (a || b) ≡ true → (a ≡ true) ⊎ (b ≡ true)
    or_some true b h = inl refl
    or_some false b h = inr h
