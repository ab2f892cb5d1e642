-- What a queue keeps.
use Rattle.std.proofs.Common.{◌≡◌, ◌∙◌, ℕ, zero, suc, ◌+◌, ◌<◌, ◌≤◌, Bool, true, false, ◌||◌, cond, refl, List, [], ◌∷◌, ◌++◌, length, set, take, ap, sym, subst, arith, inl, inr, length-set}
use Rattle.std.specs.Prelude.{nat_eq, ◌≢◌}
use Rattle.std.proofs.lemmas.Bool.{cases_eq, cases_lt}
use Rattle.std.proofs.lemmas.Bool.Decides.{nat_tests}
use Rattle.std.proofs.lemmas.List.{get_or-set_same, get_or-set_other, length-append, length-take}
use Rattle.opl_closure.specs.Waits.{waits, count_waits}
use Rattle.opl_closure.specs.Queues.{occurrences, IsQueue}

pub occurs_push : (i j : ℕ) (js : List ℕ) → occurrences i (js ++ j ∷ []) ≡ occurrences i js + cond (nat_eq i j) 1 0
occurs_push i j [] = omega arith
occurs_push i j (k ∷ js) = let r = occurs_push i j js in omega (arith, r)

pub inside : (w : List Bool) (i : ℕ) → waits w i ≡ true → i < length w
inside [] i h = cc
inside (b ∷ w) zero h = omega arith
inside (b ∷ w) (suc i) h = let r = inside w i h in omega (arith, r)

pub count_most : (w : List Bool) → count_waits w ≤ length w
count_most [] = omega arith
count_most (b ∷ w) = let r = count_most w in elim b as (λ c. cond c 1 0 + count_waits w ≤ suc (length w)) [ true ↦ omega (arith, r) | false ↦ omega (arith, r) ]

pub count_less : (w : List Bool) (i : ℕ) → i < length w → waits w i ≡ false → count_waits w < length w
count_less [] i l h = absurd (omega arith)
count_less (b ∷ w) zero l h = let r = count_most w in let e : b ≡ false = h in rw e (omega (arith, r))
count_less (b ∷ w) (suc i) l h = let r = count_less w i (omega arith) h in elim b as (λ c. cond c 1 0 + count_waits w < suc (length w)) [ true ↦ omega (arith, r) | false ↦ omega (arith, r) ]

pub count_set : (w : List Bool) (i : ℕ) → i < length w → waits w i ≡ false → count_waits (set w i true) ≡ count_waits w + 1
count_set [] i l h = absurd (omega arith)
count_set (b ∷ w) zero l h = let e : b ≡ false = h in rw e (omega arith)
count_set (b ∷ w) (suc i) l h = let r = count_set w i (omega arith) h in omega (arith, r)

pub count_unset : (w : List Bool) (i : ℕ) → i < length w → waits w i ≡ true → count_waits (set w i false) + 1 ≡ count_waits w
count_unset [] i l h = absurd (omega arith)
count_unset (b ∷ w) zero l h = let e : b ≡ true = h in rw e (omega arith)
count_unset (b ∷ w) (suc i) l h = let r = count_unset w i (omega arith) h in omega (arith, r)

count_none : (w : List Bool) (i : ℕ) → count_waits w ≡ 0 → waits w i ≡ false
count_none [] i h = refl
count_none (true ∷ w) i h = absurd (omega (arith, h))
count_none (false ∷ w) zero h = refl
count_none (false ∷ w) (suc i) h = count_none w i (omega (arith, h))

count_one : (w : List Bool) (i : ℕ) → count_waits w ≡ 1 → waits w 0 ≡ true → i ≢ 0 → waits w i ≡ false
count_one [] i h k n = cc
count_one (b ∷ w) zero h k n = absurd (n refl)
count_one (b ∷ w) (suc i) h k n = let e : b ≡ true = k in count_none w i (let q = rw e at h in omega (arith, q))

not_true : (b : Bool) → (b ≡ true → ⊥) → b ≡ false
not_true true h = absurd (h refl)
not_true false h = refl

set_here : (w : List Bool) (i : ℕ) (b : Bool) → i < length w → waits (set w i b) i ≡ b
set_here w i b l = get_or-set_same w i b false l

set_there : (w : List Bool) (i j : ℕ) (b : Bool) → j ≢ i → waits (set w i b) j ≡ waits w j
set_there w i j b n = get_or-set_other w i j b false n

-- who isn't queued doesn't wait
pub resting : (flags queued : List Bool) (queue : List ℕ) (room : ℕ) (i : ℕ) → IsQueue flags queued queue room → waits queued i ≡ false → waits flags i ≡ false
resting flags queued queue room i q h = not_true (waits flags i) (λ e. let k = q.waiting i e in cc)

unqueued : (b : Bool) → zero ≡ cond b 1 0 → b ≡ false
unqueued true h = absurd (omega (arith, h))
unqueued false h = refl

pub none_waits : (flags queued : List Bool) (queue : List ℕ) (room : ℕ) (i : ℕ) → IsQueue flags queued queue room → queue ≡ [] → waits flags i ≡ false
none_waits flags queued queue room i q e = resting flags queued queue room i q (unqueued (waits queued i) (sym (ap (occurrences i) e) ∙ q.places i))

set_cases : (w : List Bool) (i j : ℕ) (b : Bool) → i < length w → waits (set w i b) j ≡ cond (nat_eq j i) b (waits w j)
set_cases w i j b l = elim (cases_eq j i) [
  | inl e ↦ subst (λ k. waits (set w i b) k ≡ cond (nat_eq k i) b (waits w k)) (sym e) (let t : nat_eq i i ≡ true = grind (arith, nat_tests) in set_here w i b l ∙ ap (λ c. cond c b (waits w i)) (sym t))
  | inr n ↦ let t : nat_eq j i ≡ false = grind (arith, nat_tests) in set_there w i j b n ∙ ap (λ c. cond c b (waits w j)) (sym t)
]

-- member i begins to wait, and is queued
pub queue_push : (flags queued : List Bool) (queue : List ℕ) (room : ℕ) (i : ℕ) → IsQueue flags queued queue room → i < length flags → waits queued i ≡ false → IsQueue (set flags i true) (set queued i true) (queue ++ i ∷ []) room
queue_push flags queued queue room i q l h =
    let k : i < length queued = omega (arith, q.same, l) in
    record {
      same = length-set queued i true ∙ q.same ∙ sym (length-set flags i true);
      waiting = λ j w. elim (cases_eq j i) [
        | inl e ↦ subst (λ m. waits (set queued i true) m ≡ true) (sym e) (set_here queued i true k)
        | inr n ↦ set_there queued i j true n ∙ q.waiting j (sym (set_there flags i j true n) ∙ w)
      ];
      places = λ j. occurs_push j i queue ∙ elim (cases_eq j i) [
        | inl e ↦
            subst (λ m. occurrences m queue + cond (nat_eq m i) 1 0 ≡ cond (waits (set queued i true) m) 1 0) (sym e)
            (let t : nat_eq i i ≡ true = grind (arith, nat_tests) in let p = q.places i in let z = set_here queued i true k in rw (t, p, h, z) refl)
        | inr n ↦
            let t : nat_eq j i ≡ false = grind (arith, nat_tests) in
            let z = set_there queued i j true n in
            rw (t, z) (let p = q.places j in omega (arith, p))
      ];
      count = length-append queue (i ∷ []) ∙ (let p = q.count in let r = count_set queued i k h in omega (arith, p, r));
      fits = omega (arith, q.fits, length-set flags i true);
    }

-- member i begins to wait, and is queued already
pub queue_again : (flags queued : List Bool) (queue : List ℕ) (room : ℕ) (i : ℕ) → IsQueue flags queued queue room → i < length flags → waits queued i ≡ true → IsQueue (set flags i true) queued queue room
queue_again flags queued queue room i q l h =
    record {
      same = q.same ∙ sym (length-set flags i true);
      waiting = λ j w. elim (cases_eq j i) [
        | inl e ↦ subst (λ m. waits queued m ≡ true) (sym e) h
        | inr n ↦ q.waiting j (sym (set_there flags i j true n) ∙ w)
      ];
      places = q.places;
      count = q.count;
      fits = omega (arith, q.fits, length-set flags i true);
    }

-- member i no longer waits
pub queue_done : (flags queued : List Bool) (queue : List ℕ) (room : ℕ) (i : ℕ) → IsQueue flags queued queue room → i < length flags → IsQueue (set flags i false) queued queue room
queue_done flags queued queue room i q l =
    record {
      same = q.same ∙ sym (length-set flags i false);
      waiting = λ j w. elim (cases_eq j i) [
        | inl e ↦ absurd (let z = set_here flags i false l in let y = subst (λ m. waits (set flags i false) m ≡ true) e w in cc)
        | inr n ↦ q.waiting j (sym (set_there flags i j false n) ∙ w)
      ];
      places = q.places;
      count = q.count;
      fits = omega (arith, q.fits, length-set flags i false);
    }

front_queued : (b : Bool) (n : ℕ) → 1 + n ≡ cond b 1 0 → (b ≡ true) × (n ≡ 0)
front_queued true n h = (refl, omega (arith, h))
front_queued false n h = absurd (omega (arith, h))

-- the first of the queue is a member
pub front_there : (flags queued : List Bool) (queue : List ℕ) (room : ℕ) (i : ℕ) → IsQueue flags queued (i ∷ queue) room → (waits queued i ≡ true) × (i < length flags)
front_there flags queued queue room i q =
    let t : nat_eq i i ≡ true = grind (arith, nat_tests) in
    let e : 1 + occurrences i queue ≡ cond (waits queued i) 1 0 = ap (λ c. cond c 1 0 + occurrences i queue) (sym t) ∙ q.places i in
    let f = front_queued (waits queued i) (occurrences i queue) e in
    (f.0, omega (arith, inside queued i f.0, q.same))

-- the first of the queue leaves it, and doesn't wait
pub queue_pop : (flags queued : List Bool) (queue : List ℕ) (room : ℕ) (i : ℕ) → IsQueue flags queued (i ∷ queue) room → waits flags i ≡ false → IsQueue flags (set queued i false) queue room
queue_pop flags queued queue room i q r =
    let f = front_there flags queued queue room i q in
    let k : i < length queued = omega (arith, q.same, f.1) in
    record {
      same = length-set queued i false ∙ q.same;
      waiting = λ j w. elim (cases_eq j i) [
        | inl e ↦ absurd (let y = subst (λ m. waits flags m ≡ true) e w in cc)
        | inr n ↦ set_there queued i j false n ∙ q.waiting j w
      ];
      places = λ j. elim (cases_eq j i) [
        | inl e ↦
            let t : nat_eq i i ≡ true = grind (arith, nat_tests) in
            let p : 1 + occurrences i queue ≡ cond (waits queued i) 1 0 = ap (λ c. cond c 1 0 + occurrences i queue) (sym t) ∙ q.places i in
            subst (λ m. occurrences m queue ≡ cond (waits (set queued i false) m) 1 0) (sym e)
            ((front_queued (waits queued i) (occurrences i queue) p).1 ∙ ap (λ c. cond c 1 0) (sym (set_here queued i false k)))
        | inr n ↦
            let t : nat_eq j i ≡ false = grind (arith, nat_tests) in
            let p : 0 + occurrences j queue ≡ cond (waits queued j) 1 0 = ap (λ c. cond c 1 0 + occurrences j queue) (sym t) ∙ q.places j in
            let z = set_there queued i j false n in
            rw z (omega (arith, p))
      ];
      count = (let p = q.count in let u = count_unset queued i k f.0 in omega (arith, p, u));
      fits = q.fits;
    }

-- the first of the queue leaves it, and no longer waits
pub queue_take : (flags queued : List Bool) (queue : List ℕ) (room : ℕ) (i : ℕ) → IsQueue flags queued (i ∷ queue) room → IsQueue (set flags i false) (set queued i false) queue room
queue_take flags queued queue room i q =
    let f = front_there flags queued queue room i q in
    queue_pop (set flags i false) queued queue room i (queue_done flags queued (i ∷ queue) room i q f.1) (set_here flags i false f.1)

-- there is room for one more
pub has_room : (flags queued : List Bool) (queue : List ℕ) (room : ℕ) (i : ℕ) → IsQueue flags queued queue room → i < length flags → waits queued i ≡ false → length queue < room
has_room flags queued queue room i q l h =
    let r = count_less queued i (omega (arith, q.same, l)) h in
    omega (arith, q.count, r, q.same, q.fits)

-- nobody waits but perhaps the first
pub calm_empty : (flags queued : List Bool) (queue : List ℕ) (room : ℕ) (i : ℕ) → IsQueue flags queued queue room → length queue ≡ 0 → waits flags i ≡ false
calm_empty flags queued queue room i q e = resting flags queued queue room i q (count_none queued i (sym q.count ∙ e))

pub calm_first : (flags queued : List Bool) (queue : List ℕ) (room : ℕ) (i : ℕ) → IsQueue flags queued queue room → length queue ≡ 1 → waits queued 0 ≡ true → i ≢ 0 → waits flags i ≡ false
calm_first flags queued queue room i q e h n = resting flags queued queue room i q (count_one queued i (sym q.count ∙ e) h n)

pub queue_empty : (room : ℕ) → IsQueue [] [] [] room
queue_empty room = record { same = refl; waiting = λ i h. cc; places = λ i. refl; count = refl; fits = omega arith }

-- more room does no harm
pub queue_wider : (flags queued : List Bool) (queue : List ℕ) (room more : ℕ) → IsQueue flags queued queue room → room ≤ more → IsQueue flags queued queue more
queue_wider flags queued queue room more q l = record { same = q.same; waiting = q.waiting; places = q.places; count = q.count; fits = omega (arith, q.fits, l) }

waits_first : (w : List Bool) (b : Bool) (i : ℕ) → i < length w → waits (w ++ b ∷ []) i ≡ waits w i
waits_first [] b i l = absurd (omega arith)
waits_first (c ∷ w) b zero l = refl
waits_first (c ∷ w) b (suc i) l = waits_first w b i (omega arith)

waits_last : (w : List Bool) (b : Bool) → waits (w ++ b ∷ []) (length w) ≡ b
waits_last [] b = refl
waits_last (c ∷ w) b = waits_last w b

waits_past : (w : List Bool) (i : ℕ) → length w ≤ i → waits w i ≡ false
waits_past [] i l = refl
waits_past (c ∷ w) zero l = absurd (omega arith)
waits_past (c ∷ w) (suc i) l = waits_past w i (omega arith)

count_push : (w : List Bool) → count_waits (w ++ true ∷ []) ≡ count_waits w + 1
count_push [] = refl
count_push (b ∷ w) = let r = count_push w in omega (arith, r)

-- one of the members before, the new one, or none
pub pushed_waits : (w : List Bool) (i : ℕ) → waits (w ++ true ∷ []) i ≡ (waits w i || nat_eq i (length w))
pushed_waits w i = elim (cases_lt i (length w)) [
  | inl l ↦ let t : nat_eq i (length w) ≡ false = grind (arith, nat_tests) in waits_first w true i l ∙ rw t (elim (waits w i) as (λ b. b ≡ (b || false)) [ true ↦ refl | false ↦ refl ])
  | inr l ↦ elim (cases_eq i (length w)) [
    | inl e ↦
        let t : nat_eq i (length w) ≡ true = grind (arith, nat_tests) in
        ap (waits (w ++ true ∷ [])) e ∙ waits_last w true ∙ rw t (elim (waits w i) as (λ b. true ≡ (b || true)) [ true ↦ refl | false ↦ refl ])
    | inr n ↦
        let t : nat_eq i (length w) ≡ false = grind (arith, nat_tests) in
        waits_past (w ++ true ∷ []) i (omega (arith, length-append w (true ∷ []), l, n)) ∙ rw (t, waits_past w i l) refl
  ]
]

added : (a b c d : Bool) → c ≡ d → (a ≡ true → b ≡ true) → (a || c) ≡ true → (b || d) ≡ true
added true b c d e h k = rw (h refl) refl
added false b c d e h k = elim b as (λ z. (z || d) ≡ true) [ true ↦ refl | false ↦ sym e ∙ k ]

counted : (a c : Bool) (n : ℕ) (b : Bool) → n ≡ cond a 1 0 → b ≡ (a || c) → (c ≡ true → a ≡ false) → n + cond c 1 0 ≡ cond b 1 0
counted true true n b h e k = absurd (let r = k refl in cc)
counted true false n b h e k = rw (e, h) refl
counted false true n b h e k = rw (e, h) refl
counted false false n b h e k = rw (e, h) refl

-- the member behind the last isn't queued
past_queued : (flags queued : List Bool) (i : ℕ) → length queued ≡ length flags → nat_eq i (length flags) ≡ true → waits queued i ≡ false
past_queued flags queued i s h = let e : i ≡ length flags = grind (arith, nat_tests) in waits_past queued i (omega (arith, e, s))

-- one more member, who waits and is queued
pub queue_add : (flags queued : List Bool) (queue : List ℕ) (room : ℕ) → IsQueue flags queued queue room → length flags < room → IsQueue (flags ++ true ∷ []) (queued ++ true ∷ []) (queue ++ length flags ∷ []) room
queue_add flags queued queue room q l =
    record {
      same = length-append queued (true ∷ []) ∙ ap (λ n. n + 1) q.same ∙ sym (length-append flags (true ∷ []));
      waiting = λ i h. pushed_waits queued i ∙ added (waits flags i) (waits queued i) (nat_eq i (length flags)) (nat_eq i (length queued)) (ap (nat_eq i) (sym q.same)) (q.waiting i) (sym (pushed_waits flags i) ∙ h);
      places = λ i. occurs_push i (length flags) queue ∙ counted (waits queued i) (nat_eq i (length flags)) (occurrences i queue) (waits (queued ++ true ∷ []) i) (q.places i) (pushed_waits queued i ∙ ap (λ n. waits queued i || nat_eq i n) q.same) (past_queued flags queued i q.same);
      count = length-append queue (length flags ∷ []) ∙ (let p = q.count in let r = count_push queued in omega (arith, p, r));
      fits = omega (arith, length-append flags (true ∷ []), l);
    }

-- ---- the first members are left, and nobody waits

pub first_rest : (w : List Bool) (n i : ℕ) → ((j : ℕ) → waits w j ≡ false) → waits (take n w) i ≡ false
first_rest w zero i h = refl
first_rest [] (suc n) i h = refl
first_rest (b ∷ w) (suc n) zero h = h 0
first_rest (b ∷ w) (suc n) (suc i) h = first_rest w n i (λ j. h (suc j))

count_rest : (w : List Bool) → ((j : ℕ) → waits w j ≡ false) → count_waits w ≡ 0
count_rest [] h = refl
count_rest (b ∷ w) h = let e : b ≡ false = h 0 in rw (e, count_rest w (λ j. h (suc j))) refl

pub no_items : (queue : List ℕ) → length queue ≡ 0 → queue ≡ []
no_items [] h = refl
no_items (j ∷ queue) h = absurd (omega (arith, h))

pub queue_rest : (flags queued : List Bool) (queue : List ℕ) (room n : ℕ) → IsQueue flags queued queue room → length queue ≡ 0 → n ≤ length flags → IsQueue (take n flags) (take n queued) queue room
queue_rest flags queued queue room n q e l =
    let none : (j : ℕ) → waits queued j ≡ false = λ j. count_none queued j (sym q.count ∙ e) in
    let all : (j : ℕ) → waits flags j ≡ false = λ j. resting flags queued queue room j q (none j) in
    record {
      same = omega (arith, length-take n flags, length-take n queued, q.same);
      waiting = λ i h. absurd (let k = first_rest flags n i all in cc);
      places = λ i. ap (occurrences i) (no_items queue e) ∙ ap (λ b. cond b 1 0) (sym (first_rest queued n i none));
      count = e ∙ sym (count_rest (take n queued) (λ i. first_rest queued n i none));
      fits = omega (arith, length-take n flags, q.fits);
    }
