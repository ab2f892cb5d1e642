-- Rising lists of numbers, and families in which one set is changed.
use Rattle.std.proofs.Common.{◌≡◌, ◌≢◌, ℕ, zero, suc, ◌+◌, ◌-◌, ◌≤◌, ◌<◌, ◌⊎◌, Bool, true, false, cond, refl, List, [], ◌∷◌, ◌++◌, length, get_or, set, ℤ, pos, negsuc, ◌+ℤ◌, neg_ℤ, ◌≤ℤ◌, ◌<ℤ◌, ap, sym, subst, arith, inl, inr, add-one, eqb, to_z, of_z, length-set, get_or-set_same, get_or-set_other}
use Rattle.std.specs.List.{filter}
use Rattle.std.specs.Prelude.{FitsSigned, int_le}
use Rattle.std.specs.Ordering.{int_eq}
use Rattle.std.proofs.lemmas.Int.{ints, to_z-of_z}
use mir.Syntax.{w64}
use Rattle.std.specs.List.Sorted.{IsPartitionedBy, IsPartitionPoint}
use Rattle.std.proofs.lemmas.Bool.Decides.{Decides-int_eq, Decides-eqb}
use Rattle.opl_domain.specs.Span.{count_from, ints_from, values, span_size, hull_of, least_of, greatest_of}
use Rattle.opl_domain.specs.Family.{member, IsRising, IsRank, IsLeast, IsGreatest, IsLeastAbove, is_outside, outside, Family, set_of, only, cut_of, hull, Full, IsFamily, IsDomain, most_values}
use Rattle.opl_domain.proofs.Members.{same_int, member_cases, member_first, member_later, from_filter, from_ints, least_is, least_member, greatest_is, greatest_member, between_is, count_is}

-- ---- places in a list

is_at_least : (i j : ℕ) → (i ≤ j) ⊎ (j < i)
is_at_least i j = grind arith

pub member_at : (xs : List ℤ) (k : ℕ) → k < length xs → member (get_or xs k (pos 0)) xs ≡ true
member_at [] k h = absurd (omega arith)
member_at (v ∷ xs) zero h = member_first v xs
member_at (v ∷ xs) (suc k) h = member_later (get_or xs k (pos 0)) v xs (member_at xs k (omega arith))

pub place_of : (xs : List ℤ) (v : ℤ) → member v xs ≡ true → (k : ℕ) × (k < length xs) × (v ≡ get_or xs k (pos 0))
place_of [] v h = cc
place_of (w ∷ xs) v h = elim (member_cases v w xs h) [
  | inl e ↦ (zero, omega arith, e)
  | inr m ↦ let r = place_of xs v m in (suc r.0, omega (arith, r.1), r.2)
]

-- a later number of a rising list is greater
pub rises_at : (xs : List ℤ) (i j : ℕ) → IsRising xs → i < j → j < length xs → get_or xs i (pos 0) <ℤ get_or xs j (pos 0)
rises_at [] i j r h k = absurd (omega arith)
rises_at (v ∷ xs) zero (suc j) r h k = r.0 (get_or xs j (pos 0)) (member_at xs j (omega arith))
rises_at (v ∷ xs) (suc i) (suc j) r h k = rises_at xs i j r.1 (omega arith) (omega arith)
rises_at (v ∷ xs) i zero r h k = absurd (omega arith)

pub rises_to : (xs : List ℤ) (i j : ℕ) → IsRising xs → i ≤ j → j < length xs → get_or xs i (pos 0) ≤ℤ get_or xs j (pos 0)
rises_to xs i j r h k =
    elim (eqb i j) as (λ b. eqb i j ≡ b → get_or xs i (pos 0) ≤ℤ get_or xs j (pos 0)) [
      | true ↦ λ e. let s : i ≡ j = (Decides-eqb i j).0 e in rw s (omega (arith, ints))
      | false ↦ λ e. let n : i ≢ j = λ s. let t = (Decides-eqb i j).1 s in cc in omega (arith, ints, rises_at xs i j r (omega arith) k)
    ] refl

-- ---- the ends of a rising list, and what comes next

pub first_is_least : (xs : List ℤ) → IsRising xs → 0 < length xs → IsLeast xs (get_or xs 0 (pos 0))
first_is_least xs r h = record {
  among = member_at xs 0 h;
  least = λ w m. let p = place_of xs w m in omega (arith, ints, p.2, rises_to xs 0 p.0 r (omega arith) p.1);
}

pub last_is_greatest : (xs : List ℤ) → IsRising xs → 0 < length xs → IsGreatest xs (get_or xs (length xs - 1) (pos 0))
last_is_greatest xs r h = record {
  among = member_at xs (length xs - 1) (omega arith);
  most = λ w m. let p = place_of xs w m in omega (arith, ints, p.2, rises_to xs p.0 (length xs - 1) r (omega (arith, p.1)) (omega arith));
}

pub next_at_rank : (xs : List ℤ) (after : ℤ) (n : ℕ) → IsRising xs → IsRank xs after n → n < length xs → IsLeastAbove xs after (get_or xs n (pos 0))
next_at_rank xs after n r t h = record {
  among = member_at xs n h;
  above = t.behind n (omega arith) h;
  least = λ w m a. let p = place_of xs w m in
      let le : n ≤ p.0 = elim (is_at_least n p.0) [ inl q ↦ q | inr q ↦ absurd (omega (arith, ints, p.2, t.before p.0 q)) ] in
      omega (arith, ints, p.2, rises_to xs n p.0 r le p.1);
}

pub none_at_rank : (xs : List ℤ) (after : ℤ) (n : ℕ) → IsRank xs after n → length xs ≤ n → (w : ℤ) → member w xs ≡ true → w ≤ℤ after
none_at_rank xs after n t h w m = let p = place_of xs w m in omega (arith, ints, p.2, t.before p.0 (omega (arith, p.1)))

-- v is in the list where the last number that is at most v equals it
pub last_of_rank : (xs : List ℤ) (v : ℤ) (n : ℕ) → IsRising xs → IsRank xs v n → 0 < n → int_eq (get_or xs (n - 1) (pos 0)) v ≡ member v xs
last_of_rank xs v n r t h =
    elim (member v xs) as (λ b. member v xs ≡ b → int_eq (get_or xs (n - 1) (pos 0)) v ≡ b) [
      | true ↦ λ m. let p = place_of xs v m in
          let below : p.0 < n = elim (is_at_least n p.0) [ inl q ↦ absurd (omega (arith, ints, p.2, t.behind p.0 q p.1)) | inr q ↦ q ] in
          let same : get_or xs (n - 1) (pos 0) ≡ v = between_is (get_or xs (n - 1) (pos 0)) v (t.before (n - 1) (omega arith)) (omega (arith, ints, p.2, rises_to xs p.0 (n - 1) r (omega arith) (omega (arith, t.bound)))) in
          (Decides-int_eq (get_or xs (n - 1) (pos 0)) v).1 same
      | false ↦ λ m. elim (int_eq (get_or xs (n - 1) (pos 0)) v) as (λ b. int_eq (get_or xs (n - 1) (pos 0)) v ≡ b → b ≡ false) [
        | true ↦ λ e. let k = member_at xs (n - 1) (omega (arith, t.bound)) in
            let k' = subst (λ w. member w xs ≡ true) (same_int (get_or xs (n - 1) (pos 0)) v e) k in cc
        | false ↦ λ e. refl
      ] refl
    ] refl

pub none_of_rank : (xs : List ℤ) (v : ℤ) (n : ℕ) → IsRank xs v n → n ≤ 0 → false ≡ member v xs
none_of_rank xs v n t h =
    elim (member v xs) as (λ b. member v xs ≡ b → false ≡ b) [
      | true ↦ λ m. let p = place_of xs v m in absurd (omega (arith, ints, p.2, t.behind p.0 (omega arith) p.1))
      | false ↦ λ m. refl
    ] refl

-- ---- lists that rise

pub filter_rises : (p : ℤ → Bool) (xs : List ℤ) → IsRising xs → IsRising (filter p xs)
filter_rises p [] r = tt
filter_rises p (v ∷ xs) r = elim (p v) as (λ b. IsRising (cond b (v ∷ filter p xs) (filter p xs))) [
  | true ↦ (λ w m. r.0 w (from_filter p xs w m).0, filter_rises p xs r.1)
  | false ↦ filter_rises p xs r.1
]

pub ints_rise : (v : ℤ) (n : ℕ) → IsRising (ints_from v n)
ints_rise v zero = tt
ints_rise v (suc n) = (λ w m. omega (arith, ints, (from_ints (v +ℤ pos 1) n w m).0), ints_rise (v +ℤ pos 1) n)

pub length-ints : (v : ℤ) (n : ℕ) → length (ints_from v n) ≡ n
length-ints v zero = refl
length-ints v (suc n) = ap suc (length-ints (v +ℤ pos 1) n)

-- one more number at the end of a row
pub ints_more : (v : ℤ) (n : ℕ) → ints_from v n ++ (v +ℤ pos n) ∷ [] ≡ ints_from v (n + 1)
ints_more v zero = let e : v +ℤ pos 0 ≡ v = omega (arith, ints) in rw e refl
ints_more v (suc n) =
    let e : v +ℤ pos (suc n) ≡ (v +ℤ pos 1) +ℤ pos n = omega (arith, ints) in
    rw (e, add-one (suc n), ints_more (v +ℤ pos 1) n, add-one n) refl

-- ---- families with one set changed

pub set_of-here : (F : Family) (x : ℕ) (vs : List ℤ) → x < length F → set_of (set F x vs) x ≡ vs
unfolding set_of
set_of-here F x vs h = get_or-set_same F x vs [] h

pub set_of-there : (F : Family) (x y : ℕ) (vs : List ℤ) → y ≢ x → set_of (set F x vs) y ≡ set_of F y
unfolding set_of
set_of-there F x y vs h = get_or-set_other F x y vs [] h

pub length-only : (F : Family) (x : ℕ) (v : ℤ) → length (only F x v) ≡ length F
unfolding only
length-only F x v = length-set F x (v ∷ [])

pub only_here : (F : Family) (x : ℕ) (v : ℤ) → x < length F → set_of (only F x v) x ≡ v ∷ []
unfolding only
only_here F x v h = set_of-here F x (v ∷ []) h

pub only_there : (F : Family) (x y : ℕ) (v : ℤ) → y ≢ x → set_of (only F x v) y ≡ set_of F y
unfolding only
only_there F x y v h = set_of-there F x y (v ∷ []) h

pub length-cut : (F : Family) (x : ℕ) (lo hi : ℤ) → length (cut_of F x lo hi) ≡ length F
unfolding cut_of
length-cut F x lo hi = length-set F x (outside lo hi (set_of F x))

pub cut_here : (F : Family) (x : ℕ) (lo hi : ℤ) → x < length F → set_of (cut_of F x lo hi) x ≡ outside lo hi (set_of F x)
unfolding cut_of
cut_here F x lo hi h = set_of-here F x (outside lo hi (set_of F x)) h

pub cut_there : (F : Family) (x y : ℕ) (lo hi : ℤ) → y ≢ x → set_of (cut_of F x lo hi) y ≡ set_of F y
unfolding cut_of
cut_there F x y lo hi h = set_of-there F x y (outside lo hi (set_of F x)) h

-- there is no set past the last variable
pub set_of-past : (F : Family) (x : ℕ) → length F ≤ x → set_of F x ≡ []
unfolding set_of
set_of-past [] x h = refl
set_of-past (vs ∷ F) zero h = absurd (omega arith)
set_of-past (vs ∷ F) (suc x) h = set_of-past F x (omega arith)

same_place : (x y : ℕ) → (x ≡ y) ⊎ (x ≢ y)
same_place x y = grind arith

pub single_rises : (v : ℤ) → IsRising (v ∷ [])
single_rises v = (λ w m. cc, tt)

pub single_least : (v : ℤ) → IsLeast (v ∷ []) v
single_least v = record { among = member_first v []; least = λ w m. elim (member_cases w v [] m) [ inl e ↦ omega (arith, ints, e) | inr k ↦ cc ] }

pub single_greatest : (v : ℤ) → IsGreatest (v ∷ []) v
single_greatest v = record { among = member_first v []; most = λ w m. elim (member_cases w v [] m) [ inl e ↦ omega (arith, ints, e) | inr k ↦ cc ] }

pub single_next : (v after : ℤ) → after <ℤ v → IsLeastAbove (v ∷ []) after v
single_next v after h = record { among = member_first v []; above = h; least = λ w m a. elim (member_cases w v [] m) [ inl e ↦ omega (arith, ints, e) | inr k ↦ cc ] }

pub single_no_next : (v after : ℤ) → v ≤ℤ after → (w : ℤ) → member w (v ∷ []) ≡ true → w ≤ℤ after
single_no_next v after h w m = elim (member_cases w v [] m) [ inl e ↦ omega (arith, ints, e) | inr k ↦ cc ]

pub single_member : (v w : ℤ) → int_eq w v ≡ member w (v ∷ [])
single_member v w = elim (int_eq w v) as (λ b. b ≡ cond b true false) [ true ↦ refl | false ↦ refl ]

only_full : (F : Family) (x : ℕ) (v : ℤ) → Full F → Full (only F x v)
only_full F x v f y h = elim (same_place y x) [
  | inl e ↦ (v, subst (λ z. member v (set_of (only F x v) z) ≡ true) (sym e) (subst (λ vs. member v vs ≡ true) (sym (only_here F x v (omega (arith, length-only F x v)))) (member_first v [])))
  | inr n ↦ let r = f y (omega (arith, length-only F x v)) in (r.0, subst (λ vs. member r.0 vs ≡ true) (sym (only_there F x y v n)) r.1)
]

only_rises : (F : Family) (x : ℕ) (v : ℤ) → ((y : ℕ) → IsRising (set_of F y)) → (y : ℕ) → IsRising (set_of (only F x v) y)
only_rises F x v r y = elim (same_place y x) [
  | inl e ↦ elim (is_at_least (length F) x) [
    | inl q ↦ rw (set_of-past (only F x v) y (omega (arith, length-only F x v, e))) tt
    | inr q ↦ subst (λ z. IsRising (set_of (only F x v) z)) (sym e) (subst (λ vs. IsRising vs) (sym (only_here F x v q)) (single_rises v))
  ]
  | inr n ↦ subst (λ vs. IsRising vs) (sym (only_there F x y v n)) (r y)
]

pub only_is_family : (F : Family) (x : ℕ) (v : ℤ) → IsFamily F → IsFamily (only F x v)
only_is_family F x v f = record { full = only_full F x v f.full; rising = only_rises F x v f.rising }

-- ---- hulls

pub hull_of_rising : (xs : List ℤ) (l h : ℤ) → IsLeast xs l → IsGreatest xs h → hull_of xs ≡ record { low = l; high = h }
unfolding hull_of
hull_of_rising [] l h p q = let e = p.among in cc
hull_of_rising (v ∷ xs) l h p q =
    rw (
      between_is (least_of v xs) l (least_is v xs l p.among) (p.least (least_of v xs) (least_member v xs)),
      between_is (greatest_of v xs) h (q.most (greatest_of v xs) (greatest_member v xs)) (greatest_is v xs h q.among),
    ) refl

pub hull_made : (F : Family) (x : ℕ) (l h : ℤ) → IsLeast (set_of F x) l → IsGreatest (set_of F x) h → hull F x ≡ record { low = l; high = h }
unfolding hull
hull_made F x l h p q = hull_of_rising (set_of F x) l h p q

-- ---- ranks

pub same_default : (xs : List ℤ) (k : ℕ) (d e : ℤ) → k < length xs → get_or xs k d ≡ get_or xs k e
same_default [] k d e h = absurd (omega arith)
same_default (v ∷ xs) zero d e h = refl
same_default (v ∷ xs) (suc k) d e h = same_default xs k d e (omega arith)

le_test : (v w : ℤ) → v ≤ℤ w → int_le v w ≡ true
le_test v w h = grind (arith, ints)

le_tested : (v w : ℤ) → int_le v w ≡ true → v ≤ℤ w
le_tested v w h = grind (arith, ints)

pub parted : (xs : List ℤ) (v : ℤ) → IsRising xs → IsPartitionedBy (λ w. int_le w v) xs
parted xs v r i j d h k t =
    let low = same_default xs i d (pos 0) (omega arith) in
    let high = same_default xs j d (pos 0) k in
    le_test (get_or xs i d) v (omega (arith, ints, low, high, rises_to xs i j r h k, le_tested (get_or xs j d) v t))

pub rank_at : (xs : List ℤ) (v : ℤ) (n : ℕ) → n ≤ length xs → IsPartitionPoint (λ w. int_le w v ≡ true) (λ w. int_le w v ≡ false) xs n → IsRank xs v n
rank_at xs v n b p = record {
  bound = b;
  before = λ k h. le_tested (get_or xs k (pos 0)) v (p.0 k (pos 0) (omega arith) h);
  behind = λ k h i. let e = p.1 k (pos 0) h i in grind (arith, ints);
}

-- the numbers before low are at most v, those from high on are above it
pub record IsBracket (xs : List ℤ) (v : ℤ) (low high : ℕ) : Type 0 where
  pub ordered : low ≤ high
  pub bound : high ≤ length xs
  pub before : (k : ℕ) → k < low → get_or xs k (pos 0) ≤ℤ v
  pub behind : (k : ℕ) → high ≤ k → k < length xs → v <ℤ get_or xs k (pos 0)

pub bracket_whole : (xs : List ℤ) (v : ℤ) → IsBracket xs v 0 (length xs)
bracket_whole xs v = record { ordered = omega arith; bound = omega arith; before = λ k h. absurd (omega arith); behind = λ k h i. absurd (omega arith) }

pub bracket_up : {xs : List ℤ} {v : ℤ} {low high : ℕ} (middle : ℕ) → IsRising xs → IsBracket xs v low high → middle < high → get_or xs middle (pos 0) ≤ℤ v → IsBracket xs v (middle + 1) high
bracket_up {xs} middle r b h e = record {
  ordered = omega arith;
  bound = b.bound;
  before = λ k i. omega (arith, ints, rises_to xs k middle r (omega arith) (omega (arith, b.bound)));
  behind = b.behind;
}

pub bracket_down : {xs : List ℤ} {v : ℤ} {low high : ℕ} (middle : ℕ) → IsRising xs → IsBracket xs v low high → low ≤ middle → middle < high → v <ℤ get_or xs middle (pos 0) → IsBracket xs v low middle
bracket_down {xs} middle r b l h e = record {
  ordered = l;
  bound = omega (arith, b.bound);
  before = b.before;
  behind = λ k i j. omega (arith, ints, rises_to xs middle k r i j);
}

pub bracket_closed : {xs : List ℤ} {v : ℤ} {low high : ℕ} → IsBracket xs v low high → high ≤ low → IsRank xs v low
bracket_closed b h = record { bound = omega (arith, b.bound, b.ordered); before = b.before; behind = λ k i j. b.behind k (omega (arith, b.ordered)) j }

pub not_le : (x v : ℤ) → int_le x v ≡ false → v <ℤ x
not_le x v e = grind (arith, ints)

pub is_le : (x v : ℤ) → int_le x v ≡ true → x ≤ℤ v
is_le x v e = grind (arith, ints)

-- ---- the invariant of a set

some_count : (z : ℤ) → pos 0 <ℤ z → 0 < count_from z
some_count (pos n) h = omega (arith, ints)
some_count (negsuc n) h = absurd (omega (arith, ints))

size_some : (l h : ℤ) → l ≤ℤ h → 0 < span_size (record { low = l; high = h })
size_some l h o = some_count (h +ℤ pos 1 +ℤ neg_ℤ l) (omega (arith, ints))

filter_shorter : (p : ℤ → Bool) (xs : List ℤ) → length (filter p xs) ≤ length xs
filter_shorter p [] = omega arith
filter_shorter p (v ∷ xs) = elim (p v) as (λ b. length (cond b (v ∷ filter p xs) (filter p xs)) ≤ length (v ∷ xs)) [
  | true ↦ omega (arith, filter_shorter p xs)
  | false ↦ omega (arith, filter_shorter p xs)
]

pub ints_domain : (l h : ℤ) → l ≤ℤ h → span_size (record { low = l; high = h }) ≤ most_values → IsDomain (values (record { low = l; high = h }))
unfolding values
ints_domain l h o f =
    let n = span_size (record { low = l; high = h }) in
    record { rising = ints_rise l n; some = omega (arith, length-ints l n, size_some l h o); few = omega (arith, length-ints l n) }

pub cut_domain : (lo hi : ℤ) (xs : List ℤ) → IsDomain xs → (v : ℤ) → member v (outside lo hi xs) ≡ true → IsDomain (outside lo hi xs)
cut_domain lo hi xs d v m = record {
  rising = filter_rises (is_outside lo hi) xs d.rising;
  some = let p = place_of (outside lo hi xs) v m in omega (arith, p.1);
  few = omega (arith, d.few, filter_shorter (is_outside lo hi) xs);
}

-- how far a row of numbers goes
pub size_is : (l h : ℤ) → l ≤ℤ h → pos (span_size (record { low = l; high = h })) ≡ h +ℤ pos 1 +ℤ neg_ℤ l
size_is l h o = count_is (h +ℤ pos 1 +ℤ neg_ℤ l) (omega (arith, ints))

-- the two cases of a family in which one variable has a single value
pub within_only : (F : Family) (x y : ℕ) (v : ℤ) → x < length (only F y v) → x < length F
within_only F x y v h = omega (arith, length-only F y v)

pub only_at_here : (F : Family) (x y : ℕ) (v : ℤ) → x < length (only F y v) → x ≡ y → set_of (only F y v) x ≡ v ∷ []
only_at_here F x y v h e = subst (λ z. set_of (only F y v) z ≡ v ∷ []) (sym e) (only_here F y v (omega (arith, length-only F y v)))

-- a fact on the set of a variable, as the code answers it by a number that passes a call
pub told_here : (P : List ℤ → ℤ → Type 0) (F : Family) (x y : ℕ) (v : ℤ) → FitsSigned w64 v → x < length (only F y v) → x ≡ y → P (v ∷ []) v → P (set_of (only F y v) x) (to_z w64 (of_z w64 v))
told_here P F x y v fits h e p = rw (only_at_here F x y v h e, to_z-of_z w64 v fits) p

pub told_there : (P : List ℤ → ℤ → Type 0) (F : Family) (x y : ℕ) (v r : ℤ) → FitsSigned w64 r → x ≢ y → P (set_of F x) r → P (set_of (only F y v) x) (to_z w64 (of_z w64 r))
told_there P F x y v r fits n p = rw (only_there F y x v n, to_z-of_z w64 r fits) p

pub row_more : (l : ℤ) (n : ℕ) (xs ys : List ℤ) (v : ℤ) → xs ≡ ints_from l n → v ≡ l +ℤ pos n → ys ≡ xs ++ v ∷ [] → ys ≡ ints_from l (n + 1)
row_more l n xs ys v p q e = let m = ints_more l n in cc
