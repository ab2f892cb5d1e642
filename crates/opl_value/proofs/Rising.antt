-- The places of different values rise in one way.
use Rattle.std.proofs.Common.{◌≡◌, ◌⊎◌, inl, inr, ◌==◌, ◌||◌, Bool, true, false, true≢false, cond, ℕ, zero, suc, ◌+◌, ◌<◌, ◌≤◌, List, [], ◌∷◌, ◌++◌, length, eq-eqb, refl, sym, ap, subst, ◌∙◌, arith}
use Rattle.std.specs.List.{count_by, list_any, slice_index}
use Rattle.std.specs.List.Sorted.{IsPermutation}
use Rattle.std.specs.Ordering.{ordering_reverse, is_lt, is_gt}
use Rattle.std.specs.declared.cmp.Ordering.{Ordering}
use Rattle.std.specs.declared.cmp.Ordering.TheVariants.{Less, Equal, Greater}
use Rattle.std.proofs.lemmas.List.Sorted.{sum_by-IsPermutation}
use Rattle.std.proofs.lemmas.List.Sums.{sum_by-cons, sum_by_push}
use Rattle.opl_value.specs.declared.value.Value.{Value}
use Rattle.opl_value.specs.declared.value.Dimension.TheVariants.{outs-Whole, outs-Listed}
use Rattle.opl_value.specs.Order.{value_cmp}
use Rattle.opl_value.specs.Total.{value_total, value_tied}
use Rattle.opl_value.specs.Laws.{RisingPlacesAreOne, DifferentValuesRise, RisingPlacesStandOnce, ListedHasItsValues, ListedIsSorted, WholeIsSorted}
use Rattle.opl_value.specs.Places.{value_at, AreDifferent, sorted_layer}
use Rattle.opl_value.specs.Ranked.{numbers_below}
use Rattle.opl_value.specs.Rising.{is_below, insert_place, rising_below, rising_of, listed_dimension, StandOnce}
use Rattle.opl_value.proofs.Places.{values-Whole, values-Listed}
use Rattle.opl_value.proofs.Search.{by_size, same_number}

-- ---- lists of numbers that rise by a test

-- a number stands in a list
abbrev Stands : ℕ → List ℕ → Type 0
Stands n [] = ⊥
Stands n (m ∷ ms) = (n ≡ m) ⊎ Stands n ms

-- each number of a list comes behind this one
abbrev Above : (ℕ → ℕ → Bool) → ℕ → List ℕ → Type 0
Above below p ps = (x : ℕ) → Stands x ps → below p x ≡ true

-- each number comes before all behind it
abbrev Climbs : (ℕ → ℕ → Bool) → List ℕ → Type 0
Climbs below [] = Unit {0}
Climbs below (p ∷ ps) = Above below p ps × Climbs below ps

-- no two numbers come before each other
abbrev Parts : (ℕ → ℕ → Bool) → Type 0
Parts below = (p q : ℕ) → below p q ≡ true → below q p ≡ true → ⊥

same_first : (below : ℕ → ℕ → Bool) → Parts below → (p q : ℕ) (ps qs : List ℕ) → Above below p ps → Above below q qs → (p ≡ q) ⊎ Stands p qs → (q ≡ p) ⊎ Stands q ps → p ≡ q
same_first below parts p q ps qs a b (inl e) t = e
same_first below parts p q ps qs a b (inr s) (inl e) = sym e
same_first below parts p q ps qs a b (inr s) (inr t) = absurd (parts p q (a q t) (b p s))

-- what comes behind the first number of a list is not the first of the other
behind : (below : ℕ → ℕ → Bool) → Parts below → (p q : ℕ) (ps qs : List ℕ) → q ≡ p → Above below p ps → (x : ℕ) → Stands x ps → (x ≡ q) ⊎ Stands x qs → Stands x qs
behind below parts p q ps qs e a x s (inl f) =
    let twice : below p p ≡ true = subst (λ y. below p y ≡ true) (f ∙ e) (a x s) in
    absurd (parts p p twice twice)
behind below parts p q ps qs e a x s (inr t) = t

-- lists that climb and have the same numbers are the same
one_list : (below : ℕ → ℕ → Bool) → Parts below → (ps qs : List ℕ) → Climbs below ps → Climbs below qs → ((x : ℕ) → Stands x ps → Stands x qs) → ((x : ℕ) → Stands x qs → Stands x ps) → ps ≡ qs
one_list below parts [] [] c d to from = refl
one_list below parts [] (q ∷ qs) c d to from = absurd (from q (inl refl))
one_list below parts (p ∷ ps) [] c d to from = absurd (to p (inl refl))
one_list below parts (p ∷ ps) (q ∷ qs) c d to from =
    let first : p ≡ q = same_first below parts p q ps qs c.0 d.0 (to p (inl refl)) (from q (inl refl)) in
    let others : ps ≡ qs = one_list below parts ps qs c.1 d.1
    (λ x s. behind below parts p q ps qs (sym first) c.0 x s (to x (inr s)))
    (λ x s. behind below parts q p qs ps first d.0 x s (from x (inr s))) in
    λ i. first i ∷ others i

-- ---- members by place, by test and by number

stands_at : (ns : List ℕ) (k : ℕ) → k < length ns → Stands (slice_index ns k) ns
stands_at [] k l = absurd (omega arith)
stands_at (n ∷ ns) zero l = inl refl
stands_at (n ∷ ns) (suc k) l = inr (stands_at ns k (omega arith))

place_at : (n : ℕ) (ns : List ℕ) → Stands n ns → (k : ℕ) × (k < length ns) × (slice_index ns k ≡ n)
place_at n [] s = absurd s
place_at n (m ∷ ms) (inl e) = (0, omega arith, sym e)
place_at n (m ∷ ms) (inr s) = let at = place_at n ms s in (suc at.0, omega (arith, at.1), at.2)

found : (n : ℕ) (ns : List ℕ) → Stands n ns → list_any (λ k. k == n) ns ≡ true
found n [] s = absurd s
found n (m ∷ ms) (inl e) = ap (λ b. b || list_any (λ k. k == n) ms) (eq-eqb m n (sym e))
found n (m ∷ ms) (inr s) = by (m == n) (found n ms s)
  where
    by : (b : Bool) → list_any (λ k. k == n) ms ≡ true → b || list_any (λ k. k == n) ms ≡ true
    by true h = refl
    by false h = h

stands_found : (n : ℕ) (ns : List ℕ) → list_any (λ k. k == n) ns ≡ true → Stands n ns
stands_found n [] h = absurd (true≢false (sym h))
stands_found n (m ∷ ms) h = by (m == n) refl (stands_found n ms) h
  where
    by : (b : Bool) → (m == n) ≡ b → (list_any (λ k. k == n) ms ≡ true → Stands n ms) → b || list_any (λ k. k == n) ms ≡ true → (n ≡ m) ⊎ Stands n ms
    by true e others g = inl (sym (same_number m n e))
    by false e others g = inr (others g)

-- how often a number stands in a list
pub count : ℕ → List ℕ → ℕ
count n ns = count_by (λ m. m == n) ns

count-cons : (n m : ℕ) (ns : List ℕ) → count n (m ∷ ns) ≡ cond (m == n) 1 0 + count n ns
unfolding count
count-cons n m ns = sum_by-cons (λ k. cond (k == n) 1 0) m ns

count-first : (n : ℕ) (ns : List ℕ) → count n (n ∷ ns) ≡ 1 + count n ns
count-first n ns = count-cons n n ns ∙ ap (λ b. cond b 1 0 + count n ns) (eq-eqb n n refl)

counted : (n : ℕ) (ns : List ℕ) → Stands n ns → 1 ≤ count n ns
counted n [] s = absurd s
counted n (m ∷ ms) (inl e) = subst (λ k. 1 ≤ count n (k ∷ ms)) e (omega (arith, count-first n ms))
counted n (m ∷ ms) (inr s) = omega (arith, counted n ms s, count-cons n m ms)

uncounted : (n : ℕ) (ns : List ℕ) → (Stands n ns → ⊥) → count n ns ≡ 0
unfolding count
uncounted n [] none = refl
uncounted n (m ∷ ms) none = count-cons n m ms ∙ by (m == n) refl (uncounted n ms (λ s. none (inr s)))
  where
    by : (b : Bool) → (m == n) ≡ b → count n ms ≡ 0 → cond b 1 0 + count n ms ≡ 0
    by true e h = absurd (none (inl (sym (same_number m n e))))
    by false e h = omega arith

pub count-IsPermutation : (n : ℕ) (ps qs : List ℕ) → IsPermutation ps qs → count n qs ≡ count n ps
unfolding count
count-IsPermutation n ps qs moved = sum_by-IsPermutation (λ k. cond (k == n) 1 0) ps qs moved

count-push : (n m : ℕ) (ns : List ℕ) → count n (ns ++ m ∷ []) ≡ count n ns + cond (m == n) 1 0
unfolding count
count-push n m ns = sum_by_push (λ k. cond (k == n) 1 0) ns m

pub count-numbers_below : (n k : ℕ) → (count n (numbers_below k) ≤ 1) × (k ≤ n → count n (numbers_below k) ≡ 0)
count-numbers_below n zero = let none = uncounted n [] (λ s. s) in (omega arith, λ l. none)
count-numbers_below n (suc k) = by (k == n) refl (count-numbers_below n k) (count-push n k (numbers_below k))
  where
    by : (b : Bool) → (k == n) ≡ b → (count n (numbers_below k) ≤ 1) × (k ≤ n → count n (numbers_below k) ≡ 0) → count n (numbers_below k ++ k ∷ []) ≡ count n (numbers_below k) + cond (k == n) 1 0
        → (count n (numbers_below k ++ k ∷ []) ≤ 1) × (suc k ≤ n → count n (numbers_below k ++ k ∷ []) ≡ 0)
    by true e old more =
        let same : k ≡ n = same_number k n e in
        let none = old.1 (omega arith) in
        let one : count n (numbers_below k ++ k ∷ []) ≡ count n (numbers_below k) + 1 = more ∙ ap (λ b. count n (numbers_below k) + cond b 1 0) e in
        (omega arith, λ l. absurd (omega arith))
    by false e old more =
        let one : count n (numbers_below k ++ k ∷ []) ≡ count n (numbers_below k) + 0 = more ∙ ap (λ b. count n (numbers_below k) + cond b 1 0) e in
        (omega (arith, old.0), λ l. let none = old.1 (omega arith) in omega arith)

-- no number stands twice
abbrev pub Once : List ℕ → Type 0
Once ns = (n : ℕ) → count n ns ≤ 1

pub stand_once : (ns : List ℕ) → Once ns → StandOnce ns
unfolding count
stand_once ns once = once

counted_once : (ns : List ℕ) → StandOnce ns → Once ns
unfolding count
counted_once ns once = once

once_first : (n : ℕ) (ns : List ℕ) → Once (n ∷ ns) → Stands n ns → ⊥
once_first n ns once s = let one : count n (n ∷ ns) ≤ 1 = once n in absurd (omega (arith, counted n ns s, count-first n ns))

once_rest : (n : ℕ) (ns : List ℕ) → Once (n ∷ ns) → Once ns
once_rest n ns once k = omega (arith, once k, count-cons k n ns)

once_climbs : (below : ℕ → ℕ → Bool) → Parts below → (ps : List ℕ) → Climbs below ps → Once ps
once_climbs below parts [] c n = omega (arith, uncounted n [] (λ s. s))
once_climbs below parts (p ∷ ps) c n = subst (λ k. k ≤ 1) (sym (count-cons n p ps)) (by (p == n) refl (once_climbs below parts ps c.1 n))
  where
    by : (b : Bool) → (p == n) ≡ b → count n ps ≤ 1 → cond b 1 0 + count n ps ≤ 1
    by true e h =
        let same : n ≡ p = sym (same_number p n e) in
        omega (arith, uncounted n ps (λ s. let twice : below p p ≡ true = subst (λ y. below p y ≡ true) same (c.0 n s) in parts p p twice twice))
    by false e h = omega arith

-- ---- the order of places by their values

less : (o : Ordering) → is_lt o ≡ true → o ≡ Less
less Less h = refl
less Equal h = absurd (true≢false (sym h))
less Greater h = absurd (true≢false (sym h))

module _ (values : List Value) where
  abbrev at : ℕ → Value
  at p = value_at values p

  carried : (p q x : ℕ) → is_below values p q ≡ true → is_below values q x ≡ true → is_below values p x ≡ true
  carried p q x e f = ap is_lt (value_total.trans (at p) (at q) (at x) (less (value_cmp (at p) (at q)) e) (less (value_cmp (at q) (at x)) f))

  parted : Parts (is_below values)
  parted p q e f =
      let pq = less (value_cmp (at p) (at q)) e in
      let qp = less (value_cmp (at q) (at p)) f in
      let z : Less ≡ Greater = sym pq ∙ value_total.antisymm (at p) (at q) ∙ ap ordering_reverse qp in
      cc

  not_behind : (p q : ℕ) → is_below values p q ≡ true → is_gt (value_cmp (at p) (at q)) ≡ false
  not_behind p q e = ap is_gt (less (value_cmp (at p) (at q)) e)

  module _ (different : AreDifferent values) where
    -- of two places one comes first
    joined : (p q : ℕ) → p < length values → q < length values → (p ≡ q → ⊥) → is_gt (value_cmp (at p) (at q)) ≡ false → is_below values p q ≡ true
    joined p q pl ql apart h = by (value_cmp (at p) (at q)) refl h
      where
        by : (o : Ordering) → value_cmp (at p) (at q) ≡ o → is_gt o ≡ false → is_below values p q ≡ true
        by Less e g = ap is_lt e
        by Equal e g = absurd (apart (different p q pl ql (value_tied (at p) (at q) e)))
        by Greater e g = absurd (true≢false g)

    turned : (p q : ℕ) → p < length values → q < length values → (p ≡ q → ⊥) → is_below values p q ≡ false → is_below values q p ≡ true
    turned p q pl ql apart h = joined q p ql pl (λ e. apart (sym e)) (by (value_cmp (at p) (at q)) refl h)
      where
        by : (o : Ordering) → value_cmp (at p) (at q) ≡ o → is_lt o ≡ false → is_gt (value_cmp (at q) (at p)) ≡ false
        by Less e g = absurd (true≢false g)
        by Equal e g = ap is_gt (value_total.antisymm (at q) (at p) ∙ ap ordering_reverse e)
        by Greater e g = ap is_gt (value_total.antisymm (at q) (at p) ∙ ap ordering_reverse e)

    -- different values, none of which comes before one that stands earlier
    climbs_ranked : (ps : List ℕ) → ((x : ℕ) → Stands x ps → x < length values) → ((j k : ℕ) → j < k → k < length ps → is_gt (value_cmp (at (slice_index ps j)) (at (slice_index ps k))) ≡ false) → Once ps → Climbs (is_below values) ps
    climbs_ranked [] within rise once = tt
    climbs_ranked (p ∷ ps) within rise once = (
      (λ x s.
          let k = place_at x ps s in
          joined p x (within p (inl refl)) (within x (inr s)) (λ e. once_first p ps once (subst (λ y. Stands y ps) (sym e) s))
          (subst (λ y. is_gt (value_cmp (at p) (at y)) ≡ false) k.2 (rise zero (suc k.0) (omega arith) (omega (arith, k.1))))),
      climbs_ranked ps (λ x s. within x (inr s)) (λ j k h l. rise (suc j) (suc k) (omega arith) (omega arith)) (once_rest p ps once),
    )

-- ---- the place that is put among others

put_from : (values : List Value) (p : ℕ) (qs : List ℕ) (x : ℕ) → Stands x (insert_place values p qs) → (x ≡ p) ⊎ Stands x qs
put_from values p [] x s = s
put_from values p (q ∷ qs) x s = by (is_below values p q) (put_from values p qs x) s
  where
    among : (x ≡ p) ⊎ Stands x qs → (x ≡ p) ⊎ ((x ≡ q) ⊎ Stands x qs)
    among (inl e) = inl e
    among (inr t) = inr (inr t)

    by : (b : Bool) → (Stands x (insert_place values p qs) → (x ≡ p) ⊎ Stands x qs) → Stands x (cond b (p ∷ q ∷ qs) (q ∷ insert_place values p qs)) → (x ≡ p) ⊎ ((x ≡ q) ⊎ Stands x qs)
    by true others t = t
    by false others (inl e) = inr (inl e)
    by false others (inr t) = among (others t)

put_to : (values : List Value) (p : ℕ) (qs : List ℕ) (x : ℕ) → (x ≡ p) ⊎ Stands x qs → Stands x (insert_place values p qs)
put_to values p [] x s = s
put_to values p (q ∷ qs) x s = by (is_below values p q) (put_to values p qs x) s
  where
    by : (b : Bool) → ((x ≡ p) ⊎ Stands x qs → Stands x (insert_place values p qs)) → (x ≡ p) ⊎ ((x ≡ q) ⊎ Stands x qs) → Stands x (cond b (p ∷ q ∷ qs) (q ∷ insert_place values p qs))
    by true others t = t
    by false others (inl e) = inr (others (inl e))
    by false others (inr (inl e)) = inl e
    by false others (inr (inr t)) = inr (others (inr t))

above_put : (values : List Value) (p q : ℕ) (qs : List ℕ) → is_below values p q ≡ true → Above (is_below values) q qs → (x : ℕ) → (x ≡ q) ⊎ Stands x qs → is_below values p x ≡ true
above_put values p q qs e a x (inl f) = subst (λ y. is_below values p y ≡ true) (sym f) e
above_put values p q qs e a x (inr t) = carried values p q x e (a x t)

above_rest : (values : List Value) (p q : ℕ) (qs : List ℕ) → is_below values q p ≡ true → Above (is_below values) q qs → (x : ℕ) → (x ≡ p) ⊎ Stands x qs → is_below values q x ≡ true
above_rest values p q qs e a x (inl f) = subst (λ y. is_below values q y ≡ true) (sym f) e
above_rest values p q qs e a x (inr t) = a x t

climbs_put : (values : List Value) (p : ℕ) (qs : List ℕ) → ((x : ℕ) → Stands x qs → is_below values p x ≡ false → is_below values x p ≡ true) → Climbs (is_below values) qs → Climbs (is_below values) (insert_place values p qs)
climbs_put values p [] other c = (λ x s. absurd s, tt)
climbs_put values p (q ∷ qs) other c = by (is_below values p q) refl (climbs_put values p qs (λ x s. other x (inr s)) c.1)
  where
    by : (b : Bool) → is_below values p q ≡ b → Climbs (is_below values) (insert_place values p qs) → Climbs (is_below values) (cond b (p ∷ q ∷ qs) (q ∷ insert_place values p qs))
    by true e rest = (above_put values p q qs e c.0, c)
    by false e rest = (λ x s. above_rest values p q qs (other q (inl refl) e) c.0 x (put_from values p qs x s), rest)

-- ---- the places below a number

within_below : (values : List Value) (n x : ℕ) → Stands x (rising_below values n) → x < n
unfolding rising_below
within_below values zero x s = absurd s
within_below values (suc n) x s = by (within_below values n x) (put_from values n (rising_below values n) x s)
  where
    by : (Stands x (rising_below values n) → x < n) → (x ≡ n) ⊎ Stands x (rising_below values n) → x < suc n
    by others (inl e) = omega arith
    by others (inr t) = omega (arith, others t)

each_below : (values : List Value) (n x : ℕ) → x < n → Stands x (rising_below values n)
unfolding rising_below
each_below values zero x l = absurd (omega arith)
each_below values (suc n) x l = put_to values n (rising_below values n) x
    (by_size x n (λ h. inr (each_below values n x h)) (λ e. inl e) (λ h. absurd (omega arith)))

climbs_below : (values : List Value) → AreDifferent values → (n : ℕ) → n ≤ length values → Climbs (is_below values) (rising_below values n)
unfolding rising_below
climbs_below values different zero l = tt
climbs_below values different (suc n) l = climbs_put values n (rising_below values n)
    (λ x s f. let h : x < n = within_below values n x s in turned values different n x (omega arith) (omega arith) (λ e. absurd (omega arith)) f)
    (climbs_below values different n (omega arith))

climbs_of : (values : List Value) → AreDifferent values → Climbs (is_below values) (rising_of values)
unfolding rising_of
climbs_of values different = climbs_below values different (length values) (omega arith)

within_of : (values : List Value) (x : ℕ) → Stands x (rising_of values) → x < length values
unfolding rising_of
within_of values x s = within_below values (length values) x s

each_of : (values : List Value) (x : ℕ) → x < length values → Stands x (rising_of values)
unfolding rising_of
each_of values x l = each_below values (length values) x l

-- ---- the laws

rise_climbs : (values : List Value) (ps : List ℕ) → Climbs (is_below values) ps → (j k : ℕ) → j < k → k < length ps → is_below values (slice_index ps j) (slice_index ps k) ≡ true
rise_climbs values [] c j k h l = absurd (omega arith)
rise_climbs values (p ∷ ps) c j zero h l = absurd (omega arith)
rise_climbs values (p ∷ ps) c zero (suc k) h l = c.0 (slice_index ps k) (stands_at ps k (omega arith))
rise_climbs values (p ∷ ps) c (suc j) (suc k) h l = rise_climbs values ps c.1 j k (omega arith) (omega arith)

pub different_values_rise : DifferentValuesRise
different_values_rise values different = record {
  different = different;
  within = λ k l. within_of values (slice_index (rising_of values) k) (stands_at (rising_of values) k l);
  each = λ j l. found j (rising_of values) (each_of values j l);
  rise = λ j k h l. not_behind values (slice_index (rising_of values) j) (slice_index (rising_of values) k) (rise_climbs values (rising_of values) (climbs_of values different) j k h l);
}

pub rising_places_stand_once : RisingPlacesStandOnce
rising_places_stand_once values different = stand_once (rising_of values) (once_climbs (is_below values) (parted values) (rising_of values) (climbs_of values different))

pub rising_places_are_one : RisingPlacesAreOne
rising_places_are_one values rising r once =
    let within : (x : ℕ) → Stands x rising → x < length values = λ x s. let k = place_at x rising s in subst (λ y. y < length values) k.2 (r.within k.0 k.1) in
    one_list (is_below values) (parted values) rising (rising_of values)
    (climbs_ranked values r.different rising within r.rise (counted_once rising once)) (climbs_of values r.different)
    (λ x s. each_of values x (within x s))
    (λ x s. stands_found x rising (r.each x (within_of values x s)))

-- ---- dimensions

pub values-listed_dimension : ListedHasItsValues
unfolding listed_dimension
values-listed_dimension values = values-Listed values (rising_of values)

pub sorted-listed_dimension : ListedIsSorted
unfolding listed_dimension
sorted-listed_dimension values different = subst sorted_layer (sym (outs-Listed values (rising_of values))) (different_values_rise values different)

pub sorted-Whole : WholeIsSorted
sorted-Whole low high = subst sorted_layer (sym (outs-Whole low high)) tt

-- what listed values and whole numbers come to as dimensions
pub ruleset named = (values-listed_dimension, sorted-listed_dimension, values-Whole, sorted-Whole)
