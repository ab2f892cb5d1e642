-- What sorting values beside their places gives.
use Rattle.std.proofs.Common.{◌≡◌, ℕ, zero, suc, ◌+◌, ◌<◌, false, List, [], ◌∷◌, ◌++◌, map, length, get_or, add-one, refl, sym, ap, subst, ◌∙◌, arith, true≢false}
use Rattle.std.specs.Borrow.{Bor}
use Rattle.std.specs.List.{All, slice_index}
use Rattle.std.specs.List.Sorted.{IsPermutation, IsSorted}
use Rattle.std.specs.Cmp.{IsTotalOrder}
use Rattle.std.specs.Ordering.{nat_cmp, ordering_then, ordering_reverse, is_lt, is_gt}
use Rattle.std.specs.declared.cmp.Ordering.{Ordering}
use Rattle.std.specs.declared.cmp.Ordering.TheVariants.{Less, Equal, Greater}
use Rattle.std.proofs.lemmas.Cmp.{then_total, on_total, nat_cmp_total}
use Rattle.std.proofs.lemmas.List.{get_or-map, length-map, map-append}
use Rattle.std.proofs.lemmas.List.Elements.{All-nil, All-push, Contains-append_left, Contains-push}
use Rattle.std.proofs.lemmas.List.Sorted.{All-permutation, Contains-permutation, IsPermutation-map, ranks_by, sorted_far}
use Rattle.opl_value.specs.declared.value.Value.{Value}
use Rattle.opl_value.specs.Order.{value_cmp}
use Rattle.opl_value.specs.Total.{value_total}
use Rattle.opl_value.specs.Places.{value_at, AreDifferent, AreRising}
use Rattle.opl_value.specs.Ranked.{IsPaired, ArePaired, numbers_below}
use Rattle.opl_value.specs.Rising.{rising_of}
use Rattle.opl_value.proofs.Rising.{count, count-IsPermutation, count-numbers_below, stand_once, rising_places_are_one}
use Rattle.opl_value.proofs.Search.{by_size, stands_among}

abbrev Pair : Type 0
Pair = Bor Value × ℕ

-- how pairs are ordered
abbrev pub pair_cmp : Pair → Pair → Ordering
pair_cmp p q = ordering_then (value_cmp p.0.now q.0.now) (nat_cmp p.1 q.1)

pair_total : IsTotalOrder pair_cmp
pair_total = then_total (on_total (λ p. p.0.now) value_total) (on_total (λ p. p.1) nat_cmp_total)

-- no pairs yet
pub pairs_none : (values : List Value) → ArePaired values 0 []
pairs_none values = record { all = All-nil (IsPaired values); each = λ j h. absurd (omega arith); ordered = refl }

-- one more pair
pub pairs_more : (values : List Value) (i : ℕ) (ps : List Pair) (q : Pair) → i < length values → q.1 ≡ i → q.0.now ≡ value_at values i → ArePaired values i ps → ArePaired values (i + 1) (ps ++ q ∷ [])
pairs_more values i ps q l place value pairs = record {
  all = All-push (IsPaired values) ps q pairs.all (subst (λ k. k < length values) (sym place) l, value ∙ ap (value_at values) (sym place));
  each = λ j h. by_size j i
      (λ b. let old = pairs.each j b in (old.0, Contains-append_left ps (q ∷ []) old.0 old.1, old.2))
      (λ s. (q, Contains-push ps q, place ∙ sym s))
      (λ b. absurd (omega arith));
  ordered = map-append (λ p. p.1) ps (q ∷ []) ∙ (λ k. pairs.ordered k ++ place k ∷ []) ∙ rw add-one refl;
}

-- an element of a list that has that many
nth : {X : Type 0} (xs : List X) (k : ℕ) → k < length xs → X
nth [] k l = absurd (omega arith)
nth (x ∷ xs) zero l = x
nth (x ∷ xs) (suc k) l = nth xs k (omega arith)

not_behind : (a b : Value) (o : Ordering) → is_lt (ordering_then (value_cmp b a) o) ≡ false → is_gt (value_cmp a b) ≡ false
not_behind a b o h = by (value_cmp b a) refl h
  where
    by : (r : Ordering) → value_cmp b a ≡ r → is_lt (ordering_then r o) ≡ false → is_gt (value_cmp a b) ≡ false
    by Less e g = absurd (true≢false g)
    by Equal e g = ap is_gt (value_total.antisymm a b ∙ ap ordering_reverse e)
    by Greater e g = ap is_gt (value_total.antisymm a b ∙ ap ordering_reverse e)

module _ (values : List Value) (ps qs : List Pair) (different : AreDifferent values) (pairs : ArePaired values (length values) ps) (moved : IsPermutation ps qs) (sorted : IsSorted pair_cmp qs) where
  abbrev places : List ℕ
  places = map (λ p. p.1) qs

  among : {k : ℕ} → k < length places → k < length qs
  among {k} l = subst (λ n. k < n) (length-map qs (λ p. p.1)) l

  paired : All (IsPaired values) qs
  paired = All-permutation (IsPaired values) ps qs moved pairs.all

  place_is : (k : ℕ) (d : Pair) → k < length qs → slice_index places k ≡ (get_or qs k d).1
  place_is k d l = get_or-map (λ p. p.1) qs k d 0 l

  value_is : (k : ℕ) (d : Pair) (l : k < length qs) → value_at values (slice_index places k) ≡ (get_or qs k d).0.now
  value_is k d l = ap (value_at values) (place_is k d l) ∙ sym (paired k d l).1

  rises : (j k : ℕ) → j < k → k < length qs → is_gt (value_cmp (value_at values (slice_index places j)) (value_at values (slice_index places k))) ≡ false
  rises j k h l =
      let d = nth qs k l in
      let jl : j < length qs = omega arith in
      let far = sorted_far (λ x y. is_lt (pair_cmp x y)) (ranks_by pair_total (λ p. p)) qs sorted j k d (omega arith) l in
      let p = not_behind (get_or qs j d).0.now (get_or qs k d).0.now (nat_cmp (get_or qs k d).1 (get_or qs j d).1) far in
      (λ i. is_gt (value_cmp (value_is j d jl i) (value_is k d l i))) ∙ p

  pub sorted_are_rising : AreRising values places
  sorted_are_rising = record {
    different = different;
    within = λ k l. let d = nth qs k (among l) in subst (λ n. n < length values) (sym (place_is k d (among l))) (paired k d (among l)).0;
    each = λ j l.
        let p = pairs.each j l in
        let q = Contains-permutation ps qs p.0 moved p.1 in
        stands_among j places q.0 (subst (λ n. q.0 < n) (sym (length-map qs (λ p. p.1))) q.1) (place_is q.0 p.0 q.1 ∙ ap (λ x. x.1) q.2 ∙ p.2);
    rise = λ j k h l. rises j k h (among l);
  }

  -- the places of sorted pairs are the places in the rising order of the values
  pub sorted_are_all : places ≡ rising_of values
  sorted_are_all = rising_places_are_one values places sorted_are_rising (stand_once places (λ n.
      let moves = IsPermutation-map (λ p. p.1) ps qs moved in
      let same : count n places ≡ count n (numbers_below (length values)) = count-IsPermutation n (map (λ p. p.1) ps) places moves ∙ ap (count n) pairs.ordered in
      omega (arith, count-numbers_below n (length values))))
