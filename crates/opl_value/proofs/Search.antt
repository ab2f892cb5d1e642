-- The search by halves for a value, over the places in the rising order of the values.
use Rattle.std.proofs.Common.{◌≡◌, ◌==◌, ◌||◌, Bool, true, false, true≢false, ℕ, zero, suc, ◌+◌, ◌<◌, ◌≤◌, List, [], ◌∷◌, length, eq-eqb, None, Some, refl, sym, ap, ◌∙◌, arith}
use Rattle.std.specs.List.{list_any, slice_index}
use Rattle.std.specs.Ordering.{nat_cmp, ordering_reverse, is_gt}
use Rattle.std.specs.declared.cmp.Ordering.{Ordering}
use Rattle.std.specs.declared.cmp.Ordering.TheVariants.{Less, Equal, Greater}
use Rattle.std.proofs.lemmas.Bool.Decides.{nat_tests}
use Rattle.std.proofs.lemmas.Cmp.{tied_itself, ranked, by_ranked}
use Rattle.opl_value.specs.declared.value.Value.{Value}
use Rattle.opl_value.specs.Order.{value_cmp}
use Rattle.opl_value.specs.Total.{value_total, value_tied}
use Rattle.opl_value.specs.Places.{value_at, AreRising, place_in}
use Rattle.opl_value.proofs.Places.{place_in-found, place_in-missing}

pub by_size : {G : Type 0} (a b : ℕ) → (a < b → G) → (a ≡ b → G) → (b < a → G) → G
by_size {G} a b less same greater = by_ranked (a < b) (a ≡ b) (b < a) (nat_cmp a b) (ranked a b (nat_cmp a b) refl) (λ o h. less h) (λ o h. same h) (λ o h. greater h)

pub same_number : (m n : ℕ) → (m == n) ≡ true → m ≡ n
same_number m n e = grind (arith, nat_tests)

-- where a number stands among others
pub found_at : (j : ℕ) (ns : List ℕ) → list_any (λ k. k == j) ns ≡ true → (k : ℕ) × (k < length ns) × (slice_index ns k ≡ j)
found_at j [] h = absurd (true≢false (sym h))
found_at j (n ∷ ns) h = by (n == j) refl (found_at j ns)
  where
    by : (b : Bool) → (n == j) ≡ b → (list_any (λ k. k == j) ns ≡ true → (k : ℕ) × (k < length ns) × (slice_index ns k ≡ j)) → (k : ℕ) × (k < length (n ∷ ns)) × (slice_index (n ∷ ns) k ≡ j)
    by true e others = (0, omega arith, same_number n j e)
    by false e others = let p = others (sym (ap (λ b. b || list_any (λ k. k == j) ns) e) ∙ h) in (suc p.0, omega (arith, p.1), p.2)

pub stands_among : (j : ℕ) (ns : List ℕ) (k : ℕ) → k < length ns → slice_index ns k ≡ j → list_any (λ k. k == j) ns ≡ true
stands_among j [] k l e = absurd (omega arith)
stands_among j (n ∷ ns) zero l e = ap (λ b. b || list_any (λ k. k == j) ns) (eq-eqb n j e)
stands_among j (n ∷ ns) (suc k) l e = by (n == j) (stands_among j ns k (omega arith) e)
  where
    by : (b : Bool) → list_any (λ k. k == j) ns ≡ true → b || list_any (λ k. k == j) ns ≡ true
    by true h = refl
    by false h = h

-- what is not behind something comes before whatever that comes before, and so the other way round
below_less : (a m w : Value) → is_gt (value_cmp a m) ≡ false → value_cmp m w ≡ Less → value_cmp a w ≡ Less
below_less a m w h e = by (value_cmp a m) refl h
  where
    by : (o : Ordering) → value_cmp a m ≡ o → is_gt o ≡ false → value_cmp a w ≡ Less
    by Less p g = value_total.trans a m w p e
    by Equal p g = value_total.congr a m w p ∙ e
    by Greater p g = absurd (true≢false g)

above_greater : (m b w : Value) → is_gt (value_cmp m b) ≡ false → value_cmp m w ≡ Greater → value_cmp b w ≡ Greater
above_greater m b w h e = by (value_cmp m b) refl h
  where
    by : (o : Ordering) → value_cmp m b ≡ o → is_gt o ≡ false → value_cmp b w ≡ Greater
    by Less p g = value_total.antisymm b w ∙ ap ordering_reverse
        (value_total.trans w m b (value_total.antisymm w m ∙ ap ordering_reverse e) p)
    by Equal p g = sym (value_total.congr m b w p) ∙ e
    by Greater p g = absurd (true≢false g)

module _ (values : List Value) (rising : List ℕ) (r : AreRising values rising) where
  -- the value of the k-th place in rising order
  abbrev ranked_value : ℕ → Value
  ranked_value k = value_at values (slice_index rising k)

  module _ (wanted : Value) where
    -- how the k-th value in rising order stands to the one that is sought
    abbrev pub side : ℕ → Ordering
    side k = value_cmp (ranked_value k) wanted

    pub less_before : (middle : ℕ) → middle < length rising → side middle ≡ Less → (k : ℕ) → k < middle + 1 → side k ≡ Less
    less_before middle l e k h = by_size k middle
        (λ b. below_less (ranked_value k) (ranked_value middle) wanted (r.rise k middle b l) e)
        (λ s. ap side s ∙ e)
        (λ b. absurd (omega arith))

    pub greater_behind : (middle : ℕ) → side middle ≡ Greater → (k : ℕ) → middle ≤ k → k < length rising → side k ≡ Greater
    greater_behind middle e k h l = by_size middle k
        (λ b. above_greater (ranked_value middle) (ranked_value k) wanted (r.rise middle k b l) e)
        (λ s. ap side (sym s) ∙ e)
        (λ b. absurd (omega arith))

    pub here : (middle : ℕ) → middle < length rising → side middle ≡ Equal → place_in wanted values ≡ Some (slice_index rising middle)
    here middle l e = place_in-found wanted values r.different (slice_index rising middle) (r.within middle l) (value_tied (ranked_value middle) wanted e)

    pub nowhere : (low high : ℕ) → high ≤ low → ((k : ℕ) → k < low → side k ≡ Less) → ((k : ℕ) → high ≤ k → k < length rising → side k ≡ Greater) → place_in wanted values ≡ None
    nowhere low high h less greater = place_in-missing wanted values (λ p l e.
        let at = found_at p rising (r.each p l) in
        let same : side at.0 ≡ Equal = ap (λ q. value_cmp (value_at values q) wanted) at.2 ∙ ap (λ v. value_cmp v wanted) e ∙ tied_itself value_total wanted in
        by_size at.0 low
        (λ b. let s : Less ≡ Equal = sym (less at.0 b) ∙ same in cc)
        (λ b. let s : Greater ≡ Equal = sym (greater at.0 (omega arith) at.1) ∙ same in cc)
        (λ b. let s : Greater ≡ Equal = sym (greater at.0 (omega arith) at.1) ∙ same in cc))
