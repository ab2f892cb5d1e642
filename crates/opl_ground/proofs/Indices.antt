-- The indices of a table differ where the values of its dimensions do.
use Rattle.std.proofs.Common.{◌≡◌, ℕ, zero, suc, ◌<◌, ℤ, pos, Bool, true, false, cond, not, ◌&&◌, ◌||◌, length, List, [], ◌∷◌, map, refl, sym, subst, ◌∙◌, arith}
use Rattle.std.specs.Ordering.{int_eq}
use Rattle.std.specs.List.{list_all, list_any}
use Rattle.std.proofs.lemmas.Int.{ints}
use Rattle.std.proofs.lemmas.Bool.{and_parts}
use Rattle.std.proofs.lemmas.Bool.Decides.{Decides-int_eq}
use Rattle.opl_domain.specs.Family.{member}
use Rattle.opl_value.specs.declared.value.Value.{Value}
use Rattle.opl_value.specs.declared.value.Dimension.TheViews.{out-Value}
use Rattle.opl_value.specs.Laws.{AllDiffer}
use Rattle.opl_value.specs.Order.{value_eq}
use Rattle.opl_value.specs.Places.{AreDifferent, value_at}
use Rattle.opl_value.proofs.Places.{by_first}
use Rattle.opl_eval.specs.Compare.{rank}
use Rattle.opl_expr.specs.Laws.{all_differ}
use Rattle.opl_form.specs.Parts.{Sort, alike, all_alike, first_sort, indices_of, key_layer, places_from}
use Rattle.opl_form.proofs.Values.{alike-same, eq-ranks}

-- ---- values

-- no value stands among those behind it
abbrev Apart : List Value → Type 0
Apart [] = Unit {0}
Apart (v ∷ vs) = (list_any (value_eq v) vs ≡ false) × Apart vs

none-equal : (v : Value) (ws : List Value) → ((p : ℕ) → p < length ws → value_at ws p ≡ v → ⊥) → list_any (value_eq v) ws ≡ false
none-equal v [] h = refl
none-equal v (w ∷ ws) h =
    by_first v w (λ f e. absurd (h 0 (omega arith) (sym e))) (λ f. (λ i. f i || none-equal v ws (λ p l e. h (suc p) (omega (arith, l)) e) i))

first-place : (p : ℕ) → 0 ≡ suc p → ⊥
first-place p e = omega (arith, e)

later-places : (j k : ℕ) → suc j ≡ suc k → j ≡ k
later-places j k e = omega (arith, e)

apart-of : (vs : List Value) → AreDifferent vs → Apart vs
apart-of [] h = tt
apart-of (v ∷ vs) h = (
  none-equal v vs (λ p l e. first-place p (h 0 (suc p) (omega arith) (omega (arith, l)) (sym e))),
  apart-of vs (λ j k jl kl e. later-places j k (h (suc j) (suc k) (omega (arith, jl)) (omega (arith, kl)) e)),
)

-- ---- ranks

or-split : (b c : Bool) → cond b true c ≡ (b || c)
or-split true c = refl
or-split false c = refl

-- a rank stands among those of like values exactly where the value does
member-ranks : (v : Value) (vs : List Value) → all_alike (key_layer (out-Value v)) vs ≡ true → member (rank v) (map rank vs) ≡ list_any (value_eq v) vs
member-ranks v [] h = refl
member-ranks v (w ∷ ws) h =
    let p = and_parts (alike (key_layer (out-Value v)) (key_layer (out-Value w))) (all_alike (key_layer (out-Value v)) ws) h in
    or-split (int_eq (rank v) (rank w)) (member (rank v) (map rank ws)) ∙ (λ i. sym (eq-ranks v w p.0) i || member-ranks v ws p.1 i)

ranks-differ : (s : Sort) (vs : List Value) → all_alike s vs ≡ true → Apart vs → all_differ (map rank vs) ≡ true
ranks-differ s [] h a = refl
ranks-differ s (v ∷ vs) h a =
    let p = and_parts (alike s (key_layer (out-Value v))) (all_alike s vs) h in
    let own : all_alike (key_layer (out-Value v)) vs ≡ true = subst (λ t. all_alike t vs ≡ true) (alike-same s (key_layer (out-Value v)) p.0) p.1 in
    (λ i. not ((member-ranks v vs own ∙ a.0) i) && ranks-differ s vs p.1 a.1 i)

-- ---- places

unequal : (m n : ℤ) → (m ≡ n → ⊥) → int_eq m n ≡ false
unequal m n h = by (int_eq m n) refl
  where
    by : (b : Bool) → int_eq m n ≡ b → int_eq m n ≡ false
    by true e = absurd (h ((Decides-int_eq m n).0 e))
    by false e = e

below-apart : (k n : ℕ) → k < n → pos k ≡ pos n → ⊥
below-apart k n l e = omega (arith, ints, l, e)

no-place : (k n count : ℕ) → k < n → member (pos k) (places_from n count) ≡ false
no-place k n zero l = refl
no-place k n (suc count) l =
    or-split (int_eq (pos k) (pos n)) (member (pos k) (places_from (suc n) count)) ∙ (λ i. unequal (pos k) (pos n) (below-apart k n l) i || no-place k (suc n) count (omega (arith, l)) i)

places-differ : (n count : ℕ) → all_differ (places_from n count) ≡ true
places-differ n zero = refl
places-differ n (suc count) = λ i. not (no-place n (suc n) count (omega arith) i) && places-differ (suc n) count i

-- ---- indices

indices-differ : (d : List Value) → AreDifferent d → all_differ (indices_of d) ≡ true
indices-differ d h = by (all_alike (first_sort d) d) refl
  where
    by : (b : Bool) → all_alike (first_sort d) d ≡ b → all_differ (cond b (map rank d) (places_from 0 (length d))) ≡ true
    by true e = ranks-differ (first_sort d) d e (apart-of d h)
    by false e = places-differ 0 (length d)

pub all-clear : (ds : List (List Value)) → AllDiffer ds → list_all all_differ (map indices_of ds) ≡ true
all-clear [] h = refl
all-clear (d ∷ ds) h = λ i. indices-differ d h.0 i && all-clear ds h.1 i
