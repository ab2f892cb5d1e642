-- Values that differ are as many as their set has.
use Rattle.std.proofs.Common.{◌≡◌, ℕ, ◌+◌, ◌≤◌, ◌<◌, ◌&&◌, ◌||◌, not, Bool, true, false, cond, nat_eq, List, [], ◌∷◌, ◌++◌, length, refl, sym, ap, ◌∙◌, arith}
use Rattle.std.specs.List.{list_any}
use Rattle.opl_value.specs.declared.value.Value.{Value}
use Rattle.opl_value.specs.Order.{value_eq}
use Rattle.opl_value.specs.Sets.{with_new, first_occurrences}
use Rattle.opl_value.specs.Total.{value_same}
use Rattle.opl_eval.specs.Compare.{all_different}

-- none of these is among those, and they differ
abbrev are_new : List Value → List Value → Bool
are_new found [] = true
are_new found (v ∷ vs) = not (list_any (value_eq v) found) && are_new (found ++ v ∷ []) vs

length-push : (ws : List Value) (v : Value) → length (ws ++ v ∷ []) ≡ length ws + 1
length-push [] v = refl
length-push (w ∷ ws) v = omega (arith, length-push ws v)

with_new-most : (found vs : List Value) → length (with_new found vs) ≤ length found + length vs
with_new-most found [] = omega arith
with_new-most found (v ∷ vs) = by (list_any (value_eq v) found) (with_new-most found vs) (with_new-most (found ++ v ∷ []) vs)
  where
    by : (b : Bool) → length (with_new found vs) ≤ length found + length vs → length (with_new (found ++ v ∷ []) vs) ≤ length (found ++ v ∷ []) + length vs
        → length (with_new (cond b found (found ++ v ∷ [])) vs) ≤ length found + length (v ∷ vs)
    by true h k = omega arith
    by false h k = omega (arith, length-push found v)

fewer : (m n : ℕ) → m < n → nat_eq m n ≡ false
fewer m n h = grind arith

with_new-count : (found vs : List Value) → nat_eq (length (with_new found vs)) (length found + length vs) ≡ are_new found vs
with_new-count found [] = grind arith
with_new-count found (v ∷ vs) = by (list_any (value_eq v) found) (with_new-count (found ++ v ∷ []) vs)
  where
    by : (b : Bool) → nat_eq (length (with_new (found ++ v ∷ []) vs)) (length (found ++ v ∷ []) + length vs) ≡ are_new (found ++ v ∷ []) vs
        → nat_eq (length (with_new (cond b found (found ++ v ∷ [])) vs)) (length found + length (v ∷ vs)) ≡ not b && are_new (found ++ v ∷ []) vs
    by true h = fewer (length (with_new found vs)) (length found + length (v ∷ vs)) (omega (arith, with_new-most found vs))
    by false h =
        let same : length found + length (v ∷ vs) ≡ length (found ++ v ∷ []) + length vs = omega (arith, length-push found v) in
        ap (nat_eq (length (with_new (found ++ v ∷ []) vs))) same ∙ h

-- none of these is among those
abbrev none_of : List Value → List Value → Bool
none_of found [] = true
none_of found (v ∷ vs) = not (list_any (value_eq v) found) && none_of found vs

value_eq-sym : (v w : Value) → value_eq v w ≡ value_eq w v
value_eq-sym v w = by (value_eq v w) (value_eq w v) refl refl
  where
    by : (b c : Bool) → value_eq v w ≡ b → value_eq w v ≡ c → b ≡ c
    by true true e f = refl
    by true false e f = sym ((value_same w v).1 (sym ((value_same v w).0 e))) ∙ f
    by false true e f = sym e ∙ (value_same v w).1 (sym ((value_same w v).0 f))
    by false false e f = refl

any-push : (v w : Value) (ws : List Value) → list_any (value_eq v) (ws ++ w ∷ []) ≡ list_any (value_eq v) ws || value_eq v w
any-push v w [] = both (value_eq v w)
  where
    both : (b : Bool) → (b || false) ≡ (false || b)
    both true = refl
    both false = refl
any-push v w (u ∷ ws) = ap (λ b. value_eq v u || b) (any-push v w ws) ∙ regroup (value_eq v u) (list_any (value_eq v) ws) (value_eq v w)
  where
    regroup : (a b c : Bool) → (a || (b || c)) ≡ ((a || b) || c)
    regroup true b c = refl
    regroup false b c = refl

-- four truths, one of which says of two things at once
apart : (a b c d : Bool) → (not (a || b) && (c && not d)) ≡ ((not a && c) && not (b || d))
apart true b c d = refl
apart false true true d = refl
apart false true false d = refl
apart false false c d = refl

none_of-push : (found vs : List Value) (v : Value) → none_of (found ++ v ∷ []) vs ≡ none_of found vs && not (list_any (value_eq v) vs)
none_of-push found [] v = refl
none_of-push found (w ∷ vs) v =
    (λ i. not ((any-push w v found ∙ ap (λ b. list_any (value_eq w) found || b) (value_eq-sym w v)) i) && none_of-push found vs v i)
    ∙ apart (list_any (value_eq w) found) (value_eq v w) (none_of found vs) (list_any (value_eq v) vs)

order : (a b c d : Bool) → (a && ((b && c) && d)) ≡ ((a && b) && (c && d))
order false b c d = refl
order true false c d = refl
order true true c d = refl

are_new-none_of : (found vs : List Value) → are_new found vs ≡ none_of found vs && all_different vs
are_new-none_of found [] = refl
are_new-none_of found (v ∷ vs) =
    ap (λ b. not (list_any (value_eq v) found) && b) (are_new-none_of (found ++ v ∷ []) vs ∙ ap (λ b. b && all_different vs) (none_of-push found vs v))
    ∙ order (not (list_any (value_eq v) found)) (none_of found vs) (not (list_any (value_eq v) vs)) (all_different vs)

none_of_none : (vs : List Value) → none_of [] vs ≡ true
none_of_none [] = refl
none_of_none (v ∷ vs) = none_of_none vs

-- a set has as many values as a list of different ones
pub all_different-count : (vs : List Value) → nat_eq (length (first_occurrences vs)) (length vs) ≡ all_different vs
all_different-count vs = ap (nat_eq (length (first_occurrences vs))) (omega arith) ∙ with_new-count [] vs ∙ are_new-none_of [] vs ∙ ap (λ b. b && all_different vs) (none_of_none vs)
