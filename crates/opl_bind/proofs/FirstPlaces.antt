-- The first places of values, as they are kept while going over a list.
use Rattle.std.proofs.Common.{◌≡◌, ℕ, suc, ◌+◌, ◌<◌, Bool, true, false, cond, List, [], ◌∷◌, ◌++◌, get_or, length, take, is_some, Option, None, Some, refl, sym, ap, ◌∙◌, arith}
use Rattle.std.specs.Option.{option_map, option_or}
use Rattle.std.proofs.lemmas.List.{length-take-le, take_more}
use Rattle.opl_value.specs.declared.value.Value.{Value}
use Rattle.opl_value.specs.Order.{value_eq}
use Rattle.opl_value.specs.Places.{place_in}
use Rattle.opl_value.specs.Total.{value_equivalence}
use Rattle.opl_value.proofs.Places.{by_first}

-- ---- one more value behind the others

behind : (b c : Bool) (r : Option ℕ) (n : ℕ) → cond b (Some 0) (option_map suc (option_or r (cond c (Some n) None))) ≡ option_or (cond b (Some 0) (option_map suc r)) (cond c (Some (suc n)) None)
behind true c r n = refl
behind false c (Some k) n = refl
behind false true None n = refl
behind false false None n = refl

place_in-behind : (v : Value) (ws : List Value) (w : Value) → place_in v (ws ++ w ∷ []) ≡ option_or (place_in v ws) (cond (value_eq v w) (Some (length ws)) None)
place_in-behind v [] w = refl
place_in-behind v (x ∷ xs) w =
    ap (λ r. cond (value_eq v x) (Some 0) (option_map suc r)) (place_in-behind v xs w)
    ∙ behind (value_eq v x) (value_eq v w) (place_in v xs) (length xs)

pub place_in-more : (v : Value) (ws : List Value) (i : ℕ) (w : Value) → i < length ws → w ≡ get_or ws i w → place_in v (take (i + 1) ws) ≡ option_or (place_in v (take i ws)) (cond (value_eq v w) (Some i) None)
place_in-more v ws i w l read =
    ap (place_in v) (take_more ws i w l)
    ∙ place_in-behind v (take i ws) (get_or ws i w)
    ∙ ap (λ x. option_or (place_in v (take i ws)) (cond (value_eq v x) (Some (length (take i ws))) None)) (sym read)
    ∙ ap (λ n. option_or (place_in v (take i ws)) (cond (value_eq v w) (Some n) None)) (length-take-le i ws (omega arith))

-- ---- a place for a value that has none yet, by what is kept for each value

none_kept : (o p : Option ℕ) → is_some o ≡ false → p ≡ option_or o p
none_kept None p e = refl
none_kept (Some n) p e = absurd (cc)

some_kept : (o p : Option ℕ) → is_some o ≡ true → o ≡ option_or o p
some_kept None p e = absurd (cc)
some_kept (Some n) p e = refl

nothing_kept : (o : Option ℕ) → o ≡ option_or o None
nothing_kept None = refl
nothing_kept (Some n) = refl

pub first-added : (kept more : Value → Option ℕ) (value : Value) (place : ℕ) → is_some (kept value) ≡ false → ((w : Value) → more w ≡ cond (value_eq value w) (Some place) (kept w))
    → (wanted : Value) → more wanted ≡ option_or (kept wanted) (cond (value_eq wanted value) (Some place) None)
first-added kept more value place none updates wanted = by_first wanted value
    (λ e same.
    updates wanted
    ∙ ap (λ b. cond b (Some place) (kept wanted)) (value_equivalence.symm value wanted ∙ e)
    ∙ none_kept (kept wanted) (Some place) (ap (λ v. is_some (kept v)) same ∙ none)
    ∙ ap (λ b. option_or (kept wanted) (cond b (Some place) None)) (sym e))
    (λ e.
    updates wanted
    ∙ ap (λ b. cond b (Some place) (kept wanted)) (value_equivalence.symm value wanted ∙ e)
    ∙ nothing_kept (kept wanted)
    ∙ ap (λ b. option_or (kept wanted) (cond b (Some place) None)) (sym e))

pub first-stays : (kept : Value → Option ℕ) (value : Value) (place : ℕ) → is_some (kept value) ≡ true → (wanted : Value) → kept wanted ≡ option_or (kept wanted) (cond (value_eq wanted value) (Some place) None)
first-stays kept value place some wanted = by_first wanted value
    (λ e same. some_kept (kept wanted) (cond (value_eq wanted value) (Some place) None) (ap (λ v. is_some (kept v)) same ∙ some))
    (λ e. nothing_kept (kept wanted) ∙ ap (λ b. option_or (kept wanted) (cond b (Some place) None)) (sym e))
