-- Sets in order of first occurrence.
use Rattle.std.proofs.Common.{◌≡◌, ℕ, zero, suc, ◌+◌, ◌<◌, ◌||◌, Bool, true, false, cond, List, [], ◌∷◌, ◌++◌, length, refl, sym, ap, ◌∙◌, arith, true≢false}
use Rattle.std.specs.List.{list_any}
use Rattle.opl_value.specs.declared.value.Value.{Value}
use Rattle.opl_value.specs.Order.{value_eq}
use Rattle.opl_value.specs.Sets.{with_new}
use Rattle.opl_value.specs.Laws.{SetsDiffer}
use Rattle.opl_value.specs.Places.{value_at, AreDifferent}
use Rattle.opl_value.specs.Total.{value_same}
use Rattle.opl_value.proofs.Places.{by_first}
use Rattle.opl_value.proofs.Search.{by_size}

-- the last value comes last
pub with_new-push : (found vs : List Value) (v : Value) → with_new found (vs ++ v ∷ []) ≡ cond (list_any (value_eq v) (with_new found vs)) (with_new found vs) (with_new found vs ++ v ∷ [])
with_new-push found [] v = refl
with_new-push found (w ∷ vs) v = with_new-push (cond (list_any (value_eq w) found) found (found ++ w ∷ [])) vs v

-- ---- the values of a set differ

at_left : (ws : List Value) (v : Value) (j : ℕ) → j < length ws → value_at (ws ++ v ∷ []) j ≡ value_at ws j
at_left [] v j l = absurd (omega arith)
at_left (w ∷ ws) v zero l = refl
at_left (w ∷ ws) v (suc j) l = at_left ws v j (omega arith)

at_end : (ws : List Value) (v : Value) → value_at (ws ++ v ∷ []) (length ws) ≡ v
at_end [] v = refl
at_end (w ∷ ws) v = at_end ws v

length-push : (ws : List Value) (v : Value) → length (ws ++ v ∷ []) ≡ length ws + 1
length-push [] v = refl
length-push (w ∷ ws) v = omega (arith, length-push ws v)

not_there : (v : Value) (ws : List Value) → list_any (value_eq v) ws ≡ false → (p : ℕ) → p < length ws → value_at ws p ≡ v → ⊥
not_there v [] h p l e = absurd (omega arith)
not_there v (w ∷ ws) h zero l e = true≢false (sym (ap (λ b. b || list_any (value_eq v) ws) ((value_same v w).1 (sym e))) ∙ h)
not_there v (w ∷ ws) h (suc p) l e = by_first v w
    (λ t s. absurd (true≢false (sym (ap (λ b. b || list_any (value_eq v) ws) t) ∙ h)))
    (λ f. not_there v ws (sym (ap (λ b. b || list_any (value_eq v) ws) f) ∙ h) p (omega arith) e)

differ_push : (ws : List Value) (v : Value) → AreDifferent ws → list_any (value_eq v) ws ≡ false → AreDifferent (ws ++ v ∷ [])
differ_push ws v d h j k jl kl e = by_size j (length ws)
    (λ a. by_size k (length ws)
    (λ b. d j k a b (sym (at_left ws v j a) ∙ e ∙ at_left ws v k b))
    (λ b. absurd (not_there v ws h j a (sym (at_left ws v j a) ∙ e ∙ ap (value_at (ws ++ v ∷ [])) b ∙ at_end ws v)))
    (λ b. absurd (omega (arith, length-push ws v))))
    (λ a. by_size k (length ws)
    (λ b. absurd (not_there v ws h k b (sym (at_left ws v k b) ∙ sym e ∙ ap (value_at (ws ++ v ∷ [])) a ∙ at_end ws v)))
    (λ b. a ∙ sym b)
    (λ b. absurd (omega (arith, length-push ws v))))
    (λ a. absurd (omega (arith, length-push ws v)))

with_new-differ : (found vs : List Value) → AreDifferent found → AreDifferent (with_new found vs)
with_new-differ found [] d = d
with_new-differ found (v ∷ vs) d = with_new-differ (cond (list_any (value_eq v) found) found (found ++ v ∷ [])) vs (by (list_any (value_eq v) found) refl)
  where
    by : (b : Bool) → list_any (value_eq v) found ≡ b → AreDifferent (cond b found (found ++ v ∷ []))
    by true e = d
    by false e = differ_push found v d e

pub sets_differ : SetsDiffer
sets_differ vs = with_new-differ [] vs (λ j k jl kl e. absurd (omega arith))
