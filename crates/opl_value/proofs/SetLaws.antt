-- A set has the values of the list, in the order in which they first stand there.
use Rattle.std.proofs.Common.{◌≡◌, ℕ, zero, suc, ◌+◌, ◌<◌, ◌||◌, ◌⊎◌, inl, inr, Bool, true, false, cond, List, [], ◌∷◌, ◌++◌, length, Option, None, Some, refl, sym, ap, subst, ◌∙◌, arith, true≢false, append_assoc, append-nil, length-append}
use Rattle.std.specs.List.{list_any}
use Rattle.std.proofs.lemmas.List.Folds.{list_any-append}
use Rattle.std.specs.Option.{option_map}
use Rattle.opl_value.specs.declared.value.Value.{Value}
use Rattle.opl_value.specs.Order.{value_eq}
use Rattle.opl_value.specs.Laws.{SetsKeepMembers, SetsKeepOrder, DifferentValuesStay}
use Rattle.opl_value.specs.Places.{value_at, AreDifferent, place_in}
use Rattle.opl_value.specs.Sets.{with_new}
use Rattle.opl_value.proofs.Joint.{place_in-within}
use Rattle.opl_value.proofs.Places.{by_first}

-- whether a value is in a list
abbrev stands : Value → List Value → Bool
stands v ws = list_any (value_eq v) ws

by_bool : {G : Type 0} (b : Bool) → (b ≡ true → G) → (b ≡ false → G) → G
by_bool {G} b then otherwise = by b refl
  where
    by : (c : Bool) → b ≡ c → G
    by true e = then e
    by false e = otherwise e

-- ---- one more value at the end

stands-push : (x : Value) (ws : List Value) (v : Value) → stands x (ws ++ v ∷ []) ≡ stands x ws || value_eq x v
stands-push x ws v = list_any-append (value_eq x) ws (v ∷ []) ∙ ap (λ b. stands x ws || b) (alone (value_eq x v))
  where
    alone : (b : Bool) → b || false ≡ b
    alone true = refl
    alone false = refl

placed : (x : Value) (ws : List Value) (p : ℕ) → place_in x ws ≡ Some p → stands x ws ≡ true
placed x [] p e = absurd (cc)
placed x (w ∷ ws) p e = by_first x w
    (λ t s. ap (λ b. b || stands x ws) t)
    (λ f. ap (λ b. b || stands x ws) f ∙ later (placed x ws) (place_in x ws) refl (sym (ap (λ b. cond b (Some 0) (option_map suc (place_in x ws))) f) ∙ e))
  where
    later : ((k : ℕ) → place_in x ws ≡ Some k → stands x ws ≡ true) → (o : Option ℕ) → place_in x ws ≡ o → option_map suc (place_in x ws) ≡ Some p → stands x ws ≡ true
    later inner None q h = let z : None ≡ Some p = sym (ap (option_map suc) q) ∙ h in absurd (cc)
    later inner (Some k) q h = inner k q

-- a place in the longer list is one in the shorter, or it is the last one, of a value that is new
abbrev Last : Value → List Value → Value → ℕ → Type 0
Last x ws v p = (stands x ws ≡ false) × (x ≡ v) × (p ≡ length ws)

split : (x : Value) (ws : List Value) (v : Value) (p : ℕ) → place_in x (ws ++ v ∷ []) ≡ Some p → (place_in x ws ≡ Some p) ⊎ Last x ws v p
split x [] v p e = by_first x v
    (λ t s. let z : Some 0 ≡ Some p = sym (ap (λ b. cond b (Some 0) None) t) ∙ e in let n : 0 ≡ p = cc in inr (refl, s, sym n))
    (λ f. let z : None ≡ Some p = sym (ap (λ b. cond b (Some 0) None) f) ∙ e in absurd (cc))
split x (w ∷ ws) v p e = by_first x w
    (λ t s. inl (ap (λ b. cond b (Some 0) (option_map suc (place_in x ws))) t ∙ sym (ap (λ b. cond b (Some 0) (option_map suc (place_in x (ws ++ v ∷ [])))) t) ∙ e))
    (λ f. later (split x ws v) f (place_in x (ws ++ v ∷ [])) refl (sym (ap (λ b. cond b (Some 0) (option_map suc (place_in x (ws ++ v ∷ [])))) f) ∙ e))
  where
    further : (k : ℕ) → value_eq x w ≡ false → suc k ≡ p → (place_in x ws ≡ Some k) ⊎ Last x ws v k → (place_in x (w ∷ ws) ≡ Some p) ⊎ Last x (w ∷ ws) v p
    further k f n (inl q) = inl (ap (λ b. cond b (Some 0) (option_map suc (place_in x ws))) f ∙ ap (option_map suc) q ∙ ap Some n)
    further k f n (inr q) = inr (ap (λ b. b || stands x ws) f ∙ q.0, q.1, omega (arith, n, q.2))

    later : ((k : ℕ) → place_in x (ws ++ v ∷ []) ≡ Some k → (place_in x ws ≡ Some k) ⊎ Last x ws v k) → value_eq x w ≡ false → (o : Option ℕ) → place_in x (ws ++ v ∷ []) ≡ o → option_map suc (place_in x (ws ++ v ∷ [])) ≡ Some p → (place_in x (w ∷ ws) ≡ Some p) ⊎ Last x (w ∷ ws) v p
    later inner f None q h = let z : None ≡ Some p = sym (ap (option_map suc) q) ∙ h in absurd (cc)
    later inner f (Some k) q h = let z : Some (suc k) ≡ Some p = sym (ap (option_map suc) q) ∙ h in let n : suc k ≡ p = cc in further k f n (inner k q)

-- ---- the values found so far, beside those that were read

abbrev HaveSame : List Value → List Value → Type 0
HaveSame found us = (x : Value) → stands x found ≡ stands x us

abbrev HaveOrder : List Value → List Value → Type 0
HaveOrder found us = (x y : Value) (i j p q : ℕ) → place_in x found ≡ Some i → place_in y found ≡ Some j
    → place_in x us ≡ Some p → place_in y us ≡ Some q → i < j → p < q

next : List Value → Value → List Value
next found v = cond (stands v found) found (found ++ v ∷ [])

same_next : (found us : List Value) (v : Value) → HaveSame found us → HaveSame (next found v) (us ++ v ∷ [])
unfolding next
same_next found us v same x = by_bool (stands v found)
    (λ t. ap (λ b. stands x (cond b found (found ++ v ∷ []))) t ∙ same x ∙ by_first x v
    (λ e s. let here : stands x us ≡ true = sym (same x) ∙ ap (λ y. stands y found) s ∙ t in here ∙ sym (stands-push x us v ∙ ap (λ b. b || value_eq x v) here))
    (λ e. by_bool (stands x us)
    (λ h. h ∙ sym (stands-push x us v ∙ ap (λ b. b || value_eq x v) h))
    (λ h. h ∙ sym (stands-push x us v ∙ ap (λ b. b || value_eq x v) h ∙ e))))
    (λ f. ap (λ b. stands x (cond b found (found ++ v ∷ []))) f ∙ stands-push x found v ∙ ap (λ b. b || value_eq x v) (same x) ∙ sym (stands-push x us v))

-- a value that was read before has its place there
module _ (found us : List Value) (v : Value) (same : HaveSame found us) (x : Value) (i p : ℕ) (old : place_in x found ≡ Some i) where
  before : place_in x (us ++ v ∷ []) ≡ Some p → place_in x us ≡ Some p
  before e = by (split x us v p e)
    where
      by : (place_in x us ≡ Some p) ⊎ Last x us v p → place_in x us ≡ Some p
      by (inl q) = q
      by (inr q) = absurd (true≢false (sym (placed x found i old) ∙ same x ∙ q.0))

-- a value that is new is read last
last : (found us : List Value) (v x : Value) (p : ℕ) → HaveSame found us → stands x found ≡ false → place_in x (us ++ v ∷ []) ≡ Some p → p ≡ length us
last found us v x p same new e = by (split x us v p e)
  where
    by : (place_in x us ≡ Some p) ⊎ Last x us v p → p ≡ length us
    by (inl q) = absurd (true≢false (sym (placed x us p q) ∙ sym (same x) ∙ new))
    by (inr q) = q.2

order_old : (found us : List Value) (v : Value) → HaveSame found us → HaveOrder found us → HaveOrder found (us ++ v ∷ [])
order_old found us v same order x y i j p q xi yj xp yq = order x y i j p q xi yj (before found us v same x i p xi xp) (before found us v same y j q yj yq)

order_new : (found us : List Value) (v : Value) → HaveSame found us → HaveOrder found us → HaveOrder (found ++ v ∷ []) (us ++ v ∷ [])
order_new found us v same order x y i j p q xi yj xp yq h = by (split x found v i xi) (split y found v j yj)
  where
    by : (place_in x found ≡ Some i) ⊎ Last x found v i → (place_in y found ≡ Some j) ⊎ Last y found v j → p < q
    by (inl a) (inl b) = order_old found us v same order x y i j p q a b xp yq h
    by (inl a) (inr b) =
        let l = place_in-within x us p (before found us v same x i p a xp) in
        let e = last found us v y q same b.0 yq in
        omega (arith, l, e)
    by (inr a) (inl b) = let l = place_in-within y found j b in absurd (omega (arith, l, a.2))
    by (inr a) (inr b) = absurd (omega (arith, a.2, b.2))

order_next : (found us : List Value) (v : Value) → HaveSame found us → HaveOrder found us → HaveOrder (next found v) (us ++ v ∷ [])
unfolding next
order_next found us v same order = by (stands v found)
  where
    by : (b : Bool) → HaveOrder (cond b found (found ++ v ∷ [])) (us ++ v ∷ [])
    by true = order_old found us v same order
    by false = order_new found us v same order

all_same : (found us vs : List Value) → HaveSame found us → HaveSame (with_new found vs) (us ++ vs)
unfolding next
all_same found us [] same = subst (λ ws. HaveSame found ws) (sym (append-nil us)) same
all_same found us (v ∷ vs) same = subst (λ ws. HaveSame (with_new (next found v) vs) ws) (append_assoc us (v ∷ []) vs) (all_same (next found v) (us ++ v ∷ []) vs (same_next found us v same))

all_order : (found us vs : List Value) → HaveSame found us → HaveOrder found us → HaveOrder (with_new found vs) (us ++ vs)
unfolding next
all_order found us [] same order = subst (λ ws. HaveOrder found ws) (sym (append-nil us)) order
all_order found us (v ∷ vs) same order =
    subst (λ ws. HaveOrder (with_new (next found v) vs) ws) (append_assoc us (v ∷ []) vs)
    (all_order (next found v) (us ++ v ∷ []) vs (same_next found us v same) (order_next found us v same order))

pub sets_keep_members : SetsKeepMembers
sets_keep_members vs = all_same [] [] vs (λ x. refl)

pub sets_keep_order : SetsKeepOrder
sets_keep_order vs = all_order [] [] vs (λ x. refl) (λ x y i j p q xi yj xp yq h. absurd (cc))

-- ---- values that differ

at_left : (ws vs : List Value) (j : ℕ) → j < length ws → value_at (ws ++ vs) j ≡ value_at ws j
at_left [] vs j l = absurd (omega arith)
at_left (w ∷ ws) vs zero l = refl
at_left (w ∷ ws) vs (suc j) l = at_left ws vs j (omega arith)

at_end : (ws vs : List Value) (v : Value) → value_at (ws ++ v ∷ vs) (length ws) ≡ v
at_end [] vs v = refl
at_end (w ∷ ws) vs v = at_end ws vs v

-- where a value stands
stands_at : (v : Value) (ws : List Value) → stands v ws ≡ true → (p : ℕ) × (p < length ws) × (value_at ws p ≡ v)
stands_at v [] h = absurd (true≢false (sym h))
stands_at v (w ∷ ws) h = by_first v w
    (λ t s. (0, omega arith, sym s))
    (λ f. let p = stands_at v ws (sym (ap (λ b. b || stands v ws) f) ∙ h) in (suc p.0, omega (arith, p.1), p.2))

new_value : (found vs : List Value) (v : Value) → AreDifferent (found ++ v ∷ vs) → stands v found ≡ false
new_value found vs v differ = by_bool (stands v found)
    (λ t.
    let p = stands_at v found t in
    let long : length (found ++ v ∷ vs) ≡ length found + suc (length vs) = length-append found (v ∷ vs) in
    let same = differ p.0 (length found) (omega (arith, long, p.1)) (omega (arith, long)) (at_left found (v ∷ vs) p.0 p.1 ∙ p.2 ∙ sym (at_end found vs v)) in
    absurd (omega (arith, same, p.1)))
    (λ f. f)

all_stay : (found vs : List Value) → AreDifferent (found ++ vs) → with_new found vs ≡ found ++ vs
all_stay found [] differ = sym (append-nil found)
all_stay found (v ∷ vs) differ =
    ap (λ b. with_new (cond b found (found ++ v ∷ [])) vs) (new_value found vs v differ)
    ∙ all_stay (found ++ v ∷ []) vs (subst AreDifferent (sym (append_assoc found (v ∷ []) vs)) differ)
    ∙ append_assoc found (v ∷ []) vs

pub different_values_stay : DifferentValuesStay
different_values_stay vs = all_stay [] vs
