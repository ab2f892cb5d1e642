-- The values of a set one after another.
use Rattle.std.proofs.Common.{◌≡◌, ℕ, zero, suc, ◌+◌, ◌<◌, Bool, true, false, cond, refl, List, [], ◌∷◌, ◌++◌, length, take, ℤ, pos, ◌≤ℤ◌, ◌<ℤ◌, ap, sym, ◌∙◌, subst, arith, inl, inr}
use Rattle.std.specs.Prelude.{Option, Some, None, int_le, int_lt, slice_index_or}
use Rattle.std.specs.List.{filter}
use Rattle.std.proofs.lemmas.Int.{ints}
use Rattle.opl_domain.specs.Family.{Family, IsFamily, IsRising, IsLeast, IsNext, set_of, member}
use Rattle.opl_domain.proofs.Members.{member_cases, member_first, member_later, between_is}
use Rattle.opl_domain.proofs.Sets.{first_is_least, is_le, not_le}
use Rattle.opl_trace.specs.Run.{values_of}
use Rattle.opl_choices.proofs.AnswerParts.{some_values}

-- the values from one on, or none
abbrev pub from_on : Option ℤ → List ℤ → List ℤ
from_on None vs = []
from_on (Some v) vs = filter (int_le v) vs

le_true : (v w : ℤ) → v ≤ℤ w → int_le v w ≡ true
le_true v w h = grind (arith, ints)

le_false : (v w : ℤ) → w <ℤ v → int_le v w ≡ false
le_false v w h = grind (arith, ints)

lt_true : (v w : ℤ) → v <ℤ w → int_lt v w ≡ true
lt_true v w h = grind (arith, ints)

lt_false : (v w : ℤ) → w ≤ℤ v → int_lt v w ≡ false
lt_false v w h = grind (arith, ints)

filter_first : (p : ℤ → Bool) (v : ℤ) (vs : List ℤ) → p v ≡ true → filter p (v ∷ vs) ≡ v ∷ filter p vs
filter_first p v vs e = rw e refl

filter_not_first : (p : ℤ → Bool) (v : ℤ) (vs : List ℤ) → p v ≡ false → filter p (v ∷ vs) ≡ filter p vs
filter_not_first p v vs e = rw e refl

filter_all : (p : ℤ → Bool) (vs : List ℤ) → ((w : ℤ) → member w vs ≡ true → p w ≡ true) → filter p vs ≡ vs
filter_all p [] h = refl
filter_all p (v ∷ vs) h = filter_first p v vs (h v (member_first v vs)) ∙ ap (λ ws. v ∷ ws) (filter_all p vs (λ w m. h w (member_later w v vs m)))

filter_none : (p : ℤ → Bool) (vs : List ℤ) → ((w : ℤ) → member w vs ≡ true → p w ≡ false) → filter p vs ≡ []
filter_none p [] h = refl
filter_none p (v ∷ vs) h = filter_not_first p v vs (h v (member_first v vs)) ∙ filter_none p vs (λ w m. h w (member_later w v vs m))

filter_same : (p q : ℤ → Bool) (vs : List ℤ) → ((w : ℤ) → member w vs ≡ true → p w ≡ q w) → filter p vs ≡ filter q vs
filter_same p q [] h = refl
filter_same p q (v ∷ vs) h =
    let r = filter_same p q vs (λ w m. h w (member_later w v vs m)) in
    ap (λ b. cond b (v ∷ filter p vs) (filter p vs)) (h v (member_first v vs)) ∙ ap (λ ws. cond (q v) (v ∷ ws) ws) r

-- from the least on there are all
pub from_least : (vs : List ℤ) (v : ℤ) → IsLeast vs v → vs ≡ from_on (Some v) vs
from_least vs v l = sym (filter_all (int_le v) vs (λ w m. le_true v w (l.least w m)))

-- from a value on there is that value, and those above it
pub above : (vs : List ℤ) (v : ℤ) → IsRising vs → member v vs ≡ true → filter (int_le v) vs ≡ v ∷ filter (int_lt v) vs
above [] v r m = cc
above (u ∷ vs) v r m = elim (member_cases v u vs m) [
  | inl e ↦
      let here : u ≡ v = sym e in
      subst (λ w. ((x : ℤ) → member x vs ≡ true → w <ℤ x) → filter (int_le v) (w ∷ vs) ≡ v ∷ filter (int_lt v) (w ∷ vs)) e
      (λ above_v.
      filter_first (int_le v) v vs (le_true v v (omega (arith, ints)))
      ∙ ap (λ ws. v ∷ ws) (filter_same (int_le v) (int_lt v) vs (λ w n. le_true v w (let k = above_v w n in omega (arith, ints)) ∙ sym (lt_true v w (above_v w n))))
      ∙ ap (λ ws. v ∷ ws) (sym (filter_not_first (int_lt v) v vs (lt_false v v (omega (arith, ints))))))
      r.0
  | inr n ↦
      let k = r.0 v n in
      filter_not_first (int_le v) u vs (le_false v u k) ∙ above vs v r.1 n
      ∙ ap (λ ws. v ∷ ws) (sym (filter_not_first (int_lt v) u vs (lt_false v u (omega (arith, ints)))))
]

-- those above a value are those from the next on
pub rest_is : (vs : List ℤ) (v : ℤ) (o : Option ℤ) → IsNext vs v o → filter (int_lt v) vs ≡ from_on o vs
rest_is vs v None n = filter_none (int_lt v) vs (λ w k. lt_false v w (n w k))
rest_is vs v (Some u) n = filter_same (int_lt v) (int_le u) vs (λ w k. side w k)
  where
    not_above : (w : ℤ) → member w vs ≡ true → w <ℤ u → w ≤ℤ v
    not_above w k l = elim (int_le w v) as (λ b. int_le w v ≡ b → w ≤ℤ v) [
      | true ↦ λ e. is_le w v e
      | false ↦ λ e. let a = n.least w k (not_le w v e) in absurd (omega (arith, ints))
    ] refl

    side : (w : ℤ) → member w vs ≡ true → int_lt v w ≡ int_le u w
    side w k = elim (int_le u w) as (λ b. int_le u w ≡ b → int_lt v w ≡ b) [
      | true ↦ λ e. lt_true v w (let a = is_le u w e in let b = n.above in omega (arith, ints))
      | false ↦ λ e. lt_false v w (not_above w k (not_le u w e))
    ] refl

pub from_next : (vs : List ℤ) (v : ℤ) (o : Option ℤ) → IsRising vs → member v vs ≡ true → IsNext vs v o → from_on (Some v) vs ≡ v ∷ from_on o vs
from_next vs v o r m n = above vs v r m ∙ ap (λ ws. v ∷ ws) (rest_is vs v o n)

-- a value that is there, or none
abbrev pub IsIn : List ℤ → Option ℤ → Type 0
IsIn vs None = Unit {0}
IsIn vs (Some v) = member v vs ≡ true

pub next_in : (vs : List ℤ) (v : ℤ) (o : Option ℤ) → IsNext vs v o → IsIn vs o
next_in vs v None n = tt
next_in vs v (Some u) n = n.among

pub shorter : (v : ℤ) (xs ys : List ℤ) → xs ≡ v ∷ ys → length ys < length xs
shorter v xs ys e = subst (λ zs. length ys < length zs) (sym e) (omega arith)

-- ---- the first value of each variable

values_more : (F : Family) (x : ℕ) → x < length F → take (suc x) (values_of F) ≡ take x (values_of F) ++ slice_index_or (set_of F x) zero (pos 0) ∷ []
unfolding set_of
values_more [] x h = absurd (omega arith)
values_more (vs ∷ F) zero h = refl
values_more (vs ∷ F) (suc x) h = ap (λ ws. slice_index_or vs zero (pos 0) ∷ ws) (values_more F x (omega arith))

take_values : (F : Family) → take (length F) (values_of F) ≡ values_of F
take_values [] = refl
take_values (vs ∷ F) = ap (λ ws. slice_index_or vs zero (pos 0) ∷ ws) (take_values F)

first_least : (vs : List ℤ) (v : ℤ) → IsRising vs → 0 < length vs → IsLeast vs v → v ≡ slice_index_or vs zero (pos 0)
first_least vs v r h l = let f = first_is_least vs r h in between_is v (slice_index_or vs zero (pos 0)) (l.least (slice_index_or vs zero (pos 0)) f.among) (f.least v l.among)

pub values_step : (F : Family) (x : ℕ) (v : ℤ) (as' bs : List ℤ) → IsFamily F → x < length F → as' ≡ take x (values_of F) → IsLeast (set_of F x) v → bs ≡ as' ++ v ∷ [] → bs ≡ take (x + 1) (values_of F)
values_step F x v as' bs f h e l i =
    let n : suc x ≡ x + 1 = omega arith in
    i ∙ ap (λ ws. ws ++ v ∷ []) e ∙ ap (λ w. take x (values_of F) ++ w ∷ []) (first_least (set_of F x) v (f.rising x) (some_values F x f h) l) ∙ sym (values_more F x h) ∙ ap (λ k. take k (values_of F)) n

pub values_done : (F : Family) (x : ℕ) (as' : List ℤ) → x ≡ length F → as' ≡ take x (values_of F) → as' ≡ values_of F
values_done F x as' e i = i ∙ ap (λ n. take n (values_of F)) e ∙ take_values F
