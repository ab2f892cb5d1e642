-- The values that are left of a rising list.
use Rattle.std.proofs.Common.{◌≡◌, true, false, cond, refl, List, [], ◌∷◌, ℤ, ◌<ℤ◌, ◌≤ℤ◌, ap, sym, subst, arith, inl, inr}
use Rattle.std.specs.Prelude.{Option, Some, None, int_lt}
use Rattle.std.proofs.lemmas.Int.{ints}
use Rattle.opl_domain.specs.Family.{member, IsRising, IsLeast, IsLeastAbove, IsNext}
use Rattle.opl_domain.proofs.Members.{member_first, member_later, member_cases}
use Rattle.opl_search.specs.Pending.{above, left_values, IsNextValue}

-- ---- rising lists

int_less : (v w : ℤ) → v <ℤ w → int_lt v w ≡ true
int_less v w h = grind (arith, ints)

int_not_less : (v w : ℤ) → w ≤ℤ v → int_lt v w ≡ false
int_not_less v w h = grind (arith, ints)

all_above : (v : ℤ) (vs : List ℤ) → ((w : ℤ) → member w vs ≡ true → v <ℤ w) → above v vs ≡ vs
all_above v [] h = refl
all_above v (u ∷ vs) h = rw (int_less v u (h u (member_first u vs)), all_above v vs (λ w m. h w (member_later w u vs m))) refl

none_above : (v : ℤ) (vs : List ℤ) → ((w : ℤ) → member w vs ≡ true → w ≤ℤ v) → above v vs ≡ []
none_above v [] h = refl
none_above v (u ∷ vs) h = rw (int_not_less v u (h u (member_first u vs))) (none_above v vs (λ w m. h w (member_later w u vs m)))

pub least_first : (vs : List ℤ) (v : ℤ) → IsRising vs → IsLeast vs v → vs ≡ v ∷ above v vs
least_first [] v r l = let k = l.among in cc
least_first (u ∷ vs) v r l =
    let p : v ≤ℤ u = l.least u (member_first u vs) in
    let q : u ≤ℤ v = elim (member_cases v u vs l.among) [ inl e ↦ omega (arith, ints, e) | inr m ↦ let k = r.0 v m in omega (arith, ints, k) ] in
    let e : v ≡ u = omega (arith, ints, p, q) in
    subst (λ z. (u ∷ vs) ≡ z ∷ above z (u ∷ vs)) (sym e) (rw (int_not_less u u (omega (arith, ints)), all_above u vs r.0) refl)

pub next_first : (vs : List ℤ) (a v : ℤ) → IsRising vs → IsLeastAbove vs a v → above a vs ≡ v ∷ above v vs
next_first [] a v r l = let k = l.among in cc
next_first (u ∷ vs) a v r l =
    elim (int_lt a u) as (λ b. int_lt a u ≡ b → cond b (u ∷ above a vs) (above a vs) ≡ v ∷ above v (u ∷ vs)) [
      | true ↦ λ e.
          let g : a <ℤ u = grind (arith, ints) in
          let p : v ≤ℤ u = l.least u (member_first u vs) g in
          let q : u ≤ℤ v = elim (member_cases v u vs l.among) [ inl i ↦ omega (arith, ints, i) | inr m ↦ let k = r.0 v m in omega (arith, ints, k) ] in
          let i : v ≡ u = omega (arith, ints, p, q) in
          let j : above a vs ≡ vs = all_above a vs (λ w m. let k = r.0 w m in omega (arith, ints, k, g)) in
          subst (λ z. (u ∷ above a vs) ≡ z ∷ above z (u ∷ vs)) (sym i) (rw (int_not_less u u (omega (arith, ints)), all_above u vs r.0) (ap (λ zs. u ∷ zs) j))
      | false ↦ λ e.
          let g : u ≤ℤ a = grind (arith, ints) in
          let m : member v vs ≡ true = elim (member_cases v u vs l.among) [ inl i ↦ absurd (let k = l.above in omega (arith, ints, k, i, g)) | inr k ↦ k ] in
          let k = r.0 v m in
          rw (int_not_less v u (omega (arith, ints, k))) (next_first vs a v r.1 (record { among = m; above = l.above; least = λ w n o. l.least w (member_later w u vs n) o }))
    ] refl

pub next_none : (vs : List ℤ) (a : ℤ) → ((w : ℤ) → member w vs ≡ true → w ≤ℤ a) → above a vs ≡ []
next_none vs a h = none_above a vs h

pub next_is : (vs : List ℤ) (a : ℤ) (r : Option ℤ) → IsRising vs → IsNext vs a r → IsNextValue vs (Some a) r
next_is vs a None r n = next_none vs a n
next_is vs a (Some v) r n = next_first vs a v r n

-- a variable that isn't there has no value that is left
pub none_left : (last : Option ℤ) → IsNextValue [] last None
none_left None = refl
none_left (Some v) = refl

-- the value that is next is one of them
pub next_member : (vs : List ℤ) (last : Option ℤ) (v : ℤ) (more : List ℤ) → left_values last vs ≡ v ∷ more → member v vs ≡ true
next_member vs None v more e = subst (λ us. member v us ≡ true) (sym e) (member_first v more)
next_member vs (Some a) v more e = from_above vs (subst (λ us. member v us ≡ true) (sym e) (member_first v more))
  where
    from_above : (us : List ℤ) → member v (above a us) ≡ true → member v us ≡ true
    from_above [] h = h
    from_above (u ∷ us) h = elim (int_lt a u) as (λ b. member v (cond b (u ∷ above a us) (above a us)) ≡ true → member v (u ∷ us) ≡ true) [
      | true ↦ λ i. elim (member_cases v u (above a us) i) [ inl s ↦ subst (λ w. member w (u ∷ us) ≡ true) (sym s) (member_first u us) | inr m ↦ member_later v u us (from_above us m) ]
      | false ↦ λ i. member_later v u us (from_above us i)
    ] h
