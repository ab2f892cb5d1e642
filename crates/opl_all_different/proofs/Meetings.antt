-- Parts that have one value each, and the same.
use Rattle.std.proofs.Common.{◌≡◌, ◌≢◌, ◌∙◌, ◌⊎◌, ℕ, zero, suc, ◌<◌, Bool, true, false, cond, ◌||◌, refl, List, [], ◌∷◌, length, ℤ, pos, get_or, ap, sym, subst, arith, inl, inr}
use Rattle.std.specs.List.{list_all}
use Rattle.std.specs.Ordering.{int_eq}
use Rattle.std.proofs.lemmas.Bool.{cases_lt}
use Rattle.std.proofs.lemmas.Bool.Decides.{Decides-int_eq}
use Rattle.opl_domain.specs.Family.{member, Family, Full, Below, set_of, only}
use Rattle.opl_domain.proofs.Members.{member_first, member_cases}
use Rattle.opl_domain.proofs.Sets.{only_here, only_there}
use Rattle.opl_trace.specs.Stable.{IsMonotone}
use Rattle.opl_trace.proofs.Passing.{all_member, all_from, or_left, or_right}
use Rattle.opl_all_different.specs.declared.part.Part.{Part}
use Rattle.opl_all_different.specs.Parts.{nothing, part_at, numbers_of, value_with, HasOnly, Misses, meets, meets_any, clashes, IsThere}

-- ---- the numbers of a part

is_zero : (k : ℤ) → (int_eq k (pos 0) ≡ true) ⊎ (int_eq k (pos 0) ≡ false)
is_zero k = elim (int_eq k (pos 0)) as (λ b. (b ≡ true) ⊎ (b ≡ false)) [ true ↦ inl refl | false ↦ inr refl ]

pub not_zero : (k : ℤ) → k ≢ pos 0 → int_eq k (pos 0) ≡ false
not_zero k n = elim (is_zero k) [ inl e ↦ absurd (n ((Decides-int_eq k (pos 0)).0 e)) | inr e ↦ e ]

from_not_zero : (k : ℤ) → int_eq k (pos 0) ≡ false → k ≢ pos 0
from_not_zero k e h = let t = (Decides-int_eq k (pos 0)).1 h in cc

pub zero_or_not : (k : ℤ) → (k ≡ pos 0) ⊎ (k ≢ pos 0)
zero_or_not k = elim (is_zero k) [ inl e ↦ inl ((Decides-int_eq k (pos 0)).0 e) | inr e ↦ inr (from_not_zero k e) ]

-- a constant multiplies 0 alone
pub numbers_none : (F : Family) (p : Part) → p.factor ≡ pos 0 → numbers_of F p ≡ pos 0 ∷ []
numbers_none F p e = ap (λ b. cond b (pos 0 ∷ []) (set_of F p.variable)) ((Decides-int_eq p.factor (pos 0)).1 e)

-- another part has the values of its variable
pub numbers_set : (F : Family) (p : Part) → p.factor ≢ pos 0 → numbers_of F p ≡ set_of F p.variable
numbers_set F p n = ap (λ b. cond b (pos 0 ∷ []) (set_of F p.variable)) (not_zero p.factor n)

pub numbers_below : (F G : Family) (p : Part) → Below F G → (w : ℤ) → member w (numbers_of F p) ≡ true → member w (numbers_of G p) ≡ true
numbers_below F G p b w = elim (int_eq p.factor (pos 0)) as (λ t. member w (cond t (pos 0 ∷ []) (set_of F p.variable)) ≡ true → member w (cond t (pos 0 ∷ []) (set_of G p.variable)) ≡ true) [
  | true ↦ λ h. h
  | false ↦ λ h. b.sub p.variable w h
]

pub numbers_some : (F : Family) (p : Part) → Full F → IsThere (length F) p → (w : ℤ) × (member w (numbers_of F p) ≡ true)
numbers_some F p f t = elim (zero_or_not p.factor) [
  | inl e ↦ (pos 0, subst (λ vs. member (pos 0) vs ≡ true) (sym (numbers_none F p e)) (member_first (pos 0) []))
  | inr n ↦ let w = f p.variable (t n) in (w.0, subst (λ vs. member w.0 vs ≡ true) (sym (numbers_set F p n)) w.1)
]

-- where a variable has the value v alone, a part of it multiplies v alone
pub numbers_only : (F : Family) (p : Part) (v : ℤ) → p.factor ≢ pos 0 → p.variable < length F → (w : ℤ) → member w (numbers_of (only F p.variable v) p) ≡ true → w ≡ v
numbers_only F p v n h w m =
    let e = numbers_set (only F p.variable v) p n ∙ only_here F p.variable v h in
    elim (member_cases w v [] (subst (λ vs. member w vs ≡ true) e m)) [ inl i ↦ i | inr i ↦ cc ]

-- and another part multiplies what it did
pub numbers_other : (F : Family) (p : Part) (x : ℕ) (v : ℤ) → (p.factor ≢ pos 0 → p.variable ≢ x) → numbers_of (only F x v) p ≡ numbers_of F p
numbers_other F p x v n = elim (zero_or_not p.factor) [
  | inl e ↦ numbers_none (only F x v) p e ∙ sym (numbers_none F p e)
  | inr d ↦ numbers_set (only F x v) p d ∙ only_there F x p.variable v (n d) ∙ sym (numbers_set F p d)
]

-- ---- one value

pub only_below_has : (F G : Family) (p : Part) (v : ℤ) → Below F G → HasOnly G p v → HasOnly F p v
only_below_has F G p v b h w m = h w (numbers_below F G p b w m)

pub misses_below : (F G : Family) (p : Part) (v : ℤ) → Below F G → Misses G p v → Misses F p v
misses_below F G p v b h w m = h w (numbers_below F G p b w m)

-- ---- two parts

pub meets_to : (F : Family) (p q : Part) → ((v w : ℤ) → member v (numbers_of F p) ≡ true → member w (numbers_of F q) ≡ true → value_with p v ≡ value_with q w) → meets F p q ≡ true
meets_to F p q h =
    all_from (λ v. list_all (λ w. int_eq (value_with p v) (value_with q w)) (numbers_of F q)) (numbers_of F p) (λ v m.
    all_from (λ w. int_eq (value_with p v) (value_with q w)) (numbers_of F q) (λ w n. (Decides-int_eq (value_with p v) (value_with q w)).1 (h v w m n)))

pub meets_from : (F : Family) (p q : Part) → meets F p q ≡ true → (v w : ℤ) → member v (numbers_of F p) ≡ true → member w (numbers_of F q) ≡ true → value_with p v ≡ value_with q w
meets_from F p q h v w m n =
    (Decides-int_eq (value_with p v) (value_with q w)).0
    (all_member (λ w. int_eq (value_with p v) (value_with q w)) (numbers_of F q) w
    (all_member (λ v. list_all (λ w. int_eq (value_with p v) (value_with q w)) (numbers_of F q)) (numbers_of F p) v h m) n)

meets_falls : (F G : Family) (p q : Part) → Below F G → meets G p q ≡ true → meets F p q ≡ true
meets_falls F G p q b h = meets_to F p q (λ v w m n. meets_from G p q h v w (numbers_below F G p b v m) (numbers_below F G q b w n))

pub meets_one : (F : Family) (p q : Part) (v : ℤ) → HasOnly F p v → HasOnly F q v → meets F p q ≡ true
meets_one F p q v h k = meets_to F p q (λ u w m n. h u m ∙ sym (k w n))

-- ---- lists

either : (a b : Bool) → (a || b) ≡ true → (a ≡ true) ⊎ (b ≡ true)
either true b h = inl refl
either false b h = inr h

or_falls : (a b c d : Bool) → (a ≡ true → b ≡ true) → (c ≡ true → d ≡ true) → (a || c) ≡ true → (b || d) ≡ true
or_falls a b c d f g h = elim (either a c h) [ inl e ↦ or_left b d (f e) | inr e ↦ or_right b d (g e) ]

any_falls : (F G : Family) (p : Part) (qs : List Part) → Below F G → meets_any G p qs ≡ true → meets_any F p qs ≡ true
any_falls F G p [] b h = h
any_falls F G p (q ∷ qs) b h = or_falls (meets G p q) (meets F p q) (meets_any G p qs) (meets_any F p qs) (meets_falls F G p q b) (any_falls F G p qs b) h

clash_falls : (F G : Family) (ps : List Part) → Below F G → clashes ps G ≡ true → clashes ps F ≡ true
clash_falls F G [] b h = h
clash_falls F G (p ∷ ps) b h = or_falls (meets_any G p ps) (meets_any F p ps) (clashes ps G) (clashes ps F) (any_falls F G p ps b) (clash_falls F G ps b) h

pub clashes_fall : (ps : List Part) → IsMonotone (clashes ps)
clashes_fall ps = record { falls = λ F G f b h. clash_falls F G ps b h }

any_at : (F : Family) (p : Part) (qs : List Part) (j : ℕ) → j < length qs → meets F p (get_or qs j nothing) ≡ true → meets_any F p qs ≡ true
any_at F p [] j h m = absurd (omega (arith, h))
any_at F p (q ∷ qs) zero h m = or_left (meets F p q) (meets_any F p qs) m
any_at F p (q ∷ qs) (suc j) h m = or_right (meets F p q) (meets_any F p qs) (any_at F p qs j (omega (arith, h)) m)

pub clash_at : (F : Family) (ps : List Part) (i j : ℕ) → i < j → j < length ps → meets F (get_or ps i nothing) (get_or ps j nothing) ≡ true → clashes ps F ≡ true
clash_at F [] i j l h m = absurd (omega (arith, h))
clash_at F (p ∷ ps) i zero l h m = absurd (omega (arith, l))
clash_at F (p ∷ ps) zero (suc j) l h m = or_left (meets_any F p ps) (clashes ps F) (any_at F p ps j (omega (arith, h)) m)
clash_at F (p ∷ ps) (suc i) (suc j) l h m = or_right (meets_any F p ps) (clashes ps F) (clash_at F ps i j (omega (arith, l)) (omega (arith, h)) m)

-- two parts with the same value clash
pub both_clash : (F : Family) (ps : List Part) (i j : ℕ) (v : ℤ) → i < length ps → j < length ps → i ≢ j → HasOnly F (part_at ps i) v → HasOnly F (part_at ps j) v → clashes ps F ≡ true
both_clash F ps i j v h k n a b = elim (cases_lt i j) [
  | inl l ↦ clash_at F ps i j l k (meets_one F (part_at ps i) (part_at ps j) v a b)
  | inr l ↦ clash_at F ps j i (omega (arith, l, n)) h (meets_one F (part_at ps j) (part_at ps i) v b a)
]

-- two parts that meet
pub record Clash (F : Family) (ps : List Part) : Type 0 where
  pub first : ℕ
  pub second : ℕ
  pub before : first < second
  pub there : second < length ps
  pub meet : meets F (get_or ps first nothing) (get_or ps second nothing) ≡ true

any_from : (F : Family) (p : Part) (qs : List Part) → meets_any F p qs ≡ true → (j : ℕ) × (j < length qs) × (meets F p (get_or qs j nothing) ≡ true)
any_from F p [] h = cc
any_from F p (q ∷ qs) h = elim (either (meets F p q) (meets_any F p qs) h) [
  | inl e ↦ (zero, omega arith, e)
  | inr e ↦ let r = any_from F p qs e in (suc r.0, omega (arith, r.1), r.2)
]

pub clash_from : (F : Family) (ps : List Part) → clashes ps F ≡ true → Clash F ps
clash_from F [] h = cc
clash_from F (p ∷ ps) h = elim (either (meets_any F p ps) (clashes ps F) h) [
  | inl e ↦ let r = any_from F p ps e in record { first = zero; second = suc r.0; before = omega arith; there = omega (arith, r.1); meet = r.2 }
  | inr e ↦ let r = clash_from F ps e in record { first = suc r.first; second = suc r.second; before = omega (arith, r.before); there = omega (arith, r.there); meet = r.meet }
]
