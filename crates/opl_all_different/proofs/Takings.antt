-- A value is taken from one part: how the code finds it, and what it removes.
use Rattle.std.proofs.Common.{◌≡◌, ◌≢◌, ◌∙◌, ℕ, zero, suc, ◌<◌, Bool, true, false, refl, List, [], length, ℤ, pos, negsuc, ◌+ℤ◌, ◌*ℤ◌, neg_ℤ, ◌≤ℤ◌, ◌<ℤ◌, ap, sym, subst, arith, inl, inr}
use Rattle.std.specs.Prelude.{Option, Some, None}
use Rattle.std.proofs.lemmas.Int.{ints}
use Rattle.std.proofs.Math.IntN.{*ℤ_comm, zero-*ℤ}
use Rattle.opl_domain.specs.Family.{member, Family, IsFamily, IsLeast, IsGreatest, is_outside, outside, set_of, has, cut_of}
use Rattle.opl_domain.proofs.Members.{member_cases, from_filter, between_is}
use Rattle.opl_domain.proofs.Sets.{cut_here}
use Rattle.opl_expr.proofs.Ring.{plus_times}
use Rattle.opl_trace.proofs.Removals.{one_member, other_stays}
use Rattle.opl_range.specs.Between.{IsRoot}
use Rattle.opl_linear.specs.Roots.{IsValueOf}
use Rattle.opl_all_different.specs.declared.part.Part.{Part}
use Rattle.opl_all_different.specs.Parts.{numbers_of, value_with, HasOnly}
use Rattle.opl_all_different.specs.Singles.{Singles}
use Rattle.opl_all_different.specs.Taking.{IsNumber, IsNumberFor, Loses, Takes}
use Rattle.opl_all_different.proofs.Meetings.{numbers_none, numbers_set}

-- ---- products

nonzero_times : (k u : ℤ) → k ≢ pos 0 → u ≢ pos 0 → (k *ℤ u) ≢ pos 0
nonzero_times (pos zero) u n m = absurd (n refl)
nonzero_times (pos (suc a)) (pos zero) n m = absurd (m refl)
nonzero_times (pos (suc a)) (pos (suc b)) n m = λ e. omega (arith, ints, e)
nonzero_times (pos (suc a)) (negsuc b) n m = λ e. omega (arith, ints, e)
nonzero_times (negsuc a) (pos zero) n m = absurd (m refl)
nonzero_times (negsuc a) (pos (suc b)) n m = λ e. omega (arith, ints, e)
nonzero_times (negsuc a) (negsuc b) n m = λ e. omega (arith, ints, e)

times_plus : (k u v : ℤ) → k *ℤ (u +ℤ v) ≡ (k *ℤ u) +ℤ (k *ℤ v)
times_plus k u v = *ℤ_comm k (u +ℤ v) ∙ plus_times u v k ∙ ap (λ w. w +ℤ (v *ℤ k)) (*ℤ_comm u k) ∙ ap (λ w. (k *ℤ u) +ℤ w) (*ℤ_comm v k)

-- other numbers make other values
pub values_apart : (p : Part) (u v : ℤ) → p.factor ≢ pos 0 → u <ℤ v → value_with p u ≢ value_with p v
values_apart p u v n h e =
    let f : v ≡ u +ℤ (v +ℤ neg_ℤ u) = omega (arith, ints) in
    let g = ap (λ w. p.factor *ℤ w) f ∙ times_plus p.factor u (v +ℤ neg_ℤ u) in
    nonzero_times p.factor (v +ℤ neg_ℤ u) n (λ z. omega (arith, ints, z, h)) (omega (arith, ints, e, g))

-- ---- a part has one value

none_zero : (F : Family) (p : Part) → p.factor ≡ pos 0 → (w : ℤ) → member w (numbers_of F p) ≡ true → w ≡ pos 0
none_zero F p e w m = elim (member_cases w (pos 0) [] (subst (λ vs. member w vs ≡ true) (numbers_none F p e) m)) [ inl i ↦ i | inr i ↦ cc ]

pub single_none : (F : Family) (p : Part) → p.factor ≡ pos 0 → Singles F p true
single_none F p e v w m n = ap (value_with p) (none_zero F p e v m ∙ sym (none_zero F p e w n))

pub single_more : (F : Family) (p : Part) (l h : ℤ) → p.factor ≢ pos 0 → IsLeast (set_of F p.variable) l → IsGreatest (set_of F p.variable) h → l <ℤ h → Singles F p false
single_more F p l h n a b o =
    let e = sym (numbers_set F p n) in
    record {
      first = l;
      second = h;
      first_there = subst (λ vs. member l vs ≡ true) e a.among;
      second_there = subst (λ vs. member h vs ≡ true) e b.among;
      differ = values_apart p l h n o;
    }

pub single_ends : (F : Family) (p : Part) (l h : ℤ) → p.factor ≢ pos 0 → IsLeast (set_of F p.variable) l → IsGreatest (set_of F p.variable) h → h ≤ℤ l → Singles F p true
single_ends F p l h n a b o v w i j = ap (value_with p) (is v i ∙ sym (is w j))
  where
    is : (u : ℤ) → member u (numbers_of F p) ≡ true → u ≡ l
    is u m =
        let k = subst (λ vs. member u vs ≡ true) (numbers_set F p n) m in
        between_is u l (omega (arith, ints, b.most u k, o)) (a.least u k)

pub value_none : (F : Family) (p : Part) → p.factor ≡ pos 0 → HasOnly F p p.constant
value_none F p e w m =
    let z = none_zero F p e w m in
    let t = ap (λ k. k *ℤ w) e ∙ zero-*ℤ w in
    omega (arith, ints, t)

pub value_least : (F : Family) (p : Part) (l r s : ℤ) → p.factor ≢ pos 0 → IsLeast (set_of F p.variable) l → Singles F p true → r ≡ p.factor *ℤ l → s ≡ p.constant +ℤ r → HasOnly F p s
value_least F p l r s n a h e f w m =
    let k = subst (λ vs. member l vs ≡ true) (sym (numbers_set F p n)) a.among in
    h w l m k ∙ sym (f ∙ ap (λ z. p.constant +ℤ z) e)

pub least_number : (F : Family) (p : Part) (l : ℤ) → p.factor ≢ pos 0 → IsLeast (set_of F p.variable) l → member l (numbers_of F p) ≡ true
least_number F p l n a = subst (λ vs. member l vs ≡ true) (sym (numbers_set F p n)) a.among

-- ---- the number that makes a value

root_is : (p : Part) (v r w : ℤ) → r ≡ p.constant +ℤ neg_ℤ v → value_with p w ≡ v → r +ℤ (p.factor *ℤ w) ≡ pos 0
root_is p v r w e h = omega (arith, ints, e, h)

is_root : (p : Part) (v r w : ℤ) → r ≡ p.constant +ℤ neg_ℤ v → r +ℤ (p.factor *ℤ w) ≡ pos 0 → value_with p w ≡ v
is_root p v r w e h = omega (arith, ints, e, h)

pub number_none : (F : Family) (p : Part) (v r : ℤ) → r ≡ p.constant +ℤ neg_ℤ v → IsRoot r p.factor None → IsNumberFor F p v None
number_none F p v r e n w m h = n w (root_is p v r w e h)

pub number_value : (F : Family) (p : Part) (v r u : ℤ) (o : Option ℤ) → r ≡ p.constant +ℤ neg_ℤ v → IsRoot r p.factor (Some u) → IsValueOf F p.variable u o → IsNumberFor F p v o
number_value F p v r u None e i n = λ w m h. let s = (i w).0 (root_is p v r w e h) in let t = subst (λ z. has F p.variable z ≡ true) s m in cc
number_value F p v r u (Some w) e i n =
    record {
      there = subst (λ z. has F p.variable z ≡ true) (sym n.0) n.1;
      is = is_root p v r w e ((i w).1 n.0);
      alone = λ z h. (i z).0 (root_is p v r z e h) ∙ sym n.0;
    }

-- ---- a value goes, or is the last

pub loses_none : (F : Family) (x : ℕ) (w : ℤ) → length (set_of F x) ≡ 1 → has F x w ≡ true → Loses F F x w false
loses_none F x w e m = (refl, λ u k. one_member (set_of F x) w u e m k)

pub loses_one : (F G : Family) (x : ℕ) (w : ℤ) → IsFamily F → x < length F → has F x w ≡ true → (length (set_of F x) ≡ 1 → ⊥) → G ≡ cut_of F x w w → Loses F G x w true
loses_one F G x w f h m n e = (e, other_stays F x w f h m n)

-- ---- a part

pub takes_missing : (F : Family) (p : Part) (v : ℤ) → p.factor ≢ pos 0 → IsNumberFor F p v None → Takes F F p v true
takes_missing F p v n h = (inl refl, λ w m. h w (subst (λ vs. member w vs ≡ true) (numbers_set F p n) m))

not_outside : (v w : ℤ) → w ≡ v → is_outside v v w ≡ true → ⊥
unfolding is_outside
not_outside v w e h = grind (arith, ints)

from_one_cut : (v w : ℤ) (xs : List ℤ) → member w (outside v v xs) ≡ true → w ≢ v
from_one_cut v w xs m e = not_outside v w e (from_filter (is_outside v v) xs w m).1

pub takes_value : (D F : Family) (p : Part) (v w : ℤ) (b : Bool) → p.factor ≢ pos 0 → p.variable < length D → IsNumber D p v w → Loses D F p.variable w b → Takes D F p v b
takes_value D F p v w false n k i l = (l.0, λ u m. ap (value_with p) (l.1 u (subst (λ vs. member u vs ≡ true) (numbers_set D p n) m)) ∙ i.is)
takes_value D F p v w true n k i l = (
  inr (record { number = w; factor = n; had = i.there; is = i.is; left = l.0; stays = l.1 }),
  λ u m h.
      let e = numbers_set F p n ∙ ap (λ G. set_of G p.variable) l.0 ∙ cut_here D p.variable w w k in
      from_one_cut w u (set_of D p.variable) (subst (λ vs. member u vs ≡ true) e m) (i.alone u h),
)
