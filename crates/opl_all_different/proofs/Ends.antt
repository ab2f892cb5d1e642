-- Whether parts clash hangs on the ends of sets alone.
use Rattle.std.proofs.Common.{◌≡◌, ◌≢◌, ◌∙◌, ◌⊎◌, ℕ, ◌<◌, Bool, true, false, refl, List, [], ◌∷◌, length, ℤ, pos, ◌≤ℤ◌, ◌<ℤ◌, get_or, ap, sym, subst, arith, inl, inr}
use Rattle.std.proofs.lemmas.Int.{ints}
use Rattle.opl_domain.specs.Span.{Span, hull_of}
use Rattle.opl_domain.specs.Family.{Family, Full, member, set_of, hull}
use Rattle.opl_domain.proofs.Members.{least_member, least_is, greatest_member, greatest_is}
use Rattle.opl_trace.proofs.Removals.{lt_or_eq}
use Rattle.opl_expr.specs.declared.model.Core.{Core}
use Rattle.opl_expr.specs.Forms.{Fact}
use Rattle.opl_filter.specs.Filtering.{refutes}
use Rattle.opl_linear_filter.specs.Ends.{SeesEnds}
use Rattle.opl_all_different.specs.declared.part.Part.{Part}
use Rattle.opl_all_different.specs.declared.different_filter.DifferentFilter.{DifferentFilter}
use Rattle.opl_all_different.specs.Parts.{nothing, part_at, numbers_of, value_with, HasOnly, clashes, IsThere, AreSeparate, ArePartsOf}
use Rattle.opl_all_different.specs.DifferentForms.{IsFilterOf}
use Rattle.opl_all_different.specs.Laws.{DifferentByEnds}
use Rattle.opl_all_different.proofs.Meetings.{numbers_none, numbers_set, numbers_some, zero_or_not, meets_from, meets_one, clash_at, clash_from}
use Rattle.opl_all_different.proofs.Takings.{values_apart}
use Rattle.opl_all_different.proofs.Differing.{different_by_parts}

-- the ends of a list with a number are two of its numbers, and all lie between them
record Spans (vs : List ℤ) (a : Span) : Type 0 where
  low : member a.low vs ≡ true
  high : member a.high vs ≡ true
  within : (u : ℤ) → member u vs ≡ true → (a.low ≤ℤ u) × (u ≤ℤ a.high)

spans : (vs : List ℤ) (u : ℤ) → member u vs ≡ true → Spans vs (hull_of vs)
unfolding hull_of
spans [] u m = cc
spans (v ∷ vs) u m = record { low = least_member v vs; high = greatest_member v vs; within = λ w k. (least_is v vs w k, greatest_is v vs w k) }

set_spans : (F : Family) (x : ℕ) (u : ℤ) → member u (set_of F x) ≡ true → Spans (set_of F x) (hull F x)
unfolding hull
set_spans F x u m = spans (set_of F x) u m

equal_values : (p : Part) (u v : ℤ) → p.factor ≢ pos 0 → value_with p u ≡ value_with p v → u ≡ v
equal_values p u v n e = elim (lt_or_eq v u) [
  | inl l ↦ absurd (values_apart p u v n l e)
  | inr k ↦ elim k [ inl i ↦ i | inr g ↦ absurd (values_apart p v u n g (sym e)) ]
]

-- a part that has one value has the same one over other sets with the same ends
only_alike : (F G : Family) (p : Part) (v : ℤ) → Full F → IsThere (length F) p → (p.factor ≢ pos 0 → hull F p.variable ≡ hull G p.variable) → HasOnly F p v → HasOnly G p v
only_alike F G p v f t same h w m = elim (zero_or_not p.factor) [
  | inl e ↦ h w (subst (λ vs. member w vs ≡ true) (numbers_none G p e ∙ sym (numbers_none F p e)) m)
  | inr n ↦
      let u = f p.variable (t n) in
      let s = set_spans F p.variable u.0 u.1 in
      let there : member w (set_of G p.variable) ≡ true = subst (λ vs. member w vs ≡ true) (numbers_set G p n) m in
      let r = set_spans G p.variable w there in
      let value : (z : ℤ) → member z (set_of F p.variable) ≡ true → value_with p z ≡ v = λ z k. h z (subst (λ vs. member z vs ≡ true) (sym (numbers_set F p n)) k) in
      let one : (hull F p.variable).low ≡ (hull F p.variable).high = equal_values p (hull F p.variable).low (hull F p.variable).high n (value (hull F p.variable).low s.low ∙ sym (value (hull F p.variable).high s.high)) in
      let k = r.within w there in
      let low : (hull F p.variable).low ≡ (hull G p.variable).low = ap (λ a. a.low) (same n) in
      let high : (hull F p.variable).high ≡ (hull G p.variable).high = ap (λ a. a.high) (same n) in
      let is : w ≡ (hull F p.variable).low = omega (arith, ints, k.0, k.1, low, high, one) in
      ap (value_with p) is ∙ value (hull F p.variable).low s.low
]

-- so parts that clash do so over other sets with the same ends
clashes_alike : (ps : List Part) (F G : Family) (n : ℕ) → Full F → length F ≡ n → ((x : ℕ) → x < n → hull F x ≡ hull G x) → AreSeparate n ps → clashes ps F ≡ true → clashes ps G ≡ true
clashes_alike ps F G n f a same s h =
    let k = clash_from F ps h in
    let p = get_or ps k.first nothing in
    let q = get_or ps k.second nothing in
    let first : IsThere n p = s.there k.first (omega (arith, k.before, k.there)) in
    let second : IsThere n q = s.there k.second k.there in
    let u = numbers_some F p f (λ d. subst (λ m. p.variable < m) (sym a) (first d)) in
    let w = numbers_some F q f (λ d. subst (λ m. q.variable < m) (sym a) (second d)) in
    let c = value_with q w.0 in
    let one : HasOnly F p c = λ z m. meets_from F p q k.meet z w.0 m w.1 in
    let other : HasOnly F q c = λ z m. sym (meets_from F p q k.meet u.0 z u.1 m) ∙ one u.0 u.1 in
    clash_at G ps k.first k.second k.before k.there (meets_one G p q c
    (only_alike F G p c f (λ d. subst (λ m. p.variable < m) (sym a) (first d)) (λ d. same p.variable (first d)) one)
    (only_alike F G q c f (λ d. subst (λ m. q.variable < m) (sym a) (second d)) (λ d. same q.variable (second d)) other))

both_ways : (a b : Bool) → (a ≡ true → b ≡ true) → (b ≡ true → a ≡ true) → a ≡ b
both_ways true b f g = sym (f refl)
both_ways false true f g = g refl
both_ways false false f g = refl

pub different_by_ends : DifferentByEnds
different_by_ends core c f is F G u v a b same =
    let s = is.made.separate in
    let by_parts : (H : Family) → Full H → length H ≡ length core.sets → refutes c H ≡ clashes f.parts H =
    λ H w l. ap (λ d. refutes d H) is.is ∙ different_by_parts is.terms f.parts H w (subst (λ n. ArePartsOf n is.terms f.parts) (sym l) is.parts) (subst (λ n. AreSeparate n f.parts) (sym l) s) in
    by_parts F u a
    ∙ both_ways (clashes f.parts F) (clashes f.parts G) (clashes_alike f.parts F G (length core.sets) u a same s) (clashes_alike f.parts G F (length core.sets) v b (λ x l. sym (same x l)) s)
    ∙ sym (by_parts G v b)
