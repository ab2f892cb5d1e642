-- The closure is the union of all stable families.
use Rattle.std.proofs.Common.{◌≡◌, ℕ, zero, suc, ◌<◌, Bool, true, false, cond, ◌&&◌, refl, [], ◌∷◌, ℤ, length, inl, inr, sym, subst, arith}
use Rattle.std.specs.Prelude.{not, Option, Some, None}
use Rattle.std.specs.List.{list_any, list_all}
use Rattle.std.proofs.lemmas.Bool.{and_parts, and_from, not-true, cases_order}
use Rattle.opl_domain.specs.Family.{Family, set_of, has, only, Full}
use Rattle.opl_domain.proofs.Members.{member_first}
use Rattle.opl_expr.specs.Laws.{singles}
use Rattle.opl_trace.specs.Stable.{IsMonotone, IsStable, IsStableWithin, IsInStable, IsStableUnion}
use Rattle.opl_trace.specs.Closure.{families, is_some, spares, is_stable, is_in_stable, restrict, closure}
use Rattle.opl_trace.specs.ClosureLaws.{ClosesTo, ClosureIsUnion, IsBelowSome, NoneLost}
use Rattle.opl_trace.proofs.Passing.{not_from_false, all_member, all_from}
use Rattle.opl_trace.proofs.Families.{any_family, from_family, below_restrict, restrict_within, has_restrict, from_restrict, length-restrict}
use Rattle.opl_trace.proofs.StableFamilies.{stable_alike, below_union, singles_stable}

-- ---- what the test for stable families tells

full_is : (F : Family) → list_all is_some F ≡ true → Full F
unfolding set_of
full_is [] h x k = absurd (omega arith)
full_is ([] ∷ F) h x k = cc
full_is ((v ∷ vs) ∷ F) h zero k = (v, member_first v vs)
full_is ((v ∷ vs) ∷ F) h (suc x) k = full_is F h x (omega arith)

full_from : (F : Family) → Full F → list_all is_some F ≡ true
unfolding set_of
full_from [] f = refl
full_from ([] ∷ F) f = let r = f zero (omega arith) in let e = r.1 in cc
full_from ((v ∷ vs) ∷ F) f = full_from F (λ x k. f (suc x) (omega arith))

spares_is : (dead : Family → Bool) (F : Family) (n : ℕ) → spares dead F n ≡ true → (dead F ≡ false) × ((x : ℕ) (v : ℤ) → x < n → has F x v ≡ true → dead (only F x v) ≡ false)
spares_is dead F zero h = (not-true (dead F) h, λ x v k m. absurd (omega arith))
spares_is dead F (suc n) h =
    let r = and_parts (spares dead F n) (list_all (λ v. not (dead (only F n v))) (set_of F n)) h in
    let s = spares_is dead F n r.0 in (
      s.0,
      λ x v k m. elim (cases_order x n) [
        | inl e ↦ subst (λ y. dead (only F y v) ≡ false) (sym e) (not-true (dead (only F n v)) (all_member (λ w. not (dead (only F n w))) (set_of F n) v r.1 (subst (λ y. has F y v ≡ true) e m)))
        | inr o ↦ elim o [ inl l ↦ s.1 x v l m | inr l ↦ absurd (omega arith) ]
      ],
    )

spares_from : (dead : Family → Bool) (F : Family) (n : ℕ) → dead F ≡ false → ((x : ℕ) (v : ℤ) → x < n → has F x v ≡ true → dead (only F x v) ≡ false) → spares dead F n ≡ true
spares_from dead F zero h all = not_from_false (dead F) h
spares_from dead F (suc n) h all =
    and_from (spares dead F n) (list_all (λ v. not (dead (only F n v))) (set_of F n))
    (spares_from dead F n h (λ x v k m. all x v (omega arith) m))
    (all_from (λ v. not (dead (only F n v))) (set_of F n) (λ v m. not_from_false (dead (only F n v)) (all n v (omega arith) m)))

pub stable_is : (dead : Family → Bool) (F : Family) → is_stable dead F ≡ true → IsStable dead F
unfolding is_stable
stable_is dead F h =
    let r = and_parts (list_all is_some F) (spares dead F (length F)) h in
    let s = spares_is dead F (length F) r.1 in
    record { full = full_is F r.0; spared = s.0; each = s.1 }

pub stable_from : (dead : Family → Bool) (F : Family) → IsStable dead F → is_stable dead F ≡ true
unfolding is_stable
stable_from dead F s = and_from (list_all is_some F) (spares dead F (length F)) (full_from F s.full) (spares_from dead F (length F) s.spared s.each)

-- ---- the closure

stable_restrict : (dead : Family → Bool) (D F : Family) → IsMonotone dead → IsStableWithin dead D F → is_stable dead (restrict (has F) D) ≡ true
stable_restrict dead D F m s = stable_from dead (restrict (has F) D) (stable_alike dead F (restrict (has F) D) m s.stable (below_restrict F D s.within) (restrict_within F D s.within))

pub any_stable : (dead : Family → Bool) (D F : Family) → IsMonotone dead → IsStableWithin dead D F → list_any (is_stable dead) (families D) ≡ true
any_stable dead D F m s = any_family (is_stable dead) (has F) D (stable_restrict dead D F m s)

pub in_stable_is : (dead : Family → Bool) (D : Family) (x : ℕ) (v : ℤ) → is_in_stable dead D x v ≡ true → IsInStable dead D x v
unfolding is_in_stable
in_stable_is dead D x v h =
    let r = from_family (λ F. is_stable dead F && has F x v) D h in
    let b = and_parts (is_stable dead r.family) (has r.family x v) r.passes in
    record { family = r.family; is_stable = record { stable = stable_is dead r.family b.0; within = r.within }; value = b.1 }

pub in_stable_from : (dead : Family → Bool) (D : Family) (x : ℕ) (v : ℤ) → IsMonotone dead → IsInStable dead D x v → is_in_stable dead D x v ≡ true
unfolding is_in_stable
in_stable_from dead D x v m w =
    any_family (λ F. is_stable dead F && has F x v) (has w.family) D
    (and_from (is_stable dead (restrict (has w.family) D)) (has (restrict (has w.family) D) x v)
    (stable_restrict dead D w.family m w.is_stable)
    (has_restrict (has w.family) D x v (w.is_stable.within.sub x v w.value) w.value))

pub union_is : (dead : Family → Bool) (D : Family) → IsMonotone dead → list_any (is_stable dead) (families D) ≡ true → IsStableUnion dead D (restrict (is_in_stable dead D) D)
union_is dead D m h =
    let r = from_family (is_stable dead) D h in
    record {
      family = r.family;
      is_stable = record { stable = stable_is dead r.family r.passes; within = r.within };
      same = length-restrict (is_in_stable dead D) D;
      values = λ x v. (
        λ k. in_stable_is dead D x v (from_restrict (is_in_stable dead D) D x v k).1,
        λ w. has_restrict (is_in_stable dead D) D x v (w.is_stable.within.sub x v w.value) (in_stable_from dead D x v m w),
      );
    }

pub closure_is : ClosureIsUnion
unfolding closure
closure_is dead D m =
    elim (list_any (is_stable dead) (families D)) as (λ b. list_any (is_stable dead) (families D) ≡ b → ClosesTo dead D (cond b (Some (restrict (is_in_stable dead D) D)) None)) [
      | true ↦ λ e. union_is dead D m e
      | false ↦ λ e F s. let k = any_stable dead D F m s in cc
    ] refl

-- an assignment that is spared lies in the closure
below_closed : (dead : Family → Bool) (D F : Family) (o : Option Family) → IsStableWithin dead D F → ClosesTo dead D o → IsBelowSome F o
below_closed dead D F None s c = c F s
below_closed dead D F (Some C) s c = below_union dead D C F c s

pub none_lost : NoneLost
none_lost dead D a m h b = below_closed dead D (singles a) (closure dead D) (record { stable = singles_stable dead a h; within = b }) (closure_is dead D m)
