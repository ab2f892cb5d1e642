-- Sets that hold every stable family, and from propagation to the sets of a moment.
use Rattle.std.proofs.Common.{◌≡◌, ◌∙◌, ℕ, zero, suc, Bool, true, false, ◌||◌, refl, List, [], ◌∷◌, ◌++◌, length, map, ℤ, pos, ◌+ℤ◌, neg_ℤ, ap, sym, subst, arith, inl, inr}
use Rattle.std.specs.Prelude.{Option, Some, None}
use Rattle.std.specs.List.{list_any}
use Rattle.std.proofs.lemmas.Int.{ints}
use Rattle.opl_domain.specs.Span.{values, count_from}
use Rattle.opl_domain.specs.Family.{Family, IsFamily, IsRising, member, set_of, has, Below}
use Rattle.opl_domain.proofs.Members.{member_cases, member_first, member_later}
use Rattle.opl_domain.proofs.Sets.{filter_rises, ints_rise}
use Rattle.opl_expr.specs.declared.model.Core.{Core}
use Rattle.opl_expr.specs.Forms.{Fact}
use Rattle.opl_expr.specs.Range.{is_refuted}
use Rattle.opl_expr.specs.Solutions.{declared}
use Rattle.opl_trace.specs.Stable.{IsStable}
use Rattle.opl_trace.specs.Closure.{closure, restrict}
use Rattle.opl_trace.specs.Removals.{Kept}
use Rattle.opl_trace.specs.Marks.{objective}
use Rattle.opl_trace.specs.Moments.{core_sets}
use Rattle.opl_trace.specs.Objective.{Objective, bound}
use Rattle.opl_trace.specs.Run.{is_dead, closed}
use Rattle.opl_trace.proofs.Closures.{closure_is}
use Rattle.opl_trace.proofs.Constraints.{dead_monotone}
use Rattle.opl_trace.proofs.Families.{below_self, below_restrict, restrict_within}
use Rattle.opl_trace.proofs.Removals.{kept_below}
use Rattle.opl_trace.proofs.StableFamilies.{below_union}
use Rattle.opl_trace.proofs.Posting.{stable_more}
use Rattle.opl_trace.proofs.Better.{stable_tighter}
use Rattle.opl_trace.specs.ClosureLaws.{ClosesTo}
use Rattle.opl_closure.specs.Members.{refutes_one}
use Rattle.opl_engine.specs.Members.{bound_fact}
use Rattle.opl_engine.specs.States.{HoldsAll}
use Rattle.opl_engine.specs.Laws.{IsNotWorse, DeclaredHoldAll, PostingHoldsAll, BetterHoldsAll, MomentHoldsAll}

-- ---- the bound is a member

any_append : {A : Type 0} (p : A → Bool) (xs ys : List A) → list_any p (xs ++ ys) ≡ (list_any p xs || list_any p ys)
any_append p [] ys = refl
any_append p (x ∷ xs) ys = elim (p x) as (λ b. (b || list_any p (xs ++ ys)) ≡ ((b || list_any p xs) || list_any p ys)) [ true ↦ refl | false ↦ any_append p xs ys ]

last_first : (a b : Bool) → (a || b) ≡ (b || (a || false))
last_first true true = refl
last_first true false = refl
last_first false true = refl
last_first false false = refl

none_last : (b : Bool) → b ≡ (b || false)
none_last true = refl
none_last false = refl

dead_at : (goal : Option Objective) (P : List Fact) (b : Option ℤ) (F : Family) → refutes_one (bound_fact goal b ∷ P) F ≡ is_dead goal P b F
unfolding is_dead
dead_at None P b F = none_last (list_any (is_refuted F) P) ∙ sym (any_append (is_refuted F) P [])
dead_at (Some g) P None F = none_last (list_any (is_refuted F) P) ∙ sym (any_append (is_refuted F) P [])
dead_at (Some g) P (Some v) F = last_first (is_refuted F (bound_fact (Some g) (Some v))) (list_any (is_refuted F) P) ∙ sym (any_append (is_refuted F) P (bound (Some g) (Some v)))

pub dead_same : (goal : Option Objective) (P : List Fact) (b : Option ℤ) → refutes_one (bound_fact goal b ∷ P) ≡ is_dead goal P b
dead_same goal P b = λ i F. dead_at goal P b F i

-- ---- rising lists with the same members are equal

least_same : (v w : ℤ) (vs ws : List ℤ) → IsRising (v ∷ vs) → IsRising (w ∷ ws) → member v (w ∷ ws) ≡ true → member w (v ∷ vs) ≡ true → v ≡ w
least_same v w vs ws r s m k = elim (member_cases v w ws m) [
  | inl e ↦ e
  | inr n ↦ elim (member_cases w v vs k) [
    | inl e ↦ sym e
    | inr o ↦ absurd (let a = s.0 v n in let b = r.0 w o in omega (arith, ints, a, b))
  ]
]

others_same : (v u : ℤ) (vs ws : List ℤ) → IsRising (v ∷ vs) → ((u : ℤ) → member u (v ∷ vs) ≡ true → member u (v ∷ ws) ≡ true) → member u vs ≡ true → member u ws ≡ true
others_same v u vs ws r h m = elim (member_cases u v ws (h u (member_later u v vs m))) [
  | inl e ↦ absurd (let a = r.0 u m in omega (arith, ints, a, e))
  | inr k ↦ k
]

pub rising_same : (vs ws : List ℤ) → IsRising vs → IsRising ws → ((u : ℤ) → member u vs ≡ true → member u ws ≡ true) → ((u : ℤ) → member u ws ≡ true → member u vs ≡ true) → vs ≡ ws
rising_same [] [] r s h k = refl
rising_same [] (w ∷ ws) r s h k = absurd (let m = k w (member_first w ws) in cc)
rising_same (v ∷ vs) [] r s h k = absurd (let m = h v (member_first v vs) in cc)
rising_same (v ∷ vs) (w ∷ ws) r s h k =
    let e = least_same v w vs ws r s (h v (member_first v vs)) (k w (member_first w ws)) in
    let s2 : IsRising (v ∷ ws) = subst (λ u. IsRising (u ∷ ws)) (sym e) s in
    let h2 : (u : ℤ) → member u (v ∷ vs) ≡ true → member u (v ∷ ws) ≡ true = λ u m. subst (λ z. member u (z ∷ ws) ≡ true) (sym e) (h u m) in
    let k2 : (u : ℤ) → member u (v ∷ ws) ≡ true → member u (v ∷ vs) ≡ true = λ u m. k u (subst (λ z. member u (z ∷ ws) ≡ true) e m) in
    ap (λ us. v ∷ us) (rising_same vs ws r.1 s.1 (λ u m. others_same v u vs ws r h2 m) (λ u m. others_same v u ws vs s2 k2 m)) ∙ ap (λ u. u ∷ ws) e

-- families whose sets rise, with the same members
pub families_same : (F G : Family) → length F ≡ length G → ((x : ℕ) → IsRising (set_of F x)) → ((x : ℕ) → IsRising (set_of G x)) → ((x : ℕ) (v : ℤ) → has F x v ≡ true → has G x v ≡ true) → ((x : ℕ) (v : ℤ) → has G x v ≡ true → has F x v ≡ true) → F ≡ G
unfolding set_of
families_same [] [] e r s h k = refl
families_same [] (ws ∷ G) e r s h k = absurd (omega (arith, e))
families_same (vs ∷ F) [] e r s h k = absurd (omega (arith, e))
families_same (vs ∷ F) (ws ∷ G) e r s h k =
    let a : vs ≡ ws = rising_same vs ws (r 0) (s 0) (h 0) (k 0) in
    let b : F ≡ G = families_same F G (omega (arith, e)) (λ x. r (suc x)) (λ x. s (suc x)) (λ x. h (suc x)) (λ x. k (suc x)) in
    ap (λ us. us ∷ F) a ∙ ap (λ H. ws ∷ H) b

restrict_rises : (keeps : ℕ → ℤ → Bool) (D : Family) → ((x : ℕ) → IsRising (set_of D x)) → (x : ℕ) → IsRising (set_of (restrict keeps D) x)
unfolding set_of
restrict_rises keeps [] r x = tt
restrict_rises keeps (vs ∷ D) r zero = filter_rises (keeps zero) vs (r 0)
restrict_rises keeps (vs ∷ D) r (suc x) = restrict_rises (λ y. keeps (suc y)) D (λ y. r (suc y)) x

values_rise : (ends : List (ℤ × ℤ)) (x : ℕ) → IsRising (set_of (map (λ p. values (record { low = p.0; high = p.1 })) ends) x)
unfolding set_of values
values_rise [] x = tt
values_rise (p ∷ ends) zero = ints_rise p.0 (count_from (p.1 +ℤ pos 1 +ℤ neg_ℤ p.0))
values_rise (p ∷ ends) (suc x) = values_rise ends x

declared_rise : (core : Core) (x : ℕ) → IsRising (set_of (declared core) x)
unfolding declared
declared_rise core x = values_rise core.sets x

pub restricted : (F D : Family) → IsFamily F → Below F D → ((x : ℕ) → IsRising (set_of D x)) → F ≡ restrict (has F) D
restricted F D f b r =
    let up = below_restrict F D b in
    let down = restrict_within F D b in
    families_same F (restrict (has F) D) up.same f.rising (restrict_rises (has F) D r) up.sub down.sub

-- ---- sets that hold every stable family, and what propagation keeps

pub kept_from : (core : Core) (P : List Fact) (b : Option ℤ) (F : Family) → IsFamily F → HoldsAll core P b F → Kept (refutes_one (bound_fact (objective core) b ∷ P)) (declared core) F
kept_from core P b F f h =
    subst (λ dead. Kept dead (declared core) F) (sym (dead_same (objective core) P b))
    (record { keeps = has F; is_kept = restricted F (declared core) f h.within (declared_rise core); above = λ G s w. h.holds G (record { stable = s; within = w }) })

pub holds_from : (core : Core) (P : List Fact) (b : Option ℤ) (F : Family) → Kept (refutes_one (bound_fact (objective core) b ∷ P)) (declared core) F → HoldsAll core P b F
holds_from core P b F k =
    let m = subst (λ dead. Kept dead (declared core) F) (dead_same (objective core) P b) k in
    record { within = kept_below (is_dead (objective core) P b) (declared core) F m; holds = λ G s. m.above G s.stable s.within }

pub moment_from : (core : Core) (P : List Fact) (b : Option ℤ) (o : Option Family) → closure (refutes_one (bound_fact (objective core) b ∷ P)) (declared core) ≡ o → core_sets core P b ≡ o
unfolding closed
moment_from core P b o e = subst (λ dead. closure dead (declared core) ≡ o) (dead_same (objective core) P b) e

-- ---- laws

pub declared_hold : DeclaredHoldAll
declared_hold core P b = record { within = below_self (declared core); holds = λ G s. s.within }

pub posting_holds : PostingHoldsAll
posting_holds core P Q b F h = record { within = h.within; holds = λ G s. h.holds G (record { stable = stable_more (objective core) P Q b G s.stable; within = s.within }) }

dead_alone : (P : List Fact) (b c : Option ℤ) → is_dead None P b ≡ is_dead None P c
unfolding is_dead
dead_alone P b c = refl

better_stable : (goal : Option Objective) (P : List Fact) (b c : Option ℤ) (G : Family) → IsNotWorse goal b c → IsStable (is_dead goal P c) G → IsStable (is_dead goal P b) G
better_stable None P b c G t s = subst (λ dead. IsStable dead G) (dead_alone P c b) s
better_stable (Some g) P b c G t s = stable_tighter g P b c G t s

pub better_holds : BetterHoldsAll
better_holds core P b c F t h = record { within = h.within; holds = λ G s. h.holds G (record { stable = better_stable (objective core) P b c G t s.stable; within = s.within }) }

closed_is : (core : Core) (P : List Fact) (b : Option ℤ) (F : Family) → core_sets core P b ≡ Some F → ClosesTo (is_dead (objective core) P b) (declared core) (Some F)
unfolding closed
closed_is core P b F e = subst (λ o. ClosesTo (is_dead (objective core) P b) (declared core) o) e (closure_is (is_dead (objective core) P b) (declared core) (dead_monotone (objective core) P b))

pub moment_holds : MomentHoldsAll
moment_holds core P b F e =
    let u = closed_is core P b F e in
    record {
      within = record { sub = λ x v h. let r = (u.values x v).0 h in r.is_stable.within.sub x v r.value; same = u.same };
      holds = λ G s. below_union (is_dead (objective core) P b) (declared core) F G u s;
    }
