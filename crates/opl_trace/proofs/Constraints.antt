-- Constraints as tests of families.
use Rattle.std.proofs.Common.{◌≡◌, ◌∙◌, Bool, true, false, cond, ◌||◌, refl, List, [], ◌∷◌, ◌++◌, ℤ, pos, inl, inr, ap, sym, subst, arith}
use Rattle.std.specs.Prelude.{Option, Some, None}
use Rattle.std.specs.List.{list_any}
use Rattle.std.specs.Ordering.{int_eq}
use Rattle.std.proofs.lemmas.Int.{ints}
use Rattle.std.proofs.lemmas.Bool.{or_cases, and_parts, and_from}
use Rattle.std.proofs.lemmas.Bool.Decides.{Decides-int_eq}
use Rattle.opl_domain.specs.Span.{Span, IsInside, point, is_point}
use Rattle.opl_domain.specs.Family.{Family, Below, Full}
use Rattle.opl_expr.specs.Forms.{Fact}
use Rattle.opl_expr.specs.Options.{lift1}
use Rattle.opl_expr.specs.Range.{fact_range, is_possible, is_refuted}
use Rattle.opl_expr.specs.Holds.{bit, holds}
use Rattle.opl_expr.specs.Solutions.{is_true}
use Rattle.opl_expr.specs.Laws.{singles, clear_fact}
use Rattle.opl_expr.proofs.Narrower.{monotony}
use Rattle.opl_expr.proofs.SingleValues.{single_values}
use Rattle.opl_trace.specs.Stable.{IsMonotone}
use Rattle.opl_trace.specs.ClosureLaws.{ClosesTo}
use Rattle.opl_trace.specs.Objective.{bound}
use Rattle.opl_trace.specs.Solutions.{satisfies}
use Rattle.opl_trace.specs.Run.{is_dead, closed}
use Rattle.opl_trace.specs.SearchLaws.{RefutingIsMonotone, MomentIsClosure, SolutionsStay, SinglesHold, clear_all}
use Rattle.opl_trace.proofs.Passing.{or_left, or_right}
use Rattle.opl_trace.proofs.StableFamilies.{greatest_from_union}
use Rattle.opl_trace.proofs.Closures.{closure_is, none_lost}

pub record IsPoint (k : ℤ) (a : Span) : Type 0 where
  pub low_is : a.low ≡ k
  pub high_is : a.high ≡ k

pub point_tells : (k : ℤ) (a : Span) → is_point k a ≡ true → IsPoint k a
point_tells k a h =
    elim (int_eq a.low k) as (λ b. int_eq a.low k ≡ b → cond b (int_eq a.high k) false ≡ true → IsPoint k a) [
      | true ↦ λ e i. record { low_is = (Decides-int_eq a.low k).0 e; high_is = (Decides-int_eq a.high k).0 i }
      | false ↦ λ e i. cc
    ] refl h

point_from : (k : ℤ) (a : Span) → a.low ≡ k → a.high ≡ k → is_point k a ≡ true
point_from k a e f = rw ((Decides-int_eq a.low k).1 e) ((Decides-int_eq a.high k).1 f)

not_possible : (b : Bool) → cond b false true ≡ false → b ≡ true
not_possible true h = refl
not_possible false h = cc

refuted_falls : (a b : Option Span) → IsInside a b → is_possible b ≡ false → is_possible a ≡ false
refuted_falls None b i h = refl
refuted_falls (Some a) None i h = absurd i
refuted_falls (Some a) (Some b) i h =
    let p = point_tells (pos 0) b (not_possible (is_point (pos 0) b) h) in
    rw (point_from (pos 0) a (omega (arith, ints, i.0.least, i.0.most, p.low_is, p.high_is)) (omega (arith, ints, i.1.least, i.1.most, p.low_is, p.high_is))) refl

pub refuted_is : (b : Bool) → cond b false true ≡ true → b ≡ false
refuted_is true h = cc
refuted_is false h = refl

pub refuted_from : (b : Bool) → b ≡ false → cond b false true ≡ true
refuted_from true h = cc
refuted_from false h = refl

dead_falls : (F G : Family) (cs : List Fact) → Full F → Below F G → list_any (is_refuted G) cs ≡ true → list_any (is_refuted F) cs ≡ true
dead_falls F G [] f b h = cc
dead_falls F G (c ∷ cs) f b h = elim (or_cases (is_refuted G c) (list_any (is_refuted G) cs) h) [
  | inl e ↦
      or_left (is_refuted F c) (list_any (is_refuted F) cs)
      (refuted_from (is_possible (fact_range F c)) (refuted_falls (fact_range F c) (fact_range G c) (monotony.facts c F G f b) (refuted_is (is_possible (fact_range G c)) e)))
  | inr e ↦ or_right (is_refuted F c) (list_any (is_refuted F) cs) (dead_falls F G cs f b e)
]

pub dead_monotone : RefutingIsMonotone
unfolding is_dead
dead_monotone goal P b = record { falls = λ F G f i h. dead_falls F G (P ++ bound goal b) f i h }

pub moment_is_closure : MomentIsClosure
unfolding closed
moment_is_closure goal D P b = closure_is (is_dead goal P b) D (dead_monotone goal P b)

-- ---- on single values

true_is : (o : Option Bool) → is_true o ≡ true → o ≡ Some true
true_is None h = cc
true_is (Some b) h = ap (λ c. Some c) h

possible_holds : (o : Option Bool) → is_possible (lift1 (λ b. point (bit b)) o) ≡ true → is_true o ≡ true
possible_holds None h = h
possible_holds (Some true) h = refl
possible_holds (Some false) h = cc

holds_possible : (o : Option Bool) → is_true o ≡ true → is_possible (lift1 (λ b. point (bit b)) o) ≡ true
holds_possible None h = h
holds_possible (Some true) h = refl
holds_possible (Some false) h = cc

any_false : (c : Bool) (d : Bool) → c ≡ false → d ≡ false → (c || d) ≡ false
any_false true d h k = h
any_false false d h k = k

or_false : (c d : Bool) → (c || d) ≡ false → (c ≡ false) × (d ≡ false)
or_false true d h = cc
or_false false d h = (refl, h)

unrefuted : (b : Bool) → b ≡ true → cond b false true ≡ false
unrefuted b e = rw e refl

satisfied_spared : (cs : List Fact) (a : List ℤ) → clear_all cs ≡ true → satisfies cs a ≡ true → list_any (is_refuted (singles a)) cs ≡ false
satisfied_spared [] a h s = refl
satisfied_spared (c ∷ cs) a h s =
    let i = and_parts (clear_fact c) (clear_all cs) h in
    let j = and_parts (is_true (holds a c)) (satisfies cs a) s in
    let e = single_values.facts c a i.0 in
    any_false (is_refuted (singles a) c) (list_any (is_refuted (singles a)) cs)
    (unrefuted (is_possible (fact_range (singles a) c)) (ap is_possible e ∙ holds_possible (holds a c) j.0))
    (satisfied_spared cs a i.1 j.1)

pub spared_satisfied : (cs : List Fact) (a : List ℤ) → clear_all cs ≡ true → list_any (is_refuted (singles a)) cs ≡ false → satisfies cs a ≡ true
spared_satisfied [] a h s = refl
spared_satisfied (c ∷ cs) a h s =
    let i = and_parts (clear_fact c) (clear_all cs) h in
    let j = or_false (is_refuted (singles a) c) (list_any (is_refuted (singles a)) cs) s in
    let e = single_values.facts c a i.0 in
    and_from (is_true (holds a c)) (satisfies cs a)
    (possible_holds (holds a c) (ap is_possible (sym e) ∙ not_possible (is_possible (fact_range (singles a) c)) j.0))
    (spared_satisfied cs a i.1 j.1)

pub solutions_stay : SolutionsStay
unfolding closed is_dead
solutions_stay goal D P b a h s i = none_lost (is_dead goal P b) D a (dead_monotone goal P b) (satisfied_spared (P ++ bound goal b) a h s) i

single_spared : (dead : Family → Bool) (D C : Family) → IsMonotone dead → ClosesTo dead D (Some C) → dead C ≡ false
single_spared dead D C m u = (greatest_from_union dead D C m u).is_stable.stable.spared

pub singles_hold : SinglesHold
unfolding is_dead
singles_hold goal D P b a h e =
    spared_satisfied (P ++ bound goal b) a h
    (single_spared (is_dead goal P b) D (singles a) (dead_monotone goal P b) (subst (λ o. ClosesTo (is_dead goal P b) D o) e (moment_is_closure goal D P b)))
