-- What is known after a look at the parts, and after many.
use Rattle.std.proofs.Common.{◌≡◌, ◌∙◌, ◌≢◌, ℕ, ◌≤◌, Bool, true, false, refl, List, ℤ, sym, subst, arith}
use Rattle.std.specs.Prelude.{slice_get, Some, None}
use Rattle.opl_domain.specs.Family.{Family, IsFamily, Below, Full, only}
use Rattle.opl_expr.specs.declared.model.Core.{Core}
use Rattle.opl_trace.specs.Stable.{IsMonotone, IsStable, HasFailed}
use Rattle.opl_trace.specs.Closure.{closure}
use Rattle.opl_trace.specs.ClosureLaws.{ClosesTo}
use Rattle.opl_trace.proofs.Families.{below_self, below_join}
use Rattle.opl_trace.proofs.Closures.{closure_is}
use Rattle.opl_trace.proofs.Removals.{single_fails}
use Rattle.opl_filter.specs.declared.outcome.Outcome.{Outcome}
use Rattle.opl_filter.specs.declared.outcome.Outcome.TheVariants as outcome
use Rattle.opl_filter.specs.Mentions.{lists}
use Rattle.opl_filter.specs.Filtering.{refutes, IsLeftOf, IsBetween, Filters}
use Rattle.opl_filter.specs.Rounds.{IsStuck}
use Rattle.opl_filter.proofs.Removals.{left_self, left_join, left_sets, left_below, left_kept}
use Rattle.opl_filter.proofs.Mentioned.{refutes_looks}
use Rattle.opl_filter.proofs.Refuting.{refutes_falls}
use Rattle.opl_reify.specs.declared.part.Part.{Part}
use Rattle.opl_reify.specs.Parts.{fact_in, AreParts, any_of, IsRefutedAt, IsOpenAt}
use Rattle.opl_reify.specs.Rounds.{NoneDeadInBoth, TriesShared, Looks}
use Rattle.opl_reify.proofs.Parts.{any_refuted, each_refuted, one_open, one_left, part_at, refuted_below}
use Rattle.opl_reify.proofs.Carrying.{SaysTheSameWithin, between_carried, outcome_carried}

pub left_between : (dead : Family → Bool) (D F : Family) → IsFamily D → IsLeftOf dead D F → IsBetween dead D F
left_between dead D F f a = record { removals = a; below = left_below dead D F a; sets = left_sets dead D F f a }

pub nothing_between : (dead : Family → Bool) (D : Family) → IsFamily D → IsBetween dead D D
nothing_between dead D f = left_between dead D D f (left_self dead D)

fails : (dead : Family → Bool) (D : Family) → IsMonotone dead → None ≡ closure dead D → HasFailed dead D
fails dead D m e = subst (λ o. ClosesTo dead D o) (sym e) (closure_is dead D m)

pub dead_has_failed : (dead : Family → Bool) (D : Family) → IsMonotone dead → dead D ≡ true → HasFailed dead D
dead_has_failed dead D m h F s = let e = m.falls F D s.stable.full s.within h in let i = s.stable.spared in cc

pub stuck_has_failed : (dead : Family → Bool) (D F : Family) → IsMonotone dead → IsStuck dead D F → HasFailed dead D
stuck_has_failed dead D F m s =
    fails dead D m (single_fails dead D F s.variable s.value m (left_kept dead D F m s.removals) s.last_value.dead_value s.last_value.last)

module _ (core : Core) (ps : List Part) (made : AreParts core ps) where
  -- no part is open
  pub none_open : (D F : Family) → IsFamily D → F ≡ D → ((i : ℕ) → 0 ≤ i → IsRefutedAt core D ps i) → Looks (refutes (any_of core ps)) D F (Some outcome.Failed)
  none_open D F f e h =
      let dead = refutes (any_of core ps) in
      let d = any_refuted core D ps made ∙ each_refuted core D ps (λ i. h i (omega arith)) in
      (subst (λ G. IsBetween dead D G) (sym e) (nothing_between dead D f), dead_has_failed dead D (refutes_falls (any_of core ps)) d)

  -- one part alone is open: below, the disjunction is refuted where that part is
  same_within : (D : Family) (i : ℕ) (p : Part) → slice_get ps i ≡ Some p → ((j : ℕ) → j ≢ i → IsRefutedAt core D ps j) → SaysTheSameWithin D (refutes (fact_in core p)) (refutes (any_of core ps))
  same_within D i p h o F f b = sym (any_refuted core F ps made ∙ one_left core F ps i p h (λ j n. refuted_below core F D ps j f b (o j n)))

  pub one_between : (D F : Family) (i : ℕ) (p : Part) → slice_get ps i ≡ Some p → ((j : ℕ) → j ≢ i → IsRefutedAt core D ps j) → IsFamily D → IsBetween (refutes (fact_in core p)) D F → IsBetween (refutes (any_of core ps)) D F
  one_between D F i p h o f b = between_carried D (refutes (fact_in core p)) (refutes (any_of core ps)) (same_within D i p h o) F f b

  pub one_outcome : (D F : Family) (i : ℕ) (p : Part) (r : Outcome) → slice_get ps i ≡ Some p → ((j : ℕ) → j ≢ i → IsRefutedAt core D ps j) → Filters (refutes (fact_in core p)) D F r → Filters (refutes (any_of core ps)) D F r
  one_outcome D F i p r h o g = outcome_carried D (refutes (fact_in core p)) (refutes (any_of core ps)) (same_within D i p h o) F r g

  -- an open part that doesn't mention a variable stays open, whatever value that has alone
  stays_open : (F : Family) (i : ℕ) (p : Part) (x : ℕ) (v : ℤ) → Full F → slice_get ps i ≡ Some p → refutes (fact_in core p) F ≡ false → lists p.variables x ≡ false → refutes (any_of core ps) (only F x v) ≡ false
  stays_open F i p x v f h o l =
      any_refuted core (only F x v) ps made
      ∙ one_open core (only F x v) ps i p h (refutes_looks (fact_in core p) p.variables (part_at core ps i p made h).named F x v f l ∙ o)

  two_stable : (F : Family) (i j : ℕ) (p q : Part) → Full F → slice_get ps i ≡ Some p → slice_get ps j ≡ Some q → refutes (fact_in core p) F ≡ false → refutes (fact_in core q) F ≡ false
      → NoneDeadInBoth (refutes (any_of core ps)) p.variables q.variables F → IsStable (refutes (any_of core ps)) F
  two_stable F i j p q f h k o u n = record {
    full = f;
    spared = any_refuted core F ps made ∙ one_open core F ps i p h o;
    each = λ x v l m. elim (lists p.variables x) as (λ b. lists p.variables x ≡ b → refutes (any_of core ps) (only F x v) ≡ false) [
      | false ↦ λ e. stays_open F i p x v f h o e
      | true ↦ λ e. elim (lists q.variables x) as (λ b. lists q.variables x ≡ b → refutes (any_of core ps) (only F x v) ≡ false) [
        | false ↦ λ d. stays_open F j q x v f k u d
        | true ↦ λ d. n x v e d m
      ] refl
    ] refl;
  }

  pub two_failed : (D F : Family) (xs ys : List ℕ) → IsFamily D → TriesShared (refutes (any_of core ps)) xs ys D F None → Looks (refutes (any_of core ps)) D F (Some outcome.Failed)
  two_failed D F xs ys f s =
      let dead = refutes (any_of core ps) in
      (left_between dead D F f s.removals, stuck_has_failed dead D F (refutes_falls (any_of core ps)) s)

  pub two_end : (D F : Family) (i j : ℕ) (p q : Part) (xs ys : List ℕ) (r : Bool) → IsFamily D → slice_get ps i ≡ Some p → slice_get ps j ≡ Some q → IsOpenAt core D ps i → IsOpenAt core D ps j → xs ≡ p.variables → ys ≡ q.variables
      → TriesShared (refutes (any_of core ps)) xs ys D F (Some r) → r ≡ false → Looks (refutes (any_of core ps)) D F (Some outcome.Stable)
  two_end D F i j p q xs ys true f h k o u e d s g = cc
  two_end D F i j p q xs ys false f h k o u e d s g =
      let dead = refutes (any_of core ps) in
      let n = subst (λ zs. NoneDeadInBoth dead p.variables zs D) d (subst (λ zs. NoneDeadInBoth dead zs ys D) e s.1) in
      subst (λ G. Looks dead D G (Some outcome.Stable)) (sym s.0) (
        nothing_between dead D f,
        record {
          is_stable = record { stable = two_stable D i j p q f.full h k (o.not_refuted p h) (u.not_refuted q k) n; within = below_self D };
          most = λ G t. t.within;
        },
      )

-- ---- after many looks

pub looked_between : (dead : Family → Bool) (D F G : Family) → IsFamily D → IsLeftOf dead D F → IsBetween dead F G → IsBetween dead D G
looked_between dead D F G f a b = left_between dead D G f (left_join dead D F G a b.removals)

pub looked_outcome : (dead : Family → Bool) (D F G : Family) (o : Outcome) → IsMonotone dead → IsLeftOf dead D F → Filters dead F G o → Filters dead D G o
looked_outcome dead D F G outcome.Stable m a g = record {
  is_stable = record { stable = g.is_stable.stable; within = below_join G F D g.is_stable.within (left_below dead D F a) };
  most = λ H s. g.most H (record { stable = s.stable; within = (left_kept dead D F m a).above H s.stable s.within });
}
looked_outcome dead D F G outcome.Failed m a h = λ H s. h H (record { stable = s.stable; within = (left_kept dead D F m a).above H s.stable s.within })

pub looked_again : (dead : Family → Bool) (D F G : Family) → IsLeftOf dead D F → Looks dead F G None → IsLeftOf dead D G
looked_again dead D F G a s = left_join dead D F G a s.removals

pub still_below : (dead : Family → Bool) (D F W : Family) → IsLeftOf dead D F → Below D W → Below F W
still_below dead D F W a b = below_join F D W (left_below dead D F a) b
