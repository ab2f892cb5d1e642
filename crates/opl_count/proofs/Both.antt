-- Two sums that are both to stay within their room.
use Rattle.std.proofs.Common.{◌≡◌, ◌∙◌, ◌⊎◌, Bool, true, false, ◌||◌, refl, inl, inr, sym, subst}
use Rattle.std.specs.Prelude.{Some, None}
use Rattle.opl_domain.specs.Family.{Family, IsFamily, only}
use Rattle.opl_expr.specs.declared.model.Core.{Core}
use Rattle.opl_trace.specs.Stable.{IsMonotone, IsStable, HasFailed}
use Rattle.opl_trace.proofs.Families.{below_self}
use Rattle.opl_filter.specs.declared.outcome.Outcome.TheVariants as outcome
use Rattle.opl_filter.specs.Filtering.{IsLeftOf}
use Rattle.opl_filter.proofs.Removals.{left_join, left_kept, left_wider}
use Rattle.opl_linear.specs.Alternating.{either}
use Rattle.opl_reify.specs.Rounds.{Looks}
use Rattle.opl_reify.proofs.Looking.{left_between, nothing_between}
use Rattle.opl_count.specs.declared.sum.Costs.{Costs}
use Rattle.opl_count.specs.Costs.{is_over}
use Rattle.opl_count.specs.Noticing.{Notices}
use Rattle.opl_count.specs.Forcing.{Settles}
use Rattle.opl_count.proofs.Implied.{failed_implied}
use Rattle.opl_count.proofs.Prices.{over_falls}
use Rattle.opl_count.proofs.Settling.{both_same}

or_cases : (a b : Bool) → (a || b) ≡ true → (a ≡ true) ⊎ (b ≡ true)
or_cases true b e = inl refl
or_cases false b e = inr e

or_first : (a b : Bool) → a ≡ true → (a || b) ≡ true
or_first true b e = refl
or_first false b e = cc

or_second : (a b : Bool) → b ≡ true → (a || b) ≡ true
or_second true b e = refl
or_second false b e = e

both_false : (a b : Bool) → a ≡ false → b ≡ false → (a || b) ≡ false
both_false true b e f = cc
both_false false b e f = f

pub either_falls : (core : Core) (a b : Costs) → IsMonotone (either (is_over core a) (is_over core b))
either_falls core a b = record {
  falls = λ F G f s h. elim (or_cases (is_over core a G) (is_over core b G) h) [
    | inl i ↦ or_first (is_over core a F) (is_over core b F) ((over_falls core a).falls F G f s i)
    | inr i ↦ or_second (is_over core a F) (is_over core b F) ((over_falls core b).falls F G f s i)
  ];
}

module _ (core : Core) (a b : Costs) where
  abbrev dead : Family → Bool
  dead = either (is_over core a) (is_over core b)

  first_left : (D F : Family) → IsLeftOf (is_over core a) D F → IsLeftOf dead D F
  first_left D F l = left_wider (is_over core a) dead D F (λ G h. or_first (is_over core a G) (is_over core b G) h) l

  second_left : (D F : Family) → IsLeftOf (is_over core b) D F → IsLeftOf dead D F
  second_left D F l = left_wider (is_over core b) dead D F (λ G h. or_second (is_over core a G) (is_over core b G) h) l

  pub first_fails : (D F : Family) → Settles (is_over core a) D F false → Settles dead D F false
  first_fails D F s = (first_left D F s.0, failed_implied D (is_over core a) dead (λ G f l h. or_first (is_over core a G) (is_over core b G) h) s.1)

  later_fails : (D F : Family) → IsLeftOf dead D F → HasFailed (is_over core b) F → HasFailed dead D
  later_fails D F l h G s =
      failed_implied F (is_over core b) dead (λ H f k e. or_second (is_over core a H) (is_over core b H) e) h G (record { stable = s.stable; within = (left_kept dead D F (either_falls core a b) l).above G s.stable s.within })

  both_stable : (D : Family) → IsStable (is_over core a) D → IsStable (is_over core b) D → IsStable dead D
  both_stable D s t = record {
    full = s.full;
    spared = both_false (is_over core a D) (is_over core b D) s.spared t.spared;
    each = λ x v l m. both_false (is_over core a (only D x v)) (is_over core b (only D x v)) (s.each x v l m) (t.each x v l m);
  }

  pub second_settles : (D F G : Family) (r : Bool) → Settles (is_over core a) D F true → Settles (is_over core b) F G r → Settles dead D G r
  second_settles D F G false s t =
      let l = first_left D F s.0 in
      (left_join dead D F G l (second_left F G t.0), later_fails D F l t.1)
  second_settles D F G true s t =
      let l = first_left D F s.0 in
      let k = second_left F G t.0 in (
        left_join dead D F G l k,
        λ e. let h = both_same dead D F G l k e in both_stable D (s.1 h) (subst (λ H. IsStable (is_over core b) H) h (t.1 (e ∙ sym h))),
      )

-- ---- after a look

pub look_failed : (dead : Family → Bool) (D F : Family) → IsFamily D → Settles dead D F false → Looks dead D F (Some outcome.Failed)
look_failed dead D F f s = (left_between dead D F f s.0, s.1)

pub look_again : (dead : Family → Bool) (D F : Family) (c : Bool) → Notices false D c F → c ≡ true → Settles dead D F true → Looks dead D F None
look_again dead D F c n e s = record { removals = s.0; smaller = n.some e refl }

pub look_stable : (dead : Family → Bool) (D F : Family) (c : Bool) → IsFamily D → Notices false D c F → c ≡ false → Settles dead D F true → Looks dead D F (Some outcome.Stable)
look_stable dead D F c f n e s =
    let h = (n.none e).1 in
    subst (λ G. Looks dead D G (Some outcome.Stable)) (sym h) (nothing_between dead D f, record { is_stable = record { stable = s.1 h; within = below_self D }; most = λ G t. t.within })
