-- The sets of a moment, and what is asked of them.
use Rattle.std.proofs.Common.{◌≡◌, ℕ, zero, suc, ◌<◌, Bool, true, false, cond, ◌||◌, refl, List, [], ◌∷◌, ◌++◌, map, length, get_or, ℤ, pos, negsuc, ◌≤ℤ◌, ◌+ℤ◌, neg_ℤ, ap, sym, ◌∙◌, subst, arith}
use Rattle.std.specs.Prelude.{Option, Some, None, int_lt}
use Rattle.std.specs.List.{All, list_any}
use Rattle.std.proofs.lemmas.Int.{ints}
use Rattle.std.proofs.lemmas.List.{append-nil}
use Rattle.std.proofs.lemmas.List.Elements.{All-head, All-tail, All-nil, All-cons, All-append}
use Rattle.opl_expr.specs.Options.{bind1}
use Rattle.opl_expr.specs.Range.{range, fact_range}
use Rattle.opl_trace.specs.Answers.{is_some_point, answered, answered_term, is_met, is_decided, key_value}
use Rattle.opl_domain.specs.Span.{Span, values, count_from, ints_from}
use Rattle.opl_domain.specs.Family.{Family, Below, set_of, member}
use Rattle.opl_expr.specs.declared.model.Core.{Core}
use Rattle.opl_expr.specs.Forms.{Term, Fact, term}
use Rattle.opl_expr.specs.Forms.Relation.{below}
use Rattle.opl_expr.specs.Options.{lift1}
use Rattle.opl_expr.specs.Range.{is_refuted}
use Rattle.opl_expr.specs.Solutions.{declared, goal_term}
use Rattle.opl_expr.specs.Sound.{IsSoundFact}
use Rattle.opl_trace.specs.Between.{IsRangeOfValues, values_between}
use Rattle.opl_trace.specs.Closure.{closure}
use Rattle.opl_trace.specs.Stable.{IsMonotone}
use Rattle.opl_trace.specs.Objective.{Objective, bound, better_than}
use Rattle.opl_trace.specs.Run.{is_dead, closed}
use Rattle.opl_trace.specs.Marks.{objective}
use Rattle.opl_trace.proofs.Constraints.{dead_monotone}
use Rattle.opl_trace.proofs.Posting.{closed_stable}
use Rattle.opl_trace.specs.SoundCores.{IsSoundSet, IsSoundGoal, IsSoundCore}
use Rattle.opl_trace.specs.Moments.{core_sets}
use Rattle.opl_trace.specs.SoundCores.{AreSound, IsBest}

-- ---- members of lists

pub all_at : {X Y : Type 0} (P : Y → Type 0) (f : X → Y) (xs : List X) (k : ℕ) (x : X) → k < length xs → x ≡ get_or xs k x → All P (map f xs) → P (f x)
all_at P f [] k x h e a = absurd (omega arith)
all_at P f (y ∷ xs) zero x h e a = subst (λ z. P (f z)) (sym e) (All-head P (f y) (map f xs) a)
all_at P f (y ∷ xs) (suc k) x h e a = all_at P f xs k x (omega arith) e (All-tail P (f y) (map f xs) a)

pub any_at : {X Y : Type 0} (p : Y → Bool) (f : X → Y) (xs : List X) (k : ℕ) (x : X) → k < length xs → x ≡ get_or xs k x → p (f x) ≡ true → list_any p (map f xs) ≡ true
any_at p f [] k x h e i = absurd (omega arith)
any_at p f (y ∷ xs) zero x h e i = let s : p (f y) ≡ true = subst (λ z. p (f z) ≡ true) e i in rw s refl
any_at p f (y ∷ xs) (suc k) x h e i = elim (p (f y)) as (λ b. (b || list_any p (map f xs)) ≡ true) [ true ↦ refl | false ↦ any_at p f xs k x (omega arith) e i ]

-- ---- declared sets

none_between : (l h : ℤ) → int_lt h l ≡ true → values (record { low = l; high = h }) ≡ []
unfolding values
none_between l h e = ap (ints_from l) (none_counted (h +ℤ pos 1 +ℤ neg_ℤ l) (less l h e))
  where
    less : (l h : ℤ) → int_lt h l ≡ true → (h +ℤ pos 1 +ℤ neg_ℤ l) ≤ℤ pos 0
    less l h e = grind (arith, ints)

    none_counted : (z : ℤ) → z ≤ℤ pos 0 → count_from z ≡ zero
    none_counted (pos n) h = omega (arith, ints)
    none_counted (negsuc n) h = refl

record IsEmptyAt (D : Family) : Type 0 where
  variable : ℕ
  there : variable < length D
  empty : set_of D variable ≡ []

empty_at : (ps : List (ℤ × ℤ)) → list_any (λ p. int_lt p.1 p.0) ps ≡ true → IsEmptyAt (map values_between ps)
unfolding set_of
empty_at [] e = cc
empty_at (p ∷ ps) e =
    elim (int_lt p.1 p.0) as (λ b. int_lt p.1 p.0 ≡ b → (b || list_any (λ q. int_lt q.1 q.0) ps) ≡ true → IsEmptyAt (map values_between (p ∷ ps))) [
      | true ↦ λ i h. record { variable = zero; there = omega arith; empty = none_between p.0 p.1 i }
      | false ↦ λ i h. let r = empty_at ps h in record { variable = suc r.variable; there = let t = r.there in omega arith; empty = r.empty }
    ] refl e

-- with an empty declared set there are no sets at any moment
pub no_sets : (core : Core) (P : List Fact) (b : Option ℤ) → list_any (λ p. int_lt p.1 p.0) core.sets ≡ true → None ≡ core_sets core P b
unfolding declared
no_sets core P b e =
    elim (core_sets core P b) as (λ o. core_sets core P b ≡ o → None ≡ o) [
      | None ↦ λ i. refl
      | Some C ↦ λ i.
          let r = empty_at core.sets e in
          let s = closed_stable (objective core) (declared core) P b C i in
          let n = s.within.same in
          let v = s.stable.full r.variable (let t = r.there in omega (arith, n)) in
          let m = subst (λ vs. member v.0 vs ≡ true) r.empty (s.within.sub r.variable v.0 v.1) in
          cc
    ] refl

pub all_ranges : (ps : List (ℤ × ℤ)) → list_any (λ p. int_lt p.1 p.0) ps ≡ false → All IsSoundSet ps → All IsRangeOfValues ps
all_ranges [] e a = All-nil IsRangeOfValues
all_ranges (p ∷ ps) e a =
    elim (int_lt p.1 p.0) as (λ b. int_lt p.1 p.0 ≡ b → (b || list_any (λ q. int_lt q.1 q.0) ps) ≡ false → All IsRangeOfValues (p ∷ ps)) [
      | true ↦ λ i h. cc
      | false ↦ λ i h. let l = ordered p.0 p.1 i in All-cons IsRangeOfValues p ps (l, (All-head IsSoundSet p ps a).few l) (all_ranges ps h (All-tail IsSoundSet p ps a))
    ] refl e
  where
    ordered : (l h : ℤ) → int_lt h l ≡ false → l ≤ℤ h
    ordered l h e = grind (arith, ints)

-- ---- constraints and the bound

pub goal_is : (core : Core) → goal_term core ≡ lift1 (λ g. g.term) (objective core)
goal_is core = elim (core.goal) as (λ o. lift1 (λ g. term core.tables core.resources g.value) o ≡ lift1 (λ g. g.term) (lift1 (λ g. let r : Objective = record { is_most = g.maximize; term = term core.tables core.resources g.value } in r) o)) [ None ↦ refl | Some g ↦ refl ]

bound_sound : (sets : List (ℤ × ℤ)) (goal : Option Objective) (b : Option ℤ) → IsSoundGoal sets (lift1 (λ g. g.term) goal) → IsBest sets (lift1 (λ g. g.term) goal) b → All (IsSoundFact sets) (bound goal b)
bound_sound sets None b s h = All-nil (IsSoundFact sets)
bound_sound sets (Some g) None s h = All-nil (IsSoundFact sets)
bound_sound sets (Some g) (Some v) s h =
    All-cons (IsSoundFact sets) (better_than g v) []
    (elim (g.is_most) as (λ m. IsSoundFact sets (cond m (Fact.cmp below (Term.const v) g.term) (Fact.cmp below g.term (Term.const v)))) [
      | true ↦ (omega (arith, s.0, h), omega (arith, s.0, h), s.1)
      | false ↦ (omega (arith, s.0, h), s.1, omega (arith, s.0, h))
    ])
    (All-nil (IsSoundFact sets))

pub members_sound : (core : Core) (P : List Fact) (b : Option ℤ) → IsSoundCore core → AreSound core P → IsBest core.sets (goal_term core) b → AreSound core (P ++ bound (objective core) b)
members_sound core P b s a h =
    All-append (IsSoundFact core.sets) P (bound (objective core) b) a
    (bound_sound core.sets (objective core) b (subst (λ t. IsSoundGoal core.sets t) (goal_is core) s.goal) (subst (λ t. IsBest core.sets t b) (goal_is core) h))

-- ---- the closure

pub refuting_monotone : (Q : List Fact) → IsMonotone (λ F. list_any (is_refuted F) Q)
unfolding is_dead
refuting_monotone Q = subst (λ R. IsMonotone (λ F. list_any (is_refuted F) R)) (append-nil Q) (dead_monotone None Q None)

pub moment_is : (core : Core) (P Q : List Fact) (b : Option ℤ) (D : Family) → Q ≡ P ++ bound (objective core) b → D ≡ map values_between core.sets → closure (λ F. list_any (is_refuted F) Q) D ≡ core_sets core P b
unfolding is_dead closed declared
moment_is core P Q b D e i = ap (λ R. closure (λ F. list_any (is_refuted F) R) D) e ∙ ap (closure (is_dead (objective core) P b)) i

pub below_declared : (core : Core) (F D : Family) → D ≡ map values_between core.sets → Below F D → Below F (declared core)
unfolding declared
below_declared core F D e b = subst (λ G. Below F G) e b
