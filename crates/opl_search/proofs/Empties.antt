-- A core with an empty declared set.
use Rattle.std.proofs.Common.{◌≡◌, ◌∙◌, ℕ, zero, suc, ◌<◌, ◌||◌, true, false, refl, List, [], ◌∷◌, length, map, ℤ, ◌≤ℤ◌, ap, sym, subst, arith}
use Rattle.std.specs.Prelude.{Option, Some, None, int_lt, pos, negsuc, ◌+ℤ◌, neg_ℤ}
use Rattle.std.specs.List.{list_any}
use Rattle.std.proofs.lemmas.Int.{ints}
use Rattle.opl_domain.specs.Span.{values, count_from, ints_from}
use Rattle.opl_domain.specs.Family.{Family, member, set_of}
use Rattle.opl_expr.specs.declared.model.Core.{Core}
use Rattle.opl_expr.specs.Forms.{Fact}
use Rattle.opl_expr.specs.Solutions.{declared, base}
use Rattle.opl_trace.specs.Run as run
use Rattle.opl_trace.specs.Run.{closed}
use Rattle.opl_trace.specs.Marks.{objective, section, trace, core_trace, numbers_from}
use Rattle.opl_trace.proofs.Posting.{closed_stable}
use Rattle.opl_steps.specs.Tasks as plain
use Rattle.opl_steps.specs.Tasks.{doing}
use Rattle.opl_steps.specs.Tasks.End.{whole}
use Rattle.opl_steps.proofs.Failed.{failed_tasks}
use Rattle.opl_search.specs.declared.machine.Last.{Last}
use Rattle.opl_search.specs.declared.machine.Last.TheVariants as last
use Rattle.opl_search.specs.declared.machine.Way.{Way}
use Rattle.opl_search.specs.Machines.{IsEnd, has_empty_set, nth_solution, searching}

none_between : (l h : ℤ) → int_lt h l ≡ true → values (record { low = l; high = h }) ≡ []
unfolding values
none_between l h e = ap (ints_from l) (none_counted (h +ℤ pos 1 +ℤ neg_ℤ l) (less l h e))
  where
    less : (l h : ℤ) → int_lt h l ≡ true → (h +ℤ pos 1 +ℤ neg_ℤ l) ≤ℤ pos 0
    less l h e = grind (arith, ints)

    none_counted : (z : ℤ) → z ≤ℤ pos 0 → count_from z ≡ zero
    none_counted (pos n) h = omega (arith, ints)
    none_counted (negsuc n) h = refl

-- a variable without values
record IsEmptyAt (D : Family) : Type 0 where
  variable : ℕ
  there : variable < length D
  empty : set_of D variable ≡ []

empty_at : (ps : List (ℤ × ℤ)) → list_any (λ p. int_lt p.1 p.0) ps ≡ true → IsEmptyAt (map (λ p. values (record { low = p.0; high = p.1 })) ps)
unfolding set_of
empty_at [] e = cc
empty_at (p ∷ ps) e =
    elim (int_lt p.1 p.0) as (λ b. int_lt p.1 p.0 ≡ b → (b || list_any (λ q. int_lt q.1 q.0) ps) ≡ true → IsEmptyAt (map (λ q. values (record { low = q.0; high = q.1 })) (p ∷ ps))) [
      | true ↦ λ i h. record { variable = zero; there = omega arith; empty = none_between p.0 p.1 i }
      | false ↦ λ i h. let r = empty_at ps h in record { variable = suc r.variable; there = let t = r.there in omega arith; empty = r.empty }
    ] refl e

-- then no moment has sets
no_sets : (core : Core) (P : List Fact) (b : Option ℤ) → has_empty_set core ≡ true → closed (objective core) (declared core) P b ≡ None
unfolding declared
no_sets core P b e =
    elim (closed (objective core) (declared core) P b) as (λ o. closed (objective core) (declared core) P b ≡ o → o ≡ None) [
      | None ↦ λ i. refl
      | Some C ↦ λ i.
          let r = empty_at core.sets e in
          let s = closed_stable (objective core) (declared core) P b C i in
          let n = s.within.same in
          let v = s.stable.full r.variable (let t = r.there in omega (arith, n)) in
          let m = subst (λ vs. member v.0 vs ≡ true) r.empty (s.within.sub r.variable v.0 v.1) in
          cc
    ] refl

trace_empty : (core : Core) (n : ℕ) → has_empty_set core ≡ true → core_trace true core n ≡ run.nothing [] None n
unfolding trace doing
trace_empty core n h =
    failed_tasks (objective core) (closed (objective core) (declared core)) (base core) None n (no_sets core (base core) None h) whole (plain.Task.values (numbers_from zero (length (declared core))) ∷ [])

-- and its search is at its end at once
pub empty_ends : (core : Core) (way : Way) (budget solutions : ℕ) (l : Last) → section way.default_search core ≡ None → has_empty_set core ≡ true → solutions ≡ 0 →
    IsEnd (searching core way budget solutions l None) (searching core way budget solutions last.End None) false last.End
empty_ends core way budget solutions l d h z =
    let e = ap (λ q. trace (objective core) (declared core) q (base core) budget) d ∙ trace_empty core budget h in
    record {
      next = ap (λ o. nth_solution o.marks solutions) e;
      cut = ap (λ o. o.is_cut) e;
      choices = sym (ap (λ o. run.choices o.marks) e);
      solutions = refl;
      best = refl;
      last = refl;
    }
