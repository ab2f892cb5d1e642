-- Each turn but a choice lessens the bound.
use Rattle.std.proofs.Common.{◌≡◌, ◌∙◌, ℕ, zero, suc, ◌+◌, ◌*◌, ◌<◌, ◌≤◌, refl, List, [], ◌∷◌, ap, sym, subst, arith}
use Rattle.opl_domain.specs.Family.{Family}
use Rattle.opl_expr.specs.Forms.{Fact}
use Rattle.opl_trace.specs.Statements.{Statement}
use Rattle.opl_steps.specs.Tasks.{Task, End}
use Rattle.opl_steps.specs.Tasks.End.{whole, inner}
use Rattle.opl_steps.specs.Tasks.Task.{act}
use Rattle.opl_steps.specs.Steps.{Way, Next, next_step}
use Rattle.opl_steps.specs.Steps.Next.{go, choose, commit}
use Rattle.opl_turns.specs.Coming.{Place, mode, past_gate, follows}
use Rattle.opl_turns.specs.Coming.Place.{ways, gate}
use Rattle.opl_steps.specs.Costs.{cost, cost_tasks, IsLess}
use Rattle.opl_turns.specs.Weights.{weight_places, weight_down, weight_at, weight_back}
use Rattle.opl_steps.proofs.Lessening.{step_less}

module _ (C : Family) (P : List Fact) (n : ℕ) where
  less : (ts : List Task) (next : Next) → next_step C P n ts ≡ next → IsLess ts n next
  less ts next e = subst (IsLess ts n) e (step_less C P n ts)

  pub goes_less : (ts : List Task) (os : List Place) (w : Way) → next_step C P n ts ≡ go w → weight_down w.tasks os n < weight_at ts os n
  goes_less ts os w e = let h = less ts (go w) e in omega (arith, h)

  pub chooses_less : (ts : List Task) (os : List Place) (ws : List Way) → next_step C P n ts ≡ choose ws → weight_back os n < weight_at ts os n
  chooses_less ts os ws e = omega arith

  -- a statement under `once` and what follows it cost less together than before
  pub once_less : (s : Statement) (us : List Task) (os : List Place) → weight_at (act s ∷ []) (gate us ∷ os) n < weight_at (act (Statement.once s) ∷ us) os n
  once_less s us os = omega arith

  pub leaves_less : (os : List Place) → mode os ≡ inner → weight_at (follows os) (past_gate os) n < weight_at [] os n
  leaves_less [] h = cc
  leaves_less (ways ws ∷ os) h = let i = leaves_less os h in omega (arith, i)
  leaves_less (gate ts ∷ os) h = omega arith

  pub closes_less : (ts : List Task) (os : List Place) → weight_at ts os n < weight_down ts os n
  closes_less ts os = omega arith

  pub ends_less : (ts : List Task) (os : List Place) → weight_back os n < weight_at ts os n
  ends_less ts os = omega arith

  pub back_gate_less : (ts : List Task) (os : List Place) → weight_back os n < weight_back (gate ts ∷ os) n
  back_gate_less ts os = omega arith

  pub back_none_less : (ws : List Way) (os : List Place) → weight_back os n < weight_back (ways ws ∷ os) n
  back_none_less ws os = omega arith
