-- The variables of the bound, and a constraint that always holds.
use Rattle.std.proofs.Common.{◌≡◌, ◌∙◌, ℕ, true, refl, List, ℤ, sym}
use Rattle.std.specs.Prelude.{Option, Some, None}
use Rattle.opl_domain.specs.Family.{Family, IsFamily}
use Rattle.opl_expr.specs.Forms.{Fact}
use Rattle.opl_filter.specs.Filtering.{refutes, IsBetween}
use Rattle.opl_filter.specs.Mentions.{AreVariables}
use Rattle.opl_filter.proofs.Removals.{left_self}
use Rattle.opl_trace.specs.Objective.{Objective, better_than}
use Rattle.opl_trace.specs.Stable.{IsGreatestStable}
use Rattle.opl_trace.proofs.Families.{below_self}
use Rattle.opl_engine.specs.Members.{bound_fact, AreVariablesOf}
use Rattle.opl_engine.specs.Resting.{bound_mentions}

-- the variables of the objective are those of the bound
pub bound_variables : (g : Objective) (v : ℤ) (xs : List ℕ) → AreVariablesOf xs g.term → AreVariables xs (better_than g v)
bound_variables g v xs a x = a x ∙ sym (bound_mentions g v x)

-- ---- a constraint that always holds

pub fixed_between : (F : Family) → IsFamily F → IsBetween (refutes (Fact.fixed true)) F F
fixed_between F f = record { removals = left_self (refutes (Fact.fixed true)) F; below = below_self F; sets = f }

pub fixed_greatest : (F : Family) → IsFamily F → IsGreatestStable (refutes (Fact.fixed true)) F F
fixed_greatest F f = record {
  is_stable = record { stable = record { full = f.full; spared = refl; each = λ x v l h. refl }; within = below_self F };
  most = λ G s. s.within;
}

-- the bound asks nothing where there is no objective, or no best value
pub bound_none : (goal : Option Objective) → bound_fact goal None ≡ Fact.fixed true
bound_none None = refl
bound_none (Some g) = refl
