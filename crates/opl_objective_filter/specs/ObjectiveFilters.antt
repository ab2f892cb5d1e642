-- The filter of the bound that a best value sets on a linear objective.
use Rattle.std.specs.Prelude.{◌≡◌, ℕ, ◌^◌, ◌<◌, true, cond, length, ℤ, pos, ◌+ℤ◌, neg_ℤ, unsigned_abs, Option, Some, None}
use Rattle.opl_expr.specs.declared.forms.Expr.{Expr}
use Rattle.opl_expr.specs.declared.forms.Expr.TheVariants as expression
use Rattle.opl_expr.specs.declared.model.Core.{Core}
use Rattle.opl_expr.specs.declared.model.Goal.{Goal}
use Rattle.opl_expr.specs.Forms.{Term, term}
use Rattle.opl_expr.specs.Range.{pure}
use Rattle.opl_trace.specs.Objective.{Objective, better_than}
use Rattle.opl_trace.specs.SoundCores.{IsSoundGoal}
use Rattle.opl_linear.specs.declared.kind.Kind.TheVariants as kind
use Rattle.opl_linear.specs.Forms.{constant_part}
use Rattle.opl_linear_filter.specs.declared.linear_filter.LinearFilter.{LinearFilter}
use Rattle.opl_linear_filter.specs.Ends.{SeesEnds}
use Rattle.opl_linear_filter.specs.LinearForms.{IsDifference}
use Rattle.opl_objective_filter.specs.declared.objective_filter.ObjectiveFilter.{ObjectiveFilter}

-- an objective as plain data
abbrev pub goal_in : Core → Goal → Objective
goal_in core g = record { is_most = g.maximize; term = term core.tables core.resources g.value }

-- ---- the two sides: the lesser one is to be below the greater one

abbrev pub lesser : Goal → Expr → Expr
lesser g best = cond g.maximize best g.value

abbrev pub greater : Goal → Expr → Expr
greater g best = cond g.maximize g.value best

-- the variables of both sides are told with any best value
abbrev pub zero : Expr
zero = expression.Const (pos 0)

abbrev pub lesser_side : Objective → ℤ → Term
lesser_side g best = cond g.is_most (Term.const best) g.term

abbrev pub greater_side : Objective → ℤ → Term
greater_side g best = cond g.is_most g.term (Term.const best)

-- ---- the filter

-- a best value is below 2^126 in absolute value
abbrev pub IsNear : ℤ → Type 0
IsNear best = unsigned_abs best < 2 ^ 126

-- the constant of the form for a best value
abbrev pub constant_at : ObjectiveFilter → ℤ → ℤ
constant_at f best = cond f.maximize (best +ℤ neg_ℤ f.constant) (f.constant +ℤ neg_ℤ best)

-- the form that is to be below 0
abbrev pub form_at : ObjectiveFilter → ℤ → LinearFilter
form_at f best = record { kind = kind.Below; parts = f.parts; opposites = f.opposites; constant = constant_at f best }

-- the filter is that of an objective: for each near best value its form is the one side less the other
pub record IsFilterOf (core : Core) (g : Objective) (f : ObjectiveFilter) : Type 0 where
  pub linear : pure g.term ≡ true
  pub sound : IsSoundGoal core.sets (Some g.term)
  pub most : f.maximize ≡ g.is_most
  pub constant : f.constant ≡ constant_part g.term
  pub form : (best : ℤ) → IsNear best → IsDifference core kind.Below (lesser_side g best) (greater_side g best) (form_at f best)

-- a filter is there where the objective is linear, and there alone
abbrev pub IsThereFor : Core → Objective → Option ObjectiveFilter → Type 0
IsThereFor core g None = pure g.term ≡ true → ⊥
IsThereFor core g (Some f) = IsFilterOf core g f

-- the ends of sets alone decide what is refuted of the bound on a linear objective
abbrev pub EndsDecide : Type 0
EndsDecide = (core : Core) (g : Objective) (best : ℤ) → pure g.term ≡ true → SeesEnds (length core.sets) (better_than g best)
