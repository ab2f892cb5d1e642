-- A filter that is made of the parts of an objective is that of the objective, and what filters its form filters the bound.
use Rattle.std.proofs.Common.{◌≡◌, ℕ, ◌+◌, Bool, true, false, cond, refl, List, length, ℤ, ◌+ℤ◌, neg_ℤ, sym, subst, arith}
use Rattle.std.specs.Prelude.{unsigned_abs, Some}
use Rattle.opl_domain.specs.Family.{Family, IsFamily, Below}
use Rattle.opl_expr.specs.declared.model.Core.{Core}
use Rattle.opl_expr.specs.declared.model.Goal.{Goal}
use Rattle.opl_expr.specs.declared.forms.Op.TheVariants.{Lt}
use Rattle.opl_expr.specs.Forms.{Term, Fact, compared}
use Rattle.opl_expr.specs.Forms.Relation.{below}
use Rattle.opl_expr.specs.Range.{pure}
use Rattle.opl_expr.specs.Solutions.{declared}
use Rattle.opl_expr.specs.Sound.{IsSmall}
use Rattle.opl_filter.specs.declared.outcome.Outcome.{Outcome}
use Rattle.opl_filter.specs.Filtering.{refutes, IsBetween, Filters}
use Rattle.opl_trace.specs.Objective.{Objective, better_than}
use Rattle.opl_trace.specs.SoundCores.{IsSoundGoal}
use Rattle.opl_range.specs.Between.{term_of, between}
use Rattle.opl_linear.specs.declared.kind.Kind.TheVariants as kinds
use Rattle.opl_linear.specs.Linear.{factor_in}
use Rattle.opl_linear.specs.Forms.{constant_part, rejects}
use Rattle.opl_linear_filter.specs.Parts.{ArePartsBoth}
use Rattle.opl_linear_filter.specs.LinearForms.{IsDifference}
use Rattle.opl_linear_filter.proofs.Constants.{constants_fit}
use Rattle.opl_linear_filter.proofs.Comparing.{comparison_made, form_filters}
use Rattle.opl_objective_filter.specs.declared.objective_filter.ObjectiveFilter.{ObjectiveFilter}
use Rattle.opl_objective_filter.specs.ObjectiveFilters.{goal_in, zero, lesser, greater, lesser_side, greater_side, form_at, constant_at, IsNear, IsFilterOf}
use Rattle.opl_objective_filter.proofs.Sides.{less_made, more_made}

form_made : (core : Core) (g : Goal) (m : Bool) (ps os : List (ℕ × ℤ)) (k : ℤ) → g.maximize ≡ m → IsSoundGoal core.sets (Some (term_of core g.value)) → pure (term_of core g.value) ≡ true → k ≡ constant_part (term_of core g.value)
    → ArePartsBoth (between core (cond m zero g.value) (cond m g.value zero)) (length core.sets) (ps, os) → (b : ℤ) → IsNear b
    → IsDifference core kinds.Below (cond m (Term.const b) (term_of core g.value)) (cond m (term_of core g.value) (Term.const b)) (record { kind = kinds.Below; parts = ps; opposites = os; constant = cond m (b +ℤ neg_ℤ k) (k +ℤ neg_ℤ b) })
form_made core g true ps os k e s l c p b near = more_made core g.value s b near l ps os k c p
form_made core g false ps os k e s l c p b near = less_made core g.value s b near l ps os k c p

-- the filter that is made
pub filter_made : (core : Core) (g : Goal) (f : ObjectiveFilter) → IsSoundGoal core.sets (Some (goal_in core g).term) → pure (goal_in core g).term ≡ true
    → f.maximize ≡ g.maximize → ArePartsBoth (between core (lesser g zero) (greater g zero)) (length core.sets) (f.parts, f.opposites) → f.constant ≡ constant_part (goal_in core g).term → IsFilterOf core (goal_in core g) f
filter_made core g f s l e p c = record {
  linear = l;
  sound = s;
  constant = c;
  most = e;
  form = λ b near.
      subst (λ m. IsDifference core kinds.Below (lesser_side (goal_in core g) b) (greater_side (goal_in core g) b) (record { kind = kinds.Below; parts = f.parts; opposites = f.opposites; constant = cond m (b +ℤ neg_ℤ f.constant) (f.constant +ℤ neg_ℤ b) })) (sym e)
      (form_made core g g.maximize f.parts f.opposites f.constant refl s l c p b near);
}

-- the constant fits
pub constant_fits : (core : Core) (g : Objective) (f : ObjectiveFilter) (b : ℤ) → IsFilterOf core g f → IsNear b → IsSmall (unsigned_abs f.constant + unsigned_abs b)
constant_fits core g f b i near = constants_fit core.sets g.term (Term.const b) f.constant b (omega (arith, i.sound.0, near)) i.constant refl

-- the bound compares its sides
bound_is : (m : Bool) (b : ℤ) (t : Term) → cond m (Fact.cmp below (Term.const b) t) (Fact.cmp below t (Term.const b)) ≡ compared Lt (cond m (Term.const b) t) (cond m t (Term.const b))
bound_is true b t = refl
bound_is false b t = refl

pub better_is : (g : Objective) (b : ℤ) → better_than g b ≡ compared Lt (lesser_side g b) (greater_side g b)
better_is g b = bound_is g.is_most b g.term

lesser_linear : (m : Bool) (b : ℤ) (t : Term) → pure t ≡ true → pure (cond m (Term.const b) t) ≡ true
lesser_linear true b t h = refl
lesser_linear false b t h = h

greater_linear : (m : Bool) (b : ℤ) (t : Term) → pure t ≡ true → pure (cond m t (Term.const b)) ≡ true
greater_linear true b t h = h
greater_linear false b t h = refl

pub sides_linear : (g : Objective) (b : ℤ) → pure g.term ≡ true → (pure (lesser_side g b) ≡ true) × (pure (greater_side g b) ≡ true)
sides_linear g b h = (lesser_linear g.is_most b g.term h, greater_linear g.is_most b g.term h)

-- what filters the form filters the bound
pub bound_filters : (core : Core) (g : Objective) (f : ObjectiveFilter) (b : ℤ) (D F : Family) (o : Outcome) → IsFilterOf core g f → IsNear b → IsFamily D → Below D (declared core)
    → IsBetween (rejects kinds.Below (factor_in f.parts) (constant_at f b)) D F → Filters (rejects kinds.Below (factor_in f.parts) (constant_at f b)) D F o → IsBetween (refutes (better_than g b)) D F × Filters (refutes (better_than g b)) D F o
bound_filters core g f b D F o i near sets within h k =
    let p = sides_linear g b i.linear in
    subst (λ c. IsBetween (refutes c) D F × Filters (refutes c) D F o) (sym (better_is g b))
    (form_filters core (compared Lt (lesser_side g b) (greater_side g b)) (form_at f b) (comparison_made core Lt (lesser_side g b) (greater_side g b) (form_at f b) p.0 p.1 (i.form b near)) D F o sets within (λ e. cc) h k)
