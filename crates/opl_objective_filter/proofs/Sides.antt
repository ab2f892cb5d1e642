-- A number beside the objective: it has no variables, so the form for each best value has the same parts.
use Rattle.std.proofs.Common.{◌≡◌, ◌∙◌, ℕ, true, refl, List, length, ℤ, pos, ◌+ℤ◌, neg_ℤ, ap, sym, subst, arith}
use Rattle.std.specs.Prelude.{Some}
use Rattle.opl_expr.specs.declared.model.Core.{Core}
use Rattle.opl_expr.specs.declared.forms.Expr.{Expr}
use Rattle.opl_expr.specs.declared.forms.Expr.TheVariants as E
use Rattle.opl_expr.specs.Forms.{Term, Fact}
use Rattle.opl_expr.specs.Forms.Relation.{equal}
use Rattle.opl_expr.specs.Range.{pure}
use Rattle.opl_expr.specs.Sound.{IsSoundFact}
use Rattle.opl_expr.proofs.Plain.{term_Const}
use Rattle.opl_trace.specs.SoundCores.{IsSoundGoal}
use Rattle.opl_range.specs.Between.{term_of, between, CanCompare}
use Rattle.opl_linear.specs.declared.kind.Kind.TheVariants as kinds
use Rattle.opl_linear.specs.Forms.{constant_part}
use Rattle.opl_linear.specs.Laws.{factors_of}
use Rattle.opl_linear_filter.specs.declared.linear_filter.LinearFilter.{LinearFilter}
use Rattle.opl_linear_filter.specs.Parts.{ArePartsBoth}
use Rattle.opl_linear_filter.specs.LinearForms.{IsDifference}
use Rattle.opl_linear_filter.proofs.Weights.{between_is}
use Rattle.opl_linear_filter.proofs.Comparing.{difference_made}
use Rattle.opl_objective_filter.specs.ObjectiveFilters.{zero, IsNear}

-- a number as an expression is that number as plain data
pub number : (core : Core) (b : ℤ) → term_of core (E.Const b) ≡ Term.const b
number core b = term_Const core.tables core.resources b

pub number_pure : (core : Core) (b : ℤ) → pure (term_of core (E.Const b)) ≡ true
number_pure core b = ap pure (number core b)

parts_as : (c d : ℕ → ℤ) (n : ℕ) (both : List (ℕ × ℤ) × List (ℕ × ℤ)) → ((x : ℕ) → c x ≡ d x) → ArePartsBoth c n both → ArePartsBoth d n both
parts_as c d n both h p = (record { once = p.0.once; falling = p.0.falling; among = p.0.among; factors = p.0.factors; same = λ x l. p.0.same x l ∙ h x }, p.1)

module _ (core : Core) (v : Expr) where
  pub less_factors : (b c : ℤ) (x : ℕ) → between core v (E.Const b) x ≡ between core v (E.Const c) x
  less_factors b c x =
      between_is core v (E.Const b) x ∙ ap (λ t. factors_of (term_of core v) t x) (number core b) ∙ sym (between_is core v (E.Const c) x ∙ ap (λ t. factors_of (term_of core v) t x) (number core c))

  pub more_factors : (b c : ℤ) (x : ℕ) → between core (E.Const b) v x ≡ between core (E.Const c) v x
  more_factors b c x =
      between_is core (E.Const b) v x ∙ ap (λ t. factors_of t (term_of core v) x) (number core b) ∙ sym (between_is core (E.Const c) v x ∙ ap (λ t. factors_of t (term_of core v) x) (number core c))

  module _ (sound : IsSoundGoal core.sets (Some (term_of core v))) (b : ℤ) (near : IsNear b) where
    pub can_less : CanCompare core v (E.Const b)
    can_less = subst (λ t. IsSoundFact core.sets (Fact.cmp equal (term_of core v) t)) (sym (number core b)) (omega (arith, sound.0, near), sound.1, omega (arith, near))

    pub can_more : CanCompare core (E.Const b) v
    can_more = subst (λ t. IsSoundFact core.sets (Fact.cmp equal t (term_of core v))) (sym (number core b)) (omega (arith, sound.0, near), omega (arith, near), sound.1)

    module _ (linear : pure (term_of core v) ≡ true) (ps os : List (ℕ × ℤ)) (k : ℤ) (same : k ≡ constant_part (term_of core v)) where
      pub less_made : ArePartsBoth (between core v zero) (length core.sets) (ps, os) → IsDifference core kinds.Below (term_of core v) (Term.const b) (record { kind = kinds.Below; parts = ps; opposites = os; constant = k +ℤ neg_ℤ b })
      less_made h =
          let f : LinearFilter = record { kind = kinds.Below; parts = ps; opposites = os; constant = k +ℤ neg_ℤ b } in
          subst (λ t. IsDifference core kinds.Below (term_of core v) t f) (number core b)
          (difference_made core kinds.Below v (E.Const b) f can_less linear (number_pure core b) refl (parts_as (between core v zero) (between core v (E.Const b)) (length core.sets) (ps, os) (less_factors (pos 0) b) h)
          (ap (λ m. m +ℤ neg_ℤ b) same ∙ sym (ap (λ t. constant_part (term_of core v) +ℤ neg_ℤ (constant_part t)) (number core b))))

      pub more_made : ArePartsBoth (between core zero v) (length core.sets) (ps, os) → IsDifference core kinds.Below (Term.const b) (term_of core v) (record { kind = kinds.Below; parts = ps; opposites = os; constant = b +ℤ neg_ℤ k })
      more_made h =
          let f : LinearFilter = record { kind = kinds.Below; parts = ps; opposites = os; constant = b +ℤ neg_ℤ k } in
          subst (λ t. IsDifference core kinds.Below t (term_of core v) f) (number core b)
          (difference_made core kinds.Below (E.Const b) v f can_more (number_pure core b) linear refl (parts_as (between core zero v) (between core (E.Const b) v) (length core.sets) (ps, os) (more_factors (pos 0) b) h)
          (ap (λ m. b +ℤ neg_ℤ m) same ∙ sym (ap (λ t. constant_part t +ℤ neg_ℤ (constant_part (term_of core v))) (number core b))))
