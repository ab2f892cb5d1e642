-- That each kind of answer comes, so that no body which always answers the same, or never one of these, meets the contracts of the calls.
use Rattle.std.specs.Prelude.{◌≡◌, Bool, not, [], ℤ, pos, unsigned_abs, Some, None}
use Rattle.opl_domain.specs.Span.{point}
use Rattle.opl_expr.specs.declared.forms.Expr.{Expr}
use Rattle.opl_expr.specs.declared.forms.Cons.{Cons}
use Rattle.opl_expr.specs.declared.forms.Expr.TheVariants as expressions
use Rattle.opl_expr.specs.declared.forms.Cons.TheVariants as constraints
use Rattle.opl_expr.specs.declared.forms.Op.TheVariants.{Eq}
use Rattle.opl_expr.specs.declared.model.Core.{Core}
use Rattle.opl_expr.specs.Forms.{Term, Fact, term, fact}
use Rattle.opl_expr.specs.Holds.{bit}
use Rattle.opl_expr.specs.Range.{fact_range, is_refuted, range}
use Rattle.opl_expr.specs.Sound.{IsSmall, IsSoundFact, IsSoundTerm}

-- 1 div 0
abbrev pub undefined : Expr
undefined = expressions.Div (expressions.Const (pos 1)) (expressions.Const (pos 0))

-- 1 div 0 = 0
abbrev pub undefined_constraint : Cons
undefined_constraint = constraints.Cmp Eq undefined (expressions.Const (pos 0))

module _ (core : Core) where
  abbrev pub term_of : Expr → Term
  term_of e = term core.tables core.resources e

  abbrev pub fact_of : Cons → Fact
  fact_of c = fact core.tables core.resources c

-- in a core without variables there are sound expressions whose range is a number and none, and sound constraints whose range is true,
-- false and none, of which one is refuted and one is not
pub record EachAnswerComes : Type 0 where
  pub number : (core : Core) (k : ℤ) → IsSmall (unsigned_abs k) → IsSoundTerm core.sets (term_of core (expressions.Const k)) × (range [] (term_of core (expressions.Const k)) ≡ Some (point k))
  pub no_number : (core : Core) → IsSoundTerm core.sets (term_of core undefined) × (range [] (term_of core undefined) ≡ None)
  pub truth : (core : Core) (b : Bool) → IsSoundFact core.sets (fact_of core (constraints.Fixed b)) × (fact_range [] (fact_of core (constraints.Fixed b)) ≡ Some (point (bit b)))
  pub no_truth : (core : Core) → IsSoundFact core.sets (fact_of core undefined_constraint) × (fact_range [] (fact_of core undefined_constraint) ≡ None)
  pub refuted : (core : Core) (b : Bool) → is_refuted [] (fact_of core (constraints.Fixed b)) ≡ not b
