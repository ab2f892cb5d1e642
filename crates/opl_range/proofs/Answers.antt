-- Expressions and constraints with each kind of answer.
use Rattle.std.proofs.Common.{◌≡◌, ◌+◌, Bool, true, false, not, List, [], ℤ, pos, Some, None, refl, ap, sym, subst, ◌∙◌, arith}
use Rattle.opl_domain.specs.Span.{point, values}
use Rattle.opl_domain.specs.Arithmetic.{span_add, span_div}
use Rattle.opl_expr.specs.declared.forms.Expr.TheVariants as expressions
use Rattle.opl_expr.specs.declared.forms.Op.TheVariants.{Eq}
use Rattle.opl_expr.specs.declared.model.Core.{Core}
use Rattle.opl_expr.specs.Forms.{Term, Fact, term}
use Rattle.opl_expr.specs.Forms.Relation.{equal}
use Rattle.opl_expr.specs.Holds.{bit}
use Rattle.opl_expr.specs.Range.{fact_range, is_refuted, range, span_scale, with_variables}
use Rattle.opl_expr.specs.Sound.{IsSmall, IsSoundFact, IsSoundTerm, term_magnitude}
use Rattle.opl_expr.proofs.Plain.{term_Const, term_Div, fact_Fixed, fact_Cmp}
use Rattle.opl_range.proofs.Demands.{add_zero}
use Rattle.opl_range.specs.Answers.{EachAnswerComes, undefined, undefined_constraint, term_of, fact_of}

abbrev one_by_zero : Term
one_by_zero = Term.div (Term.const (pos 1)) (Term.const (pos 0))

is_undefined : (core : Core) → term_of core undefined ≡ one_by_zero
is_undefined core =
    term_Div core.tables core.resources (expressions.Const (pos 1)) (expressions.Const (pos 0))
    ∙ ap (λ a. Term.div a (term core.tables core.resources (expressions.Const (pos 0)))) (term_Const core.tables core.resources (pos 1))
    ∙ ap (Term.div (Term.const (pos 1))) (term_Const core.tables core.resources (pos 0))

is_undefined_constraint : (core : Core) → fact_of core undefined_constraint ≡ Fact.cmp equal one_by_zero (Term.const (pos 0))
is_undefined_constraint core =
    fact_Cmp core.tables core.resources Eq undefined (expressions.Const (pos 0))
    ∙ ap (λ a. Fact.cmp equal a (term core.tables core.resources (expressions.Const (pos 0)))) (is_undefined core)
    ∙ ap (Fact.cmp equal one_by_zero) (term_Const core.tables core.resources (pos 0))

range_of_number : (k : ℤ) → range [] (Term.const k) ≡ Some (point k)
unfolding with_variables
range_of_number k = ap (λ r. Some r) (add_zero (point k))

no_range : range [] one_by_zero ≡ None
unfolding with_variables span_add span_div values
no_range = refl

no_truth_range : fact_range [] (Fact.cmp equal one_by_zero (Term.const (pos 0))) ≡ None
unfolding with_variables span_add span_div span_scale values
no_truth_range = refl

one_is_small : IsSmall 1
one_is_small = grind arith

zero_is_small : IsSmall 0
zero_is_small = grind arith

sums_small : (sets : List (ℤ × ℤ)) → IsSmall (term_magnitude sets one_by_zero + 0)
sums_small sets = grind arith

truth_as : (b : Bool) → fact_range [] (Fact.fixed b) ≡ Some (point (bit b))
truth_as true = refl
truth_as false = refl

sound_one_by_zero : (sets : List (ℤ × ℤ)) → IsSoundTerm sets one_by_zero
sound_one_by_zero sets = (one_is_small, zero_is_small)

refuted_as : (b : Bool) → is_refuted [] (Fact.fixed b) ≡ not b
refuted_as true = refl
refuted_as false = refl

pub each_answer_comes : EachAnswerComes
each_answer_comes = record {
  number = λ core k small. (subst (IsSoundTerm core.sets) (sym (term_Const core.tables core.resources k)) small, ap (range []) (term_Const core.tables core.resources k) ∙ range_of_number k);
  no_number = λ core. (subst (IsSoundTerm core.sets) (sym (is_undefined core)) (sound_one_by_zero core.sets), ap (range []) (is_undefined core) ∙ no_range);
  truth = λ core b. (subst (IsSoundFact core.sets) (sym (fact_Fixed core.tables core.resources b)) tt, ap (fact_range []) (fact_Fixed core.tables core.resources b) ∙ truth_as b);
  no_truth = λ core. (subst (IsSoundFact core.sets) (sym (is_undefined_constraint core)) (sums_small core.sets, sound_one_by_zero core.sets, zero_is_small), ap (fact_range []) (is_undefined_constraint core) ∙ no_truth_range);
  refuted = λ core b. ap (is_refuted []) (fact_Fixed core.tables core.resources b) ∙ refuted_as b;
}
