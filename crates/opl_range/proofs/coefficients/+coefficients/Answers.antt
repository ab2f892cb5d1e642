use Rattle.std.proofs.Common.{ap, sym, ◌∙◌, rules, arith, map, drop, ◌*ℤ◌, neg_ℤ}
use Rattle.std.specs.Prelude.{FitsSigned}
use mir.Syntax.{w128}
use Rattle.std.proofs.lemmas.Int.{to_z-of_z}
use Rattle.opl_expr.specs.declared.forms.Cons.TheFolds.{the_lemmas}
use Rattle.opl_expr.specs.Forms.{term, terms_of}
use Rattle.opl_expr.specs.Range.{coef, coefs}
use Rattle.opl_expr.specs.Sound.{term_magnitude}
use Rattle.opl_expr.proofs.Parts.{sound_at}
use Rattle.opl_range.proofs.Plain.{coef_Neg}
use Rattle.opl_range.proofs.Parts.{sum_parts, neg_part, mul_first, mul_second, factors_small, negated_small, scaled_coef, swapped_small, coefs_fit, mul_coefficient, mul_coefficient_right, none_left}
use Rattle.opl_range.proofs.coefficients.+coefficients.Goals as goal

pub coefficient-sum_of_coefficients-requires : goal.coefficient-sum_of_coefficients-requires
coefficient-sum_of_coefficients-requires t c = (search (rules, the_lemmas), sum_parts _ _ _ _ _ _ c.in-Sum.is c.as_slice.ensures c.requires)

pub coefficient-coefficient-requires : goal.coefficient-coefficient-requires
coefficient-coefficient-requires t c = (search (rules, the_lemmas), neg_part _ _ _ _ _ _ c.in-Neg.is c.get.ensures c.requires)

pub coefficient-negated-requires : goal.coefficient-negated-requires
coefficient-negated-requires t c =
    let fits : FitsSigned w128 c.coefficient.result = search rules in
    simp to_z-of_z (negated_small c.args.core.now.sets (term c.args.core.now.tables c.args.core.now.resources c.get.result.now) c.args.x _ (neg_part _ _ _ _ _ _ c.in-Neg.is c.get.ensures c.requires) c.coefficient.ensures)

pub coefficient-coefficient-requires-in-Some : goal.coefficient-coefficient-requires-in-Some
coefficient-coefficient-requires-in-Some t c = (search (rules, the_lemmas), mul_second _ _ _ _ _ _ _ c.in-Mul.is c.get-in-Some.ensures c.requires)

pub coefficient-multiplied-requires : goal.coefficient-multiplied-requires
coefficient-multiplied-requires t c =
    let factor : FitsSigned w128 c.in-Some.k = search rules in
    let fits : FitsSigned w128 c.coefficient-in-Some.result = search rules in
    let in_core = term c.args.core.now.tables c.args.core.now.resources in
    simp to_z-of_z (scaled_coef c.args.core.now.sets (in_core c.get-in-Mul.result.now) (in_core c.get-in-Some.result.now) _ _ c.args.x (c.in-Some.ensures) c.coefficient-in-Some.ensures
    (factors_small _ _ _ _ _ _ _ _ c.in-Mul.is c.get-in-Mul.ensures c.get-in-Some.ensures c.requires))

pub coefficient-coefficient-requires-in-Some-constant : goal.coefficient-coefficient-requires-in-Some-constant
coefficient-coefficient-requires-in-Some-constant t c = (search (rules, the_lemmas), mul_first _ _ _ _ _ _ _ c.in-Mul.is c.get-in-Some-constant.ensures c.requires)

pub coefficient-multiplied-requires-in-Some-constant : goal.coefficient-multiplied-requires-in-Some-constant
coefficient-multiplied-requires-in-Some-constant t c =
    let factor : FitsSigned w128 c.in-Some-constant.k = search rules in
    let fits : FitsSigned w128 c.coefficient-in-Some-constant.result = search rules in
    let in_core = term c.args.core.now.tables c.args.core.now.resources in
    let sets = c.args.core.now.sets in
    let small = factors_small _ _ _ _ _ _ _ _ c.in-Mul.is c.get-in-Some-constant.ensures c.get-in-None.ensures c.requires in
    simp to_z-of_z (scaled_coef sets (in_core c.get-in-None.result.now) (in_core c.get-in-Some-constant.result.now) _ _ c.args.x (c.in-Some-constant.ensures) c.coefficient-in-Some-constant.ensures
    (swapped_small (term_magnitude sets (in_core c.get-in-Some-constant.result.now)) (term_magnitude sets (in_core c.get-in-None.result.now)) small))

pub coefficient-returns-in-Neg : goal.coefficient-returns-in-Neg
coefficient-returns-in-Neg t c =
    let inner : FitsSigned w128 c.coefficient.result = search rules in
    let fits : FitsSigned w128 c.negated.result = search rules in
    let e = simp to_z-of_z at c.negated.ensures in
    simp to_z-of_z (e ∙ ap neg_ℤ c.coefficient.ensures ∙ ap (λ z. neg_ℤ (coef (term c.args.core.now.tables c.args.core.now.resources z) c.args.x)) c.get.ensures ∙ sym (ap (λ z. coef (term c.args.core.now.tables c.args.core.now.resources z) c.args.x) c.in-Neg.is ∙ coef_Neg _ _ _ _))

pub coefficient-returns-in-Some : goal.coefficient-returns-in-Some
coefficient-returns-in-Some t c =
    let factor : FitsSigned w128 c.in-Some.k = search rules in
    let inner : FitsSigned w128 c.coefficient-in-Some.result = search rules in
    let fits : FitsSigned w128 c.multiplied.result = search rules in
    let e = simp to_z-of_z at c.multiplied.ensures in
    simp to_z-of_z (e ∙ ap (λ v. c.in-Some.k *ℤ v) c.coefficient-in-Some.ensures ∙ mul_coefficient _ _ _ _ _ _ _ _ _ c.in-Mul.is c.get-in-Mul.ensures c.get-in-Some.ensures (c.in-Some.ensures))

pub coefficient-returns-in-Some-constant : goal.coefficient-returns-in-Some-constant
coefficient-returns-in-Some-constant t c =
    let factor : FitsSigned w128 c.in-Some-constant.k = search rules in
    let inner : FitsSigned w128 c.coefficient-in-Some-constant.result = search rules in
    let fits : FitsSigned w128 c.multiplied-in-Some-constant.result = search rules in
    let e = simp to_z-of_z at c.multiplied-in-Some-constant.ensures in
    simp to_z-of_z (e ∙ ap (λ v. c.in-Some-constant.k *ℤ v) c.coefficient-in-Some-constant.ensures ∙ mul_coefficient_right _ _ _ _ _ _ _ _ _ _ c.in-Mul.is c.get-in-Mul.ensures c.get-in-Some-constant.ensures c.get-in-None.ensures (c.in-None.ensures) (c.in-Some-constant.ensures))

pub sum_of_coefficients-coefficient-requires : goal.sum_of_coefficients-coefficient-requires
sum_of_coefficients-coefficient-requires t c =
    (search (rules, the_lemmas), sound_at c.args.core.now.sets (term c.args.core.now.tables c.args.core.now.resources) c.args.parts.now _ _ (omega (arith, c.loop-left.invariant.0)) c.index-parts-left.is c.requires.1)

pub sum_of_coefficients-added-total-requires : goal.sum_of_coefficients-added-total-requires
sum_of_coefficients-added-total-requires t c =
    let inner : FitsSigned w128 c.coefficient.result = search rules in
    simp to_z-of_z (coefs_fit c.args.core.now.sets (term c.args.core.now.tables c.args.core.now.resources) c.args.parts.now _ c.args.x _ _ _ c.loop-left-test.true c.loop-left.invariant.0 c.index-parts-left.is c.coefficient.ensures c.loop-left.invariant.1 c.requires.0)

pub sum_of_coefficients-returns : goal.sum_of_coefficients-returns
sum_of_coefficients-returns t c =
    let done = none_left c.loop-left.left c.loop-left-test.false in
    c.loop-left.invariant.1 ∙ ap (λ k. coefs (terms_of (map (term c.args.core.now.tables c.args.core.now.resources) (drop k c.args.parts.now))) c.args.x) done
