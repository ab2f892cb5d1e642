use Rattle.std.proofs.Common.{ap, sym, ◌∙◌, rules, arith, map, drop, ◌*ℤ◌, neg_ℤ}
use Rattle.std.specs.Prelude.{FitsSigned}
use mir.Syntax.{w128}
use Rattle.std.proofs.lemmas.Int.{to_z-of_z}
use Rattle.opl_expr.specs.declared.forms.Cons.TheFolds.{the_lemmas}
use Rattle.opl_expr.specs.Forms.{term, terms_of}
use Rattle.opl_expr.specs.Sound.{term_magnitude}
use Rattle.opl_expr.proofs.Parts.{sound_at}
use Rattle.opl_range.proofs.Parts.{sum_parts, neg_part, mul_first, mul_second, factors_small, swapped_small, none_left}
use Rattle.opl_linear.specs.Forms.{constant_part, constant_parts}
use Rattle.opl_linear_filter.proofs.Plain.{part_Const, part_Sum, part_Neg}
use Rattle.opl_linear_filter.proofs.Constants.{negated_small, scaled_part, mul_part, mul_part_right, parts_fit}
use Rattle.opl_linear_filter.proofs.constant.+constants.Goals as goal

pub constant_part-constant_parts-requires : goal.constant_part-constant_parts-requires
constant_part-constant_parts-requires t c = (search (rules, the_lemmas), sum_parts _ _ _ _ _ _ c.in-Sum.is c.as_slice.ensures c.requires)

pub constant_part-constant_part-requires : goal.constant_part-constant_part-requires
constant_part-constant_part-requires t c = (search (rules, the_lemmas), neg_part _ _ _ _ _ _ c.in-Neg.is c.get.ensures c.requires)

pub constant_part-negated-requires : goal.constant_part-negated-requires
constant_part-negated-requires t c =
    let fits : FitsSigned w128 c.constant_part.result = search rules in
    simp to_z-of_z (negated_small c.args.core.now.sets (term c.args.core.now.tables c.args.core.now.resources c.get.result.now) _ (neg_part _ _ _ _ _ _ c.in-Neg.is c.get.ensures c.requires) c.constant_part.ensures)

pub constant_part-constant_part-requires-in-Some : goal.constant_part-constant_part-requires-in-Some
constant_part-constant_part-requires-in-Some t c = (search (rules, the_lemmas), mul_second _ _ _ _ _ _ _ c.in-Mul.is c.get-in-Some.ensures c.requires)

pub constant_part-multiplied-requires : goal.constant_part-multiplied-requires
constant_part-multiplied-requires t c =
    let factor : FitsSigned w128 c.in-Some.k = search rules in
    let fits : FitsSigned w128 c.constant_part-in-Some.result = search rules in
    let in_core = term c.args.core.now.tables c.args.core.now.resources in
    simp to_z-of_z (scaled_part c.args.core.now.sets (in_core c.get-in-Mul.result.now) (in_core c.get-in-Some.result.now) _ _ (c.in-Some.ensures) c.constant_part-in-Some.ensures
    (factors_small _ _ _ _ _ _ _ _ c.in-Mul.is c.get-in-Mul.ensures c.get-in-Some.ensures c.requires))

pub constant_part-constant_part-requires-in-Some-constant : goal.constant_part-constant_part-requires-in-Some-constant
constant_part-constant_part-requires-in-Some-constant t c = (search (rules, the_lemmas), mul_first _ _ _ _ _ _ _ c.in-Mul.is c.get-in-Some-constant.ensures c.requires)

pub constant_part-multiplied-requires-in-Some-constant : goal.constant_part-multiplied-requires-in-Some-constant
constant_part-multiplied-requires-in-Some-constant t c =
    let factor : FitsSigned w128 c.in-Some-constant.k = search rules in
    let fits : FitsSigned w128 c.constant_part-in-Some-constant.result = search rules in
    let in_core = term c.args.core.now.tables c.args.core.now.resources in
    let sets = c.args.core.now.sets in
    let small = factors_small _ _ _ _ _ _ _ _ c.in-Mul.is c.get-in-Some-constant.ensures c.get-in-None.ensures c.requires in
    simp to_z-of_z (scaled_part sets (in_core c.get-in-None.result.now) (in_core c.get-in-Some-constant.result.now) _ _ (c.in-Some-constant.ensures) c.constant_part-in-Some-constant.ensures
    (swapped_small (term_magnitude sets (in_core c.get-in-Some-constant.result.now)) (term_magnitude sets (in_core c.get-in-None.result.now)) small))

pub constant_part-returns-in-Neg : goal.constant_part-returns-in-Neg
constant_part-returns-in-Neg t c =
    let inner : FitsSigned w128 c.constant_part.result = search rules in
    let fits : FitsSigned w128 c.negated.result = search rules in
    let e = simp to_z-of_z at c.negated.ensures in
    simp to_z-of_z (e ∙ ap neg_ℤ c.constant_part.ensures ∙ ap (λ z. neg_ℤ (constant_part (term c.args.core.now.tables c.args.core.now.resources z))) c.get.ensures ∙ sym (ap (λ z. constant_part (term c.args.core.now.tables c.args.core.now.resources z)) c.in-Neg.is ∙ part_Neg _ _ _))

pub constant_part-returns-in-Some : goal.constant_part-returns-in-Some
constant_part-returns-in-Some t c =
    let factor : FitsSigned w128 c.in-Some.k = search rules in
    let inner : FitsSigned w128 c.constant_part-in-Some.result = search rules in
    let fits : FitsSigned w128 c.multiplied.result = search rules in
    let e = simp to_z-of_z at c.multiplied.ensures in
    simp to_z-of_z (e ∙ ap (λ v. c.in-Some.k *ℤ v) c.constant_part-in-Some.ensures ∙ mul_part _ _ _ _ _ _ _ _ c.in-Mul.is c.get-in-Mul.ensures c.get-in-Some.ensures (c.in-Some.ensures))

pub constant_part-returns-in-Some-constant : goal.constant_part-returns-in-Some-constant
constant_part-returns-in-Some-constant t c =
    let factor : FitsSigned w128 c.in-Some-constant.k = search rules in
    let inner : FitsSigned w128 c.constant_part-in-Some-constant.result = search rules in
    let fits : FitsSigned w128 c.multiplied-in-Some-constant.result = search rules in
    let e = simp to_z-of_z at c.multiplied-in-Some-constant.ensures in
    simp to_z-of_z (e ∙ ap (λ v. c.in-Some-constant.k *ℤ v) c.constant_part-in-Some-constant.ensures ∙ mul_part_right _ _ _ _ _ _ _ _ _ c.in-Mul.is c.get-in-Mul.ensures c.get-in-Some-constant.ensures c.get-in-None.ensures (c.in-None.ensures) (c.in-Some-constant.ensures))

pub constant_parts-constant_part-requires : goal.constant_parts-constant_part-requires
constant_parts-constant_part-requires t c =
    (search (rules, the_lemmas), sound_at c.args.core.now.sets (term c.args.core.now.tables c.args.core.now.resources) c.args.parts.now _ _ (omega (arith, c.loop-left.invariant.0)) c.index-parts-left.is c.requires.1)

pub constant_parts-added-total-requires : goal.constant_parts-added-total-requires
constant_parts-added-total-requires t c =
    let inner : FitsSigned w128 c.constant_part.result = search rules in
    simp to_z-of_z (parts_fit c.args.core.now.sets (term c.args.core.now.tables c.args.core.now.resources) c.args.parts.now _ _ _ _ c.loop-left-test.true c.loop-left.invariant.0 c.index-parts-left.is c.constant_part.ensures c.loop-left.invariant.1 c.requires.0)

pub constant_parts-returns : goal.constant_parts-returns
constant_parts-returns t c =
    let done = none_left c.loop-left.left c.loop-left-test.false in
    c.loop-left.invariant.1 ∙ ap (λ k. constant_parts (terms_of (map (term c.args.core.now.tables c.args.core.now.resources) (drop k c.args.parts.now)))) done

pub constant_part-returns-in-Const : goal.constant_part-returns-in-Const
constant_part-returns-in-Const t c =
    let fits : FitsSigned w128 c.in-Const.k = search rules in
    simp to_z-of_z (sym (ap (λ z. constant_part (term c.args.core.now.tables c.args.core.now.resources z)) c.in-Const.is ∙ part_Const _ _ _))

pub constant_part-returns-in-Sum : goal.constant_part-returns-in-Sum
constant_part-returns-in-Sum t c =
    let fits : FitsSigned w128 c.constant_parts.result = search rules in
    let in_core = term c.args.core.now.tables c.args.core.now.resources in
    simp to_z-of_z (c.constant_parts.ensures ∙ ap (λ z. constant_parts (terms_of (map in_core z))) c.as_slice.ensures ∙ sym (ap (λ z. constant_part (in_core z)) c.in-Sum.is ∙ part_Sum _ _ _))
