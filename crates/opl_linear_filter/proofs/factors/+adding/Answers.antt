use Rattle.std.proofs.Common.{rules, ap, sym, subst, ◌∙◌}
use Rattle.std.specs.Prelude.{FitsSigned}
use mir.Syntax.{w128}
use Rattle.std.proofs.lemmas.Int.{to_z-of_z}
use Rattle.std.proofs.lemmas.Result.{on_ok_weaker}
use Rattle.opl_expr.specs.declared.forms.Cons.TheFolds.{the_lemmas}
use Rattle.opl_expr.specs.Range.{coef}
use Rattle.opl_expr.specs.Sound.{IsSoundTerm, term_magnitude}
use Rattle.opl_expr.proofs.Parts.{sound_at}
use Rattle.opl_expr.proofs.Plain.{term_Var}
use Rattle.opl_range.specs.Between.{term_of}
use Rattle.opl_range.proofs.Plain.{coef_Const, coef_Div, coef_Rem, coef_Abs, coef_Min, coef_Max, coef_At, coef_Truth, coef_Ask}
use Rattle.opl_linear_filter.specs.Factors.{Adds, CanAdd}
use Rattle.opl_linear_filter.proofs.Adding.{scaled_can, scaled_adds, scaled_sound, negated_can, negated_adds, negated_sound, adds_nothing, adds_next, adds_all, can_next, neg_is, sum_is, left_is, right_is, var_can, var_there, both_factors}
use Rattle.opl_linear_filter.proofs.factors.+adding.Goals as goal

pub add_form-add_factor-requires : goal.add_form-add_factor-requires
add_form-add_factor-requires t c =
    let fits : FitsSigned w128 c.args.times = search rules in
    simp to_z-of_z (var_can c.args.core.now.sets c.args.factors.now c.args.times _ _ (ap (term_of c.args.core.now) c.in-Var.is ∙ term_Var c.args.core.now.tables c.args.core.now.resources c.in-Var.x) c.requires.fits)

pub add_form-returns-in-Var-clause-below : goal.add_form-returns-in-Var-clause-below
add_form-returns-in-Var-clause-below t c =
    on_ok_weaker c.add_factor.result (λ b. b _ (var_there c.args.core.now.sets _ _ (ap (term_of c.args.core.now) c.in-Var.is ∙ term_Var c.args.core.now.tables c.args.core.now.resources c.in-Var.x) c.requires.sound) c.requires.below) c.add_factor.ensures.below

pub add_form-returns-in-Var-clause-factors : goal.add_form-returns-in-Var-clause-factors
add_form-returns-in-Var-clause-factors t c =
    let fits : FitsSigned w128 c.args.times = search rules in
    on_ok_weaker c.add_factor.result (λ a. subst (λ u. Adds c.args.factors.now c.args.times (coef u) c.add_factor.new.factors) (sym (ap (term_of c.args.core.now) c.in-Var.is ∙ term_Var c.args.core.now.tables c.args.core.now.resources c.in-Var.x)) a) (simp to_z-of_z at c.add_factor.ensures.factors)

pub add_form-add_forms-requires : goal.add_form-add_forms-requires
add_form-add_forms-requires t c =
    let fits : FitsSigned w128 c.args.times = search rules in
    let e = sum_is c.args.core.now.tables c.args.core.now.resources c.args.e.now c.in-Sum.parts c.as_slice.result.now c.in-Sum.is c.as_slice.ensures in (
      search (rules, the_lemmas),
      (
        subst (IsSoundTerm c.args.core.now.sets) e c.requires.sound,
        (
          simp to_z-of_z (subst (λ u. CanAdd c.args.factors.now c.args.times (term_magnitude c.args.core.now.sets u)) e c.requires.fits),
          c.requires.below,
        ),
      ),
    )

pub add_form-returns-in-Sum-clause-factors : goal.add_form-returns-in-Sum-clause-factors
add_form-returns-in-Sum-clause-factors t c =
    let fits : FitsSigned w128 c.args.times = search rules in
    let e = sum_is c.args.core.now.tables c.args.core.now.resources c.args.e.now c.in-Sum.parts c.as_slice.result.now c.in-Sum.is c.as_slice.ensures in
    on_ok_weaker c.add_forms.result (λ a. subst (λ u. Adds c.args.factors.now c.args.times (coef u) c.add_forms.new.factors) (sym e) a) (simp to_z-of_z at c.add_forms.ensures.factors)

pub add_form-add_form-requires : goal.add_form-add_form-requires
add_form-add_form-requires t c =
    let fits : FitsSigned w128 c.args.times = search rules in
    let made : FitsSigned w128 c.multiple.result = search rules in
    let m = simp to_z-of_z at c.multiple.ensures in
    let e = neg_is c.args.core.now.tables c.args.core.now.resources c.args.e.now c.in-Neg.a c.get.result.now c.in-Neg.is c.get.ensures in (
      search (rules, the_lemmas),
      (
        negated_sound c.args.core.now.sets _ _ e c.requires.sound,
        (
          simp to_z-of_z (negated_can c.args.core.now.sets c.args.factors.now c.args.times _ _ c.multiple.result e m c.requires.fits),
          c.requires.below,
        ),
      ),
    )

pub add_form-returns-in-Neg-clause-factors : goal.add_form-returns-in-Neg-clause-factors
add_form-returns-in-Neg-clause-factors t c =
    let fits : FitsSigned w128 c.args.times = search rules in
    let made : FitsSigned w128 c.multiple.result = search rules in
    let m = simp to_z-of_z at c.multiple.ensures in
    let e = neg_is c.args.core.now.tables c.args.core.now.resources c.args.e.now c.in-Neg.a c.get.result.now c.in-Neg.is c.get.ensures in
    on_ok_weaker c.add_form.result (λ a. negated_adds c.args.core.now.sets c.args.factors.now c.args.times _ _ c.multiple.result c.add_form.new.factors e m c.requires.fits a) (simp to_z-of_z at c.add_form.ensures.factors)

pub add_form-add_form-requires-in-Some : goal.add_form-add_form-requires-in-Some
add_form-add_form-requires-in-Some t c =
    let fits : FitsSigned w128 c.args.times = search rules in
    let factor : FitsSigned w128 c.in-Some.k = search rules in
    let made : FitsSigned w128 c.multiple-in-Some.result = search rules in
    let m = simp to_z-of_z at c.multiple-in-Some.ensures in
    let e = left_is c.args.core.now.tables c.args.core.now.resources c.args.e.now _ _ c.get-in-Mul.result.now c.get-in-Some.result.now c.in-Some.k c.in-Mul.is c.get-in-Mul.ensures c.get-in-Some.ensures c.in-Some.ensures in (
      search (rules, the_lemmas),
      (
        scaled_sound c.args.core.now.sets _ _ c.in-Some.k e c.requires.sound,
        (
          simp to_z-of_z (scaled_can c.args.core.now.sets c.args.factors.now c.args.times _ _ c.in-Some.k c.multiple-in-Some.result e m c.requires.fits),
          c.requires.below,
        ),
      ),
    )

pub add_form-returns-in-Some-clause-factors : goal.add_form-returns-in-Some-clause-factors
add_form-returns-in-Some-clause-factors t c =
    let fits : FitsSigned w128 c.args.times = search rules in
    let factor : FitsSigned w128 c.in-Some.k = search rules in
    let made : FitsSigned w128 c.multiple-in-Some.result = search rules in
    let m = simp to_z-of_z at c.multiple-in-Some.ensures in
    let e = left_is c.args.core.now.tables c.args.core.now.resources c.args.e.now _ _ c.get-in-Mul.result.now c.get-in-Some.result.now c.in-Some.k c.in-Mul.is c.get-in-Mul.ensures c.get-in-Some.ensures c.in-Some.ensures in
    on_ok_weaker c.add_form-in-Some.result (λ a. scaled_adds c.args.core.now.sets c.args.factors.now c.args.times _ _ c.in-Some.k c.multiple-in-Some.result c.add_form-in-Some.new.factors e m c.requires.fits a) (simp to_z-of_z at c.add_form-in-Some.ensures.factors)

pub add_form-add_form-requires-in-Some-constant : goal.add_form-add_form-requires-in-Some-constant
add_form-add_form-requires-in-Some-constant t c =
    let fits : FitsSigned w128 c.args.times = search rules in
    let factor : FitsSigned w128 c.in-Some-constant.k = search rules in
    let made : FitsSigned w128 c.multiple-in-Some-constant.result = search rules in
    let m = simp to_z-of_z at c.multiple-in-Some-constant.ensures in
    let e = right_is c.args.core.now.tables c.args.core.now.resources c.args.e.now _ _ c.get-in-Mul.result.now c.get-in-Some-constant.result.now c.get-in-None.result.now c.in-Some-constant.k c.in-Mul.is c.get-in-Mul.ensures c.get-in-Some-constant.ensures c.get-in-None.ensures c.in-None.ensures c.in-Some-constant.ensures in (
      search (rules, the_lemmas),
      (
        scaled_sound c.args.core.now.sets _ _ c.in-Some-constant.k e c.requires.sound,
        (
          simp to_z-of_z (scaled_can c.args.core.now.sets c.args.factors.now c.args.times _ _ c.in-Some-constant.k c.multiple-in-Some-constant.result e m c.requires.fits),
          c.requires.below,
        ),
      ),
    )

pub add_form-returns-in-Some-constant-clause-factors : goal.add_form-returns-in-Some-constant-clause-factors
add_form-returns-in-Some-constant-clause-factors t c =
    let fits : FitsSigned w128 c.args.times = search rules in
    let factor : FitsSigned w128 c.in-Some-constant.k = search rules in
    let made : FitsSigned w128 c.multiple-in-Some-constant.result = search rules in
    let m = simp to_z-of_z at c.multiple-in-Some-constant.ensures in
    let e = right_is c.args.core.now.tables c.args.core.now.resources c.args.e.now _ _ c.get-in-Mul.result.now c.get-in-Some-constant.result.now c.get-in-None.result.now c.in-Some-constant.k c.in-Mul.is c.get-in-Mul.ensures c.get-in-Some-constant.ensures c.get-in-None.ensures c.in-None.ensures c.in-Some-constant.ensures in
    on_ok_weaker c.add_form-in-Some-constant.result (λ a. scaled_adds c.args.core.now.sets c.args.factors.now c.args.times _ _ c.in-Some-constant.k c.multiple-in-Some-constant.result c.add_form-in-Some-constant.new.factors e m c.requires.fits a) (simp to_z-of_z at c.add_form-in-Some-constant.ensures.factors)

pub add_form-returns-in-None-constant-clause-factors : goal.add_form-returns-in-None-constant-clause-factors
add_form-returns-in-None-constant-clause-factors t c =
    adds_nothing c.args.core.now.sets c.args.factors.now c.args.times _ (both_factors c.args.core.now.tables c.args.core.now.resources c.args.e.now _ _ c.get-in-Mul.result.now c.get-in-None.result.now c.in-Mul.is c.get-in-Mul.ensures c.get-in-None.ensures c.in-None.ensures c.in-None-constant.ensures)

pub add_form-returns-in-Const-clause-factors : goal.add_form-returns-in-Const-clause-factors
add_form-returns-in-Const-clause-factors t c =
    adds_nothing c.args.core.now.sets c.args.factors.now c.args.times _ (λ x. ap (λ z. coef (term_of c.args.core.now z) x) c.in-Const.is ∙ coef_Const c.args.core.now.tables c.args.core.now.resources _ x)

pub add_form-returns-in-Div-clause-factors : goal.add_form-returns-in-Div-clause-factors
add_form-returns-in-Div-clause-factors t c =
    adds_nothing c.args.core.now.sets c.args.factors.now c.args.times _ (λ x. ap (λ z. coef (term_of c.args.core.now z) x) c.in-Div.is ∙ coef_Div c.args.core.now.tables c.args.core.now.resources _ _ x)

pub add_form-returns-in-Rem-clause-factors : goal.add_form-returns-in-Rem-clause-factors
add_form-returns-in-Rem-clause-factors t c =
    adds_nothing c.args.core.now.sets c.args.factors.now c.args.times _ (λ x. ap (λ z. coef (term_of c.args.core.now z) x) c.in-Rem.is ∙ coef_Rem c.args.core.now.tables c.args.core.now.resources _ _ x)

pub add_form-returns-in-Abs-clause-factors : goal.add_form-returns-in-Abs-clause-factors
add_form-returns-in-Abs-clause-factors t c =
    adds_nothing c.args.core.now.sets c.args.factors.now c.args.times _ (λ x. ap (λ z. coef (term_of c.args.core.now z) x) c.in-Abs.is ∙ coef_Abs c.args.core.now.tables c.args.core.now.resources _ x)

pub add_form-returns-in-Min-clause-factors : goal.add_form-returns-in-Min-clause-factors
add_form-returns-in-Min-clause-factors t c =
    adds_nothing c.args.core.now.sets c.args.factors.now c.args.times _ (λ x. ap (λ z. coef (term_of c.args.core.now z) x) c.in-Min.is ∙ coef_Min c.args.core.now.tables c.args.core.now.resources _ x)

pub add_form-returns-in-Max-clause-factors : goal.add_form-returns-in-Max-clause-factors
add_form-returns-in-Max-clause-factors t c =
    adds_nothing c.args.core.now.sets c.args.factors.now c.args.times _ (λ x. ap (λ z. coef (term_of c.args.core.now z) x) c.in-Max.is ∙ coef_Max c.args.core.now.tables c.args.core.now.resources _ x)

pub add_form-returns-in-At-clause-factors : goal.add_form-returns-in-At-clause-factors
add_form-returns-in-At-clause-factors t c =
    adds_nothing c.args.core.now.sets c.args.factors.now c.args.times _ (λ x. ap (λ z. coef (term_of c.args.core.now z) x) c.in-At.is ∙ coef_At c.args.core.now.tables c.args.core.now.resources _ _ x)

pub add_form-returns-in-Truth-clause-factors : goal.add_form-returns-in-Truth-clause-factors
add_form-returns-in-Truth-clause-factors t c =
    adds_nothing c.args.core.now.sets c.args.factors.now c.args.times _ (λ x. ap (λ z. coef (term_of c.args.core.now z) x) c.in-Truth.is ∙ coef_Truth c.args.core.now.tables c.args.core.now.resources _ x)

pub add_form-returns-in-Ask-clause-factors : goal.add_form-returns-in-Ask-clause-factors
add_form-returns-in-Ask-clause-factors t c =
    adds_nothing c.args.core.now.sets c.args.factors.now c.args.times _ (λ x. ap (λ z. coef (term_of c.args.core.now z) x) c.in-Ask.is ∙ coef_Ask c.args.core.now.tables c.args.core.now.resources _ _ x)

pub add_forms-add_form-requires : goal.add_forms-add_form-requires
add_forms-add_form-requires t c =
    let fits : FitsSigned w128 c.args.times = search rules in
    let kept = simp to_z-of_z at c.loop-part.invariant in (
      search (rules, the_lemmas),
      (
        sound_at c.args.core.now.sets (term_of c.args.core.now) c.args.parts.now c.loop-part.part-index c.part-item.result c.loop-part-test.true c.part-item.is c.requires.sound.1,
        (
          simp to_z-of_z (can_next c.args.core.now.sets (term_of c.args.core.now) c.args.times c.args.factors.now c.loop-part.factors c.args.parts.now c.loop-part.part-index c.part-item.result c.loop-part-test.true c.part-item.is kept),
          kept.below,
        ),
      ),
    )

pub add_forms-loop-part-preserved : goal.add_forms-loop-part-preserved
add_forms-loop-part-preserved t c =
    let fits : FitsSigned w128 c.args.times = search rules in
    let kept = simp to_z-of_z at c.loop-part.invariant in
    let added = simp to_z-of_z at c.in_ok-add_form.ensures.factors in
    simp to_z-of_z (adds_next c.args.core.now.sets (term_of c.args.core.now) c.args.times c.args.factors.now c.loop-part.factors c.args.parts.now c.add_form.new.factors c.loop-part.part-index c.part-item.result c.loop-part-test.true c.part-item.is kept c.in_ok-add_form.ensures.below added)

pub add_forms-returns-clause-factors : goal.add_forms-returns-clause-factors
add_forms-returns-clause-factors t c =
    let fits : FitsSigned w128 c.args.times = search rules in
    let kept = simp to_z-of_z at c.loop-part.invariant in
    adds_all c.args.core.now.sets (term_of c.args.core.now) c.args.times c.args.factors.now c.loop-part.factors c.args.parts.now c.loop-part.part-index c.loop-part-test.false kept
