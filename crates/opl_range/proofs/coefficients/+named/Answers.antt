use Rattle.std.proofs.Common.{refl, ap, ◌∙◌, sym, subst, arith, map, drop}
use Rattle.std.specs.Prelude.{None}
use Rattle.opl_expr.specs.Forms.{term, terms_of}
use Rattle.opl_expr.specs.Range.{coef, coefs}
use Rattle.opl_expr.proofs.Parts.{drop_none}
use Rattle.opl_expr.proofs.Plain.{term_Sum, term_Var}
use Rattle.opl_range.specs.Between.{Ends}
use Rattle.opl_range.proofs.Parts.{none_left}
use Rattle.opl_range.proofs.Plain.{coef_Const, coef_Div, coef_Rem, coef_Abs, coef_Min, coef_Max, coef_At, coef_Truth, coef_Ask}
use Rattle.opl_range.proofs.Named.{var_named, var_beyond, sum_named, neg_named, left_named, right_named, factors_named, more_named}
use Rattle.opl_range.proofs.coefficients.+named.Goals as goal

pub last_named-returns-in-Const : goal.last_named-returns-in-Const
last_named-returns-in-Const t c =
    λ y l. ap (λ z. coef (term c.args.core.now.tables c.args.core.now.resources z) y) c.in-Const.is ∙ coef_Const c.args.core.now.tables c.args.core.now.resources _ y

pub last_named-returns-in-Div : goal.last_named-returns-in-Div
last_named-returns-in-Div t c =
    λ y l. ap (λ z. coef (term c.args.core.now.tables c.args.core.now.resources z) y) c.in-Div.is ∙ coef_Div c.args.core.now.tables c.args.core.now.resources _ _ y

pub last_named-returns-in-Rem : goal.last_named-returns-in-Rem
last_named-returns-in-Rem t c =
    λ y l. ap (λ z. coef (term c.args.core.now.tables c.args.core.now.resources z) y) c.in-Rem.is ∙ coef_Rem c.args.core.now.tables c.args.core.now.resources _ _ y

pub last_named-returns-in-Abs : goal.last_named-returns-in-Abs
last_named-returns-in-Abs t c =
    λ y l. ap (λ z. coef (term c.args.core.now.tables c.args.core.now.resources z) y) c.in-Abs.is ∙ coef_Abs c.args.core.now.tables c.args.core.now.resources _ y

pub last_named-returns-in-Min : goal.last_named-returns-in-Min
last_named-returns-in-Min t c =
    λ y l. ap (λ z. coef (term c.args.core.now.tables c.args.core.now.resources z) y) c.in-Min.is ∙ coef_Min c.args.core.now.tables c.args.core.now.resources _ y

pub last_named-returns-in-Max : goal.last_named-returns-in-Max
last_named-returns-in-Max t c =
    λ y l. ap (λ z. coef (term c.args.core.now.tables c.args.core.now.resources z) y) c.in-Max.is ∙ coef_Max c.args.core.now.tables c.args.core.now.resources _ y

pub last_named-returns-in-At : goal.last_named-returns-in-At
last_named-returns-in-At t c =
    λ y l. ap (λ z. coef (term c.args.core.now.tables c.args.core.now.resources z) y) c.in-At.is ∙ coef_At c.args.core.now.tables c.args.core.now.resources _ _ y

pub last_named-returns-in-Truth : goal.last_named-returns-in-Truth
last_named-returns-in-Truth t c =
    λ y l. ap (λ z. coef (term c.args.core.now.tables c.args.core.now.resources z) y) c.in-Truth.is ∙ coef_Truth c.args.core.now.tables c.args.core.now.resources _ y

pub last_named-returns-in-Ask : goal.last_named-returns-in-Ask
last_named-returns-in-Ask t c =
    λ y l. ap (λ z. coef (term c.args.core.now.tables c.args.core.now.resources z) y) c.in-Ask.is ∙ coef_Ask c.args.core.now.tables c.args.core.now.resources _ _ y

pub last_named-returns-then-x-end : goal.last_named-returns-then-x-end
last_named-returns-then-x-end t c =
    var_named _ _ _ (ap (term c.args.core.now.tables c.args.core.now.resources) c.in-Var.is ∙ term_Var c.args.core.now.tables c.args.core.now.resources _) c.if-x-end.true

pub last_named-returns-else-x-end : goal.last_named-returns-else-x-end
last_named-returns-else-x-end t c =
    var_beyond _ _ c.in-Var.x (ap (term c.args.core.now.tables c.args.core.now.resources) c.in-Var.is ∙ term_Var c.args.core.now.tables c.args.core.now.resources _) c.if-x-end.false

pub last_named-returns-in-Sum : goal.last_named-returns-in-Sum
last_named-returns-in-Sum t c =
    sum_named c.args.core.now.tables c.args.core.now.resources c.args.e.now c.in-Sum.parts c.as_slice.result.now c.args.end c.last_of.result (ap (term c.args.core.now.tables c.args.core.now.resources) c.in-Sum.is ∙ term_Sum c.args.core.now.tables c.args.core.now.resources c.in-Sum.parts) c.as_slice.ensures c.last_of.ensures

pub last_named-returns-in-Neg : goal.last_named-returns-in-Neg
last_named-returns-in-Neg t c =
    neg_named c.args.core.now.tables c.args.core.now.resources _ _ _ c.args.end c.last_named.result c.in-Neg.is c.get.ensures c.last_named.ensures

pub last_named-returns-in-Some : goal.last_named-returns-in-Some
last_named-returns-in-Some t c =
    left_named c.args.core.now.tables c.args.core.now.resources _ _ _ _ _ _ c.args.end c.last_named-in-Some.result c.in-Mul.is c.get-in-Mul.ensures c.get-in-Some.ensures (c.in-Some.ensures) c.last_named-in-Some.ensures

pub last_named-returns-in-Some-constant : goal.last_named-returns-in-Some-constant
last_named-returns-in-Some-constant t c =
    right_named c.args.core.now.tables c.args.core.now.resources _ _ _ _ _ _ _ c.args.end c.last_named-in-Some-constant.result c.in-Mul.is c.get-in-Mul.ensures c.get-in-Some-constant.ensures c.get-in-None.ensures (c.in-None.ensures) (c.in-Some-constant.ensures) c.last_named-in-Some-constant.ensures

pub last_named-returns-in-None-constant : goal.last_named-returns-in-None-constant
last_named-returns-in-None-constant t c =
    factors_named c.args.core.now.tables c.args.core.now.resources _ _ _ _ _ c.args.end c.in-Mul.is c.get-in-Mul.ensures c.get-in-None.ensures (c.in-None.ensures) (c.in-None-constant.ensures)

pub last_of-loop-left-init : goal.last_of-loop-left-init
last_of-loop-left-init t c =
    (omega arith, subst (λ ys. Ends (coefs (terms_of (map (term c.args.core.now.tables c.args.core.now.resources) ys))) c.args.end None) (sym (drop_none c.args.parts.now)) (λ y l. refl))

pub last_of-loop-left-preserved : goal.last_of-loop-left-preserved
last_of-loop-left-preserved t c =
    (omega (arith, c.loop-left.invariant.0), more_named (term c.args.core.now.tables c.args.core.now.resources) c.args.parts.now c.loop-left.left c.index-parts-left.result c.args.end c.last_named.result c.loop-left.found c.later-found.result c.loop-left-test.true c.loop-left.invariant.0 c.index-parts-left.is c.last_named.ensures c.loop-left.invariant.1 c.later-found.ensures)

pub last_of-returns : goal.last_of-returns
last_of-returns t c =
    subst (λ k. Ends (coefs (terms_of (map (term c.args.core.now.tables c.args.core.now.resources) (drop k c.args.parts.now)))) c.args.end c.loop-left.found) (none_left c.loop-left.left c.loop-left-test.false) c.loop-left.invariant.1
