use Rattle.std.proofs.Common.{◌∷◌, [], ap, arith, codes, sym, ◌∙◌}
use Rattle.std.proofs.lemmas.Result.{on_ok_weaker}
use Rattle.opl_ground_text.specs.Texts.{cons_text, expr_text, node, op_word}
use Rattle.opl_ground_text.proofs.Parts.{node-cell, node-halves, node-of, node-one}
use Rattle.opl_ground_text.proofs.Texts.{texts, text-Mul, text-Div, text-Rem, text-Cmp, text-Imp, text-Iff}
use Rattle.opl_ground_text.proofs.forms.+texts.Goals as goal

pub push_expr-returns-in-Const : goal.push_expr-returns-in-Const
push_expr-returns-in-Const t c = grind (arith, texts)

pub push_expr-returns-in-Var : goal.push_expr-returns-in-Var
push_expr-returns-in-Var t c = grind (arith, texts)

pub push_expr-returns-in-Sum : goal.push_expr-returns-in-Sum
push_expr-returns-in-Sum t c = grind (arith, texts)

pub push_expr-returns-in-Neg : goal.push_expr-returns-in-Neg
push_expr-returns-in-Neg t c = grind (arith, texts)

pub push_expr-returns-in-Abs : goal.push_expr-returns-in-Abs
push_expr-returns-in-Abs t c = grind (arith, texts)

pub push_expr-returns-in-Min : goal.push_expr-returns-in-Min
push_expr-returns-in-Min t c = grind (arith, texts)

pub push_expr-returns-in-Max : goal.push_expr-returns-in-Max
push_expr-returns-in-Max t c = grind (arith, texts)

pub push_expr-returns-in-At : goal.push_expr-returns-in-At
push_expr-returns-in-At t c = grind (arith, texts)

pub push_expr-returns-in-Truth : goal.push_expr-returns-in-Truth
push_expr-returns-in-Truth t c = grind (arith, texts)

pub push_expr-returns-in-Ask : goal.push_expr-returns-in-Ask
push_expr-returns-in-Ask t c = grind (arith, texts)

pub push_cons-returns-in-Fixed : goal.push_cons-returns-in-Fixed
push_cons-returns-in-Fixed t c = grind (arith, texts)

pub push_cons-returns-in-And : goal.push_cons-returns-in-And
push_cons-returns-in-And t c = grind (arith, texts)

pub push_cons-returns-in-Or : goal.push_cons-returns-in-Or
push_cons-returns-in-Or t c = grind (arith, texts)

pub push_cons-returns-in-Not : goal.push_cons-returns-in-Not
push_cons-returns-in-Not t c = grind (arith, texts)

pub push_cons-returns-in-AllDifferent : goal.push_cons-returns-in-AllDifferent
push_cons-returns-in-AllDifferent t c = grind (arith, texts)

pub push_cons-returns-in-Capacity : goal.push_cons-returns-in-Capacity
push_cons-returns-in-Capacity t c = grind (arith, texts)

pub push_cons-returns-in-Bound : goal.push_cons-returns-in-Bound
push_cons-returns-in-Bound t c = grind (arith, texts)

pub push_one-returns : goal.push_one-returns
push_one-returns t c = node-one _ _ _ _ _ _ c.in_ok-push_opening.ensures c.in_ok-push_behind.ensures c.in_ok-extend_from_slice.ensures.items

pub push_node-returns : goal.push_node-returns
push_node-returns t c = node-of _ _ _ _ _ _ c.in_ok-push_opening.ensures c.in_ok-push_spaced.ensures c.in_ok-extend_from_slice.ensures.items

pub push_cell-returns : goal.push_cell-returns
push_cell-returns t c = node-cell _ _ _ _ _ _ _ c.in_ok-extend_from_slice.ensures.items c.in_ok-push_table.ensures c.in_ok-push_spaced.ensures c.in_ok-extend_from_slice-2.ensures.items

pub push_not-returns : goal.push_not-returns
push_not-returns t c = node-one _ _ _ _ _ _ c.in_ok-push_opening.ensures c.in_ok-push_cons_behind.ensures c.in_ok-extend_from_slice.ensures.items

pub push_expr-returns-in_ok-push_first-in-Mul : goal.push_expr-returns-in_ok-push_first-in-Mul
push_expr-returns-in_ok-push_first-in-Mul t c =
    let text = expr_text c.args.core.now in
    let is = ap text c.in-Mul.is ∙ text-Mul c.args.core.now _ _ ∙ (λ i. node (codes "*") (text (sym c.get-in-Mul.ensures i) ∷ text (sym c.get-in-Mul-2.ensures i) ∷ [])) in
    on_ok_weaker c.push_last.result (λ q. node-halves _ _ _ (codes "*") (text c.get-in-Mul.result.now) _ _ c.in_ok-push_first-in-Mul.ensures q is) c.push_last.ensures

pub push_expr-returns-in_ok-push_first-in-Div : goal.push_expr-returns-in_ok-push_first-in-Div
push_expr-returns-in_ok-push_first-in-Div t c =
    let text = expr_text c.args.core.now in
    let is = ap text c.in-Div.is ∙ text-Div c.args.core.now _ _ ∙ (λ i. node (codes "div") (text (sym c.get-in-Div.ensures i) ∷ text (sym c.get-in-Div-2.ensures i) ∷ [])) in
    on_ok_weaker c.push_last-in-Div.result (λ q. node-halves _ _ _ (codes "div") (text c.get-in-Div.result.now) _ _ c.in_ok-push_first-in-Div.ensures q is) c.push_last-in-Div.ensures

pub push_expr-returns-in_ok-push_first-in-Rem : goal.push_expr-returns-in_ok-push_first-in-Rem
push_expr-returns-in_ok-push_first-in-Rem t c =
    let text = expr_text c.args.core.now in
    let is = ap text c.in-Rem.is ∙ text-Rem c.args.core.now _ _ ∙ (λ i. node (codes "mod") (text (sym c.get-in-Rem.ensures i) ∷ text (sym c.get-in-Rem-2.ensures i) ∷ [])) in
    on_ok_weaker c.push_last-in-Rem.result (λ q. node-halves _ _ _ (codes "mod") (text c.get-in-Rem.result.now) _ _ c.in_ok-push_first-in-Rem.ensures q is) c.push_last-in-Rem.ensures

pub push_cons-returns-in_ok-push_first-in-Cmp : goal.push_cons-returns-in_ok-push_first-in-Cmp
push_cons-returns-in_ok-push_first-in-Cmp t c =
    let text = expr_text c.args.core.now in
    let is = ap (cons_text c.args.core.now) c.in-Cmp.is ∙ text-Cmp c.args.core.now _ _ _ ∙ (λ i. node (sym c.op_word.ensures i) (text (sym c.get.ensures i) ∷ text (sym c.get-in-Cmp.ensures i) ∷ [])) in
    on_ok_weaker c.push_last.result (λ q. node-halves _ _ _ _ _ _ _ c.in_ok-push_first-in-Cmp.ensures q is) c.push_last.ensures

pub push_cons-returns-in_ok-push_cons_first-in-Imp : goal.push_cons-returns-in_ok-push_cons_first-in-Imp
push_cons-returns-in_ok-push_cons_first-in-Imp t c =
    let text = cons_text c.args.core.now in
    let is = ap text c.in-Imp.is ∙ text-Imp c.args.core.now _ _ ∙ (λ i. node (codes "=>") (text (sym c.get-in-Imp.ensures i) ∷ text (sym c.get-in-Imp-2.ensures i) ∷ [])) in
    on_ok_weaker c.push_cons_last.result (λ q. node-halves _ _ _ (codes "=>") (text c.get-in-Imp.result.now) _ _ c.in_ok-push_cons_first-in-Imp.ensures q is) c.push_cons_last.ensures

pub push_cons-returns-in_ok-push_cons_first-in-Iff : goal.push_cons-returns-in_ok-push_cons_first-in-Iff
push_cons-returns-in_ok-push_cons_first-in-Iff t c =
    let text = cons_text c.args.core.now in
    let is = ap text c.in-Iff.is ∙ text-Iff c.args.core.now _ _ ∙ (λ i. node (codes "<=>") (text (sym c.get-in-Iff.ensures i) ∷ text (sym c.get-in-Iff-2.ensures i) ∷ [])) in
    on_ok_weaker c.push_cons_last-in-Iff.result (λ q. node-halves _ _ _ (codes "<=>") (text c.get-in-Iff.result.now) _ _ c.in_ok-push_cons_first-in-Iff.ensures q is) c.push_cons_last-in-Iff.ensures
