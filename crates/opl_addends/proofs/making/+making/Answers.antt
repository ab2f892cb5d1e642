use Rattle.std.proofs.lemmas.Result.{IfOk-weaker}
use Rattle.opl_addends.proofs.Finding.{same_added, one_Const, one_Var, one_Mul, one_Div, one_Rem, one_Abs, one_Min, one_Max, one_At, one_Truth, one_Ask, sum_addends, neg_addends, first_none, first_next, first_all}
use Rattle.opl_addends.proofs.making.+making.Goals as goal

pub add-returns-in-Const : goal.add-returns-in-Const
add-returns-in-Const t c =
    IfOk-weaker c.add_one.result _ _ (λ u. same_added c.args.core.now _ _ c.args.found.now c.add_one.new.found (one_Const c.args.core.now c.args.is_opposite c.args.e.now c.in-Const._k c.in-Const.is)) c.add_one.ensures

pub add-returns-in-Var : goal.add-returns-in-Var
add-returns-in-Var t c =
    IfOk-weaker c.add_one-in-Var.result _ _ (λ u. same_added c.args.core.now _ _ c.args.found.now c.add_one-in-Var.new.found (one_Var c.args.core.now c.args.is_opposite c.args.e.now c.in-Var._x c.in-Var.is)) c.add_one-in-Var.ensures

pub add-returns-in-Mul : goal.add-returns-in-Mul
add-returns-in-Mul t c =
    IfOk-weaker c.add_one-in-Mul.result _ _ (λ u. same_added c.args.core.now _ _ c.args.found.now c.add_one-in-Mul.new.found (one_Mul c.args.core.now c.args.is_opposite c.args.e.now c.in-Mul._a c.in-Mul._b c.in-Mul.is)) c.add_one-in-Mul.ensures

pub add-returns-in-Div : goal.add-returns-in-Div
add-returns-in-Div t c =
    IfOk-weaker c.add_one-in-Div.result _ _ (λ u. same_added c.args.core.now _ _ c.args.found.now c.add_one-in-Div.new.found (one_Div c.args.core.now c.args.is_opposite c.args.e.now c.in-Div._a c.in-Div._b c.in-Div.is)) c.add_one-in-Div.ensures

pub add-returns-in-Rem : goal.add-returns-in-Rem
add-returns-in-Rem t c =
    IfOk-weaker c.add_one-in-Rem.result _ _ (λ u. same_added c.args.core.now _ _ c.args.found.now c.add_one-in-Rem.new.found (one_Rem c.args.core.now c.args.is_opposite c.args.e.now c.in-Rem._a c.in-Rem._b c.in-Rem.is)) c.add_one-in-Rem.ensures

pub add-returns-in-Abs : goal.add-returns-in-Abs
add-returns-in-Abs t c =
    IfOk-weaker c.add_one-in-Abs.result _ _ (λ u. same_added c.args.core.now _ _ c.args.found.now c.add_one-in-Abs.new.found (one_Abs c.args.core.now c.args.is_opposite c.args.e.now c.in-Abs._a c.in-Abs.is)) c.add_one-in-Abs.ensures

pub add-returns-in-Min : goal.add-returns-in-Min
add-returns-in-Min t c =
    IfOk-weaker c.add_one-in-Min.result _ _ (λ u. same_added c.args.core.now _ _ c.args.found.now c.add_one-in-Min.new.found (one_Min c.args.core.now c.args.is_opposite c.args.e.now c.in-Min._parts c.in-Min.is)) c.add_one-in-Min.ensures

pub add-returns-in-Max : goal.add-returns-in-Max
add-returns-in-Max t c =
    IfOk-weaker c.add_one-in-Max.result _ _ (λ u. same_added c.args.core.now _ _ c.args.found.now c.add_one-in-Max.new.found (one_Max c.args.core.now c.args.is_opposite c.args.e.now c.in-Max._parts c.in-Max.is)) c.add_one-in-Max.ensures

pub add-returns-in-At : goal.add-returns-in-At
add-returns-in-At t c =
    IfOk-weaker c.add_one-in-At.result _ _ (λ u. same_added c.args.core.now _ _ c.args.found.now c.add_one-in-At.new.found (one_At c.args.core.now c.args.is_opposite c.args.e.now c.in-At._table c.in-At._parts c.in-At.is)) c.add_one-in-At.ensures

pub add-returns-in-Truth : goal.add-returns-in-Truth
add-returns-in-Truth t c =
    IfOk-weaker c.add_one-in-Truth.result _ _ (λ u. same_added c.args.core.now _ _ c.args.found.now c.add_one-in-Truth.new.found (one_Truth c.args.core.now c.args.is_opposite c.args.e.now c.in-Truth._c c.in-Truth.is)) c.add_one-in-Truth.ensures

pub add-returns-in-Ask : goal.add-returns-in-Ask
add-returns-in-Ask t c =
    IfOk-weaker c.add_one-in-Ask.result _ _ (λ u. same_added c.args.core.now _ _ c.args.found.now c.add_one-in-Ask.new.found (one_Ask c.args.core.now c.args.is_opposite c.args.e.now c.in-Ask._ask c.in-Ask._x c.in-Ask.is)) c.add_one-in-Ask.ensures

pub add-returns-in-Sum : goal.add-returns-in-Sum
add-returns-in-Sum t c =
    IfOk-weaker c.add_all.result _ _ (λ u. same_added c.args.core.now _ _ c.args.found.now c.add_all.new.found (sum_addends c.args.core.now c.args.is_opposite c.args.e.now c.in-Sum.parts c.as_slice.result.now c.in-Sum.is c.as_slice.ensures)) c.add_all.ensures

pub add-returns-in-Neg : goal.add-returns-in-Neg
add-returns-in-Neg t c =
    IfOk-weaker c.add.result _ _ (λ u. same_added c.args.core.now _ _ c.args.found.now c.add.new.found (neg_addends c.args.core.now c.args.is_opposite c.args.e.now c.in-Neg.a c.get.result.now c.in-Neg.is c.get.ensures)) c.add.ensures

pub add_all-loop-part-init : goal.add_all-loop-part-init
add_all-loop-part-init t c = first_none c.args.core.now c.args.is_opposite c.args.parts.now c.args.found.now

pub add_all-loop-part-preserved : goal.add_all-loop-part-preserved
add_all-loop-part-preserved t c =
    first_next c.args.core.now c.args.is_opposite c.args.parts.now c.loop-part.part-index c.part-item.result c.args.found.now c.loop-part.found c.add.new.found c.loop-part-test.true c.part-item.is c.loop-part.invariant c.in_ok-add.ensures

pub add_all-returns : goal.add_all-returns
add_all-returns t c = first_all c.args.core.now c.args.is_opposite c.args.parts.now c.loop-part.part-index c.args.found.now c.loop-part.found c.loop-part-test.false c.loop-part.invariant
