use Rattle.std.proofs.Common.{◌∙◌, sym}
use Rattle.std.proofs.lemmas.Result.{IfOk-weaker}
use Rattle.opl_count.proofs.Made.{is_equal, is_below, is_at_most, is_above, is_at_least}
use Rattle.opl_count.proofs.count_filter.of_comparison.Goals as goal

pub returns-in-Eq : goal.returns-in-Eq
returns-in-Eq c = IfOk-weaker c.of_both.result _ _ (is_equal c.args.core.now c.args.op c.args.a.now c.args.b.now c.in-Eq.is (sym c.are_linear.ensures ∙ c.if-are_linear.false)) c.of_both.ensures

pub returns-in-Lt : goal.returns-in-Lt
returns-in-Lt c = IfOk-weaker c.of_one.result _ _ (is_below c.args.core.now c.args.op c.args.a.now c.args.b.now c.in-Lt.is (sym c.are_linear.ensures ∙ c.if-are_linear.false)) c.of_one.ensures

pub returns-in-Le : goal.returns-in-Le
returns-in-Le c = IfOk-weaker c.of_one-in-Le.result _ _ (is_at_most c.args.core.now c.args.op c.args.a.now c.args.b.now c.in-Le.is (sym c.are_linear.ensures ∙ c.if-are_linear.false)) c.of_one-in-Le.ensures

pub returns-in-Gt : goal.returns-in-Gt
returns-in-Gt c = IfOk-weaker c.of_one-in-Gt.result _ _ (is_above c.args.core.now c.args.op c.args.a.now c.args.b.now c.in-Gt.is (sym c.are_linear.ensures ∙ c.if-are_linear.false)) c.of_one-in-Gt.ensures

pub returns-in-Ge : goal.returns-in-Ge
returns-in-Ge c = IfOk-weaker c.of_one-in-Ge.result _ _ (is_at_least c.args.core.now c.args.op c.args.a.now c.args.b.now c.in-Ge.is (sym c.are_linear.ensures ∙ c.if-are_linear.false)) c.of_one-in-Ge.ensures
