use Rattle.std.proofs.Common.{sym, ◌∙◌}
use Rattle.opl_range.proofs.Compare.{equal_is}
use Rattle.opl_range.proofs.comparisons.equal.Goals as goal

pub returns : goal.returns
returns g c =
    equal_is (g.V.View.family c.args.view.now) c.args.core.now c.args.a.now c.args.b.now c.in_ok-rest.rest c.with_variables-whole.result c.verdict.result c.is_point.result c.never_zero-never.result
    (sym (c.in_ok-rest.was) ∙ c.requires.rest) c.with_variables-whole.ensures c.is_point.ensures c.never_zero-never.ensures.value c.verdict.ensures

pub verdict-requires : goal.verdict-requires
verdict-requires g c = λ e. c.never_zero-never.ensures.apart (sym c.is_point.ensures ∙ e)
