use Rattle.std.proofs.Common.{sym, ◌∙◌}
use Rattle.opl_range.proofs.Compare.{equal_refuted, missing_refuted}
use Rattle.opl_range.proofs.comparisons.are_equal.Goals as goal

pub returns-in-None : goal.returns-in-None
returns-in-None g c = missing_refuted (g.V.View.family c.args.view.now) c.args.core.now c.args.a.now c.args.b.now (sym (c.in-None.is) ∙ c.requires.rest)

pub returns-in-Some : goal.returns-in-Some
returns-in-Some g c =
    equal_refuted (g.V.View.family c.args.view.now) c.vars-vars.ensures.sets.full c.args.core.now c.args.a.now c.args.b.now c.in-Some.rest c.with_variables.result c.is_point.result
    c.lo-lo.ensures.ordered (sym (c.in-Some.is) ∙ c.requires.rest) c.with_variables.ensures c.is_point.ensures
