use Rattle.std.proofs.Common.{sym, ◌∙◌}
use Rattle.opl_range.proofs.Compare.{at_most_is}
use Rattle.opl_range.proofs.comparisons.at_most.Goals as goal

pub returns : goal.returns
returns g c =
    at_most_is (g.V.View.family c.args.view.now) c.args.core.now c.args.a.now c.args.b.now c.in_ok-rest.rest c.with_variables-whole.result c.at_most_zero.result (sym (c.in_ok-rest.was) ∙ c.requires.rest) c.with_variables-whole.ensures c.at_most_zero.ensures
