use Rattle.std.proofs.Common.{sym, ◌∙◌}
use Rattle.opl_range.proofs.Compare.{below_is}
use Rattle.opl_range.proofs.comparisons.below.Goals as goal

pub returns : goal.returns
returns g c =
    below_is (g.V.View.family c.args.view.now) c.args.core.now c.args.a.now c.args.b.now c.in_ok-rest.rest c.with_variables-whole.result c.below_zero.result (sym (c.in_ok-rest.was) ∙ c.requires.rest) c.with_variables-whole.ensures c.below_zero.ensures
