use Rattle.std.proofs.Common.{rules}
use Rattle.opl_linear.specs.Alternating.{either}
use Rattle.opl_count.specs.Costs.{is_over}
use Rattle.opl_count.proofs.Both.{look_failed}
use Rattle.opl_count.proofs.filtering.look.Goals as goal

pub returns-then-not-settle_both-clause-looks : goal.returns-then-not-settle_both-clause-looks
returns-then-not-settle_both-clause-looks g c = look_failed (either (is_over c.args.core.now c.args.first.now.costs) (is_over c.args.core.now c.args.second.now.costs)) (g.N.View.family c.args.n.now) _ c.vars-vars.ensures.sets (search rules)
