use Rattle.opl_expr.specs.Solutions.{declared}
use Rattle.opl_reify.proofs.Looking.{looked_between, looked_outcome, looked_again, still_below}
use Rattle.opl_addends.specs.Sums.{is_refuted}
use Rattle.opl_addends.proofs.rounds.filter_sum.Goals as goal

pub look-requires-clause-declared : goal.look-requires-clause-declared
look-requires-clause-declared g c =
    still_below (is_refuted c.args.core.now c.args.sum.now) (g.N.View.family c.args.n.now) (g.N.View.family c.loop-outcome.n) (declared c.args.core.now) c.loop-outcome.invariant.0 c.requires.declared

pub loop-outcome-preserved : goal.loop-outcome-preserved
loop-outcome-preserved g c = (
  looked_again (is_refuted c.args.core.now c.args.sum.now) (g.N.View.family c.args.n.now) (g.N.View.family c.loop-outcome.n) (g.N.View.family c.look.new.n) c.loop-outcome.invariant.0 c.in-None.ensures.looks,
  g.met.N.Narrow.leads_on _ _ _ c.loop-outcome.invariant.1 c.look.ensures.leads_to,
)

pub returns-in-Some-clause-between : goal.returns-in-Some-clause-between
returns-in-Some-clause-between g c =
    looked_between (is_refuted c.args.core.now c.args.sum.now) (g.N.View.family c.args.n.now) (g.N.View.family c.loop-outcome.n) (g.N.View.family c.look.new.n) c.vars-vars.ensures.sets c.loop-outcome.invariant.0 c.in-Some.ensures.looks.0

pub returns-in-Some-clause-outcome : goal.returns-in-Some-clause-outcome
returns-in-Some-clause-outcome g c =
    looked_outcome (is_refuted c.args.core.now c.args.sum.now) (g.N.View.family c.args.n.now) (g.N.View.family c.loop-outcome.n) (g.N.View.family c.look.new.n) c.in-Some.outcome c.requires.sum.falls c.loop-outcome.invariant.0 c.in-Some.ensures.looks.1
