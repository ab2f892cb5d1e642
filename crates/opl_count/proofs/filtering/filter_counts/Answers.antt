use Rattle.opl_expr.specs.Solutions.{declared}
use Rattle.opl_linear.specs.Alternating.{either}
use Rattle.opl_reify.proofs.Looking.{looked_between, looked_outcome, looked_again, still_below}
use Rattle.opl_filter.proofs.Removals.{left_self}
use Rattle.opl_notes.proofs.Rightness.{knows_on, tells_on, tells_same}
use Rattle.opl_count.specs.Costs.{is_over}
use Rattle.opl_count.specs.Places.{means_both}
use Rattle.opl_count.proofs.Both.{either_falls}
use Rattle.opl_count.proofs.filtering.filter_counts.Goals as goal

pub look-requires-clause-declared : goal.look-requires-clause-declared
look-requires-clause-declared g c =
    let dead = either (is_over c.args.core.now c.args.first.now.costs) (is_over c.args.core.now c.args.second.now.costs) in
    still_below dead (g.N.View.family c.args.n.now) (g.N.View.family c.loop-outcome.n) (declared c.args.core.now) c.loop-outcome.invariant.0 c.requires.declared

pub loop-outcome-preserved : goal.loop-outcome-preserved
loop-outcome-preserved g c =
    let dead = either (is_over c.args.core.now c.args.first.now.costs) (is_over c.args.core.now c.args.second.now.costs) in (
      looked_again dead (g.N.View.family c.args.n.now) (g.N.View.family c.loop-outcome.n) (g.N.View.family c.look.new.n) c.loop-outcome.invariant.0 c.in-None.ensures.looks,
      g.met.N.Narrow.leads_on _ _ _ c.loop-outcome.invariant.1 c.look.ensures.leads_to,
      tells_on (means_both c.args.core.now c.args.first.now c.args.second.now) c.args.notes.now (g.N.View.family c.args.n.now) c.loop-outcome.notes (g.N.View.family c.loop-outcome.n) c.look.new.notes (g.N.View.family c.look.new.n) c.loop-outcome.invariant.2 c.look.ensures.tells,
    )

pub returns-in-Some-clause-between : goal.returns-in-Some-clause-between
returns-in-Some-clause-between g c =
    let dead = either (is_over c.args.core.now c.args.first.now.costs) (is_over c.args.core.now c.args.second.now.costs) in
    looked_between dead (g.N.View.family c.args.n.now) (g.N.View.family c.loop-outcome.n) (g.N.View.family c.look.new.n) c.vars-vars.ensures.sets c.loop-outcome.invariant.0 c.in-Some.ensures.looks.0

pub returns-in-Some-clause-outcome : goal.returns-in-Some-clause-outcome
returns-in-Some-clause-outcome g c =
    let dead = either (is_over c.args.core.now c.args.first.now.costs) (is_over c.args.core.now c.args.second.now.costs) in
    looked_outcome dead (g.N.View.family c.args.n.now) (g.N.View.family c.loop-outcome.n) (g.N.View.family c.look.new.n) c.in-Some.outcome (either_falls c.args.core.now c.args.first.now.costs c.args.second.now.costs) c.loop-outcome.invariant.0 c.in-Some.ensures.looks.1

pub loop-outcome-init : goal.loop-outcome-init
loop-outcome-init g c =
    let D = g.N.View.family c.args.n.now in (
      left_self (either (is_over c.args.core.now c.args.first.now.costs) (is_over c.args.core.now c.args.second.now.costs)) D,
      g.met.N.Narrow.leads_to_itself c.args.n.now,
      tells_same (means_both c.args.core.now c.args.first.now c.args.second.now) c.args.notes.now D,
    )

pub look-requires-clause-knows : goal.look-requires-clause-knows
look-requires-clause-knows g c =
    knows_on (means_both c.args.core.now c.args.first.now c.args.second.now) c.args.notes.now (g.N.View.family c.args.n.now) c.loop-outcome.notes (g.N.View.family c.loop-outcome.n) c.requires.knows c.loop-outcome.invariant.2

pub returns-in-Some-clause-tells : goal.returns-in-Some-clause-tells
returns-in-Some-clause-tells g c =
    tells_on (means_both c.args.core.now c.args.first.now c.args.second.now) c.args.notes.now (g.N.View.family c.args.n.now) c.loop-outcome.notes (g.N.View.family c.loop-outcome.n) c.look.new.notes (g.N.View.family c.look.new.n) c.loop-outcome.invariant.2 c.look.ensures.tells
