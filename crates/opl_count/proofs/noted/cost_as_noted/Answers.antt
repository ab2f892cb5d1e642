use Rattle.std.proofs.Common.{arith}
use Rattle.opl_notes.proofs.Rightness.{knows_on, tells_same, tells_on}
use Rattle.opl_count.specs.Places.{means_literals}
use Rattle.opl_count.proofs.Read.{prices_end}
use Rattle.opl_count.proofs.Known.{cost_fits, cost_next}
use Rattle.opl_count.proofs.noted.cost_as_noted.Goals as goal

pub loop-left-init : goal.loop-left-init
loop-left-init g c = (omega arith, let p = prices_end c.args.core.now (g.V.View.family c.args.view.now) c.args.literals.now in omega (arith, p), tells_same (means_literals c.args.core.now c.args.literals.now c.args.first_place) c.args.notes.now (g.V.View.family c.args.view.now))

pub price_as_noted-total-requires-clause-knows : goal.price_as_noted-total-requires-clause-knows
price_as_noted-total-requires-clause-knows g c =
    knows_on (means_literals c.args.core.now c.args.literals.now c.args.first_place) c.args.notes.now (g.V.View.family c.args.view.now) c.loop-left.notes (g.V.View.family c.args.view.now) c.requires.knows c.loop-left.invariant.2

pub overflow_add-total : goal.overflow_add-total
overflow_add-total g c =
    let f = cost_fits c.args.core.now (g.V.View.family c.args.view.now) c.args.literals.now c.loop-left.left c.args.paid c.loop-left.total c.price_as_noted-total.result c.loop-left-test.true c.loop-left.invariant.0 c.requires.fits c.loop-left.invariant.1 c.price_as_noted-total.ensures.price in omega (arith, f)

pub loop-left-preserved : goal.loop-left-preserved
loop-left-preserved g c = (
  omega (arith, c.loop-left.invariant.0),
  cost_next c.args.core.now (g.V.View.family c.args.view.now) c.args.literals.now c.loop-left.left c.args.paid c.loop-left.total c.price_as_noted-total.result c.loop-left-test.true c.loop-left.invariant.0 c.loop-left.invariant.1 c.price_as_noted-total.ensures.price,
  tells_on (means_literals c.args.core.now c.args.literals.now c.args.first_place) c.args.notes.now (g.V.View.family c.args.view.now) c.loop-left.notes (g.V.View.family c.args.view.now) c.price_as_noted-total.new.notes (g.V.View.family c.args.view.now) c.loop-left.invariant.2 c.price_as_noted-total.ensures.tells,
)
