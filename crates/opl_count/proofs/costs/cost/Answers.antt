use Rattle.std.proofs.Common.{arith}
use Rattle.opl_count.proofs.Read.{read_last, price_fits}
use Rattle.opl_count.proofs.costs.cost.Goals as goal

pub price-total-requires-clause-part : goal.price-total-requires-clause-part
price-total-requires-clause-part g c = read_last c.args.core.now c.args.literals.now c.loop-left.left c.index-literals-left.result c.requires.parts c.loop-left-test.true c.loop-left.invariant.0 c.index-literals-left.is

pub overflow_add-total : goal.overflow_add-total
overflow_add-total g c =
    let f = price_fits c.args.core.now (g.V.View.family c.args.view.now) c.args.literals.now c.loop-left.left c.index-literals-left.result c.args.paid c.loop-left.total c.loop-left-test.true c.loop-left.invariant.0 c.index-literals-left.is c.requires.fits c.loop-left.invariant.1 in
    omega (arith, f, c.price-total.ensures)
