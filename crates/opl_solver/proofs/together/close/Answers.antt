use Rattle.std.proofs.Common.{subst, sym}
use Rattle.opl_engine.specs.States.{seen}
use Rattle.opl_search.specs.States.{Closes}
use Rattle.opl_solver.specs.Pairs.{both}
use Rattle.opl_solver.proofs.Pairs.{closed_from, closing_both, closes_told}
use Rattle.opl_solver.proofs.together.close.Goals as goal

pub close-requires-clause-can : goal.close-requires-clause-can
close-requires-clause-can c = c.requires.now

pub close-requires-clause-fits : goal.close-requires-clause-fits
close-requires-clause-fits c = (c.args.store.now.below, c.requires.fits)

pub returns-clause-pair : goal.returns-clause-pair
returns-clause-pair c =
    let e = c.close.ensures in
    closed_from (seen c.args.engine.now) (seen c.close.new.self) c.args.store.now c.close.new.store e.same e.posted e.leads_to.1 e.can e.fits c.requires

pub returns-clause-closed : goal.returns-clause-closed
returns-clause-closed c =
    subst (Closes (both (seen c.args.engine.now) c.args.store.now) c.close.new.store.top) (sym c.closed_as.ensures)
    (closes_told (seen c.args.engine.now) c.args.store.now c.close.new.store.top c.close.result c.close.ensures.closed)

pub returns-clause-others : goal.returns-clause-others
returns-clause-others c =
    let e = c.close.ensures in
    closing_both (seen c.args.engine.now) (seen c.close.new.self) c.args.store.now c.close.new.store e.same e.posted e.leads_to.1
