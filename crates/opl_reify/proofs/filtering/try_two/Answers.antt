use Rattle.opl_reify.proofs.Opening.{at_place, variables_read, read_there}
use Rattle.opl_reify.proofs.Looking.{two_failed, two_end}
use Rattle.opl_reify.proofs.filtering.try_two.Goals as goal

pub try_shared-requires-clause-there : goal.try_shared-requires-clause-there
try_shared-requires-clause-there g c =
    read_there c.args.core.now (g.N.View.family c.args.n.now) c.args.parts.now c.args.first c.index-parts-first.result c.as_slice-variables.result.now c.requires.parts c.requires.first.there c.index-parts-first.is c.as_slice-variables.ensures c.requires.declared

pub returns-in-None-clause-looks : goal.returns-in-None-clause-looks
returns-in-None-clause-looks g c =
    two_failed c.args.core.now c.args.parts.now c.requires.parts (g.N.View.family c.args.n.now) (g.N.View.family c.try_shared.new.n) c.as_slice-variables.result.now c.as_slice-others.result.now c.vars-vars.ensures.sets c.in-None.ensures.tries

pub returns-in-Some-false-clause-looks : goal.returns-in-Some-false-clause-looks
returns-in-Some-false-clause-looks g c =
    let ps = c.args.parts.now in
    let p = c.index-parts-first.result in
    let q = c.index-parts-second.result in
    two_end c.args.core.now ps c.requires.parts (g.N.View.family c.args.n.now) (g.N.View.family c.try_shared.new.n) c.args.first c.args.second p q c.as_slice-variables.result.now c.as_slice-others.result.now c.in-Some-false.field-0 c.vars-vars.ensures.sets
    (at_place ps c.args.first p c.requires.first.there c.index-parts-first.is) (at_place ps c.args.second q c.requires.second.there c.index-parts-second.is) c.requires.first c.requires.second
    (variables_read ps c.args.first p c.as_slice-variables.result.now c.index-parts-first.is c.as_slice-variables.ensures)
    (variables_read ps c.args.second q c.as_slice-others.result.now c.index-parts-second.is c.as_slice-others.ensures) c.in-Some-false.ensures.tries c.in-Some-false.field-0-test
