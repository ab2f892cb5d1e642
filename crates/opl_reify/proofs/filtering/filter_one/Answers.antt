use Rattle.opl_reify.proofs.Opening.{at_place, read_made, read_filter}
use Rattle.opl_reify.proofs.Looking.{one_between, one_outcome}
use Rattle.opl_reify.specs.Parts.{fact_in}
use Rattle.opl_reify.proofs.filtering.filter_one.Goals as goal

pub filter-requires-clause-made : goal.filter-requires-clause-made
filter-requires-clause-made g c = read_made c.args.core.now c.args.parts.now c.args.at c.index-parts-at.result c.requires.parts c.requires.there c.index-parts-at.is

pub returns-clause-between : goal.returns-clause-between
returns-clause-between g c =
    let core = c.args.core.now in
    let ps = c.args.parts.now in
    let p = c.index-parts-at.result in
    let h = at_place ps c.args.at p c.requires.there c.index-parts-at.is in
    one_between core ps c.requires.parts (g.N.View.family c.args.n.now) (g.N.View.family c.filter.new.n) c.args.at p h c.requires.others c.vars-vars.ensures.sets
    (c.filter.ensures.between (fact_in core p) (read_filter core ps c.args.at p c.requires.parts c.requires.there c.index-parts-at.is))

pub returns-clause-outcome : goal.returns-clause-outcome
returns-clause-outcome g c =
    let core = c.args.core.now in
    let ps = c.args.parts.now in
    let p = c.index-parts-at.result in
    let h = at_place ps c.args.at p c.requires.there c.index-parts-at.is in
    one_outcome core ps c.requires.parts (g.N.View.family c.args.n.now) (g.N.View.family c.filter.new.n) c.args.at p c.filter.result h c.requires.others
    (c.filter.ensures.outcome (fact_in core p) (read_filter core ps c.args.at p c.requires.parts c.requires.there c.index-parts-at.is))
