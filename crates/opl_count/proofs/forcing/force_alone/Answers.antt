use Rattle.opl_count.specs.Costs.{fact_of}
use Rattle.opl_count.proofs.Read.{read_at, read_filter, read_made}
use Rattle.opl_count.proofs.Settling.{own_failed, own_stable}
use Rattle.opl_count.proofs.forcing.force_alone.Goals as goal

pub filter-requires-clause-made : goal.filter-requires-clause-made
filter-requires-clause-made g c = read_made c.args.core.now c.args.sum.now.costs.literals c.as_slice-literals.result.now c.args.at c.index-literals-at.result c.requires.made.made.parts c.as_slice-literals.ensures c.requires.there c.index-literals-at.is

pub returns-in-Failed-clause-settles : goal.returns-in-Failed-clause-settles
returns-in-Failed-clause-settles g c =
    let core = c.args.core.now in
    let ls = c.args.sum.now.costs.literals in
    let l = c.index-literals-at.result in
    let h = read_at ls c.as_slice-literals.result.now c.args.at l c.as_slice-literals.ensures c.requires.there c.index-literals-at.is in
    let f = read_filter core ls c.as_slice-literals.result.now c.args.at l c.requires.made.made.parts c.as_slice-literals.ensures c.requires.there c.index-literals-at.is in
    own_failed core c.args.sum.now.costs (g.N.View.family c.args.n.now) (g.N.View.family c.filter.new.n) c.args.at l c.vars-vars.ensures.sets h c.requires.not_refuted c.requires.dear (c.in-Failed.ensures.between (fact_of core l) f)
    (c.in-Failed.ensures.outcome (fact_of core l) f)

pub returns-in-Stable-clause-settles : goal.returns-in-Stable-clause-settles
returns-in-Stable-clause-settles g c =
    let core = c.args.core.now in
    let ls = c.args.sum.now.costs.literals in
    let l = c.index-literals-at.result in
    let h = read_at ls c.as_slice-literals.result.now c.args.at l c.as_slice-literals.ensures c.requires.there c.index-literals-at.is in
    let f = read_filter core ls c.as_slice-literals.result.now c.args.at l c.requires.made.made.parts c.as_slice-literals.ensures c.requires.there c.index-literals-at.is in
    own_stable core c.args.sum.now.costs (g.N.View.family c.args.n.now) (g.N.View.family c.filter.new.n) c.args.at l c.vars-vars.ensures.sets c.requires.made.made.parts h c.requires.alone c.requires.not_refuted c.requires.dear
    (c.in-Stable.ensures.between (fact_of core l) f) (c.in-Stable.ensures.outcome (fact_of core l) f)
