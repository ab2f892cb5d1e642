use Rattle.opl_count.proofs.Read.{read_at, read_variables, read_there}
use Rattle.opl_count.proofs.Settling.{values_failed, values_tried}
use Rattle.opl_count.proofs.forcing.force_by_values.Goals as goal

pub try_shared-requires-clause-there : goal.try_shared-requires-clause-there
try_shared-requires-clause-there g c =
    let ls = c.args.sum.now.costs.literals in
    let l = c.index-literals-at.result in
    let h = read_at ls c.as_slice-literals.result.now c.args.at l c.as_slice-literals.ensures c.requires.there c.index-literals-at.is in
    let e = read_variables c.as_slice-literals.result.now c.args.at l c.as_slice-variables.result.now c.index-literals-at.is c.as_slice-variables.ensures in
    read_there c.args.core.now (g.N.View.family c.args.n.now) ls c.args.at l c.as_slice-variables.result.now c.requires.made.made.parts h e c.requires.declared

pub returns-in-None-clause-settles : goal.returns-in-None-clause-settles
returns-in-None-clause-settles g c =
    values_failed c.args.core.now c.args.sum.now.costs (g.N.View.family c.args.n.now) (g.N.View.family c.try_shared.new.n) c.args.at c.as_slice-variables.result.now c.as_slice-variables.result.now c.in-None.ensures.tries

pub returns-in-Some-clause-settles : goal.returns-in-Some-clause-settles
returns-in-Some-clause-settles g c =
    let ls = c.args.sum.now.costs.literals in
    let l = c.index-literals-at.result in
    let h = read_at ls c.as_slice-literals.result.now c.args.at l c.as_slice-literals.ensures c.requires.there c.index-literals-at.is in
    let e = read_variables c.as_slice-literals.result.now c.args.at l c.as_slice-variables.result.now c.index-literals-at.is c.as_slice-variables.ensures in
    values_tried c.args.core.now c.args.sum.now.costs (g.N.View.family c.args.n.now) (g.N.View.family c.try_shared.new.n) c.args.at l c.as_slice-variables.result.now c.in-Some._removed h e c.in-Some.ensures.tries
