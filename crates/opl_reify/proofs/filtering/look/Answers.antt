use Rattle.std.proofs.Common.{refl}
use Rattle.opl_reify.proofs.Opening.{others_refuted}
use Rattle.opl_reify.proofs.Looking.{none_open}
use Rattle.opl_reify.proofs.filtering.look.Goals as goal

pub returns-in-None-clause-looks : goal.returns-in-None-clause-looks
returns-in-None-clause-looks g c =
    let D = g.N.View.family c.args.n.now in
    none_open c.args.core.now c.args.parts.now c.requires.parts D D c.vars-vars.ensures.sets refl c.in-None.ensures

pub filter_one-requires-clause-others : goal.filter_one-requires-clause-others
filter_one-requires-clause-others g c = others_refuted c.args.core.now (g.N.View.family c.args.n.now) c.args.parts.now c.in-Some.first c.in-Some.ensures c.in-None-next_open.ensures
