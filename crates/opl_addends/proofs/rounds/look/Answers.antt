use Rattle.std.proofs.Common.{sym}
use Rattle.opl_addends.specs.Sums.{is_refuted}
use Rattle.opl_addends.proofs.Going.{look_ended, sum_stable, not_refuted}
use Rattle.opl_addends.proofs.rounds.look.Goals as goal

pub returns-in-None-clause-looks : goal.returns-in-None-clause-looks
returns-in-None-clause-looks g c =
    look_ended (is_refuted c.args.core.now c.args.sum.now) (g.N.View.family c.args.n.now) (g.N.View.family c.try_each.new.n) c.vars-vars.ensures.sets c.in-None.ensures.tries

pub returns-in-Some-false-clause-looks : goal.returns-in-Some-false-clause-looks
returns-in-Some-false-clause-looks g c =
    let D = g.N.View.family c.args.n.now in
    sum_stable c.args.core.now c.args.sum.now D (g.N.View.family c.try_each.new.n) c.in-Some-false.field-0 c.requires.sum c.vars-vars.ensures.sets
    (not_refuted c.args.core.now c.args.sum.now D c.in-Some.kept c.as_slice.result.now c.as_slice.ensures c.in-Some.ensures (sym c.if-is_refuted_by.ensures)) c.in-Some-false.field-0-test c.in-Some-false.ensures.tries
