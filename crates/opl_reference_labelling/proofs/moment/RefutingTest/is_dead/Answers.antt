use Rattle.std.proofs.Common.{sym}
use Rattle.opl_expr.specs.Forms.{fact}
use Rattle.opl_expr.specs.Range.{is_refuted}
use Rattle.opl_expr.specs.Sound.{IsSoundFact}
use Rattle.opl_reference_labelling.proofs.MomentSets.{all_at, any_at}
use Rattle.opl_reference_labelling.proofs.moment.RefutingTest.is_dead.Goals as goal

pub refuted-requires-clause-sound : goal.refuted-requires-clause-sound
refuted-requires-clause-sound g c =
    let core = c.args.self.now.core.now in
    all_at (IsSoundFact core.sets) (fact core.tables core.resources) _ _ _ c.loop-c-test.true c.c-item.is c.requires.0

pub returns-then-refuted : goal.returns-then-refuted
returns-then-refuted g c =
    let core = c.args.self.now.core.now in
    sym (any_at (is_refuted (g.V.View.family c.args.view.now)) (fact core.tables core.resources) _ _ _ c.loop-c-test.true c.c-item.is (sym c.if-refuted.ensures))
