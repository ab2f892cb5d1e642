use Rattle.std.proofs.Common.{ap, sym, ◌∙◌}
use Rattle.opl_expr.specs.Options.{lift1}
use Rattle.opl_trace.specs.SoundCores.{facts_in}
use Rattle.opl_reference_search.proofs.Leaves.{leaf_at, no_leaf_at}
use Rattle.opl_reference_search.proofs.leaf.first_leaf.Goals as goal

pub returns-in-Some : goal.returns-in-Some
returns-in-Some c =
    let core = c.args.core.now in
    (c.loop-at-test.true, leaf_at core c.args.marks.now c.loop-at.at c.index-marks-at.result c.index-marks-at.result _ c.loop-at-test.true c.index-marks-at.is c.loop-at.invariant (sym c.leaf_of.ensures ∙ ap (lift1 (λ cs. facts_in core cs.now)) c.in-Some.is))

pub loop-at-preserved : goal.loop-at-preserved
loop-at-preserved c =
    let core = c.args.core.now in
    no_leaf_at core c.args.marks.now c.loop-at.at c.index-marks-at.result c.index-marks-at.result c.loop-at-test.true c.index-marks-at.is c.loop-at.invariant (sym c.leaf_of.ensures ∙ ap (lift1 (λ cs. facts_in core cs.now)) c.in-None.is)
