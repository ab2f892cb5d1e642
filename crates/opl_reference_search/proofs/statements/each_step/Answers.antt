use Rattle.std.proofs.Common.{◌∷◌, ap, arith}
use Rattle.opl_trace.specs.SoundCores.{facts_in}
use Rattle.opl_steps.specs.Tasks.Task.{act}
use Rattle.opl_steps.specs.Steps.{on}
use Rattle.opl_steps.specs.Steps.Next.{choose}
use Rattle.opl_choices.specs.Branches.{statement_in}
use Rattle.opl_reference_search.specs.Tasks.{tasks_in}
use Rattle.opl_reference_search.specs.Steps.{way_of, ways_in}
use Rattle.opl_reference_search.proofs.Mapped.{mapped_more, mapped_all}
use Rattle.opl_reference_search.proofs.statements.each_step.Goals as goal

pub loop-step-init : goal.loop-step-init
loop-step-init c = ap (ways_in c.args.core.now) c.new-ways.ensures

pub loop-step-preserved : goal.loop-step-preserved
loop-step-preserved c =
    let core = c.args.core.now in
    mapped_more (way_of core) (λ s. on (facts_in core c.args.posted.now) (act (statement_in core s) ∷ tasks_in core c.args.others.now)) c.loop-step.ways c.push.new.self c.args.steps.now c.loop-step.step-index c.in_ok-with_task.field-0 c.step-item.result _
    c.in_ok-push.ensures.ok c.loop-step.invariant c.loop-step-test.true c.step-item.is c.in_ok-with_task.ensures

pub returns : goal.returns
returns c =
    let core = c.args.core.now in
    ap choose (mapped_all (way_of core) (λ s. on (facts_in core c.args.posted.now) (act (statement_in core s) ∷ tasks_in core c.args.others.now)) c.loop-step.ways c.args.steps.now c.loop-step.step-index c.loop-step.invariant (omega (arith, c.loop-step-test.false)))
