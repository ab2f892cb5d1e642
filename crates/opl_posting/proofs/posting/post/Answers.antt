use Rattle.std.proofs.Common.{Err, Ok, refl, subst}
use Rattle.opl_eval.specs.Evaluation.{Environment}
use Rattle.opl_eval.specs.Visible.{seen}
use Rattle.opl_draft.specs.Instances.{instances}
use Rattle.opl_posting.specs.declared.plan.Plan.{Plan}
use Rattle.opl_posting.specs.declared.posted.Posted as kept
use Rattle.opl_posting.specs.Walks.{PostsBehind, behind}
use Rattle.opl_posting.proofs.Whole.{all-posted, all-refused, within-none}
use Rattle.opl_posting.proofs.posting.post.Goals as goal

pub returns-in-Ok : goal.returns-in-Ok
returns-in-Ok c =
    let plan : Plan = record { sets = c.args.sets; arrays = c.args.arrays; declared = c.args.declared } in
    let none : kept.Posted = record { constraints = c.new.result; nodes = c.args.before } in
    all-posted plan c.args.environment.now c.args.before none c.new.ensures refl (instances c.args.instruction.now (seen c.args.environment.now)) c.in-Ok.posted
    (subst (λ (e : Environment). PostsBehind (behind plan c.args.environment.now none (instances c.args.instruction.now e)) (Ok c.in-Ok.posted)) (within-none c.args.environment.now) c.in-Ok.ensures)

pub returns-in-Err : goal.returns-in-Err
returns-in-Err c =
    let plan : Plan = record { sets = c.args.sets; arrays = c.args.arrays; declared = c.args.declared } in
    let none : kept.Posted = record { constraints = c.new.result; nodes = c.args.before } in
    all-refused plan c.args.environment.now c.args.before none c.new.ensures refl (instances c.args.instruction.now (seen c.args.environment.now)) c.in-Err.fault
    (subst (λ (e : Environment). PostsBehind (behind plan c.args.environment.now none (instances c.args.instruction.now e)) (Err c.in-Err.fault)) (within-none c.args.environment.now) c.in-Err.ensures)
