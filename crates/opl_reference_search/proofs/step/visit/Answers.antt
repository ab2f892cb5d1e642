use Rattle.std.proofs.Common.{◌<◌, ◌∷◌, length, map, ap, ◌∙◌, arith}
use Rattle.std.proofs.lemmas.Result.{IfOk-weaker}
use Rattle.opl_trace.specs.SoundCores.{facts_in}
use Rattle.opl_steps.specs.Tasks.Task.{act, elements}
use Rattle.opl_steps.specs.Steps.{on}
use Rattle.opl_choices.specs.Branches.{element, statement_in}
use Rattle.opl_reference_search.specs.Tasks.{tasks_in}
use Rattle.opl_reference_search.proofs.Performed.{visit_made}
use Rattle.opl_reference_search.proofs.step.visit.Goals as goal

pub returns : goal.returns
returns g c =
    let core = c.args.search.now.core.now in
    let P = facts_in core c.args.posted.now in
    let some : 0 < length c.args.elements.now = grind (arith, c.if-is_empty.false, c.if-is_empty.ensures) in
    let first = c.index-elements-at.result in
    IfOk-weaker c.visit_one.result _ _ (λ n k. k ∙ visit_made c.args.sets.now (λ e. element core e.now) P c.args.elements.now (tasks_in core c.args.others.now) c.in_ok-at.at first first _
    c.in_ok-at.ensures.place (c.in_ok-at.ensures.there some) c.index-elements-at.is
    (ap (λ es. on P (act (statement_in core first.now.body) ∷ elements (map (λ e. element core e.now) es) ∷ tasks_in core c.args.others.now)) c.in_ok-left.ensures)) c.visit_one.ensures
