use Rattle.std.proofs.Common.{◌∷◌, map, ap, sym, ◌∙◌}
use Rattle.std.proofs.lemmas.Result.{IfOk-weaker}
use Rattle.opl_trace.specs.SoundCores.{facts_in}
use Rattle.opl_steps.specs.Steps.{visited, next_step}
use Rattle.opl_choices.specs.Branches.{element}
use Rattle.opl_reference_search.specs.Tasks.{tasks_in}
use Rattle.opl_reference_search.proofs.step.next_step.Goals as goal

pub returns-in-Perform : goal.returns-in-Perform
returns-in-Perform g c =
    let core = c.args.search.now.core.now in
    let P = facts_in core c.args.posted.now in
    IfOk-weaker c.perform.result _ _ (λ n k. k ∙ sym (ap (λ ts. next_step c.args.sets.now P c.args.left (tasks_in core ts)) (c.in-Some.ensures.cases.0 ∙ ap (λ t. t ∷ c.in-Some.others.now) c.in-Perform.is))) c.perform.ensures

pub returns-in-Label : goal.returns-in-Label
returns-in-Label g c =
    let core = c.args.search.now.core.now in
    let P = facts_in core c.args.posted.now in
    IfOk-weaker c.label.result _ _ (λ n k. k ∙ sym (ap (λ ts. next_step c.args.sets.now P c.args.left (tasks_in core ts)) (c.in-Some.ensures.cases.0 ∙ ap (λ t. t ∷ c.in-Some.others.now) c.in-Label.is))) c.label.ensures

pub returns-in-Rank : goal.returns-in-Rank
returns-in-Rank g c =
    let core = c.args.search.now.core.now in
    let P = facts_in core c.args.posted.now in
    IfOk-weaker c.rank.result _ _ (λ n k. k ∙ sym (ap (λ ts. next_step c.args.sets.now P c.args.left (tasks_in core ts)) (c.in-Some.ensures.cases.0 ∙ ap (λ t. t ∷ c.in-Some.others.now) c.in-Rank.is))) c.rank.ensures

pub returns-in-Visit : goal.returns-in-Visit
returns-in-Visit g c =
    let core = c.args.search.now.core.now in
    let P = facts_in core c.args.posted.now in
    IfOk-weaker c.visit.result _ _ (λ n k. k ∙ ap (λ es. visited c.args.sets.now P (map (λ e. element core e.now) es) (tasks_in core c.in-Some.others.now)) c.as_slice.ensures
    ∙ sym (ap (λ ts. next_step c.args.sets.now P c.args.left (tasks_in core ts)) (c.in-Some.ensures.cases.0 ∙ ap (λ t. t ∷ c.in-Some.others.now) c.in-Visit.is))) c.visit.ensures

pub returns-in-Loop : goal.returns-in-Loop
returns-in-Loop g c =
    let core = c.args.search.now.core.now in
    let P = facts_in core c.args.posted.now in
    IfOk-weaker c.again.result _ _ (λ n k. k ∙ sym (ap (λ ts. next_step c.args.sets.now P c.args.left (tasks_in core ts)) (c.in-Some.ensures.cases.0 ∙ ap (λ t. t ∷ c.in-Some.others.now) c.in-Loop.is))) c.again.ensures
