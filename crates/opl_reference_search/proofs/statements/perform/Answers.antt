use Rattle.std.proofs.Common.{◌∙◌, refl}
use Rattle.std.proofs.lemmas.Result.{IfOk-weaker}
use Rattle.opl_trace.specs.SoundCores.{facts_in}
use Rattle.opl_reference_search.specs.Tasks.{tasks_in}
use Rattle.opl_reference_search.proofs.Performed.{all_sound, for_sound, select_sound, if_sound, post_made, block_made, try_made, all_made, for_made, select_made, once_made, while_made, if_made, generate_made, rank_made}
use Rattle.opl_reference_search.proofs.statements.perform.Goals as goal

pub every_body-requires-clause-sound : goal.every_body-requires-clause-sound
every_body-requires-clause-sound g c = all_sound c.args.search.now.core.now c.args.step.now c.in-TryAll.elements _ c.in-TryAll.is c.as_slice-in-TryAll.ensures c.requires.sound

pub every_visit-requires-clause-sound : goal.every_visit-requires-clause-sound
every_visit-requires-clause-sound g c = for_sound c.args.search.now.core.now c.args.step.now c.in-ForAll.elements _ c.in-ForAll.is c.as_slice-in-ForAll.ensures c.requires.sound

pub one_body-requires-clause-sound : goal.one_body-requires-clause-sound
one_body-requires-clause-sound g c = select_sound c.args.search.now.core.now c.args.step.now c.in-Select.elements _ c.in-Select.is c.as_slice-in-Select.ensures c.requires.sound

pub decide-requires-clause-open : goal.decide-requires-clause-open
decide-requires-clause-open g c = if_sound c.args.search.now.core.now c.args.step.now c.in-If.c c.in-If.then c.in-If.or c.in-If.is c.requires.sound

pub returns-in-Post : goal.returns-in-Post
returns-in-Post g c =
    let core = c.args.search.now.core.now in
    IfOk-weaker c.post.result _ _ (λ n k. k ∙ post_made core c.args.sets.now (facts_in core c.args.posted.now) c.args.left (tasks_in core c.args.others.now) c.args.step.now c.in-Post.c _ c.in-Post.is refl) c.post.ensures

pub returns-in-Block : goal.returns-in-Block
returns-in-Block g c =
    let core = c.args.search.now.core.now in
    IfOk-weaker c.block.result _ _ (λ n k. k ∙ block_made core c.args.sets.now (facts_in core c.args.posted.now) c.args.left (tasks_in core c.args.others.now) c.args.step.now c.in-Block.steps c.as_slice.result.now _ c.in-Block.is c.as_slice.ensures refl) c.block.ensures

pub returns-in-Try : goal.returns-in-Try
returns-in-Try g c =
    let core = c.args.search.now.core.now in
    IfOk-weaker c.each_step.result _ _ (λ n k. k ∙ try_made core c.args.sets.now (facts_in core c.args.posted.now) c.args.left (tasks_in core c.args.others.now) c.args.step.now c.in-Try.steps c.as_slice-in-Try.result.now _ c.in-Try.is c.as_slice-in-Try.ensures refl) c.each_step.ensures

pub returns-in-TryAll : goal.returns-in-TryAll
returns-in-TryAll g c =
    let core = c.args.search.now.core.now in
    IfOk-weaker c.every_body.result _ _ (λ n k. k ∙ all_made core c.args.sets.now (facts_in core c.args.posted.now) c.args.left (tasks_in core c.args.others.now) c.args.step.now c.in-TryAll.elements c.as_slice-in-TryAll.result.now c.in-TryAll.is c.as_slice-in-TryAll.ensures) c.every_body.ensures

pub returns-in-ForAll : goal.returns-in-ForAll
returns-in-ForAll g c =
    let core = c.args.search.now.core.now in
    IfOk-weaker c.every_visit.result _ _ (λ n k. k ∙ for_made core c.args.sets.now (facts_in core c.args.posted.now) c.args.left (tasks_in core c.args.others.now) c.args.step.now c.in-ForAll.elements c.as_slice-in-ForAll.result.now c.in-ForAll.is c.as_slice-in-ForAll.ensures) c.every_visit.ensures

pub returns-in-Select : goal.returns-in-Select
returns-in-Select g c =
    let core = c.args.search.now.core.now in
    IfOk-weaker c.one_body.result _ _ (λ n k. k ∙ select_made core c.args.sets.now (facts_in core c.args.posted.now) c.args.left (tasks_in core c.args.others.now) c.args.step.now c.in-Select.elements c.as_slice-in-Select.result.now c.in-Select.is c.as_slice-in-Select.ensures) c.one_body.ensures

pub returns-in-Once : goal.returns-in-Once
returns-in-Once g c =
    let core = c.args.search.now.core.now in
    IfOk-weaker c.once.result _ _ (λ n k. k ∙ once_made core c.args.sets.now (facts_in core c.args.posted.now) c.args.left (tasks_in core c.args.others.now) c.args.step.now c.in-Once.body c.get.result.now _ c.in-Once.is c.get.ensures refl) c.once.ensures

pub returns-in-While : goal.returns-in-While
returns-in-While g c =
    let core = c.args.search.now.core.now in
    IfOk-weaker c.go_with_task.result _ _ (λ n k. k ∙ while_made core c.args.sets.now (facts_in core c.args.posted.now) c.args.left (tasks_in core c.args.others.now) c.args.step.now c.in-While.c c.in-While.body c.get-in-While.result.now _ c.in-While.is c.get-in-While.ensures refl) c.go_with_task.ensures

pub returns-in-If : goal.returns-in-If
returns-in-If g c =
    let core = c.args.search.now.core.now in
    IfOk-weaker c.decide.result _ _ (λ n k. k ∙ if_made core c.args.sets.now (facts_in core c.args.posted.now) c.args.left (tasks_in core c.args.others.now) c.args.step.now c.in-If.c c.in-If.then c.in-If.or c.get-in-If.result.now c.get-in-If-2.result.now _ _ c.in-If.is c.get-in-If.ensures c.get-in-If-2.ensures refl refl) c.decide.ensures

pub returns-in-Generate : goal.returns-in-Generate
returns-in-Generate g c =
    let core = c.args.search.now.core.now in
    IfOk-weaker c.go_with_task-in-Generate.result _ _ (λ n k. k ∙ generate_made core c.args.sets.now (facts_in core c.args.posted.now) c.args.left (tasks_in core c.args.others.now) c.args.step.now c.in-Generate.variables c.as_slice-in-Generate.result.now _ c.in-Generate.is c.as_slice-in-Generate.ensures refl) c.go_with_task-in-Generate.ensures

pub returns-in-Rank : goal.returns-in-Rank
returns-in-Rank g c =
    let core = c.args.search.now.core.now in
    IfOk-weaker c.go_with_task-in-Rank.result _ _ (λ n k. k ∙ rank_made core c.args.sets.now (facts_in core c.args.posted.now) c.args.left (tasks_in core c.args.others.now) c.args.step.now c.in-Rank.pairs c.as_slice-in-Rank.result.now _ c.in-Rank.is c.as_slice-in-Rank.ensures refl) c.go_with_task-in-Rank.ensures
