use Rattle.std.proofs.Common.{None, ap, sym, ◌∙◌, subst}
use Rattle.std.proofs.lemmas.Result.{IfOk-weaker}
use Rattle.opl_trace.specs.SoundCores.{facts_in, AreSound}
use Rattle.opl_trace.proofs.CoreSolutions.{base_sound}
use Rattle.opl_reference_search.specs.declared.task.End.TheVariants.{Whole}
use Rattle.opl_reference_search.specs.Tasks.{doing, tasks_in}
use Rattle.opl_reference_search.proofs.search.made_of.Goals as goal

pub run-requires-clause-posted : goal.run-requires-clause-posted
run-requires-clause-posted g c =
    let core = c.args.search.now.core.now in
    subst (λ P. AreSound core P) (sym (ap (facts_in core) c.as_slice.ensures ∙ c.in_ok-base.ensures)) (base_sound core c.requires.core)

pub returns : goal.returns
returns g c =
    let core = c.args.search.now.core.now in
    let posted = ap (facts_in core) c.as_slice.ensures ∙ c.in_ok-base.ensures in
    IfOk-weaker c.run.result _ _ (λ o r. r.made.same ∙ ap (λ P. doing core Whole (tasks_in core c.args.tasks.now) P None c.args.budget) posted) c.run.ensures
