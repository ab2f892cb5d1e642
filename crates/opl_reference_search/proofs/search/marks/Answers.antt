use Rattle.std.proofs.Common.{None, ap, sym, ◌∙◌, subst}
use Rattle.std.proofs.lemmas.Result.{IfOk-weaker}
use Rattle.opl_trace.specs.Marks.{numbers_from, section}
use Rattle.opl_trace.specs.Run.{marks_of}
use Rattle.opl_expr.specs.Solutions.{base}
use Rattle.opl_reference_search.specs.declared.task.End.TheVariants.{Whole}
use Rattle.opl_reference_search.specs.Sound.{AreSoundTasks}
use Rattle.opl_reference_search.specs.Tasks.{doing, tasks_in}
use Rattle.opl_reference_search.specs.Whole.{whole}
use Rattle.opl_reference_search.proofs.WholeSearches.{whole_is, whole_sound}
use Rattle.opl_reference_search.proofs.search.marks.Goals as goal

pub made_of-requires-clause-tasks : goal.made_of-requires-clause-tasks
made_of-requires-clause-tasks g c =
    let core = c.args.core.now in
    let variables = c.as_slice.ensures ∙ c.in_ok-variables.ensures ∙ ap (numbers_from 0) c.len.ensures in
    let tasks = ap (tasks_in core) c.as_slice-2.ensures ∙ c.in_ok-tasks.ensures ∙ ap (whole (section c.args.default core)) variables in
    subst (λ ts. AreSoundTasks core.sets ts) (sym tasks) (whole_sound core c.args.default c.requires)

pub returns : goal.returns
returns g c =
    let core = c.args.core.now in
    let variables = c.as_slice.ensures ∙ c.in_ok-variables.ensures ∙ ap (numbers_from 0) c.len.ensures in
    let tasks = ap (tasks_in core) c.as_slice-2.ensures ∙ c.in_ok-tasks.ensures ∙ ap (whole (section c.args.default core)) variables in
    IfOk-weaker c.into_marks.result _ _
    (λ ms k. k ∙ ap marks_of (c.in_ok-outcome.ensures ∙ ap (λ ts. doing core Whole ts (base core) None c.args.budget) tasks ∙ whole_is core (section c.args.default core) c.args.budget)) c.into_marks.ensures
