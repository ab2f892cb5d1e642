use Rattle.std.proofs.Common.{false}
use Rattle.opl_trace.specs.Marks.{core_trace}
use Rattle.opl_words.specs.Requests.{default_budget}
use Rattle.opl_tool.specs.Tasks.{all_each, made_text}
use Rattle.opl_tool.proofs.PrintedLemmas.{made-prints, nothing-prints}
use Rattle.opl_tool.proofs.printing.print_summary.Goals as goal

pub returns-in-Ok-clause-prints : goal.returns-in-Ok-clause-prints
returns-in-Ok-clause-prints g c =
    c.ended_as.ensures.prints (made_text c.args.generated c.args.problem.now.core.value) _ _ _ _
    (made-prints _ _ _ _ _ _ _ _ _ _ _ c.as_slice.ensures.value c.in-Ok.ensures.0 c.in-Ok.ensures.2 c.in-Ok.ensures.3 c.summarize.ensures.prints)

pub returns-in-Ok-clause-answers : goal.returns-in-Ok-clause-answers
returns-in-Ok-clause-answers g c =
    c.ended_as.ensures.answers all_each (core_trace false c.args.problem.now.core.value default_budget)
    (rw c.in-Ok.ensures.3 at c.summarize.ensures.shown)

pub returns-in-Err-clause-prints : goal.returns-in-Err-clause-prints
returns-in-Err-clause-prints g c = nothing-prints _ _ _
