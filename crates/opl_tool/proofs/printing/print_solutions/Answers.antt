use Rattle.std.proofs.Common.{false}
use Rattle.opl_trace.specs.Marks.{core_trace}
use Rattle.opl_tool.specs.Tasks.{showing_of}
use Rattle.opl_tool.proofs.PrintedLemmas.{search-prints}
use Rattle.opl_tool.proofs.printing.print_solutions.Goals as goal

pub returns-in-Ok-clause-prints : goal.returns-in-Ok-clause-prints
returns-in-Ok-clause-prints g c =
    c.ended_as.ensures.prints _ _ _ _ _ (search-prints _ _ _ _ _ _ _ _ _ _ _ _ _ _ _ c.showing_of.ensures c.as_ref.ensures c.in-Ok.ensures.1 c.in-Ok.ensures.2 c.as_slice.ensures c.as_slice-in-Ok.ensures c.solve.ensures.prints)

pub returns-in-Ok-clause-answers : goal.returns-in-Ok-clause-answers
returns-in-Ok-clause-answers g c =
    c.ended_as.ensures.answers (showing_of c.args.searching c.args.problem.now.core.value) (core_trace false c.args.problem.now.core.value c.args.searching.budget)
    (rw (c.showing_of.ensures, c.as_ref.ensures, c.in-Ok.ensures.2) at c.solve.ensures.shown)
