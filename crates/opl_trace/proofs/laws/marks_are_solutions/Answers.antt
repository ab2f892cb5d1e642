use Rattle.opl_trace.proofs.Marked.{marks_are_solutions}
use Rattle.opl_trace.proofs.laws.marks_are_solutions.Goals as goal

pub returns : goal.returns
returns c = marks_are_solutions
