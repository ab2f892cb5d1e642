use Rattle.opl_tool.proofs.PrintedLemmas.{failed-prints}
use Rattle.opl_tool.proofs.printing.print_text.Goals as goal

pub returns-in-Err-Failed-clause-prints : goal.returns-in-Err-Failed-clause-prints
returns-in-Err-Failed-clause-prints g c = failed-prints _ _ _ _ _ _ c.in-Err-Failed.field-0-is c.in-Err-Failed.ensures.written c.in-Err-Failed.ensures.cause
