use Rattle.opl_tool.proofs.LineLemmas.{nothing-tells}
use Rattle.opl_tool.proofs.line.tell.Goals as goal

pub returns-in-Refused : goal.returns-in-Refused
returns-in-Refused g c = nothing-tells _ _ _ _

pub returns-in-ReadFault : goal.returns-in-ReadFault
returns-in-ReadFault g c = rw c.in-ReadFault.is (rw (c.answer_of-answer.ensures, c.in-ReadFault.is) at c.put_line-in-ReadFault.ensures)
