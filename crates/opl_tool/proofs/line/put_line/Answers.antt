use Rattle.opl_tool.proofs.LineLemmas.{failed-tells}
use Rattle.opl_tool.proofs.line.put_line.Goals as goal

pub returns-in-Err-Failed : goal.returns-in-Err-Failed
returns-in-Err-Failed g c = failed-tells _ _ _ _ _ _ _ c.in-Err-Failed.field-0-is c.in-Err-Failed.ensures.written c.in-Err-Failed.ensures.cause
