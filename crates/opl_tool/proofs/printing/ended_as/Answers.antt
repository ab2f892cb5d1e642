use Rattle.opl_tool.proofs.PrintedLemmas.{whole-prints}
use Rattle.opl_tool.proofs.printing.ended_as.Goals as goal

pub returns-in-Ok-clause-prints : goal.returns-in-Ok-clause-prints
returns-in-Ok-clause-prints c text old new before now printed = whole-prints text old new before now c.in-Ok.shown c.ended.result c.ended.ensures.through (rw c.in-Ok.is at printed)
