use Rattle.std.proofs.Common.{arith}
use Rattle.opl_tree.proofs.Marks.{instr_marks}
use Rattle.opl_walk.proofs.Telling.{telling}
use Rattle.opl_walk.proofs.instruction.walk_instr.Goals as goal

pub returns-in-Solve : goal.returns-in-Solve
returns-in-Solve g c = grind (arith, instr_marks, telling)

pub returns-in-Optimize : goal.returns-in-Optimize
returns-in-Optimize g c = grind (arith, instr_marks, telling)
