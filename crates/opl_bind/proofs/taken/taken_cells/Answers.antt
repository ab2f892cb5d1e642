use Rattle.std.proofs.Common.{arith}
use Rattle.opl_bind.proofs.TakenArrays.{written_whole}
use Rattle.opl_bind.proofs.taken.taken_cells.Goals as goal

pub returns : goal.returns
returns c = grind (arith, written_whole)
