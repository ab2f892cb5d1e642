use Rattle.std.proofs.Common.{arith}
use Rattle.opl_given.proofs.CellLaws.{cells_fill}
use Rattle.opl_given.proofs.laws.cells_fill_the_space.Goals as goal

-- src/laws.rt:5:1
pub returns : goal.returns
returns c = grind (arith, cells_fill)
