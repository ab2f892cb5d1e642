use Rattle.std.proofs.Common.{arith}
use Rattle.opl_expression_types.proofs.ArrayCells.{posts}
use Rattle.opl_expression_types.proofs.plain.cells_of_post.Goals as goal

pub returns : goal.returns
returns c = grind (arith, posts)
