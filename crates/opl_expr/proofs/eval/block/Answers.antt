use Rattle.opl_expr.proofs.Cells.{block_is}
use Rattle.opl_expr.proofs.eval.block.Goals as goal

pub returns : goal.returns
returns c = λ k e. block_is c.args.cells.now c.args.count c.args.place k c.requires.place e
