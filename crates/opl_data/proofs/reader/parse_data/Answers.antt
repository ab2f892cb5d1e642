use Rattle.std.proofs.Common.{arith}
use Rattle.opl_data.proofs.TreeLaws.{read_answers}
use Rattle.opl_data.proofs.reader.parse_data.Goals as goal

-- src/reader.rt:80:1
pub returns : goal.returns
returns c = grind (arith, read_answers)
