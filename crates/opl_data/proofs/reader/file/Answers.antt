use Rattle.std.proofs.Common.{arith}
use Rattle.opl_data.specs.Grammar.{file}
use Rattle.std.proofs.lemmas.Grind.{common_steps}
use Rattle.opl_data.proofs.reader.file.Goals as goal

-- src/reader.rt:54:17
pub returns-in_err-items : goal.returns-in_err-items
unfolding file
returns-in_err-items c = grind (arith, common_steps)

-- src/reader.rt:49:1
pub returns : goal.returns
unfolding file
returns c = grind (arith, common_steps)
