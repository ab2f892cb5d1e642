use Rattle.std.proofs.Common.{arith}
use Rattle.opl_data.specs.Grammar.{whole_within}
use Rattle.std.proofs.lemmas.Grind.{common_steps}
use Rattle.opl_data.proofs.reader.whole.Goals as goal

-- src/reader.rt:63:16
pub returns-in_err-tree : goal.returns-in_err-tree
unfolding whole_within
returns-in_err-tree c = grind (arith, common_steps)

-- src/reader.rt:64:5
pub returns-in_err-finish : goal.returns-in_err-finish
unfolding whole_within
returns-in_err-finish c = grind (arith, common_steps)

-- src/reader.rt:59:1
pub returns : goal.returns
unfolding whole_within
returns c = grind (arith, common_steps)
