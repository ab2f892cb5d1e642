use Rattle.std.proofs.Common.{arith}
use Rattle.opl_data.specs.Grammar.{item}
use Rattle.std.proofs.lemmas.Grind.{common_steps}
use Rattle.opl_data.proofs.reader.ItemRulePartDataItem.read.Goals as goal

-- src/reader.rt:40:20
pub returns-in_err-name : goal.returns-in_err-name
unfolding item
returns-in_err-name c = grind (arith, common_steps)

-- src/reader.rt:41:9
pub returns-in_err-expect_sign : goal.returns-in_err-expect_sign
unfolding item
returns-in_err-expect_sign c = grind (arith, common_steps)

-- src/reader.rt:42:21
pub returns-in_err-value : goal.returns-in_err-value
unfolding item
returns-in_err-value c = grind (arith, common_steps)

-- src/reader.rt:43:27
pub returns-in_err-value-2 : goal.returns-in_err-value-2
unfolding item
returns-in_err-value-2 c = grind (arith, common_steps)

-- src/reader.rt:37:5
pub returns : goal.returns
unfolding item
returns c = grind (arith, common_steps)
