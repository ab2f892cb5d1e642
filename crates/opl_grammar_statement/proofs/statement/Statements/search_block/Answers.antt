use Rattle.std.proofs.Common.{arith}
use Rattle.std.proofs.lemmas.Grind.{common_steps}
use Rattle.opl_grammar.specs.Search.{search_block}
use Rattle.opl_grammar_statement.proofs.statement.Statements.search_block.Goals as goal

-- src/statement.rt:89:1
pub returns-in_err-expect_sign : goal.returns-in_err-expect_sign
unfolding search_block
returns-in_err-expect_sign g c = grind (arith, common_steps)

-- src/statement.rt:89:1
pub returns-in_err-statements : goal.returns-in_err-statements
unfolding search_block
returns-in_err-statements g c = grind (arith, common_steps)

-- src/statement.rt:89:1
pub returns-in_err-statements-2 : goal.returns-in_err-statements-2
unfolding search_block
returns-in_err-statements-2 g c = grind (arith, common_steps)

-- src/statement.rt:89:1
pub returns : goal.returns
unfolding search_block
returns g c = grind (arith, common_steps)
