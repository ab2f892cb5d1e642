use Rattle.std.proofs.Common.{arith}
use Rattle.std.proofs.lemmas.Grind.{common_steps}
use Rattle.opl_grammar.specs.Search.{while_statement}
use Rattle.opl_grammar_statement.proofs.statement.Statements.while_statement.Goals as goal

-- src/statement.rt:158:1
pub returns-in_err-expect_word : goal.returns-in_err-expect_word
unfolding while_statement
returns-in_err-expect_word g c = grind (arith, common_steps)

-- src/statement.rt:158:1
pub returns-in_err-condition : goal.returns-in_err-condition
unfolding while_statement
returns-in_err-condition g c = grind (arith, common_steps)

-- src/statement.rt:158:1
pub returns-in_err-boxed : goal.returns-in_err-boxed
unfolding while_statement
returns-in_err-boxed g c = grind (arith, common_steps)

-- src/statement.rt:158:1
pub returns : goal.returns
unfolding while_statement
returns g c = grind (arith, common_steps)
