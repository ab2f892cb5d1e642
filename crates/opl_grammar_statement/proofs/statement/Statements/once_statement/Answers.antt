use Rattle.std.proofs.Common.{arith}
use Rattle.std.proofs.lemmas.Grind.{common_steps}
use Rattle.opl_grammar.specs.Search.{once_statement}
use Rattle.opl_grammar_statement.proofs.statement.Statements.once_statement.Goals as goal

-- src/statement.rt:144:1
pub returns-in_err-expect_word : goal.returns-in_err-expect_word
unfolding once_statement
returns-in_err-expect_word g c = grind (arith, common_steps)

-- src/statement.rt:144:1
pub returns-in_err-body : goal.returns-in_err-body
unfolding once_statement
returns-in_err-body g c = grind (arith, common_steps)

-- src/statement.rt:144:1
pub returns-in_err-boxed : goal.returns-in_err-boxed
unfolding once_statement
returns-in_err-boxed g c = grind (arith, common_steps)

-- src/statement.rt:144:1
pub returns : goal.returns
unfolding once_statement
returns g c = grind (arith, common_steps)
