use Rattle.std.proofs.Common.{arith}
use Rattle.std.proofs.lemmas.Grind.{common_steps}
use Rattle.opl_grammar.specs.Search.{try_statement}
use Rattle.opl_grammar_statement.proofs.statement.Statements.try_statement.Goals as goal

-- src/statement.rt:114:1
pub returns-in_err-expect_word : goal.returns-in_err-expect_word
unfolding try_statement
returns-in_err-expect_word g c = grind (arith, common_steps)

-- src/statement.rt:114:1
pub returns-in_err-first : goal.returns-in_err-first
unfolding try_statement
returns-in_err-first g c = grind (arith, common_steps)

-- src/statement.rt:114:1
pub returns-in_err-boxed : goal.returns-in_err-boxed
unfolding try_statement
returns-in_err-boxed g c = grind (arith, common_steps)

-- src/statement.rt:114:1
pub returns : goal.returns
unfolding try_statement
returns g c = grind (arith, common_steps)
