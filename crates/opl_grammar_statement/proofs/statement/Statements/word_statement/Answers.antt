use Rattle.std.proofs.Common.{arith}
use Rattle.std.proofs.lemmas.Grind.{common_steps}
use Rattle.opl_grammar.specs.Search.{word_statement}
use Rattle.opl_grammar_statement.proofs.statement.Statements.word_statement.Goals as goal

-- src/statement.rt:256:1
pub returns-then-sees_word : goal.returns-then-sees_word
unfolding word_statement
returns-then-sees_word g c = grind (arith, common_steps)

-- src/statement.rt:256:1
pub returns-then-sees_word-2 : goal.returns-then-sees_word-2
unfolding word_statement
returns-then-sees_word-2 g c = grind (arith, common_steps)

-- src/statement.rt:256:1
pub returns-then-sees_word-3 : goal.returns-then-sees_word-3
unfolding word_statement
returns-then-sees_word-3 g c = grind (arith, common_steps)

-- src/statement.rt:256:1
pub returns-then-is_some : goal.returns-then-is_some
unfolding word_statement
returns-then-is_some g c = grind (arith, common_steps)

-- src/statement.rt:256:1
pub returns-else-is_some : goal.returns-else-is_some
unfolding word_statement
returns-else-is_some g c = grind (arith, common_steps)
