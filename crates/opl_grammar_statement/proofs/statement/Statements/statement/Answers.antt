use Rattle.std.proofs.Common.{arith}
use Rattle.std.proofs.lemmas.Grind.{common_steps}
use Rattle.opl_grammar.specs.Search.{statement}
use Rattle.opl_grammar_statement.proofs.statement.Statements.statement.Goals as goal

-- src/statement.rt:276:1
pub returns-then-sees_sign : goal.returns-then-sees_sign
unfolding statement
returns-then-sees_sign g c = grind (arith, common_steps)

-- src/statement.rt:276:1
pub returns-then-sees_word : goal.returns-then-sees_word
unfolding statement
returns-then-sees_word g c = grind (arith, common_steps)

-- src/statement.rt:276:1
pub returns-then-is_some : goal.returns-then-is_some
unfolding statement
returns-then-is_some g c = grind (arith, common_steps)

-- src/statement.rt:276:1
pub returns-else-is_some : goal.returns-else-is_some
unfolding statement
returns-else-is_some g c = grind (arith, common_steps)
