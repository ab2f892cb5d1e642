use Rattle.std.proofs.Common.{arith}
use Rattle.std.proofs.lemmas.Grind.{common_steps}
use Rattle.opl_grammar.specs.Search.{statements}
use Rattle.opl_grammar_statement.proofs.statement.Statements.statements.Goals as goal

-- src/statement.rt:308:1
pub returns-then-starts_statement : goal.returns-then-starts_statement
unfolding statements
returns-then-starts_statement g c = grind (arith, common_steps)

-- src/statement.rt:308:1
pub returns-else-starts_statement : goal.returns-else-starts_statement
unfolding statements
returns-else-starts_statement g c = grind (arith, common_steps)
