use Rattle.std.proofs.Common.{arith}
use Rattle.std.proofs.lemmas.Grind.{common_steps}
use Rattle.opl_grammar.specs.Search.{several_statements}
use Rattle.opl_grammar_statement.proofs.statement.Statements.several_statements.Goals as goal

-- src/statement.rt:294:1
pub returns-in_err-first : goal.returns-in_err-first
unfolding several_statements
returns-in_err-first g c = grind (arith, common_steps)

-- src/statement.rt:294:1
pub returns-in_err-first-2 : goal.returns-in_err-first-2
unfolding several_statements
returns-in_err-first-2 g c = grind (arith, common_steps)

-- src/statement.rt:294:1
pub returns : goal.returns
unfolding several_statements
returns g c = grind (arith, common_steps)
