use Rattle.std.proofs.Common.{arith}
use Rattle.std.proofs.lemmas.Grind.{common_steps}
use Rattle.opl_grammar.specs.Search.{posted}
use Rattle.opl_grammar_statement.proofs.statement.Statements.posted.Goals as goal

-- src/statement.rt:243:1
pub returns-in_err-t : goal.returns-in_err-t
unfolding posted
returns-in_err-t g c = grind (arith, common_steps)

-- src/statement.rt:243:1
pub returns : goal.returns
unfolding posted
returns g c = grind (arith, common_steps)
