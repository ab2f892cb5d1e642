use Rattle.std.proofs.Common.{arith}
use Rattle.std.proofs.lemmas.Grind.{common_steps}
use Rattle.opl_grammar.specs.Search.{alternative}
use Rattle.opl_grammar_statement.proofs.statement.Statements.alternative.Goals as goal

-- src/statement.rt:322:1
pub returns-in_err-expect_sign : goal.returns-in_err-expect_sign
unfolding alternative
returns-in_err-expect_sign g c = grind (arith, common_steps)

-- src/statement.rt:322:1
pub returns : goal.returns
unfolding alternative
returns g c = grind (arith, common_steps)
