use Rattle.std.proofs.Common.{arith}
use Rattle.std.proofs.lemmas.Grind.{common_steps}
use Rattle.opl_grammar.specs.Search.{ordered_chosen}
use Rattle.opl_grammar_statement.proofs.statement.Statements.ordered_chosen.Goals as goal

-- src/statement.rt:350:1
pub returns-in_err-expect_sign : goal.returns-in_err-expect_sign
unfolding ordered_chosen
returns-in_err-expect_sign g c = grind (arith, common_steps)

-- src/statement.rt:350:1
pub returns-in_err-params : goal.returns-in_err-params
unfolding ordered_chosen
returns-in_err-params g c = grind (arith, common_steps)

-- src/statement.rt:350:1
pub returns-in_err-params-2 : goal.returns-in_err-params-2
unfolding ordered_chosen
returns-in_err-params-2 g c = grind (arith, common_steps)

-- src/statement.rt:350:1
pub returns : goal.returns
unfolding ordered_chosen
returns g c = grind (arith, common_steps)
