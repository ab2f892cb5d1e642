use Rattle.std.proofs.Common.{arith}
use Rattle.std.proofs.lemmas.Grind.{common_steps}
use Rattle.opl_grammar.specs.Search.{choice}
use Rattle.opl_grammar_statement.proofs.statement.Statements.choice.Goals as goal

-- src/statement.rt:423:1
pub returns-in_err-condition : goal.returns-in_err-condition
unfolding choice
returns-in_err-condition g c = grind (arith, common_steps)

-- src/statement.rt:423:1
pub returns-in_err-condition-2 : goal.returns-in_err-condition-2
unfolding choice
returns-in_err-condition-2 g c = grind (arith, common_steps)

-- src/statement.rt:423:1
pub returns-in_err-parts : goal.returns-in_err-parts
unfolding choice
returns-in_err-parts g c = grind (arith, common_steps)

-- src/statement.rt:423:1
pub returns-in_err-parts-2 : goal.returns-in_err-parts-2
unfolding choice
returns-in_err-parts-2 g c = grind (arith, common_steps)

-- src/statement.rt:423:1
pub returns-in_err-condition-3 : goal.returns-in_err-condition-3
unfolding choice
returns-in_err-condition-3 g c = grind (arith, common_steps)

-- src/statement.rt:423:1
pub returns : goal.returns
unfolding choice
returns g c = grind (arith, common_steps)
