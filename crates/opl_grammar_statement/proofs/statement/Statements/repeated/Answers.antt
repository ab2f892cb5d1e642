use Rattle.std.proofs.Common.{arith}
use Rattle.std.proofs.lemmas.Grind.{common_steps}
use Rattle.opl_grammar.specs.Search.{repeated}
use Rattle.opl_grammar_statement.proofs.statement.Statements.repeated.Goals as goal

-- src/statement.rt:381:1
pub returns-in_err-condition : goal.returns-in_err-condition
unfolding repeated
returns-in_err-condition g c = grind (arith, common_steps)

-- src/statement.rt:381:1
pub returns-in_err-condition-2 : goal.returns-in_err-condition-2
unfolding repeated
returns-in_err-condition-2 g c = grind (arith, common_steps)

-- src/statement.rt:381:1
pub returns : goal.returns
unfolding repeated
returns g c = grind (arith, common_steps)
