use Rattle.std.proofs.Common.{arith}
use Rattle.std.proofs.lemmas.Grind.{common_steps}
use Rattle.opl_grammar.specs.Search.{branch_statement}
use Rattle.opl_grammar_statement.proofs.statement.Statements.branch_statement.Goals as goal

-- src/statement.rt:129:1
pub returns-in_err-op : goal.returns-in_err-op
unfolding branch_statement
returns-in_err-op g c = grind (arith, common_steps)

-- src/statement.rt:129:1
pub returns-in_err-params : goal.returns-in_err-params
unfolding branch_statement
returns-in_err-params g c = grind (arith, common_steps)

-- src/statement.rt:129:1
pub returns-in_err-boxed : goal.returns-in_err-boxed
unfolding branch_statement
returns-in_err-boxed g c = grind (arith, common_steps)

-- src/statement.rt:129:1
pub returns : goal.returns
unfolding branch_statement
returns g c = grind (arith, common_steps)
