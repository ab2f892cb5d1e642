use Rattle.std.proofs.Common.{arith}
use Rattle.std.proofs.lemmas.Grind.{common_steps}
use Rattle.opl_grammar.specs.Search.{branch}
use Rattle.opl_grammar_statement.proofs.statement.Statements.branch.Goals as goal

-- src/statement.rt:367:1
pub returns-in_err-params : goal.returns-in_err-params
unfolding branch
returns-in_err-params g c = grind (arith, common_steps)

-- src/statement.rt:367:1
pub returns : goal.returns
unfolding branch
returns g c = grind (arith, common_steps)
