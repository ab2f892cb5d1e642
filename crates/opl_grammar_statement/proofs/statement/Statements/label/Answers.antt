use Rattle.std.proofs.Common.{arith}
use Rattle.std.proofs.lemmas.Grind.{common_steps}
use Rattle.opl_grammar.specs.Search.{label}
use Rattle.opl_grammar_statement.proofs.statement.Statements.label.Goals as goal

-- src/statement.rt:188:1
pub returns-in_err-op : goal.returns-in_err-op
unfolding label
returns-in_err-op g c = grind (arith, common_steps)

-- src/statement.rt:188:1
pub returns-in_err-inner : goal.returns-in_err-inner
unfolding label
returns-in_err-inner g c = grind (arith, common_steps)

-- src/statement.rt:188:1
pub returns-in_err-boxed : goal.returns-in_err-boxed
unfolding label
returns-in_err-boxed g c = grind (arith, common_steps)

-- src/statement.rt:188:1
pub returns : goal.returns
unfolding label
returns g c = grind (arith, common_steps)
