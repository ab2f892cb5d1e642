use Rattle.std.proofs.Common.{arith}
use Rattle.std.proofs.lemmas.Grind.{common_steps}
use Rattle.opl_grammar.specs.Search.{alternatives}
use Rattle.opl_grammar_statement.proofs.statement.Statements.alternatives.Goals as goal

-- src/statement.rt:333:1
pub returns-in_err-first : goal.returns-in_err-first
unfolding alternatives
returns-in_err-first g c = grind (arith, common_steps)

-- src/statement.rt:333:1
pub returns-in_err-parts : goal.returns-in_err-parts
unfolding alternatives
returns-in_err-parts g c = grind (arith, common_steps)

-- src/statement.rt:333:1
pub returns-in_err-parts-2 : goal.returns-in_err-parts-2
unfolding alternatives
returns-in_err-parts-2 g c = grind (arith, common_steps)

-- src/statement.rt:333:1
pub returns-in_err-first-2 : goal.returns-in_err-first-2
unfolding alternatives
returns-in_err-first-2 g c = grind (arith, common_steps)

-- src/statement.rt:333:1
pub returns : goal.returns
unfolding alternatives
returns g c = grind (arith, common_steps)
