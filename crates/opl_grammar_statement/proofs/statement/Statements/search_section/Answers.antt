use Rattle.std.proofs.Common.{arith}
use Rattle.std.proofs.lemmas.Grind.{common_steps}
use Rattle.opl_grammar.specs.Search.{search_section}
use Rattle.opl_grammar_statement.proofs.statement.Statements.search_section.Goals as goal

-- src/statement.rt:441:1
pub returns-in_err-expect_word : goal.returns-in_err-expect_word
unfolding search_section
returns-in_err-expect_word g c = grind (arith, common_steps)

-- src/statement.rt:441:1
pub returns-in_err-block : goal.returns-in_err-block
unfolding search_section
returns-in_err-block g c = grind (arith, common_steps)

-- src/statement.rt:441:1
pub returns-in_err-block-2 : goal.returns-in_err-block-2
unfolding search_section
returns-in_err-block-2 g c = grind (arith, common_steps)

-- src/statement.rt:441:1
pub returns : goal.returns
unfolding search_section
returns g c = grind (arith, common_steps)
