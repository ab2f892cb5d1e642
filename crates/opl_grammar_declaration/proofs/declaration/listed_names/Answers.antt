use Rattle.std.proofs.Common.{arith}
use Rattle.std.proofs.lemmas.Grind.{common_steps}
use Rattle.opl_grammar.specs.Declarations.{listed_names}
use Rattle.opl_grammar_declaration.proofs.declaration.listed_names.Goals as goal

-- src/declaration.rt:126:1
pub returns-in_err-expect_sign : goal.returns-in_err-expect_sign
unfolding listed_names
returns-in_err-expect_sign g c = grind (arith, common_steps)

-- src/declaration.rt:126:1
pub returns-in_err-names : goal.returns-in_err-names
unfolding listed_names
returns-in_err-names g c = grind (arith, common_steps)

-- src/declaration.rt:126:1
pub returns-in_err-first : goal.returns-in_err-first
unfolding listed_names
returns-in_err-first g c = grind (arith, common_steps)

-- src/declaration.rt:126:1
pub returns : goal.returns
unfolding listed_names
returns g c = grind (arith, common_steps)
