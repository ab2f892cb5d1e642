use Rattle.std.proofs.Common.{arith}
use Rattle.std.proofs.lemmas.Grind.{common_steps}
use Rattle.opl_grammar.specs.Declarations.{external_names}
use Rattle.opl_grammar_declaration.proofs.declaration.external_names.Goals as goal

-- src/declaration.rt:142:1
pub returns-in_err-expect_sign : goal.returns-in_err-expect_sign
unfolding external_names
returns-in_err-expect_sign g c = grind (arith, common_steps)

-- src/declaration.rt:142:1
pub returns : goal.returns
unfolding external_names
returns g c = grind (arith, common_steps)
