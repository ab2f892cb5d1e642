use Rattle.std.proofs.Common.{arith}
use Rattle.std.proofs.lemmas.Grind.{common_steps}
use Rattle.opl_grammar.specs.Declarations.{external}
use Rattle.opl_grammar_declaration.proofs.declaration.external.Goals as goal

-- src/declaration.rt:60:1
pub returns-in_err-expect_sign : goal.returns-in_err-expect_sign
unfolding external
returns-in_err-expect_sign g c = grind (arith, common_steps)

-- src/declaration.rt:60:1
pub returns : goal.returns
unfolding external
returns g c = grind (arith, common_steps)
