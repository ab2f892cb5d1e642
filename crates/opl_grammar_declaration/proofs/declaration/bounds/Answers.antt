use Rattle.std.proofs.Common.{arith}
use Rattle.std.proofs.lemmas.Grind.{common_steps}
use Rattle.opl_grammar.specs.Declarations.{bounds}
use Rattle.opl_grammar_declaration.proofs.declaration.bounds.Goals as goal

-- src/declaration.rt:241:1
pub returns-in_err-expect_word : goal.returns-in_err-expect_word
unfolding bounds
returns-in_err-expect_word g c = grind (arith, common_steps)

-- src/declaration.rt:241:1
pub returns-in_err-low : goal.returns-in_err-low
unfolding bounds
returns-in_err-low g c = grind (arith, common_steps)

-- src/declaration.rt:241:1
pub returns-in_err-low-2 : goal.returns-in_err-low-2
unfolding bounds
returns-in_err-low-2 g c = grind (arith, common_steps)

-- src/declaration.rt:241:1
pub returns : goal.returns
unfolding bounds
returns g c = grind (arith, common_steps)
