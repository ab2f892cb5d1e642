use Rattle.std.proofs.Common.{arith}
use Rattle.std.proofs.lemmas.Grind.{common_steps}
use Rattle.opl_grammar.specs.Rules.{adds}
use Rattle.opl_level.proofs.below.Level.adds.Goals as goal

-- src/product.rt:164:21
pub returns-in_err-first : goal.returns-in_err-first
unfolding adds
returns-in_err-first g c = grind (arith, common_steps)

-- src/product.rt:156:5
pub returns : goal.returns
unfolding adds
returns g c = grind (arith, common_steps)
