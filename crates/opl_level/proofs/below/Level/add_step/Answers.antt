use Rattle.std.proofs.Common.{arith}
use Rattle.std.proofs.lemmas.Grind.{common_steps}
use Rattle.opl_grammar.specs.Rules.{add_step}
use Rattle.opl_level.proofs.below.Level.add_step.Goals as goal

-- src/product.rt:133:18
pub returns-in_err-op : goal.returns-in_err-op
unfolding add_step
returns-in_err-op g c = grind (arith, common_steps)

-- src/product.rt:134:20
pub returns-in_err-mul : goal.returns-in_err-mul
unfolding add_step
returns-in_err-mul g c = grind (arith, common_steps)

-- src/product.rt:128:5
pub returns : goal.returns
unfolding add_step
returns g c = grind (arith, common_steps)
