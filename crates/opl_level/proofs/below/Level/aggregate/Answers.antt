use Rattle.std.proofs.Common.{arith}
use Rattle.std.proofs.lemmas.Grind.{common_steps}
use Rattle.opl_grammar.specs.Rules.{aggregate}
use Rattle.opl_level.proofs.below.Level.aggregate.Goals as goal

-- src/product.rt:56:18
pub returns-in_err-op : goal.returns-in_err-op
unfolding aggregate
returns-in_err-op g c = grind (arith, common_steps)

-- src/product.rt:57:30
pub returns-in_err-params : goal.returns-in_err-params
unfolding aggregate
returns-in_err-params g c = grind (arith, common_steps)

-- src/product.rt:59:26
pub returns-in_err-boxed : goal.returns-in_err-boxed
unfolding aggregate
returns-in_err-boxed g c = grind (arith, common_steps)

-- src/product.rt:50:5
pub returns : goal.returns
unfolding aggregate
returns g c = grind (arith, common_steps)
