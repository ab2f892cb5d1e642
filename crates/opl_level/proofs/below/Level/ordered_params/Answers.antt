use Rattle.std.proofs.Common.{arith}
use Rattle.std.proofs.lemmas.Grind.{common_steps}
use Rattle.opl_grammar.specs.Rules.{ordered_params}
use Rattle.opl_level.proofs.below.Level.ordered_params.Goals as goal

-- src/params.rt:179:22
pub returns-in_err-params : goal.returns-in_err-params
unfolding ordered_params
returns-in_err-params g c = grind (arith, common_steps)

-- src/params.rt:180:31
pub returns-in_err-params-2 : goal.returns-in_err-params-2
unfolding ordered_params
returns-in_err-params-2 g c = grind (arith, common_steps)

-- src/params.rt:186:12
pub returns-in_err-boxed : goal.returns-in_err-boxed
unfolding ordered_params
returns-in_err-boxed g c = grind (arith, common_steps)

-- src/params.rt:169:5
pub returns : goal.returns
unfolding ordered_params
returns g c = grind (arith, common_steps)
