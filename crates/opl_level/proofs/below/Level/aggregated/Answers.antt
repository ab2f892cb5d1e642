use Rattle.std.proofs.Common.{arith}
use Rattle.std.proofs.lemmas.Grind.{common_steps}
use Rattle.opl_grammar.specs.Rules.{aggregated}
use Rattle.opl_level.proofs.below.Level.aggregated.Goals as goal

-- src/bracket.rt:43:22
pub returns-in_err-params : goal.returns-in_err-params
unfolding aggregated
returns-in_err-params g c = grind (arith, common_steps)

-- src/bracket.rt:35:5
pub returns : goal.returns
unfolding aggregated
returns g c = grind (arith, common_steps)
