use Rattle.std.proofs.Common.{arith}
use Rattle.std.proofs.lemmas.Grind.{common_steps}
use Rattle.opl_grammar.specs.Rules.{dims}
use Rattle.opl_level.proofs.below.Level.dims.Goals as goal

-- src/bracket.rt:281:21
pub returns-in_err-first : goal.returns-in_err-first
unfolding dims
returns-in_err-first g c = grind (arith, common_steps)

-- src/bracket.rt:276:5
pub returns : goal.returns
unfolding dims
returns g c = grind (arith, common_steps)
