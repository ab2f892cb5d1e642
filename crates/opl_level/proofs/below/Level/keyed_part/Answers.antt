use Rattle.std.proofs.Common.{arith}
use Rattle.std.proofs.lemmas.Grind.{common_steps}
use Rattle.opl_grammar.specs.Rules.{keyed_part}
use Rattle.opl_level.proofs.below.Level.keyed_part.Goals as goal

-- src/bracket.rt:122:19
pub returns-in_err-key : goal.returns-in_err-key
unfolding keyed_part
returns-in_err-key g c = grind (arith, common_steps)

-- src/bracket.rt:123:25
pub returns-in_err-key-2 : goal.returns-in_err-key-2
unfolding keyed_part
returns-in_err-key-2 g c = grind (arith, common_steps)

-- src/bracket.rt:124:28
pub returns-in_err-key-3 : goal.returns-in_err-key-3
unfolding keyed_part
returns-in_err-key-3 g c = grind (arith, common_steps)

-- src/bracket.rt:129:12
pub returns-in_err-boxed : goal.returns-in_err-boxed
unfolding keyed_part
returns-in_err-boxed g c = grind (arith, common_steps)

-- src/bracket.rt:117:5
pub returns : goal.returns
unfolding keyed_part
returns g c = grind (arith, common_steps)
