use Rattle.std.proofs.Common.{arith}
use Rattle.std.proofs.lemmas.Grind.{common_steps}
use Rattle.opl_grammar.specs.Rules.{field}
use Rattle.opl_level.proofs.below.Level.field.Goals as goal

-- src/bracket.rt:215:20
pub returns-in_err-kind : goal.returns-in_err-kind
unfolding field
returns-in_err-kind g c = grind (arith, common_steps)

-- src/bracket.rt:216:21
pub returns-in_err-named : goal.returns-in_err-named
unfolding field
returns-in_err-named g c = grind (arith, common_steps)

-- src/bracket.rt:217:34
pub returns-in_err-kind-2 : goal.returns-in_err-kind-2
unfolding field
returns-in_err-kind-2 g c = grind (arith, common_steps)

-- src/bracket.rt:209:5
pub returns : goal.returns
unfolding field
returns g c = grind (arith, common_steps)
