use Rattle.std.proofs.Common.{arith}
use Rattle.opl_data.specs.Grammar.{record_value}
use Rattle.std.proofs.lemmas.Grind.{common_steps}
use Rattle.opl_data.proofs.value.Level.record_value.Goals as goal

-- src/value.rt:288:9
pub returns-in_err-expect_sign : goal.returns-in_err-expect_sign
unfolding record_value
returns-in_err-expect_sign g c = grind (arith, common_steps)

-- src/value.rt:289:21
pub returns-in_err-parts : goal.returns-in_err-parts
unfolding record_value
returns-in_err-parts g c = grind (arith, common_steps)

-- src/value.rt:290:35
pub returns-in_err-first : goal.returns-in_err-first
unfolding record_value
returns-in_err-first g c = grind (arith, common_steps)

-- src/value.rt:291:29
pub returns-in_err-rest : goal.returns-in_err-rest
unfolding record_value
returns-in_err-rest g c = grind (arith, common_steps)

-- src/value.rt:282:5
pub returns : goal.returns
unfolding record_value
returns g c = grind (arith, common_steps)
