use Rattle.std.proofs.Common.{arith}
use Rattle.std.proofs.lemmas.Grind.{common_steps}
use Rattle.opl_given.specs.Readings.{known_of}
use Rattle.opl_bind.proofs.model.DataValues.enumerations.Goals as goal

pub loop-names-init : goal.loop-names-init
unfolding known_of
loop-names-init c = grind (arith, common_steps)

pub loop-names-preserved : goal.loop-names-preserved
unfolding known_of
loop-names-preserved c = grind (arith, common_steps)

pub returns : goal.returns
unfolding known_of
returns c = grind (arith, common_steps)
