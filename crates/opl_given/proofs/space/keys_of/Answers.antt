use Rattle.std.proofs.Common.{arith}
use Rattle.opl_given.proofs.Spaces.{spaces}
use Rattle.opl_given.proofs.space.keys_of.Goals as goal

-- src/space.rt:26:1
pub returns-in-Some : goal.returns-in-Some
returns-in-Some c = grind (arith, spaces)

-- src/space.rt:26:1
pub returns-in-None : goal.returns-in-None
returns-in-None c = grind (arith, spaces)
