use Rattle.std.proofs.Common.{arith}
use Rattle.opl_given.proofs.Kept.{types}
use Rattle.opl_given.proofs.declare.form_named.Goals as goal

-- src/declare.rt:17:1
pub returns-in-Some-get : goal.returns-in-Some-get
returns-in-Some-get c = grind (arith, types)

-- src/declare.rt:17:1
pub returns-in-None-get : goal.returns-in-None-get
returns-in-None-get c = grind (arith, types)

-- src/declare.rt:17:1
pub returns-in-None : goal.returns-in-None
returns-in-None c = grind (arith, types)
