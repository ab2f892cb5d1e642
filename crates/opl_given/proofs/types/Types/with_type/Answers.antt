use Rattle.std.proofs.Common.{arith}
use Rattle.opl_given.proofs.Kept.{types}
use Rattle.opl_given.proofs.types.Types.with_type.Goals as goal

-- src/declare.rt:129:5
pub returns : goal.returns
returns c = grind (arith, types)
