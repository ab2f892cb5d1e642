use Rattle.std.proofs.Common.{arith}
use Rattle.opl_value.proofs.Places.{variants}
use Rattle.opl_value.proofs.value.Dimension.is_empty.Goals as goal

-- src/index.rt:11:5
pub returns-in-Listed : goal.returns-in-Listed
returns-in-Listed c = grind (arith, variants)
