use Rattle.std.proofs.Common.{arith}
use Rattle.opl_value.proofs.Places.{variants}
use Rattle.opl_value.proofs.value.Dimension.place.Goals as goal

-- src/index.rt:34:5
pub returns-in-Whole : goal.returns-in-Whole
returns-in-Whole c = grind (arith, variants)

-- src/index.rt:34:5
pub returns-in-Listed : goal.returns-in-Listed
returns-in-Listed c = grind (arith, variants)
