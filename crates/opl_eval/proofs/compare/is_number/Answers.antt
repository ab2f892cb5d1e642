use Rattle.std.proofs.Common.{arith}
use Rattle.opl_eval.proofs.Variants.{variants}
use Rattle.opl_eval.proofs.compare.is_number.Goals as goal

-- src/compare.rt:33:1
pub returns-in_default : goal.returns-in_default
returns-in_default c = grind (arith, variants)

-- src/compare.rt:33:1
pub returns-in-Int : goal.returns-in-Int
returns-in-Int c = grind (arith, variants)

-- src/compare.rt:33:1
pub returns-in-Int-2 : goal.returns-in-Int-2
returns-in-Int-2 c = grind (arith, variants)
