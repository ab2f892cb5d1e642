use Rattle.std.proofs.Common.{arith}
use Rattle.opl_value.proofs.Writes.{writes}
use Rattle.opl_value.proofs.compare.+feeds.Goals as goal

-- src/compare.rt:67:1
pub feed-returns-in-Int : goal.feed-returns-in-Int
feed-returns-in-Int g t c = grind (arith, writes)

-- src/compare.rt:67:1
pub feed-returns-in-Bool : goal.feed-returns-in-Bool
feed-returns-in-Bool g t c = grind (arith, writes)

-- src/compare.rt:67:1
pub feed-returns-in-Enum : goal.feed-returns-in-Enum
feed-returns-in-Enum g t c = grind (arith, writes)

-- src/compare.rt:67:1
pub feed-returns-in-Record : goal.feed-returns-in-Record
feed-returns-in-Record g t c = grind (arith, writes)

-- src/compare.rt:67:1
pub feed-returns-in-Set : goal.feed-returns-in-Set
feed-returns-in-Set g t c = grind (arith, writes)

-- src/compare.rt:67:1
pub feed-returns-in-Range : goal.feed-returns-in-Range
feed-returns-in-Range g t c = grind (arith, writes)

-- src/compare.rt:67:1
pub feed-returns-in-Names : goal.feed-returns-in-Names
feed-returns-in-Names g t c = grind (arith, writes)

-- src/compare.rt:67:1
pub feed-returns-in-Array : goal.feed-returns-in-Array
feed-returns-in-Array g t c = grind (arith, writes)
