use Rattle.std.proofs.Common.{arith}
use Rattle.std.proofs.lemmas.Int.{ints}
use Rattle.opl_range.proofs.Ends.{flip_is}
use Rattle.opl_range.proofs.rows.flipped.Goals as goal

pub returns : goal.returns
returns c = let t = c.requires in flip_is _ _ _ _ c.new.ensures (omega (arith, ints, c.hi.ensures.value, t.high_least, t.high_most)) (omega (arith, ints, c.lo.ensures.value, t.low_least, t.low_most))
