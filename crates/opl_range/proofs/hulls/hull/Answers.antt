use Rattle.std.proofs.Common.{arith}
use Rattle.std.proofs.lemmas.Int.{ints}
use Rattle.opl_range.proofs.Ends.{hull_made}
use Rattle.opl_domain.proofs.Numbers.{span_is}
use Rattle.opl_range.proofs.hulls.hull.Goals as goal

pub returns : goal.returns
returns g c = hull_made _ _ _ _ _ c.min.ensures c.max.ensures (span_is _ _ _ _ _ c.new.ensures (omega (arith, ints)) (omega (arith, ints)))
