use Rattle.std.proofs.Common.{arith, ◌≤ℤ◌}
use Rattle.std.proofs.lemmas.Int.{ints, to_z-of_z}
use Rattle.opl_domain.specs.Span.{hull_of}
use Rattle.opl_domain.proofs.Numbers.{span_is, ends_in_order}
use Rattle.opl_domain.proofs.interval.hull_of_four.Goals as goal

pub new-requires : goal.new-requires
new-requires c =
    let ordered : c.lesser-3.result ≤ℤ c.greater-3.result = ends_in_order _ _ _ _ _ c.lesser-3.ensures c.greater-3.ensures in
    omega (arith, ints)

pub returns : goal.returns
unfolding hull_of
returns c = span_is _ _ _ _ _ c.new.ensures (grind (arith, to_z-of_z)) (grind (arith, to_z-of_z))
