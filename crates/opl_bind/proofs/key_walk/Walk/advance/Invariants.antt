use Rattle.std.proofs.Common.{◌≡◌}
use Rattle.opl_bind.specs.Keys.{distance_of, to_come}
use Rattle.opl_bind.proofs.key_walk.Walk.advance.Given as goal

abbrev pub invariant-loop : goal.invariant-loop
invariant-loop l = to_come l.fn.self ≡ to_come l.self

abbrev pub decreases-loop : goal.decreases-loop
decreases-loop l = distance_of l.self
