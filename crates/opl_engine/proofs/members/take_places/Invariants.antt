use Rattle.std.specs.Prelude.{◌^◌, ◌<◌}
use Rattle.opl_engine.proofs.Placing.{HasGiven}
use Rattle.opl_engine.proofs.members.take_places.Given as goal

abbrev pub invariant-loop-at : goal.invariant-loop-at
invariant-loop-at l = HasGiven l.fn.members l.members l.at l.behind × (l.behind < 2 ^ 32)
