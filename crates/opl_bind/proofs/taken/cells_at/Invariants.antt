use Rattle.std.proofs.Common.{◌≡◌, ◌++◌, drop, map}
use Rattle.opl_value.specs.Places.{value_at}
use Rattle.opl_bind.proofs.taken.cells_at.Given as goal

abbrev pub invariant-loop-place : goal.invariant-loop-place
invariant-loop-place l = map (value_at l.cells) l.places ≡ l.found ++ map (value_at l.cells) (drop l.place-index l.places)
