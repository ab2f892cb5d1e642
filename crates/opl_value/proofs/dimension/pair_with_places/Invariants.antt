use Rattle.opl_value.specs.Ranked.{ArePaired}
use Rattle.opl_value.proofs.dimension.pair_with_places.Given as goal

abbrev pub invariant-loop-place : goal.invariant-loop-place
invariant-loop-place l = ArePaired l.values l.place l.pairs.items
