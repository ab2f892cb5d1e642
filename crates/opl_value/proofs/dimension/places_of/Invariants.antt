use Rattle.std.proofs.Common.{◌≡◌, ◌++◌, drop, map}
use Rattle.opl_value.proofs.dimension.places_of.Given as goal

abbrev pub invariant-loop-pair : goal.invariant-loop-pair
invariant-loop-pair l = map (λ p. p.1) l.pairs ≡ l.places ++ map (λ p. p.1) (drop l.pair-index l.pairs)
