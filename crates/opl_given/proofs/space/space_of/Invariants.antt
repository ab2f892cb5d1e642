use Rattle.std.proofs.Common.{◌≡◌, ◌++◌, map, drop}
use Rattle.opl_value.specs.Places.{AreSorted, dimensions}
use Rattle.opl_given.proofs.space.space_of.Given as goal

abbrev pub invariant-loop-axis : goal.invariant-loop-axis
invariant-loop-axis l =
    (map (λ a. a.dimension) l.axes ≡ dimensions l.space ++ map (λ a. a.dimension) (drop l.axis-index l.axes)) × AreSorted (dimensions l.space)
