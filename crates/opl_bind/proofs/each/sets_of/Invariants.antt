use Rattle.std.proofs.Common.{◌≡◌, ◌++◌, drop, map}
use Rattle.opl_given.specs.Arrays.{values_of}
use Rattle.opl_given.specs.Elements.{left}
use Rattle.opl_given.specs.Readings.{axis_of}
use Rattle.opl_bind.proofs.each.sets_of.Given as goal

abbrev pub invariant-loop-axis : goal.invariant-loop-axis
invariant-loop-axis l = map values_of (map axis_of l.axes) ≡ map left l.sets.items ++ map values_of (map axis_of (drop l.axis-index l.axes))
