use Rattle.std.proofs.Common.{◌≡◌, [], map, drop}
use Rattle.opl_eval.specs.Visible.{seen}
use Rattle.opl_bind.specs.Dimensions as spec
use Rattle.opl_given.specs.Readings.{axis_of}
use Rattle.opl_bind.proofs.dimension.axes_in.Given as goal

abbrev pub invariant-loop-t : goal.invariant-loop-t
invariant-loop-t l =
    spec.axes_in (seen l.environment) [] (spec.dims_of l.dims) ≡ spec.axes_in (seen l.environment) (map axis_of l.axes) (drop l.t-index l.dims.rest)
