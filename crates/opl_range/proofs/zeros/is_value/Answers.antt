use Rattle.std.proofs.Common.{arith}
use Rattle.std.specs.Prelude.{FitsSigned}
use mir.Syntax.{w64}
use Rattle.std.proofs.lemmas.Int.{ints, to_z-of_z}
use Rattle.opl_range.proofs.Roots.{no_value_below, no_value_above}
use Rattle.opl_range.proofs.zeros.is_value.Goals as goal

pub returns-then-v-min : goal.returns-then-v-min
returns-then-v-min g c = no_value_below _ _ _ c.args.v c.min.ensures (omega (arith, ints))

pub returns-then-v-max : goal.returns-then-v-max
returns-then-v-max g c = no_value_above _ _ _ c.args.v c.max.ensures (omega (arith, ints))

pub returns : goal.returns
returns g c =
    let wide = c.ranges.v in
    let fits : FitsSigned w64 c.args.v = omega (arith, ints) in
    simp to_z-of_z at c.has.ensures
