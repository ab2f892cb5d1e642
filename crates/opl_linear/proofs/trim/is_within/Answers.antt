use Rattle.std.proofs.Common.{arith}
use Rattle.std.proofs.lemmas.Int.{ints, to_z-of_z}
use Rattle.opl_linear.proofs.Widths.{extent_fits}
use Rattle.opl_linear.proofs.trim.is_within.Goals as goal

pub extent-requires : goal.extent-requires
extent-requires c =
    let rf = c.ranges.factor in
    let rw = c.ranges.width in
    let l = simp to_z-of_z at c.if-factor-ge-FACTOR.false in
    simp to_z-of_z (extent_fits c.args.factor c.args.width c.requires.factor (omega (arith, ints, l)) c.requires.width)
