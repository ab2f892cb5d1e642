use Rattle.std.proofs.Common.{refl}
use Rattle.std.specs.Prelude.{FitsSigned, int_div}
use mir.Syntax.{w128}
use Rattle.std.proofs.lemmas.Int.{to_z-of_z}
use Rattle.opl_range.proofs.Bounds.{abs_div}
use Rattle.opl_range.proofs.Roots.{quotient_fits}
use Rattle.opl_linear.proofs.roots.quotient.Goals as goal

pub returns : goal.returns
returns c =
    let x = c.ranges.x in
    let y = c.ranges.y in
    let fits : FitsSigned w128 (int_div c.args.x c.args.y) = quotient_fits c.args.x c.args.y c.requires.fits in
    record { value = simp to_z-of_z refl; small = simp to_z-of_z (abs_div c.args.x c.args.y) }
