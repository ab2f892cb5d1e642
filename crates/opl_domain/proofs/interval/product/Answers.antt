use Rattle.std.proofs.Common.{arith, ◌*ℤ◌, ◌<◌, ◌*◌, ◌^◌, ℤ, to_z, of_z}
use Rattle.std.specs.Prelude.{FitsSigned, unsigned_abs}
use mir.Syntax.{w128}
use Rattle.std.proofs.lemmas.Int.{to_z-of_z, fits_signed_mul}
use Rattle.opl_domain.proofs.interval.product.Goals as goal

-- the product fits
fits : (x y : ℤ) → FitsSigned w128 x → FitsSigned w128 y → unsigned_abs x * unsigned_abs y < 2 ^ 127 → FitsSigned w128 (to_z w128 (of_z w128 x) *ℤ to_z w128 (of_z w128 y))
fits x y p q h = simp to_z-of_z (fits_signed_mul w128 x y (unsigned_abs x) (unsigned_abs y) (omega arith) (omega arith) h)

pub overflow_mul-result : goal.overflow_mul-result
overflow_mul-result c = fits c.args.x c.args.y c.ranges.x c.ranges.y c.requires

pub returns : goal.returns
returns c =
    let fits_product : FitsSigned w128 (c.args.x *ℤ c.args.y) = fits_signed_mul w128 c.args.x c.args.y (unsigned_abs c.args.x) (unsigned_abs c.args.y) (omega arith) (omega arith) c.requires in
    let x_fits : FitsSigned w128 c.args.x = c.ranges.x in
    let y_fits : FitsSigned w128 c.args.y = c.ranges.y in
    simp to_z-of_z
