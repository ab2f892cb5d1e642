use Rattle.std.proofs.Common.{arith, ◌+ℤ◌, pos}
use Rattle.std.specs.Prelude.{FitsSigned}
use mir.Syntax.{w64}
use Rattle.std.proofs.lemmas.Int.{ints, to_z-of_z}
use Rattle.opl_domain.proofs.Sets.{row_more}
use Rattle.opl_domain.proofs.domain.values_from.Goals as goal

pub loop-place-preserved : goal.loop-place-preserved
loop-place-preserved c =
    let lo_fits : FitsSigned w64 c.args.lo = c.ranges.lo in
    let fits : FitsSigned w64 (c.args.lo +ℤ pos c.loop-place.place) = omega (arith, ints) in
    let row = simp to_z-of_z at c.loop-place.invariant in
    simp to_z-of_z (row_more c.args.lo c.loop-place.place _ _ _ row (omega (arith, ints)) c.in_ok-push.ensures.items)
