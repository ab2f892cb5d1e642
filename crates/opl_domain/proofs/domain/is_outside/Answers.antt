use Rattle.std.specs.Prelude.{FitsSigned}
use mir.Syntax.{w64}
use Rattle.std.proofs.lemmas.Int.{to_z-of_z}
use Rattle.opl_domain.specs.Family.{is_outside}
use Rattle.opl_domain.proofs.domain.is_outside.Goals as goal

pub returns-then-v-lo : goal.returns-then-v-lo
unfolding is_outside
returns-then-v-lo c =
    let v_fits : FitsSigned w64 c.args.v = c.ranges.v in
    let lo_fits : FitsSigned w64 c.args.lo = c.ranges.lo in
    let e = simp to_z-of_z at c.if-v-lo.true in
    rw e c.if-v-lo.true

pub returns-else-v-lo : goal.returns-else-v-lo
unfolding is_outside
returns-else-v-lo c =
    let v_fits : FitsSigned w64 c.args.v = c.ranges.v in
    let lo_fits : FitsSigned w64 c.args.lo = c.ranges.lo in
    let hi_fits : FitsSigned w64 c.args.hi = c.ranges.hi in
    let e = simp to_z-of_z at c.if-v-lo.false in
    rw e (simp to_z-of_z)
