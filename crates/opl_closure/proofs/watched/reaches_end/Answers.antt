use Rattle.std.proofs.Common.{rules, arith}
use Rattle.std.specs.Prelude.{FitsSigned}
use mir.Syntax.{w64}
use Rattle.std.proofs.lemmas.Int.{ints, to_z-of_z}
use Rattle.opl_closure.proofs.Waking.{ends_stay}
use Rattle.opl_closure.proofs.watched.reaches_end.Goals as goal

pub returns-else-min-lo : goal.returns-else-min-lo
returns-else-min-lo g c =
    let lo : FitsSigned w64 c.args.lo = c.ranges.lo in
    let hi : FitsSigned w64 c.args.hi = c.ranges.hi in
    let least : FitsSigned w64 c.min.result = search rules in
    let greatest : FitsSigned w64 c.max.result = search rules in
    let l = rw (to_z-of_z w64 c.min.result least, to_z-of_z w64 c.args.lo lo) at c.if-min-lo.false in
    λ e.
    let h = rw (to_z-of_z w64 c.max.result greatest, to_z-of_z w64 c.args.hi hi) at e in
    ends_stay (g.V.View.family c.args.view.now) c.args.x c.args.lo c.args.hi c.min.result c.max.result c.requires c.min.ensures c.max.ensures (grind (arith, ints, l)) (grind (arith, ints, h))
