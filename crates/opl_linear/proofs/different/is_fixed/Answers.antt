use Rattle.std.proofs.Common.{rules, arith}
use Rattle.std.specs.Prelude.{FitsSigned}
use mir.Syntax.{w64}
use Rattle.std.proofs.lemmas.Int.{ints, to_z-of_z}
use Rattle.opl_linear.proofs.Differs.{open_ends, fixed_ends}
use Rattle.opl_linear.proofs.different.is_fixed.Goals as goal

pub returns-then-min-max : goal.returns-then-min-max
returns-then-min-max g c =
    let l : FitsSigned w64 c.min.result = search rules in
    let h : FitsSigned w64 c.max.result = search rules in
    let t = simp to_z-of_z at c.if-min-max.true in
    open_ends (g.V.View.family c.args.view.now) c.args.x c.min.result c.max.result c.min.ensures c.max.ensures (omega (arith, ints, t))

pub returns : goal.returns
returns g c =
    let l : FitsSigned w64 c.min.result = search rules in
    let h : FitsSigned w64 c.max.result = search rules in
    let t = simp to_z-of_z at c.if-min-max.false in
    fixed_ends (g.V.View.family c.args.view.now) c.args.x c.min.result c.max.result c.min.ensures c.max.ensures (omega (arith, ints, t))
