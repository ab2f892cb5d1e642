use Rattle.std.proofs.Common.{rules, arith}
use Rattle.std.specs.Prelude.{FitsSigned}
use mir.Syntax.{w64, w128}
use Rattle.std.proofs.lemmas.Int.{ints, to_z-of_z}
use Rattle.opl_linear_filter.proofs.Values.{meets_one}
use Rattle.opl_linear_filter.proofs.short.meets.Goals as goal

pub returns : goal.returns
returns g c =
    let s = c.ranges.shift in
    let w : FitsSigned w64 c.min-only.result = search rules in
    let u : FitsSigned w64 c.max.result = search rules in
    let j : FitsSigned w128 c.shifted_back.result = search rules in
    let e = simp to_z-of_z at c.shifted_back.ensures in
    let h = simp to_z-of_z at c.is_value.ensures in
    meets_one (g.V.View.family c.args.view.now) c.args.x c.args.y c.args.shift c.min-only.result c.max.result c.shifted_back.result c.is_value.result c.min-only.ensures c.max.ensures
    (λ l. omega (arith, ints, l, c.if-only-max.false)) e h
