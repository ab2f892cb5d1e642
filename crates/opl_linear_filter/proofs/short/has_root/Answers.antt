use Rattle.std.proofs.Common.{rules, refl}
use Rattle.std.specs.Prelude.{FitsSigned}
use mir.Syntax.{w128}
use Rattle.std.proofs.lemmas.Int.{to_z-of_z}
use Rattle.opl_range.proofs.Roots.{root_value, root_missing}
use Rattle.opl_linear_filter.proofs.short.has_root.Goals as goal

pub returns-in-None : goal.returns-in-None
returns-in-None g c =
    let k = c.ranges.k in
    let d = c.ranges.factor in
    let t = simp to_z-of_z at (c.in-None.ensures) in
    root_missing (g.V.View.family c.args.view.now) (λ y. c.args.factor) c.args.x c.args.k c.args.factor refl t

pub returns-in-Some : goal.returns-in-Some
returns-in-Some g c =
    let k = c.ranges.k in
    let d = c.ranges.factor in
    let v : FitsSigned w128 c.in-Some.v = search rules in
    let t = simp to_z-of_z at (c.in-Some.ensures) in
    let e = simp to_z-of_z at c.is_value.ensures in
    root_value (g.V.View.family c.args.view.now) (λ y. c.args.factor) c.args.x c.args.k c.args.factor c.in-Some.v c.is_value.result refl t e
