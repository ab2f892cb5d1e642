use Rattle.std.proofs.Common.{◌∙◌, sym, refl, arith}
use Rattle.std.specs.Prelude.{FitsSigned}
use mir.Syntax.{w64}
use Rattle.std.proofs.lemmas.Int.{ints, to_z-of_z}
use Rattle.opl_linear.proofs.roots.value_of.Goals as goal

pub returns-then-has : goal.returns-then-has
returns-then-has g c =
    let wide = c.ranges.v in
    let fits : FitsSigned w64 c.args.v = omega (arith, ints) in
    let e = simp to_z-of_z at c.has.ensures in
    simp to_z-of_z (refl, sym e ∙ c.if-has.true)

pub returns-else-has : goal.returns-else-has
returns-else-has g c =
    let wide = c.ranges.v in
    let fits : FitsSigned w64 c.args.v = omega (arith, ints) in
    let e = simp to_z-of_z at c.has.ensures in
    sym e ∙ c.if-has.false
