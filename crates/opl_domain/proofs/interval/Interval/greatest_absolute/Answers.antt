use Rattle.std.proofs.Common.{rules, ◌∙◌}
use Rattle.std.specs.Prelude.{FitsSigned}
use mir.Syntax.{w128}
use Rattle.std.proofs.lemmas.Int.{to_z-of_z}
use Rattle.opl_domain.proofs.Rows.{larger_pos}
use Rattle.opl_domain.proofs.interval.Interval.greatest_absolute.Goals as goal

pub returns : goal.returns
returns c =
    let fits : FitsSigned w128 c.greater.result = search rules in
    let low_fits : FitsSigned w128 c.absolute.result = search rules in
    let high_fits : FitsSigned w128 c.absolute-2.result = search rules in
    let lo_fits : FitsSigned w128 c.lo.result = search rules in
    let hi_fits : FitsSigned w128 c.hi.result = search rules in
    let low = simp to_z-of_z at c.absolute.ensures in
    let high = simp to_z-of_z at c.absolute-2.ensures in
    let e = simp to_z-of_z at c.greater.ensures in
    to_z-of_z w128 c.greater.result fits ∙ rw (e, low, high, c.lo.ensures.value, c.hi.ensures.value) (larger_pos _ _)
