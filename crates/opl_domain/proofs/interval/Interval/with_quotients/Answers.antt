use Rattle.std.proofs.Common.{rules, sym}
use Rattle.std.specs.Prelude.{FitsSigned}
use mir.Syntax.{w128}
use Rattle.std.proofs.lemmas.Int.{to_z-of_z}
use Rattle.opl_domain.proofs.Rows.{with_none, with_some}
use Rattle.opl_domain.proofs.interval.Interval.with_quotients.Goals as goal

pub returns-then-not-is_divisor : goal.returns-then-not-is_divisor
returns-then-not-is_divisor c =
    let y_fits : FitsSigned w128 c.args.y = c.ranges.y in
    let test = simp to_z-of_z at (c.if-not-is_divisor.ensures) in
    with_none _ _ _ _ (sym test)

pub returns : goal.returns
returns c =
    let y_fits : FitsSigned w128 c.args.y = c.ranges.y in
    let lo_fits : FitsSigned w128 c.lo.result = search rules in
    let hi_fits : FitsSigned w128 c.hi.result = search rules in
    let first_fits : FitsSigned w128 c.quotient.result = search rules in
    let last_fits : FitsSigned w128 c.quotient-2.result = search rules in
    let test = simp to_z-of_z at (c.if-not-is_divisor.ensures) in
    let first = simp to_z-of_z at c.quotient.ensures in
    let last = simp to_z-of_z at c.quotient-2.ensures in
    let low = simp to_z-of_z at c.point-first.ensures in
    let high = simp to_z-of_z at c.point-last.ensures in
    rw (c.joined_to.ensures, c.hull.ensures, low, high, first, last, c.lo.ensures.value, c.hi.ensures.value)
    (with_some _ _ _ _ (sym test))
