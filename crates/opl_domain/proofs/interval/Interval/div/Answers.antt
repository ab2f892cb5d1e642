use Rattle.std.proofs.Common.{rules}
use Rattle.std.specs.Prelude.{FitsSigned}
use mir.Syntax.{w128}
use Rattle.std.proofs.lemmas.Int.{to_z-of_z}
use Rattle.opl_domain.proofs.Rows.{by_all_divisors}
use Rattle.opl_domain.proofs.interval.Interval.div.Goals as goal

pub returns : goal.returns
returns c =
    let low_fits : FitsSigned w128 c.lo-low.result = search rules in
    let high_fits : FitsSigned w128 c.hi-high.result = search rules in
    let first = c.with_quotients-by_minus_one.ensures in
    let second = c.with_quotients-by_one.ensures in
    let third = simp to_z-of_z at c.with_quotients-by_high.ensures in
    let last = simp to_z-of_z at c.with_quotients.ensures in
    rw (last, third, second, first, c.lo-low.ensures.value, c.hi-high.ensures.value) (by_all_divisors c.args.self c.args.other c.lo.ensures.ordered)
