use Rattle.std.proofs.Common.{rules, sym, ap, ◌∙◌}
use Rattle.std.specs.Prelude.{FitsSigned, Some}
use mir.Syntax.{w128}
use Rattle.std.proofs.lemmas.Int.{to_z-of_z}
use Rattle.opl_domain.proofs.Rows.{rem_none, rem_one, rem_more, one_quotient, rem_in_order, rem_none, rem_one, rem_more}
use Rattle.opl_domain.proofs.interval.Interval.rem.Goals as goal

pub returns-then-is_zero : goal.returns-then-is_zero
returns-then-is_zero c = rem_none _ _ (sym c.if-is_zero.ensures)

pub returns-then-not-is_one_quotient : goal.returns-then-not-is_one_quotient
returns-then-not-is_one_quotient c =
    ap Some c.wide_rem.ensures ∙ rem_more _ _ (sym c.if-is_zero.ensures) (sym c.if-not-is_one_quotient.ensures)

pub new-requires : goal.new-requires
new-requires c =
    let divisor_fits : FitsSigned w128 c.lo-divisor.result = search rules in
    let lo_fits : FitsSigned w128 c.lo.result = search rules in
    let hi_fits : FitsSigned w128 c.hi.result = search rules in
    let first_fits : FitsSigned w128 c.remainder.result = search rules in
    let last_fits : FitsSigned w128 c.remainder-2.result = search rules in
    let first = simp to_z-of_z at c.remainder.ensures in
    let last = simp to_z-of_z at c.remainder-2.ensures in
    simp to_z-of_z (rw (first, last, c.lo.ensures.value, c.hi.ensures.value, c.lo-divisor.ensures.value)
    (rem_in_order c.args.self.low c.args.self.high c.args.other.low c.lo.ensures.ordered (one_quotient c.args.self c.args.other (sym c.if-not-is_one_quotient.ensures))))

pub returns : goal.returns
returns c =
    let divisor_fits : FitsSigned w128 c.lo-divisor.result = search rules in
    let lo_fits : FitsSigned w128 c.lo.result = search rules in
    let hi_fits : FitsSigned w128 c.hi.result = search rules in
    let first_fits : FitsSigned w128 c.remainder.result = search rules in
    let last_fits : FitsSigned w128 c.remainder-2.result = search rules in
    let first = simp to_z-of_z at c.remainder.ensures in
    let last = simp to_z-of_z at c.remainder-2.ensures in
    let made = simp to_z-of_z at c.new.ensures in
    rw (made, first, last, c.lo.ensures.value, c.hi.ensures.value, c.lo-divisor.ensures.value)
    (rem_one c.args.self c.args.other (sym c.if-is_zero.ensures) (sym c.if-not-is_one_quotient.ensures))
