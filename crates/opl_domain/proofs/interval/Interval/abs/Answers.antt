use Rattle.std.proofs.Common.{arith, rules, refl, ap, ◌∙◌}
use Rattle.std.specs.Prelude.{FitsSigned, Some}
use mir.Syntax.{w128}
use Rattle.std.proofs.lemmas.Int.{ints, to_z-of_z}
use Rattle.opl_domain.proofs.Numbers.{span_is}
use Rattle.opl_domain.proofs.Rows.{abs_up, abs_down, abs_over, larger_at, above_right}
use Rattle.opl_domain.proofs.interval.Interval.abs.Goals as goal

pub returns-then-low-ge0 : goal.returns-then-low-ge0
returns-then-low-ge0 c = abs_up c.args.self c.lo-low.ensures.ordered (omega (arith, ints))

pub returns-then-high-le0 : goal.returns-then-high-le0
returns-then-high-le0 c =
    ap Some (span_is _ _ _ _ _ c.new.ensures (omega (arith, ints)) (omega (arith, ints))) ∙ abs_down c.args.self c.lo-low.ensures.ordered (omega (arith, ints))

pub new-requires-2 : goal.new-requires-2
new-requires-2 c = omega (arith, ints, above_right _ _ _ c.greater.ensures)

pub returns : goal.returns
returns c =
    let greater_fits : FitsSigned w128 c.greater.result = search rules in
    ap Some (span_is _ _ _ _ _ c.new-2.ensures refl
    (to_z-of_z w128 c.greater.result greater_fits ∙ larger_at _ _ _ _ _ c.greater.ensures (omega (arith, ints)) (omega (arith, ints))))
    ∙ abs_over c.args.self (omega (arith, ints)) (omega (arith, ints))
