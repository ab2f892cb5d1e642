use Rattle.std.proofs.Common.{arith, rules, ◌-◌, ◌/◌, ◌+◌, pos, get_or}
use Rattle.std.specs.Prelude.{FitsSigned}
use mir.Syntax.{w64}
use Rattle.std.proofs.lemmas.Int.{to_z-of_z}
use Rattle.opl_domain.proofs.Sets.{not_le, is_le, bracket_up, bracket_down, bracket_closed}
use Rattle.opl_domain.proofs.domain.rank.Goals as goal

pub loop-low-preserved : goal.loop-low-preserved
loop-low-preserved c =
    let v_fits : FitsSigned w64 c.args.v = c.ranges.v in
    let fits : FitsSigned w64 (get_or c.args.values.now (c.loop-low.low + (c.loop-low.high - c.loop-low.low) / 2) (pos 0)) = search rules in
    let test = simp to_z-of_z at c.if-values-middle.false in
    let bracket = simp to_z-of_z at c.loop-low.invariant in
    simp to_z-of_z (bracket_down _ c.requires bracket (omega arith) (omega arith) (not_le _ _ test))

pub loop-low-preserved-then-values-middle : goal.loop-low-preserved-then-values-middle
loop-low-preserved-then-values-middle c =
    let v_fits : FitsSigned w64 c.args.v = c.ranges.v in
    let fits : FitsSigned w64 (get_or c.args.values.now (c.loop-low.low + (c.loop-low.high - c.loop-low.low) / 2) (pos 0)) = search rules in
    let test = simp to_z-of_z at c.if-values-middle.true in
    let bracket = simp to_z-of_z at c.loop-low.invariant in
    simp to_z-of_z (bracket_up _ c.requires bracket (omega arith) (is_le _ _ test))

pub returns : goal.returns
returns c =
    let v_fits : FitsSigned w64 c.args.v = c.ranges.v in
    bracket_closed (simp to_z-of_z at c.loop-low.invariant) c.loop-low-test.false
