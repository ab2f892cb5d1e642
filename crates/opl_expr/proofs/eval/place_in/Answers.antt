use Rattle.std.proofs.Common.{get_or, rules, pos}
use Rattle.std.specs.Prelude.{FitsSigned}
use mir.Syntax.{w128}
use Rattle.std.proofs.lemmas.Int.{to_z-of_z}
use Rattle.opl_expr.proofs.Parts.{found_place, same_bits_128}
use Rattle.opl_expr.proofs.eval.place_in.Goals as goal

pub returns-then-v-w : goal.returns-then-v-w
returns-then-v-w c =
    let v_fits : FitsSigned w128 c.args.v = c.ranges.v in
    let fits : FitsSigned w128 (get_or c.args.list.now c.loop-place.place (pos 0)) = search rules in
    found_place c.args.v c.args.list.now c.loop-place.place c.loop-place-test.true (same_bits_128 _ _ v_fits fits c.if-v-w.true) (simp to_z-of_z at c.loop-place.invariant)
