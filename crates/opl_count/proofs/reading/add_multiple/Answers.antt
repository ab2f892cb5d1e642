use Rattle.std.specs.Prelude.{FitsSigned}
use mir.Syntax.{w128}
use Rattle.std.proofs.lemmas.Int.{to_z-of_z}
use Rattle.std.proofs.lemmas.Result.{IfOk-weaker}
use Rattle.opl_count.proofs.Readings.{truth_sound, multiple_fits, multiple_read}
use Rattle.opl_count.proofs.reading.add_multiple.Goals as goal

pub add_truth-requires-clause-sound : goal.add_truth-requires-clause-sound
add_truth-requires-clause-sound c = truth_sound c.args.core.now c.args.e.now c.in-Truth.c c.get.result.now c.in-Truth.is c.get.ensures c.requires.sound

pub add_truth-requires-clause-fits : goal.add_truth-requires-clause-fits
add_truth-requires-clause-fits c =
    let fits : FitsSigned w128 c.args.k = c.ranges.k in
    let e = simp to_z-of_z at c.amount.ensures in
    multiple_fits c.args.core.now c.args.e.now c.in-Truth.c c.args.k c.amount.result _ c.in-Truth.is e c.requires.fits

pub returns-in-Truth : goal.returns-in-Truth
returns-in-Truth c =
    let fits : FitsSigned w128 c.args.k = c.ranges.k in
    let e = simp to_z-of_z at c.amount.ensures in
    let t = simp to_z-of_z at c.is_turned.ensures in
    IfOk-weaker c.add_truth.result _ _ (multiple_read c.args.core.now c.args.is_negative c.args.k c.args.e.now c.in-Truth.c c.get.result.now c.is_turned.result c.amount.result c.args.costs.now c.add_truth.new.costs c.in-Truth.is c.get.ensures t e) c.add_truth.ensures
