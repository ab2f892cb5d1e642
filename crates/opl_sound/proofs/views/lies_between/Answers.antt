use Rattle.std.proofs.Common.{rules}
use Rattle.std.specs.Prelude.{FitsSigned}
use mir.Syntax.{w64}
use Rattle.std.proofs.lemmas.Int.{to_z-of_z}
use Rattle.opl_sound.proofs.Within.{lie_up_to, lie_from}
use Rattle.opl_sound.proofs.views.lies_between.Goals as goal

pub returns-then-lo-min : goal.returns-then-lo-min
returns-then-lo-min g c =
    let l : FitsSigned w64 c.min.result = search rules in
    let m : FitsSigned w64 c.max.result = search rules in
    let lo : FitsSigned w64 c.args.ends.now.0 = search rules in
    let hi : FitsSigned w64 c.args.ends.now.1 = search rules in
    let h = c.if-lo-min.true in
    simp to_z-of_z (lie_up_to (g.V.View.family c.args.view.now) c.args.x c.args.ends.now c.min.result c.max.result c.min.ensures c.max.ensures (simp to_z-of_z at h))

pub returns-else-lo-min : goal.returns-else-lo-min
returns-else-lo-min g c =
    let l : FitsSigned w64 c.min.result = search rules in
    let lo : FitsSigned w64 c.args.ends.now.0 = search rules in
    let h = c.if-lo-min.false in
    simp to_z-of_z (lie_from (g.V.View.family c.args.view.now) c.args.x c.args.ends.now c.min.result c.min.ensures (simp to_z-of_z at h))
