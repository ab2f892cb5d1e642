use Rattle.std.proofs.Common.{rules}
use Rattle.std.specs.Prelude.{FitsSigned}
use mir.Syntax.{w64}
use Rattle.std.proofs.lemmas.Int.{to_z-of_z}
use Rattle.opl_sound.proofs.Within.{up_to, from_low}
use Rattle.opl_sound.proofs.views.is_between.Goals as goal

pub returns-then-lo-v : goal.returns-then-lo-v
returns-then-lo-v c =
    let v : FitsSigned w64 c.args.v.now = search rules in
    let lo : FitsSigned w64 c.args.ends.now.0 = search rules in
    let hi : FitsSigned w64 c.args.ends.now.1 = search rules in
    let h = c.if-lo-v.true in
    simp to_z-of_z (up_to c.args.ends.now c.args.v.now (simp to_z-of_z at h))

pub returns-else-lo-v : goal.returns-else-lo-v
returns-else-lo-v c =
    let v : FitsSigned w64 c.args.v.now = search rules in
    let lo : FitsSigned w64 c.args.ends.now.0 = search rules in
    let h = c.if-lo-v.false in
    simp to_z-of_z (from_low c.args.ends.now c.args.v.now (simp to_z-of_z at h))
