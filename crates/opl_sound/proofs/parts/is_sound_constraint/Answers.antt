use Rattle.std.proofs.Common.{sym, ◌∙◌, false}
use Rattle.opl_expr.specs.Forms.{fact}
use Rattle.opl_sound.specs.Measures.{fits}
use Rattle.opl_sound.proofs.Tells.{tells_true, true_tells}
use Rattle.opl_sound.proofs.Sound.{tells_fact}
use Rattle.opl_sound.proofs.parts.is_sound_constraint.Goals as goal

pub returns : goal.returns
returns c =
    let d = fact c.args.core.now.tables c.args.core.now.resources c.args.c.now in
    let sets = c.args.core.now.sets in
    (λ e. tells_true (fits sets false d) (tells_fact sets d) (sym c.fits.ensures ∙ e), λ h. c.fits.ensures ∙ true_tells (fits sets false d) (tells_fact sets d) h)
