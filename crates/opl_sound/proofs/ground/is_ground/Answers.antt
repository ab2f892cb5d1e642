use Rattle.std.proofs.Common.{sym, ◌∙◌}
use Rattle.opl_sound.specs.Ground.{fits_ground}
use Rattle.opl_sound.proofs.Tells.{tells_true, true_tells}
use Rattle.opl_sound.proofs.WholeCores.{ground_told}
use Rattle.opl_sound.proofs.ground.is_ground.Goals as goal

pub returns : goal.returns
returns c = (λ e. tells_true (fits_ground c.args.core.now) (ground_told c.args.core.now) (sym c.fits_ground.ensures ∙ e), λ h. c.fits_ground.ensures ∙ true_tells (fits_ground c.args.core.now) (ground_told c.args.core.now) h)
