use Rattle.std.proofs.Common.{sym, ◌∙◌}
use Rattle.opl_sound.specs.Cores.{fits_core}
use Rattle.opl_sound.proofs.Tells.{tells_true, true_tells}
use Rattle.opl_sound.proofs.Cores.{core_told}
use Rattle.opl_sound.proofs.whole.is_sound.Goals as goal

pub returns : goal.returns
returns c = (λ e. tells_true (fits_core c.args.core.now) (core_told c.args.core.now) (sym c.fits_core.ensures ∙ e), λ h. c.fits_core.ensures ∙ true_tells (fits_core c.args.core.now) (core_told c.args.core.now) h)
