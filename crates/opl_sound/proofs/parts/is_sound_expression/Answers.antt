use Rattle.std.proofs.Common.{ap, sym, ◌∙◌, false}
use Rattle.opl_expr.specs.Forms.{term}
use Rattle.opl_expr.specs.Sound.{term_magnitude}
use Rattle.opl_sound.specs.Measures.{is_some, measure}
use Rattle.opl_sound.proofs.Tells.{tells_true, true_tells, some_tells}
use Rattle.opl_sound.proofs.Sound.{tells}
use Rattle.opl_sound.proofs.parts.is_sound_expression.Goals as goal

pub returns : goal.returns
returns c =
    let t = term c.args.core.now.tables c.args.core.now.resources c.args.e.now in
    let sets = c.args.core.now.sets in
    let told = some_tells (measure sets false t) (term_magnitude sets t) (tells sets t) in
    let same = c.is_there.ensures ∙ ap is_some c.measure.ensures in
    (λ e. tells_true (is_some (measure sets false t)) told (sym same ∙ e), λ h. same ∙ true_tells (is_some (measure sets false t)) told h)
