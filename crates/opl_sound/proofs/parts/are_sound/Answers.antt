use Rattle.std.proofs.Common.{map, sym, ◌∙◌, false}
use Rattle.opl_expr.specs.Forms.{fact, facts_of}
use Rattle.opl_sound.specs.Measures.{all_fit}
use Rattle.opl_sound.proofs.Tells.{tells_true, true_tells}
use Rattle.opl_sound.proofs.Cores.{facts_told}
use Rattle.opl_sound.proofs.parts.are_sound.Goals as goal

pub returns : goal.returns
returns c =
    let ds = map (fact c.args.core.now.tables c.args.core.now.resources) c.args.constraints.now in
    let sets = c.args.core.now.sets in
    (λ e. tells_true (all_fit sets false (facts_of ds)) (facts_told sets ds) (sym c.all_fit.ensures ∙ e), λ h. c.all_fit.ensures ∙ true_tells (all_fit sets false (facts_of ds)) (facts_told sets ds) h)
