use Rattle.std.proofs.Common.{sym, subst}
use Rattle.std.specs.Prelude.{SomeIff}
use Rattle.opl_expr.specs.Forms.{term}
use Rattle.opl_expr.specs.Sound.{term_magnitude, IsSoundTerm}
use Rattle.opl_sound.proofs.Sound.{tells}
use Rattle.opl_sound.proofs.parts.magnitude.Goals as goal

pub returns : goal.returns
returns c =
    let t = term c.args.core.now.tables c.args.core.now.resources c.args.e.now in
    subst (λ m. SomeIff m (IsSoundTerm c.args.core.now.sets t) (term_magnitude c.args.core.now.sets t)) (sym c.measure.ensures) (tells c.args.core.now.sets t).iff
