use Rattle.std.proofs.Common.{◌∙◌, ap, sym, subst}
use Rattle.opl_addends.specs.Addends.{plains, listed, with_factor, AreSound}
use Rattle.opl_addends.proofs.apart.factor_at.Goals as goal

pub factor_in-requires-clause-sound : goal.factor_in-requires-clause-sound
factor_in-requires-clause-sound c = subst (λ o. AreSound c.args.core.now.sets (plains c.args.core.now (listed o))) (sym c.in-Some.ensures.value) c.requires.sound

pub returns-in-None : goal.returns-in-None
returns-in-None c = ap (λ o. with_factor c.args.x (plains c.args.core.now (listed o))) c.in-None.ensures.value

pub returns-in-Some : goal.returns-in-Some
returns-in-Some c = c.factor_in.ensures ∙ ap (λ o. with_factor c.args.x (plains c.args.core.now (listed o))) c.in-Some.ensures.value
