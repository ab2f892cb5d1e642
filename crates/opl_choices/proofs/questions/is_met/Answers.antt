use Rattle.std.proofs.Common.{sym, ap, ◌∙◌, subst}
use Rattle.opl_expr.specs.Forms.{fact}
use Rattle.opl_expr.specs.Sound.{IsSoundFact}
use Rattle.opl_choices.proofs.AnswersSound.{are_bounded, fact_sound}
use Rattle.opl_choices.proofs.Asked.{met_is}
use Rattle.opl_choices.proofs.questions.is_met.Goals as goal

pub cons_range-requires-clause-sound : goal.cons_range-requires-clause-sound
cons_range-requires-clause-sound g c =
    let core = c.args.core.now in
    subst (λ d. IsSoundFact core.sets d) (sym (ap (fact core.tables core.resources) c.get.ensures ∙ c.in_ok-c.ensures))
    (fact_sound core.sets (g.V.View.family c.args.view.now) (are_bounded core (g.V.View.family c.args.view.now) c.vars.ensures.sets c.requires.within) (fact core.tables core.resources c.args.c.now) c.requires.«open»)

pub returns : goal.returns
returns g c =
    let core = c.args.core.now in
    met_is _ _ _ _ _ (ap (fact core.tables core.resources) c.get.ensures ∙ c.in_ok-c.ensures) c.cons_range.ensures c.is_some_point.ensures
