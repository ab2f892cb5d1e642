use Rattle.std.proofs.Common.{sym, ap, ◌∙◌, subst, rules, Some}
use Rattle.std.specs.Prelude.{FitsSigned}
use Rattle.std.proofs.lemmas.Int.{to_z-of_z}
use mir.Syntax.{w128}
use Rattle.opl_expr.specs.Forms.{term}
use Rattle.opl_expr.specs.Options.{lift1}
use Rattle.opl_expr.specs.Sound.{IsSoundTerm}
use Rattle.opl_trace.specs.SoundCores.{IsOpenKey}
use Rattle.opl_choices.proofs.AnswersSound.{are_bounded, term_sound}
use Rattle.opl_choices.proofs.Asked.{no_key, key_is}
use Rattle.opl_choices.proofs.questions.key_value.Goals as goal

pub returns-in-None : goal.returns-in-None
returns-in-None g c =
    let core = c.args.core.now in
    no_key _ _ (ap (lift1 (term core.tables core.resources)) c.in-None.is)

pub range-requires-clause-sound : goal.range-requires-clause-sound
range-requires-clause-sound g c =
    let core = c.args.core.now in
    let o = subst (λ k. IsOpenKey core.sets (lift1 (term core.tables core.resources) k)) c.in-Some.is c.requires.«open» in
    subst (λ t. IsSoundTerm core.sets t) (sym (ap (term core.tables core.resources) c.get.ensures ∙ c.in_ok-key-in-Some.ensures))
    (term_sound core.sets (g.V.View.family c.args.view.now) (are_bounded core (g.V.View.family c.args.view.now) c.vars.ensures.sets c.requires.within) (term core.tables core.resources c.in-Some.key) o)

pub returns-in-None-range : goal.returns-in-None-range
returns-in-None-range g c =
    let core = c.args.core.now in
    sym (ap (lift1 (λ a. a.low)) c.in-None-range.is) ∙ key_is _ _ _ _ _ (ap (lift1 (term core.tables core.resources)) c.in-Some.is) (ap (term core.tables core.resources) c.get.ensures ∙ c.in_ok-key-in-Some.ensures) c.range.ensures

pub returns : goal.returns
returns g c =
    let core = c.args.core.now in
    let fits : FitsSigned w128 c.lo.result = search rules in
    ap Some (to_z-of_z w128 c.lo.result fits ∙ c.lo.ensures.value) ∙ sym (ap (lift1 (λ a. a.low)) c.in-Some-range.is)
    ∙ key_is _ _ _ _ _ (ap (lift1 (term core.tables core.resources)) c.in-Some.is) (ap (term core.tables core.resources) c.get.ensures ∙ c.in_ok-key-in-Some.ensures) c.range.ensures
