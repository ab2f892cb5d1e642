-- What expressions are unrolled to, by whether decision variables are named in them, and form by form.
use Rattle.std.proofs.Common.{◌≡◌, cond, sym, ap, subst, ◌∙◌}
use Rattle.std.specs.Prelude.{List}
use Rattle.opl_term.specs.declared.term.GroupTerm.TheOpen.{Step-F}
use Rattle.opl_term.specs.declared.term.GroupTerm.TheViews.{out-Term, roll-out-Term}
use Rattle.opl_term.specs.declared.term.Step.TheVariants as steps
use Rattle.opl_term.specs.declared.term.Term.{Term}
use Rattle.opl_term.specs.declared.term.Term.TheVariants as terms
use Rattle.opl_eval.specs.Evaluation.{Environment, eval}
use Rattle.opl_meaning.specs.declared.variable.VariableItem.{VariableItem}
use Rattle.opl_meaning.specs.Runs.{Names}
use Rattle.opl_draft.specs.Forms.{form_draft, form_place, place, step_in}
use Rattle.opl_draft.specs.Laws.{StepByForm, UnrolledByForm}
use Rattle.opl_draft.specs.Unrolled.{data_draft, is_mentioned, unrolled}
use Rattle.opl_unfolding.specs.Laws.{DraftsOfForms, DraftsOfSteps, LiveDrafts, ValueDrafts}
use Rattle.opl_unfolding.specs.Unrolling.{live_draft}

module _ (law : UnrolledByForm) (items : List VariableItem) (names : Names) (t : Term) (env : Environment) where
  by-out : unrolled items names t env ≡ cond (is_mentioned items names t) (form_draft items names (out-Term t) env) (data_draft (form_place items names (out-Term t)) (eval t env))
  by-out =
      subst (λ u. unrolled items names u env ≡ cond (is_mentioned items names u) (form_draft items names (out-Term t) env) (data_draft (form_place items names (out-Term t)) (eval u env)))
      (roll-out-Term t) (law items names (out-Term t) env).draft

  place-out : place items names t ≡ form_place items names (out-Term t)
  place-out = subst (λ u. place items names u ≡ form_place items names (out-Term t)) (roll-out-Term t) (law items names (out-Term t) env).at

-- what names a decision variable is unrolled by its form, what names none is evaluated
pub live-drafts : UnrolledByForm → LiveDrafts
live-drafts law items names t env h =
    by-out law items names t env ∙ ap (λ b. cond b (live_draft items names t env) (data_draft (form_place items names (out-Term t)) (eval t env))) h

pub value-drafts : UnrolledByForm → ValueDrafts
value-drafts law items names t env h =
    by-out law items names t env ∙ ap (λ b. cond b (live_draft items names t env) (data_draft (form_place items names (out-Term t)) (eval t env))) h
    ∙ ap (λ at. data_draft at (eval t env)) (sym (place-out law items names t env))

-- the forms of terms
pub drafts-of-forms : DraftsOfForms
drafts-of-forms items names env = record {
  number = λ at n. ap (λ x. form_draft items names x env) (terms.outs-Number at n);
  named = λ at name. ap (λ x. form_draft items names x env) (terms.outs-Named at name);
  bracket = λ at t. ap (λ x. form_draft items names x env) (terms.outs-Bracket at t);
  negative = λ at t. ap (λ x. form_draft items names x env) (terms.outs-Negative at t);
  chain = λ at t ss. ap (λ x. form_draft items names x env) (terms.outs-Chain at t ss);
  related = λ at t r u. ap (λ x. form_draft items names x env) (terms.outs-Related at t r u);
  member = λ at t s. ap (λ x. form_draft items names x env) (terms.outs-Member at t s);
  equivalent = λ at ts. ap (λ x. form_draft items names x env) (terms.outs-Equivalent at ts);
  implied = λ at t u. ap (λ x. form_draft items names x env) (terms.outs-Implied at t u);
  one_of = λ at ts. ap (λ x. form_draft items names x env) (terms.outs-Or at ts);
  all_of = λ at ts. ap (λ x. form_draft items names x env) (terms.outs-And at ts);
  opposite = λ at t. ap (λ x. form_draft items names x env) (terms.outs-Not at t);
  aggregate = λ at op gs c t. ap (λ x. form_draft items names x env) (terms.outs-Aggregate at op gs c t);
  call = λ at op t. ap (λ x. form_draft items names x env) (terms.outs-Call at op t);
  different = λ at t. ap (λ x. form_draft items names x env) (terms.outs-AllDifferent at t);
  question = λ at op t. ap (λ x. form_draft items names x env) (terms.outs-Question at op t);
  element = λ at t ts. ap (λ x. form_draft items names x env) (terms.outs-Element at t ts);
  fields = λ at t fs. ap (λ x. form_draft items names x env) (terms.outs-Fields at t fs);
  recorded = λ at ts. ap (λ x. form_draft items names x env) (terms.outs-Record at ts);
  listed = λ at ts. ap (λ x. form_draft items names x env) (terms.outs-Listed at ts);
  described = λ at t gs c. ap (λ x. form_draft items names x env) (terms.outs-Described at t gs c);
  array = λ at ts. ap (λ x. form_draft items names x env) (terms.outs-Array at ts);
  keyed = λ at ts us. ap (λ x. form_draft items names x env) (terms.outs-KeyedArray at ts us);
}

-- the forms of steps
pub drafts-of-steps : StepByForm → DraftsOfSteps
drafts-of-steps law items names env = record {
  plus = λ t. ap (λ s. step_in items names s env) (sym (steps.rolls-Plus t)) ∙ law items names (Step-F.Plus t) env;
  minus = λ t. ap (λ s. step_in items names s env) (sym (steps.rolls-Minus t)) ∙ law items names (Step-F.Minus t) env;
  times = λ t. ap (λ s. step_in items names s env) (sym (steps.rolls-Times t)) ∙ law items names (Step-F.Times t) env;
  quotient = λ t. ap (λ s. step_in items names s env) (sym (steps.rolls-Quotient t)) ∙ law items names (Step-F.Quotient t) env;
  remainder = λ t. ap (λ s. step_in items names s env) (sym (steps.rolls-Remainder t)) ∙ law items names (Step-F.Remainder t) env;
}
