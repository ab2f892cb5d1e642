-- Whether terms and steps are clean: what names no decision variable, and else what has a clean form.
use Rattle.std.proofs.Common.{◌≡◌, ◌||◌, Bool, true, false, cond, not, List, [], refl, ap, sym, ◌∙◌}
use Rattle.opl_term.specs.declared.term.GroupTerm.{GroupTerm}
use Rattle.opl_term.specs.declared.term.GroupTerm.TheFolds.{fold-GroupTerm, fold-SetTerm, fold-roll-Step, map-Step}
use Rattle.opl_term.specs.declared.term.GroupTerm.TheOpen.{Step-F}
use Rattle.opl_term.specs.declared.term.GroupTerm.TheViews.{out-Term, roll-Step, roll-out-Term}
use Rattle.opl_term.specs.declared.term.SetTerm.{SetTerm}
use Rattle.opl_term.specs.declared.term.Step.{Step}
use Rattle.opl_term.specs.declared.term.Step.TheVariants as steps
use Rattle.opl_term.specs.declared.term.Term.{Term}
use Rattle.opl_eval.specs.Evaluation.{Environment}
use Rattle.opl_meaning.specs.declared.variable.VariableItem.{VariableItem}
use Rattle.opl_meaning.specs.Runs.{Names}
use Rattle.opl_draft.specs.Forms.{form_clean, is_clean_step}
use Rattle.opl_draft.specs.Laws.{UnrolledByForm}
use Rattle.opl_draft.specs.Unrolled.{Part, StepPart, group_again, is_clean, is_mentioned, part_layer, part_of, set_again, step_layer, step_part}
use Rattle.opl_runs.specs.Laws.{CleanByForm}
use Rattle.opl_runs.specs.Scopes.{clean_by_form}

-- where nothing has a value
abbrev pub nowhere : Environment
nowhere = record { items = []; parameters = []; position = λ n. n }

cond-or : (b c : Bool) → cond b c true ≡ (not b || c)
cond-or true c = refl
cond-or false c = refl

-- by the law that each form is unrolled by its parts
pub clean-is : UnrolledByForm → CleanByForm
unfolding clean_by_form
clean-is law items names t =
    ap (is_clean items names) (sym (roll-out-Term t)) ∙ (law items names (out-Term t) nowhere).clean
    ∙ ap (λ u. cond (is_mentioned items names u) (form_clean items names (out-Term t)) true) (roll-out-Term t)
    ∙ cond-or (is_mentioned items names t) (form_clean items names (out-Term t))

-- ---- steps

module _ (items : List VariableItem) (names : Names) where
  abbrev step-parts : Step-F GroupTerm SetTerm Step Term → Step-F GroupTerm SetTerm StepPart Part
  step-parts = map-Step GroupTerm SetTerm Step Term GroupTerm SetTerm StepPart Part
      (fold-GroupTerm GroupTerm SetTerm StepPart Part (group_again items names) (set_again items names) (step_layer items names) (part_layer items names))
      (fold-SetTerm GroupTerm SetTerm StepPart Part (group_again items names) (set_again items names) (step_layer items names) (part_layer items names))
      (step_part items names) (part_of items names)

  step-roll : (x : Step-F GroupTerm SetTerm Step Term) → step_part items names (roll-Step x) ≡ step_layer items names (step-parts x)
  unfolding part_of step_part
  step-roll x = fold-roll-Step GroupTerm SetTerm StepPart Part (group_again items names) (set_again items names) (step_layer items names) (part_layer items names) x

pub clean-Plus : (items : List VariableItem) (names : Names) (t : Term) → is_clean_step items names (steps.Plus t) ≡ is_clean items names t
clean-Plus items names t = ap (is_clean_step items names) (sym (steps.rolls-Plus t)) ∙ ap (λ s. s.is_clean) (step-roll items names (Step-F.Plus t))

pub clean-Minus : (items : List VariableItem) (names : Names) (t : Term) → is_clean_step items names (steps.Minus t) ≡ is_clean items names t
clean-Minus items names t = ap (is_clean_step items names) (sym (steps.rolls-Minus t)) ∙ ap (λ s. s.is_clean) (step-roll items names (Step-F.Minus t))

pub clean-Times : (items : List VariableItem) (names : Names) (t : Term) → is_clean_step items names (steps.Times t) ≡ is_clean items names t
clean-Times items names t = ap (is_clean_step items names) (sym (steps.rolls-Times t)) ∙ ap (λ s. s.is_clean) (step-roll items names (Step-F.Times t))

pub clean-Quotient : (items : List VariableItem) (names : Names) (t : Term) → is_clean_step items names (steps.Quotient t) ≡ is_clean items names t
clean-Quotient items names t = ap (is_clean_step items names) (sym (steps.rolls-Quotient t)) ∙ ap (λ s. s.is_clean) (step-roll items names (Step-F.Quotient t))

pub clean-Remainder : (items : List VariableItem) (names : Names) (t : Term) → is_clean_step items names (steps.Remainder t) ≡ is_clean items names t
clean-Remainder items names t = ap (is_clean_step items names) (sym (steps.rolls-Remainder t)) ∙ ap (λ s. s.is_clean) (step-roll items names (Step-F.Remainder t))

pub ruleset clean_steps = (clean-Plus, clean-Minus, clean-Times, clean-Quotient, clean-Remainder)
