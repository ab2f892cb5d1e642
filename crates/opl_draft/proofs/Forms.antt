-- Each form of terms is unrolled by its parts.
use Rattle.std.proofs.Common.{◌≡◌, ◌&&◌, true, cond, not, List, [], ◌∷◌, map, Option, None, Some, refl, ap, ◌∙◌}
use Rattle.std.specs.List.{list_all}
use Rattle.std.specs.Option.{option_map}
use Rattle.opl_term.specs.declared.term.GroupTerm.{GroupTerm}
use Rattle.opl_term.specs.declared.term.GroupTerm.TheOpen.{Step-F, Term-F}
use Rattle.opl_term.specs.declared.term.GroupTerm.TheViews.{roll-Step, roll-Term}
use Rattle.opl_term.specs.declared.term.SetTerm.{SetTerm}
use Rattle.opl_term.specs.declared.term.Step.{Step}
use Rattle.opl_term.specs.declared.term.Term.{Term}
use Rattle.opl_eval.specs.Evaluation.{Environment, eval, group_meaning}
use Rattle.opl_meaning.specs.declared.variable.VariableItem.{VariableItem}
use Rattle.opl_meaning.specs.Runs.{Names, group_use}
use Rattle.opl_draft.specs.Choices.{under}
use Rattle.opl_draft.specs.Drafts.{drafts_of, steps_of}
use Rattle.opl_draft.specs.Drafts.Draft.{broken, chain, equivalent, one_of, all_of, aggregate, element}
use Rattle.opl_draft.specs.Forms.{HasForm, array_in, form_array, form_cells, form_clean, form_draft, form_name, form_place, form_step, is_clean_step, is_name, step_in}
use Rattle.opl_draft.specs.Laws.{StepByForm, UnrolledByForm}
use Rattle.opl_draft.specs.Unrolled.{clean_layer, data_draft, is_clean, is_mentioned, layer_array, layer_cells, live_layer, name_layer, operand_layer, part_of, place_layer, step_part, unrolled}
use Rattle.opl_draft.proofs.Parts.{part-form, part_group, part_group_is, part_term, parts_of, step-roll, step_parts}

module _ (items : List VariableItem) (names : Names) where
  each-draft : (ts : List Term) (env : Environment) → map (λ t. t.draft env) (map (part_of items names) ts) ≡ map (λ t. unrolled items names t env) ts
  each-draft [] env = refl
  each-draft (t ∷ ts) env = λ i. unrolled items names t env ∷ each-draft ts env i

  each-step : (ss : List Step) (env : Environment) → map (λ s. s.draft env) (map (step_part items names) ss) ≡ map (λ s. step_in items names s env) ss
  each-step [] env = refl
  each-step (s ∷ ss) env = λ i. step_in items names s env ∷ each-step ss env i

  each-group : (gs : List GroupTerm) → map group_meaning (map (part_group items names) gs) ≡ map group_meaning gs
  each-group [] = refl
  each-group (g ∷ gs) = λ i. group_meaning (part_group_is items names g i) ∷ each-group gs i

  condition-back : (c : Option Term) → option_map (λ p. p.term) (option_map (part_of items names) c) ≡ c
  condition-back None = refl
  condition-back (Some t) = λ i. Some (part_term items names t i)

  live-form : (x : Term-F GroupTerm SetTerm Step Term) (env : Environment) → live_layer items names (parts_of items names x) env ≡ form_draft items names x env
  live-form (Term-F.Chain at t ss) env = λ i. chain at (unrolled items names t env) (steps_of (each-step ss env i))
  live-form (Term-F.Equivalent at ts) env = λ i. equivalent at (drafts_of (each-draft ts env i))
  live-form (Term-F.Or at ts) env = λ i. one_of at (drafts_of (each-draft ts env i))
  live-form (Term-F.And at ts) env = λ i. all_of at (drafts_of (each-draft ts env i))
  live-form (Term-F.Aggregate at op gs None t) env = λ i. aggregate at op (drafts_of (under broken (each-group gs i) None (λ env. unrolled items names t env ∷ []) env))
  live-form (Term-F.Aggregate at op gs (Some c) t) env = λ i. aggregate at op (drafts_of (under broken (each-group gs i) (Some (part_term items names c i)) (λ env. unrolled items names t env ∷ []) env))
  live-form (Term-F.Element at t ts) env = λ i. element at (array_in items names t env) (drafts_of (each-draft ts env i))
  live-form (Term-F.Described at t gs None) env = refl
  live-form (Term-F.Described at t gs (Some c)) env = refl
  live-form y env = refl

  each-clean : (ts : List Term) → list_all (λ t. t.is_clean) (map (part_of items names) ts) ≡ list_all (is_clean items names) ts
  each-clean [] = refl
  each-clean (t ∷ ts) = ap (λ b. is_clean items names t && b) (each-clean ts)

  each-clean-step : (ss : List Step) → list_all (λ s. s.is_clean) (map (step_part items names) ss) ≡ list_all (is_clean_step items names) ss
  each-clean-step [] = refl
  each-clean-step (s ∷ ss) = ap (λ b. is_clean_step items names s && b) (each-clean-step ss)

  groups-data : (gs : List GroupTerm) → list_all (λ g. not (group_use names g)) (map (part_group items names) gs) ≡ list_all (λ g. not (group_use names g)) gs
  groups-data [] = refl
  groups-data (g ∷ gs) = λ i. not (group_use names (part_group_is items names g i)) && groups-data gs i

  clean-form : (x : Term-F GroupTerm SetTerm Step Term) → clean_layer items names (parts_of items names x) ≡ form_clean items names x
  clean-form (Term-F.Chain at t ss) = ap (λ b. is_clean items names t && b) (each-clean-step ss)
  clean-form (Term-F.Equivalent at ts) = each-clean ts
  clean-form (Term-F.Or at ts) = each-clean ts
  clean-form (Term-F.And at ts) = each-clean ts
  clean-form (Term-F.Aggregate at op gs None t) = ap (λ b. b && (true && is_clean items names t)) (groups-data gs)
  clean-form (Term-F.Aggregate at op gs (Some c) t) = λ i. groups-data gs i && (not (is_mentioned items names (part_term items names c i)) && is_clean items names t)
  clean-form (Term-F.Element at t ts) = ap (λ b. is_name items names t && b) (each-clean ts)
  clean-form (Term-F.Described at t gs None) = refl
  clean-form (Term-F.Described at t gs (Some c)) = refl
  clean-form y = refl

  place-form : (x : Term-F GroupTerm SetTerm Step Term) → place_layer (parts_of items names x) ≡ form_place items names x
  place-form (Term-F.Aggregate at op gs None t) = refl
  place-form (Term-F.Aggregate at op gs (Some c) t) = refl
  place-form (Term-F.Described at t gs None) = refl
  place-form (Term-F.Described at t gs (Some c)) = refl
  place-form y = refl

  name-form : (x : Term-F GroupTerm SetTerm Step Term) → name_layer (parts_of items names x) ≡ form_name items names x
  name-form (Term-F.Aggregate at op gs None t) = refl
  name-form (Term-F.Aggregate at op gs (Some c) t) = refl
  name-form (Term-F.Described at t gs None) = refl
  name-form (Term-F.Described at t gs (Some c)) = refl
  name-form y = refl

  cells-form : (x : Term-F GroupTerm SetTerm Step Term) (env : Environment) → layer_cells items names (parts_of items names x) env ≡ form_cells items names x env
  cells-form (Term-F.Aggregate at op gs None t) env = refl
  cells-form (Term-F.Aggregate at op gs (Some c) t) env = refl
  cells-form (Term-F.Described at t gs None) env = refl
  cells-form (Term-F.Described at t gs (Some c)) env = refl
  cells-form y env = refl

  array-form : (x : Term-F GroupTerm SetTerm Step Term) (env : Environment) → layer_array items names (parts_of items names x) env ≡ form_array items names x env
  array-form (Term-F.Aggregate at op gs None t) env = refl
  array-form (Term-F.Aggregate at op gs (Some c) t) env = refl
  array-form (Term-F.Described at t gs None) env = refl
  array-form (Term-F.Described at t gs (Some c)) env = refl
  array-form y env = refl

  has_form : (x : Term-F GroupTerm SetTerm Step Term) (env : Environment) → HasForm items names x env
  has_form x env = record {
    draft =
        ap (λ p. p.draft env) (part-form items names x)
        ∙ (λ i. cond (is_mentioned items names (roll-Term x)) (live-form x env i) (data_draft (place-form x i) (eval (roll-Term x) env)));
    clean = ap (λ p. p.is_clean) (part-form items names x) ∙ ap (λ b. cond (is_mentioned items names (roll-Term x)) b true) (clean-form x);
    at = ap (λ p. p.at) (part-form items names x) ∙ place-form x;
    name = ap (λ p. p.is_name) (part-form items names x) ∙ name-form x;
    cells = ap (λ p. p.cells env) (part-form items names x) ∙ cells-form x env;
    array = ap (λ p. p.array env) (part-form items names x) ∙ array-form x env;
  }

  step_form : (x : Step-F GroupTerm SetTerm Step Term) (env : Environment) → step_in items names (roll-Step x) env ≡ form_step items names x env
  step_form x env = ap (λ s. s.draft env) (step-roll items names x) ∙ operand x
    where
      operand : (x : Step-F GroupTerm SetTerm Step Term) → operand_layer items names (step_parts items names x) env ≡ form_step items names x env
      operand (Step-F.Plus t) = refl
      operand (Step-F.Minus t) = refl
      operand (Step-F.Times t) = refl
      operand (Step-F.Quotient t) = refl
      operand (Step-F.Remainder t) = refl

pub unrolled_by_form : UnrolledByForm
unrolled_by_form = has_form

pub step_by_form : StepByForm
step_by_form = step_form
