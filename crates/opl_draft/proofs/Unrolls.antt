-- Under an assignment an unrolled expression comes to what the expression does.
use Rattle.std.proofs.Common.{◌≡◌, ◌||◌, ◌&&◌, ℤ, ℕ, Bool, true, false, cond, not, List, [], ◌∷◌, map, None, Some, Ok, refl, sym, ap, subst, ◌∙◌}
use Rattle.std.specs.List.{flat_map, list_all, list_any}
use Rattle.std.proofs.lemmas.Bool.{and_parts}
use Rattle.opl_term.specs.declared.term.GroupTerm.{GroupTerm}
use Rattle.opl_term.specs.declared.term.GroupTerm.TheOpen.{Step-F, Term-F}
use Rattle.opl_term.specs.declared.term.GroupTerm.TheFolds.{map-Step, map-Term, ind-Term}
use Rattle.opl_term.specs.declared.term.GroupTerm.TheViews.{roll-Step, roll-Term}
use Rattle.opl_term.specs.declared.term.SetTerm.{SetTerm}
use Rattle.opl_term.specs.declared.term.Step.{Step}
use Rattle.opl_term.specs.declared.term.Term.{Term}
use Rattle.opl_value.specs.declared.value.Value.{Value}
use Rattle.opl_value.specs.declared.value.Value.TheVariants as values
use Rattle.opl_value.specs.declared.value.Dimension.TheViews.{out-Value}
use Rattle.opl_eval.specs.declared.arithmetic.Operation.{Operation}
use Rattle.opl_eval.specs.declared.arithmetic.Operation.TheVariants as operations
use Rattle.opl_eval.specs.Arithmetic.{then, run, negative}
use Rattle.opl_eval.specs.Compare.{number, relates}
use Rattle.opl_eval.specs.Evaluation as evaluation
use Rattle.opl_eval.specs.Evaluation.{Environment, Found, Group, all, bodies, body_where, choices, declaration_of, different_layer, element, elements, eval, found, gathered, group_meaning, integer, is_true, item_layer, meaning, step_meaning, truth, value_layer, values_of, visited, with_parameters}
use Rattle.opl_meaning.specs.declared.variable.VariableItem.{VariableItem}
use Rattle.opl_meaning.specs.Assigned.{with_variables}
use Rattle.opl_meaning.specs.Runs.{Names, group_use}
use Rattle.opl_meaning.proofs.Stays.{group_stays, meaning-roll, meanings_of, step_meaning-roll, step_meanings, term_stays}
use Rattle.opl_draft.specs.Choices.{under_groups, where_true}
use Rattle.opl_draft.specs.Drafts.{Cells, Draft, DraftStep, are_different, array_at, chosen, draft_value, operation, step_values, steps_of}
use Rattle.opl_draft.specs.Drafts.Draft.{broken}
use Rattle.opl_draft.specs.Laws.{AreDeclared, Fits, UnrolledMeans}
use Rattle.opl_draft.specs.Numbers.{arrays_of, entries}
use Rattle.opl_draft.specs.Unrolled.{Part, StepPart, clean_layer, data_draft, is_absolute, is_mentioned, layer_array, layer_cells, live_layer, name_layer, operand_layer, part_of, place_layer, step_clean, step_part}
use Rattle.opl_draft.proofs.Comes.{called-means, come, come-data, come-listed, come-one, come-stop, come-where, then-each}
use Rattle.opl_draft.proofs.Names.{after-with, array-means, cells-mean, names-agree, plain-means}
use Rattle.opl_draft.proofs.Parts.{part-form, part_group, part_group_is, part_term, parts_of, step-roll, step_parts}

module _ (items : List VariableItem) (names : Names) (ns : List ℤ) (declares : AreDeclared items names) (fits : Fits items ns) where
  -- the environment with the variables
  abbrev after : Environment → Environment
  after env = with_variables items ns env

  abbrev arrays : Environment → List Cells
  arrays env = arrays_of (entries env.items items)

  data-stays : (t : Term) (env : Environment) → is_mentioned items names t ≡ false → eval t (after env) ≡ eval t env
  data-stays t env h = (term_stays names t h (after env) env (names-agree items names ns declares env)).0

  group-stays : (g : GroupTerm) (env : Environment) → group_use names g ≡ false →
      ((group_meaning g).over.value (after env) ≡ (group_meaning g).over.value env) × ((group_meaning g).over.item (after env) ≡ (group_meaning g).over.item env)
  group-stays g env h = group_stays names g h (after env) env (names-agree items names ns declares env)

  abbrev part : Term → Part
  part = part_of items names

  abbrev steps : Step → StepPart
  steps = step_part items names

  abbrev differ : Found Value → Found Value
  differ r = found (λ v. values.Bool (different_layer (out-Value v))) r

  -- the unrolled term comes to what the term does, and so do the elements of a name
  abbrev pub Means : Term → Type 0
  Means t = ((part t).is_clean ≡ true → (env : Environment) → draft_value (arrays env) ns ((part t).draft env) ≡ eval t (after env))
      × ((part t).is_name ≡ true → (env : Environment) → Ok (values.Bool (are_different (arrays env) ns ((part t).cells env))) ≡ differ (eval t (after env)))
      × ((part t).is_name ≡ true → (env : Environment) (at : ℕ) (key : List Value) → chosen (arrays env) ns at (array_at (arrays env) ns ((part t).array env)) key ≡ element at key ((meaning t).item (after env)))

  abbrev step_value : Environment → DraftStep → Found Operation
  step_value env s = found (λ v. operation s.sign (number v)) (draft_value (arrays env) ns s.operand)

  abbrev StepMeans : Step → Type 0
  StepMeans s = (steps s).is_clean ≡ true → (env : Environment) → step_value env ((steps s).draft env) ≡ step_meaning s (after env)

  abbrev InGroup : Type 0
  InGroup = (g : GroupTerm) × Unit {0}

  abbrev InSet : Type 0
  InSet = SetTerm × Unit {0}

  abbrev InStep : Type 0
  InStep = (s : Step) × StepMeans s

  abbrev InTerm : Type 0
  InTerm = (t : Term) × Means t

  abbrev inner : Term-F InGroup InSet InStep InTerm → Term-F GroupTerm SetTerm Step Term
  inner = map-Term InGroup InSet InStep InTerm GroupTerm SetTerm Step Term (λ e. e.0) (λ e. e.0) (λ e. e.0) (λ e. e.0)

  abbrev step_inner : Step-F InGroup InSet InStep InTerm → Step-F GroupTerm SetTerm Step Term
  step_inner = map-Step InGroup InSet InStep InTerm GroupTerm SetTerm Step Term (λ e. e.0) (λ e. e.0) (λ e. e.0) (λ e. e.0)

  -- ---- lists of parts

  values-mean : (es : List InTerm) → list_all (λ t. t.is_clean) (map part (map (λ e. e.0) es)) ≡ true → (env : Environment) →
      come (arrays env) ns (map (λ t. t.draft env) (map part (map (λ e. e.0) es))) ≡ values_of (map meaning (map (λ e. e.0) es)) (after env)
  values-mean [] h env = refl
  values-mean (e ∷ es) h env =
      let p = and_parts (part e.0).is_clean (list_all (λ t. t.is_clean) (map part (map (λ e. e.0) es))) h in
      λ i. then (e.1.0 p.0 env i) (λ x. found (λ xs. x ∷ xs) (values-mean es p.1 env i))

  steps-mean : (es : List InStep) → list_all (λ s. s.is_clean) (map steps (map (λ e. e.0) es)) ≡ true → (env : Environment) →
      step_values (arrays env) ns (steps_of (map (λ s. s.draft env) (map steps (map (λ e. e.0) es)))) ≡ all (map (λ s. s (after env)) (map step_meaning (map (λ e. e.0) es)))
  steps-mean [] h env = refl
  steps-mean (e ∷ es) h env =
      let p = and_parts (steps e.0).is_clean (list_all (λ t. t.is_clean) (map steps (map (λ e. e.0) es))) h in
      λ i. then (e.1 p.0 env i) (λ x. found (λ xs. x ∷ xs) (steps-mean es p.1 env i))

  -- ---- elements

  is-false : (b : Bool) → not b ≡ true → b ≡ false
  is-false true e = sym e
  is-false false e = refl

  abbrev groups_of : List InGroup → List Group
  groups_of gs = map group_meaning (map (part_group items names) (map (λ e. e.0) gs))

  groups-mean : (gs : List InGroup) (drafts : Environment → List Draft) (bodies : Environment → Found (List Value)) →
      list_all (λ g. not (group_use names g)) (map (part_group items names) (map (λ e. e.0) gs)) ≡ true → ((env : Environment) → come (arrays env) ns (drafts env) ≡ bodies (after env)) →
      (env : Environment) → come (arrays env) ns (under_groups broken (groups_of gs) drafts env) ≡ visited (groups_of gs) bodies (after env)
  groups-mean [] drafts bodies h k env = k env
  groups-mean (g ∷ gs) drafts bodies h k env =
      let m : GroupTerm = part_group items names g.0 in
      let p = and_parts (not (group_use names m)) (list_all (λ g. not (group_use names g)) (map (part_group items names) (map (λ e. e.0) gs))) h in
      let stays = group-stays m env (is-false (group_use names m) p.0) in
      come-stop (arrays env) ns ((group_meaning m).over.value env) (λ v. flat_map (λ ps. under_groups broken (groups_of gs) drafts (with_parameters ps env)) (choices (group_meaning m) (elements (declaration_of ((group_meaning m).over.item env)) v)))
      ∙ (λ i. then (sym stays.0 i) (λ v. come-listed (arrays env) ns (λ ps. under_groups broken (groups_of gs) drafts (with_parameters ps env)) (λ ps. visited (groups_of gs) bodies (with_parameters ps (after env)))
      (λ ps. groups-mean gs drafts bodies p.1 k (with_parameters ps env) ∙ ap (visited (groups_of gs) bodies) (after-with items ns ps env))
      (choices (group_meaning m) (elements (declaration_of (sym stays.1 i)) v)) i))

  -- ---- aggregates

  -- the term of a part comes to the same as the term
  eval-part : (t : Term) (env : Environment) → is_mentioned items names (part t).term ≡ false → eval (part t).term env ≡ eval t (after env)
  eval-part t env h = sym (data-stays (part t).term env h) ∙ ap (λ t. eval t (after env)) (part_term items names t)

  abbrev body : InTerm → Environment → List Draft
  body t env = (part t.0).draft env ∷ []

  body-means : (t : InTerm) → (part t.0).is_clean ≡ true → (env : Environment) → come (arrays env) ns (where_true broken None (body t) env) ≡ body_where None (meaning t.0) (after env)
  body-means t h env = come-one (arrays env) ns ((part t.0).draft env) (eval t.0 (after env)) (t.1.0 h env)

  condition-means : (c t : InTerm) → not (is_mentioned items names (part c.0).term) ≡ true → (part t.0).is_clean ≡ true → (env : Environment) →
      come (arrays env) ns (where_true broken (Some (part c.0).term) (body t) env) ≡ body_where (Some (meaning c.0)) (meaning t.0) (after env)
  condition-means c t h k env =
      come-where (arrays env) ns (eval (part c.0).term env) (body t env) (found (λ v. v ∷ []) (eval t.0 (after env))) (body-means t k env)
      ∙ (λ i. then (eval-part c.0 env (is-false (is_mentioned items names (part c.0).term) h) i) (λ holds. cond (is_true holds) (found (λ v. v ∷ []) (eval t.0 (after env))) (Ok [])))

  groups-same : (gs : List InGroup) → groups_of gs ≡ map group_meaning (map (λ e. e.0) gs)
  groups-same [] = refl
  groups-same (g ∷ gs) = λ i. group_meaning (part_group_is items names g.0 i) ∷ groups-same gs i

  -- ---- each form

  abbrev LayerMeans : Term-F GroupTerm SetTerm Step Term → Type 0
  LayerMeans x = (clean_layer items names (parts_of items names x) ≡ true → (env : Environment) → draft_value (arrays env) ns (live_layer items names (parts_of items names x) env) ≡ value_layer (meanings_of x) (after env))
      × (name_layer (parts_of items names x) ≡ true → (env : Environment) → Ok (values.Bool (are_different (arrays env) ns (layer_cells items names (parts_of items names x) env))) ≡ differ (value_layer (meanings_of x) (after env)))
      × (name_layer (parts_of items names x) ≡ true → (env : Environment) (at : ℕ) (key : List Value) → chosen (arrays env) ns at (array_at (arrays env) ns (layer_array items names (parts_of items names x) env)) key ≡ element at key (item_layer (meanings_of x) (after env)))

  draft-means : (y : Term-F InGroup InSet InStep InTerm) → clean_layer items names (parts_of items names (inner y)) ≡ true → (env : Environment) →
      draft_value (arrays env) ns (live_layer items names (parts_of items names (inner y)) env) ≡ value_layer (meanings_of (inner y)) (after env)
  draft-means (Term-F.Number at n) h env = refl
  draft-means (Term-F.Named at name) h env = plain-means items names ns declares (arrays env) at name env h
  draft-means (Term-F.Bracket at t) h env = t.1.0 h env
  draft-means (Term-F.Negative at t) h env = λ i. then (t.1.0 h env i) (λ v. integer (negative at (number v)))
  draft-means (Term-F.Chain at t ss) h env =
      let p = and_parts (part t.0).is_clean (list_all (λ s. s.is_clean) (map steps (map (λ e. e.0) ss))) h in
      λ i. then (t.1.0 p.0 env i) (λ v. then (steps-mean ss p.1 env i) (λ os. integer (run at (number v) os)))
  draft-means (Term-F.Related at t r u) h env =
      let p = and_parts (part t.0).is_clean (part u.0).is_clean h in
      λ i. then (t.1.0 p.0 env i) (λ v. then (u.1.0 p.1 env i) (λ w. Ok (values.Bool (relates r v w))))
  draft-means (Term-F.Equivalent at ts) h env = λ i. truth (found evaluation.equivalent (values-mean ts h env i))
  draft-means (Term-F.Implied at t u) h env =
      let p = and_parts (part t.0).is_clean (part u.0).is_clean h in
      λ i. then (t.1.0 p.0 env i) (λ v. then (u.1.0 p.1 env i) (λ w. Ok (values.Bool (not (is_true v) || is_true w))))
  draft-means (Term-F.Or at ts) h env = λ i. truth (found (list_any is_true) (values-mean ts h env i))
  draft-means (Term-F.And at ts) h env = λ i. truth (found (list_all is_true) (values-mean ts h env i))
  draft-means (Term-F.Not at t) h env = λ i. found (λ v. values.Bool (not (is_true v))) (t.1.0 h env i)
  draft-means (Term-F.Aggregate at op gs None t) h env =
      let p = and_parts (list_all (λ g. not (group_use names g)) (map (part_group items names) (map (λ e. e.0) gs))) (true && (part t.0).is_clean) h in
      let q = and_parts true (part t.0).is_clean p.1 in
      λ i. then ((groups-mean gs (where_true broken None (body t)) (body_where None (meaning t.0)) p.0 (body-means t q.1) env ∙ ap (λ g. visited g (body_where None (meaning t.0)) (after env)) (groups-same gs)) i) (λ vs. integer (evaluation.aggregate op at (map number vs)))
  draft-means (Term-F.Aggregate at op gs (Some c) t) h env =
      let p = and_parts (list_all (λ g. not (group_use names g)) (map (part_group items names) (map (λ e. e.0) gs))) (not (is_mentioned items names (part c.0).term) && (part t.0).is_clean) h in
      let q = and_parts (not (is_mentioned items names (part c.0).term)) (part t.0).is_clean p.1 in
      λ i. then ((groups-mean gs (where_true broken (Some (part c.0).term) (body t)) (body_where (Some (meaning c.0)) (meaning t.0)) p.0 (condition-means c t q.0 q.1) env ∙ ap (λ g. visited g (body_where (Some (meaning c.0)) (meaning t.0)) (after env)) (groups-same gs)) i) (λ vs. integer (evaluation.aggregate op at (map number vs)))
  draft-means (Term-F.Call at op t) h env =
      let p = and_parts (is_absolute op) (part t.0).is_clean h in
      called-means (arrays env) ns op at ((part t.0).draft env) (eval t.0 (after env)) p.0 (t.1.0 p.1 env)
  draft-means (Term-F.AllDifferent at t) h env = t.1.1 h env
  draft-means (Term-F.Element at t ts) h env =
      let p = and_parts (part t.0).is_name (list_all (λ t. t.is_clean) (map part (map (λ e. e.0) ts))) h in
      (λ i. then (values-mean ts p.1 env i) (chosen (arrays env) ns at (array_at (arrays env) ns ((part t.0).array env))))
      ∙ then-each (values_of (map meaning (map (λ e. e.0) ts)) (after env)) (chosen (arrays env) ns at (array_at (arrays env) ns ((part t.0).array env))) (λ key. element at key ((meaning t.0).item (after env))) (t.1.2 p.0 env at)
  draft-means y h env = absurd (cc)

  cells-by : (y : Term-F InGroup InSet InStep InTerm) → name_layer (parts_of items names (inner y)) ≡ true → (env : Environment) →
      Ok (values.Bool (are_different (arrays env) ns (layer_cells items names (parts_of items names (inner y)) env))) ≡ differ (value_layer (meanings_of (inner y)) (after env))
  cells-by (Term-F.Named at name) h env = λ i. Ok (values.Bool (cells-mean items names ns declares fits (arrays env) name env i))
  cells-by (Term-F.Bracket at t) h env = t.1.1 h env
  cells-by y h env = absurd (cc)

  array-by : (y : Term-F InGroup InSet InStep InTerm) → name_layer (parts_of items names (inner y)) ≡ true → (env : Environment) (at : ℕ) (key : List Value) →
      chosen (arrays env) ns at (array_at (arrays env) ns (layer_array items names (parts_of items names (inner y)) env)) key ≡ element at key (item_layer (meanings_of (inner y)) (after env))
  array-by (Term-F.Named at name) h env place key = array-means items names ns declares fits name env place key
  array-by (Term-F.Bracket at t) h env place key = t.1.2 h env place key
  array-by y h env place key = absurd (cc)

  layer-means : (y : Term-F InGroup InSet InStep InTerm) → LayerMeans (inner y)
  layer-means y = (draft-means y, cells-by y, array-by y)

  -- a term means what its layer does, or is evaluated
  draft-either : (x : Term-F GroupTerm SetTerm Step Term) (b : Bool) → is_mentioned items names (roll-Term x) ≡ b → LayerMeans x →
      cond b (clean_layer items names (parts_of items names x)) true ≡ true → (env : Environment) →
      draft_value (arrays env) ns (cond b (live_layer items names (parts_of items names x) env) (data_draft (place_layer (parts_of items names x)) (eval (roll-Term x) env))) ≡ eval (roll-Term x) (after env)
  draft-either x true m layer h env = layer.0 h env ∙ sym (ap (λ m. m.value (after env)) (meaning-roll x))
  draft-either x false m layer h env = come-data (arrays env) ns (place_layer (parts_of items names x)) (eval (roll-Term x) env) ∙ sym (data-stays (roll-Term x) env m)

  means-by : (x : Term-F GroupTerm SetTerm Step Term) → LayerMeans x → Means (roll-Term x)
  means-by x layer =
      let b : Bool = is_mentioned items names (roll-Term x) in (
        (λ h env. ap (λ p. draft_value (arrays env) ns (p.draft env)) (part-form items names x) ∙ draft-either x b refl layer (sym (ap (λ p. p.is_clean) (part-form items names x)) ∙ h) env),
        (λ h env. ap (λ p. Ok (values.Bool (are_different (arrays env) ns (p.cells env)))) (part-form items names x) ∙ layer.1 (sym (ap (λ p. p.is_name) (part-form items names x)) ∙ h) env ∙ sym (ap (λ m. differ (m.value (after env))) (meaning-roll x))),
        (λ h env at key. ap (λ p. chosen (arrays env) ns at (array_at (arrays env) ns (p.array env)) key) (part-form items names x) ∙ layer.2 (sym (ap (λ p. p.is_name) (part-form items names x)) ∙ h) env at key ∙ sym (ap (λ m. element at key (m.item (after env))) (meaning-roll x))),
      )

  step-layer-means : (y : Step-F InGroup InSet InStep InTerm) → step_clean items names (step_parts items names (step_inner y)) ≡ true → (env : Environment) →
      step_value env (operand_layer items names (step_parts items names (step_inner y)) env) ≡ evaluation.step_layer (step_meanings (step_inner y)) (after env)
  step-layer-means (Step-F.Plus t) h env = λ i. found (λ v. operations.Plus (number v)) (t.1.0 h env i)
  step-layer-means (Step-F.Minus t) h env = λ i. found (λ v. operations.Minus (number v)) (t.1.0 h env i)
  step-layer-means (Step-F.Times t) h env = λ i. found (λ v. operations.Times (number v)) (t.1.0 h env i)
  step-layer-means (Step-F.Quotient t) h env = λ i. found (λ v. operations.Quotient (number v)) (t.1.0 h env i)
  step-layer-means (Step-F.Remainder t) h env = λ i. found (λ v. operations.Remainder (number v)) (t.1.0 h env i)

  step-by : (x : Step-F GroupTerm SetTerm Step Term) → (step_clean items names (step_parts items names x) ≡ true → (env : Environment) → step_value env (operand_layer items names (step_parts items names x) env) ≡ evaluation.step_layer (step_meanings x) (after env)) → StepMeans (roll-Step x)
  step-by x layer h env =
      ap (λ s. step_value env (s.draft env)) (step-roll items names x) ∙ layer (sym (ap (λ s. s.is_clean) (step-roll items names x)) ∙ h) env
      ∙ sym (ap (λ f. f (after env)) (step_meaning-roll x))

  pub term-means : (t : Term) → Means t
  term-means = ind-Term (λ g. Unit {0}) (λ s. Unit {0}) StepMeans Means
      (λ x y is. tt) (λ x y is. tt)
      (λ x y is. step-by x (subst (λ x. step_clean items names (step_parts items names x) ≡ true → (env : Environment) → step_value env (operand_layer items names (step_parts items names x) env) ≡ evaluation.step_layer (step_meanings x) (after env)) is (step-layer-means y)))
      (λ x y is. means-by x (subst LayerMeans is (layer-means y)))

pub unrolled_means : UnrolledMeans
unrolled_means items names ns env t declares fits h = (term-means items names ns declares fits t).0 h env
