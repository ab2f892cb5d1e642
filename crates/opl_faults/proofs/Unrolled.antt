-- Want of memory is no fault in what expressions are unrolled to.
use Rattle.std.proofs.Common.{◌≡◌, ℕ, Bool, true, false, cond, List, [], ◌∷◌, ◌++◌, map, Option, None, Some, Ok, Err, refl, ap, sym, subst, ◌∙◌}
use Rattle.std.specs.List.{flat_map}
use Rattle.opl_tree.specs.declared.expression.CallOp.{CallOp}
use Rattle.opl_tree.specs.declared.expression.CallOp.TheVariants.{Absolute, Cardinality}
use Rattle.opl_term.specs.declared.term.GroupTerm.{GroupTerm}
use Rattle.opl_term.specs.declared.term.GroupTerm.TheFolds.{map-Step, map-Term, ind-Term}
use Rattle.opl_term.specs.declared.term.GroupTerm.TheOpen.{Step-F, Term-F}
use Rattle.opl_term.specs.declared.term.GroupTerm.TheViews.{roll-Step, roll-Term}
use Rattle.opl_term.specs.declared.term.SetTerm.{SetTerm}
use Rattle.opl_term.specs.declared.term.Step.{Step}
use Rattle.opl_term.specs.declared.term.Term.{Term}
use Rattle.opl_value.specs.declared.value.IndexSpace.{IndexSpace}
use Rattle.opl_value.specs.declared.value.Value.{Value}
use Rattle.opl_eval.specs.Evaluation.{Environment, Found, Group, choices, declaration_of, elements, eval, group_meaning, is_true, with_parameters}
use Rattle.opl_eval.proofs.NoMemory.{GroupsReal, IsReal, Real, real_eval, real_groups_meaning}
use Rattle.opl_meaning.specs.declared.variable.VariableItem.{VariableItem}
use Rattle.opl_meaning.specs.Runs.{Names}
use Rattle.opl_draft.specs.Choices.{branched, or_stop, under_groups, where_true}
use Rattle.opl_draft.specs.Drafts.{Draft, DraftStep, Drafts, Steps, drafts_of, steps_of}
use Rattle.opl_draft.specs.Drafts.Draft.{broken}
use Rattle.opl_draft.specs.Drafts.Drafts.{no_drafts, more_drafts}
use Rattle.opl_draft.specs.Drafts.Steps.{no_steps, more_steps}
use Rattle.opl_draft.specs.Forms.{form_draft, form_place, form_step, step_in}
use Rattle.opl_draft.specs.Laws.{StepByForm, UnrolledByForm}
use Rattle.opl_draft.specs.Numbers.{Numbered}
use Rattle.opl_draft.specs.Unrolled.{called, data_draft, is_mentioned, named_draft, plain_draft, unrolled}

-- ---- drafts without want of memory

abbrev mutual
  pub IsCalm : Draft → Type 0
  IsCalm (Draft.known at v) = Unit {0}
  IsCalm (Draft.broken fault) = IsReal fault
  IsCalm (Draft.variable at x kind) = Unit {0}
  IsCalm (Draft.negated at d) = IsCalm d
  IsCalm (Draft.chain at d ss) = IsCalm d × AreCalmSteps ss
  IsCalm (Draft.related at r d e) = IsCalm d × IsCalm e
  IsCalm (Draft.equivalent at ds) = AreCalm ds
  IsCalm (Draft.implied at d e) = IsCalm d × IsCalm e
  IsCalm (Draft.one_of at ds) = AreCalm ds
  IsCalm (Draft.all_of at ds) = AreCalm ds
  IsCalm (Draft.opposite at d) = IsCalm d
  IsCalm (Draft.aggregate at op ds) = AreCalm ds
  IsCalm (Draft.absolute at d) = IsCalm d
  IsCalm (Draft.different at a) = Unit {0}
  IsCalm (Draft.element at k ds) = AreCalm ds

  pub AreCalm : Drafts → Type 0
  AreCalm no_drafts = Unit {0}
  AreCalm (more_drafts d ds) = IsCalm d × AreCalm ds

  pub AreCalmSteps : Steps → Type 0
  AreCalmSteps no_steps = Unit {0}
  AreCalmSteps (more_steps s d ss) = IsCalm d × AreCalmSteps ss

abbrev pub AllCalm : List Draft → Type 0
AllCalm [] = Unit {0}
AllCalm (d ∷ ds) = IsCalm d × AllCalm ds

listed-calm : (ds : List Draft) → AllCalm ds → AreCalm (drafts_of ds)
listed-calm [] h = tt
listed-calm (d ∷ ds) h = (h.0, listed-calm ds h.1)

append-calm : (ds es : List Draft) → AllCalm ds → AllCalm es → AllCalm (ds ++ es)
append-calm [] es h g = g
append-calm (d ∷ ds) es h g = (h.0, append-calm ds es h.1 g)

flat-calm : {A : Type 0} (f : A → List Draft) (xs : List A) → ((x : A) → AllCalm (f x)) → AllCalm (flat_map f xs)
flat-calm f [] h = tt
flat-calm f (x ∷ xs) h = append-calm (f x) (flat_map f xs) (h x) (flat-calm f xs h)

-- ---- choices

or-calm : {A : Type 0} (r : Found A) (next : A → List Draft) → Real r → ((a : A) → AllCalm (next a)) → AllCalm (or_stop broken r next)
unfolding Real
or-calm (Ok a) next h g = g a
or-calm (Err fault) next h g = (h, tt)

cond-calm : (b : Bool) (ds es : List Draft) → AllCalm ds → AllCalm es → AllCalm (cond b ds es)
cond-calm true ds es h g = h
cond-calm false ds es h g = g

where-calm : (c : Option Term) (inner : Environment → List Draft) → ((env : Environment) → AllCalm (inner env)) → (env : Environment) → AllCalm (where_true broken c inner env)
where-calm None inner h env = h env
where-calm (Some t) inner h env = or-calm (eval t env) (λ v. cond (is_true v) (inner env) []) (real_eval t env) (λ v. cond-calm (is_true v) (inner env) [] (h env) tt)

groups-calm : (gs : List Group) (inner : Environment → List Draft) → GroupsReal gs → ((env : Environment) → AllCalm (inner env)) → (env : Environment) → AllCalm (under_groups broken gs inner env)
groups-calm [] inner h g env = g env
groups-calm (p ∷ ps) inner h g env =
    or-calm (p.over.value env) (λ v. flat_map (λ qs. under_groups broken ps inner (with_parameters qs env)) (choices p (elements (declaration_of (p.over.item env)) v))) (h.0 env)
    (λ v. flat-calm (λ qs. under_groups broken ps inner (with_parameters qs env)) (choices p (elements (declaration_of (p.over.item env)) v)) (λ qs. groups-calm ps inner h.1 g (with_parameters qs env)))

-- ---- names and data

plain-calm : (at : ℕ) (v : VariableItem) (first : ℕ) (space : Option IndexSpace) → IsCalm (plain_draft at v first space)
plain-calm at v first None = tt
plain-calm at v first (Some space) = tt

named-calm : (at : ℕ) (v : Option Value) (x : Option Numbered) → IsCalm (named_draft at v x)
named-calm at (Some v) x = tt
named-calm at None (Some v) = plain-calm at v.item v.first v.item.space
named-calm at None None = tt

called-calm : (op : CallOp) (at : ℕ) (d : Draft) → IsCalm d → IsCalm (called op at d)
called-calm Absolute at d h = h
called-calm Cardinality at d h = tt

data-calm : (at : ℕ) (r : Found Value) → Real r → IsCalm (data_draft at r)
unfolding Real
data-calm at (Ok v) h = tt
data-calm at (Err fault) h = h

either-calm : (b : Bool) (d e : Draft) → IsCalm d → IsCalm e → IsCalm (cond b d e)
either-calm true d e h g = h
either-calm false d e h g = g

-- ---- terms

module _ (by_form : UnrolledByForm) (step_by_form : StepByForm) (items : List VariableItem) (names : Names) where
  abbrev TermCalm : Term → Type 0
  TermCalm t = (env : Environment) → IsCalm (unrolled items names t env)

  abbrev StepCalm : Step → Type 0
  StepCalm s = (env : Environment) → IsCalm (step_in items names s env).operand

  abbrev InGroup : Type 0
  InGroup = (g : GroupTerm) × Unit {0}

  abbrev InSet : Type 0
  InSet = (s : SetTerm) × Unit {0}

  abbrev InStep : Type 0
  InStep = (s : Step) × StepCalm s

  abbrev InTerm : Type 0
  InTerm = (t : Term) × TermCalm t

  abbrev inner : Term-F InGroup InSet InStep InTerm → Term-F GroupTerm SetTerm Step Term
  inner = map-Term InGroup InSet InStep InTerm GroupTerm SetTerm Step Term (λ e. e.0) (λ e. e.0) (λ e. e.0) (λ e. e.0)

  abbrev step_inner : Step-F InGroup InSet InStep InTerm → Step-F GroupTerm SetTerm Step Term
  step_inner = map-Step InGroup InSet InStep InTerm GroupTerm SetTerm Step Term (λ e. e.0) (λ e. e.0) (λ e. e.0) (λ e. e.0)

  drafts-calm : (es : List InTerm) (env : Environment) → AreCalm (drafts_of (map (λ t. unrolled items names t env) (map (λ e. e.0) es)))
  drafts-calm [] env = tt
  drafts-calm (e ∷ es) env = (e.1 env, drafts-calm es env)

  steps-calm : (es : List InStep) (env : Environment) → AreCalmSteps (steps_of (map (λ s. step_in items names s env) (map (λ e. e.0) es)))
  steps-calm [] env = tt
  steps-calm (e ∷ es) env = (e.1 env, steps-calm es env)

  bodies-calm : (gs : List GroupTerm) (c : Option Term) (t : InTerm) (env : Environment) →
      AllCalm (under_groups broken (map group_meaning gs) (where_true broken c (λ env. unrolled items names t.0 env ∷ [])) env)
  bodies-calm gs c t env =
      groups-calm (map group_meaning gs) (where_true broken c (λ env. unrolled items names t.0 env ∷ [])) (real_groups_meaning gs) (where-calm c (λ env. unrolled items names t.0 env ∷ []) (λ env. (t.1 env, tt))) env

  form-calm : (y : Term-F InGroup InSet InStep InTerm) (env : Environment) → IsCalm (form_draft items names (inner y) env)
  form-calm (Term-F.Number at n) env = tt
  form-calm (Term-F.Named at name) env = named-calm at _ _
  form-calm (Term-F.Bracket at t) env = t.1 env
  form-calm (Term-F.Negative at t) env = t.1 env
  form-calm (Term-F.Chain at t ss) env = (t.1 env, steps-calm ss env)
  form-calm (Term-F.Related at t r u) env = (t.1 env, u.1 env)
  form-calm (Term-F.Equivalent at ts) env = drafts-calm ts env
  form-calm (Term-F.Implied at t u) env = (t.1 env, u.1 env)
  form-calm (Term-F.Or at ts) env = drafts-calm ts env
  form-calm (Term-F.And at ts) env = drafts-calm ts env
  form-calm (Term-F.Not at t) env = t.1 env
  form-calm (Term-F.Aggregate at op gs None t) env = listed-calm _ (bodies-calm (map (λ e. e.0) gs) None t env)
  form-calm (Term-F.Aggregate at op gs (Some c) t) env = listed-calm _ (bodies-calm (map (λ e. e.0) gs) (Some c.0) t env)
  form-calm (Term-F.Call at op t) env = called-calm op at (unrolled items names t.0 env) (t.1 env)
  form-calm (Term-F.AllDifferent at t) env = tt
  form-calm (Term-F.Element at t ts) env = drafts-calm ts env
  form-calm (Term-F.Described at t gs None) env = tt
  form-calm (Term-F.Described at t gs (Some c)) env = tt
  form-calm y env = tt

  step-form-calm : (y : Step-F InGroup InSet InStep InTerm) (env : Environment) → IsCalm (form_step items names (step_inner y) env).operand
  step-form-calm (Step-F.Plus t) env = t.1 env
  step-form-calm (Step-F.Minus t) env = t.1 env
  step-form-calm (Step-F.Times t) env = t.1 env
  step-form-calm (Step-F.Quotient t) env = t.1 env
  step-form-calm (Step-F.Remainder t) env = t.1 env

  rolled-calm : (x : Term-F GroupTerm SetTerm Step Term) → ((env : Environment) → IsCalm (form_draft items names x env)) → TermCalm (roll-Term x)
  rolled-calm x h env =
      subst IsCalm (sym (by_form items names x env).draft)
      (either-calm (is_mentioned items names (roll-Term x)) (form_draft items names x env) (data_draft (form_place items names x) (eval (roll-Term x) env)) (h env) (data-calm (form_place items names x) (eval (roll-Term x) env) (real_eval (roll-Term x) env)))

  rolled-step-calm : (x : Step-F GroupTerm SetTerm Step Term) → ((env : Environment) → IsCalm (form_step items names x env).operand) → StepCalm (roll-Step x)
  rolled-step-calm x h env = subst (λ s. IsCalm s.operand) (sym (step_by_form items names x env)) (h env)

  pub term-calm : (t : Term) → TermCalm t
  term-calm = ind-Term (λ g. Unit {0}) (λ s. Unit {0}) StepCalm TermCalm
      (λ x y is. tt) (λ x y is. tt)
      (λ x y is. rolled-step-calm x (subst (λ z. (env : Environment) → IsCalm (form_step items names z env).operand) is (step-form-calm y)))
      (λ x y is. rolled-calm x (subst (λ z. (env : Environment) → IsCalm (form_draft items names z env)) is (form-calm y)))
