-- What an unrolled expression is, form by form, by what its parts are.
use Rattle.std.specs.Prelude.{◌≡◌, ℕ, pos, Bool, true, false, not, ◌&&◌, cond, List, [], ◌∷◌, map, Option, None}
use Rattle.std.specs.List.{list_all}
use Rattle.opl_term.specs.declared.term.GroupTerm.{GroupTerm}
use Rattle.opl_term.specs.declared.term.SetTerm.{SetTerm}
use Rattle.opl_term.specs.declared.term.Step.{Step}
use Rattle.opl_term.specs.declared.term.Term.{Term}
use Rattle.opl_term.specs.declared.term.GroupTerm.TheOpen.{Step-F, Term-F}
use Rattle.opl_term.specs.declared.term.GroupTerm.TheViews.{roll-Term}
use Rattle.opl_value.specs.declared.value.Value.TheVariants as values
use Rattle.opl_eval.specs.Evaluation.{Environment, eval, group_meaning, parameter_or}
use Rattle.opl_meaning.specs.declared.variable.VariableItem.{VariableItem}
use Rattle.opl_meaning.specs.Runs.{Names, at_layer, group_use}
use Rattle.opl_draft.specs.Choices.{under}
use Rattle.opl_draft.specs.Drafts.{Cells, Draft, DraftStep, Drafts, Steps, drafts_of, steps_of}
use Rattle.opl_draft.specs.Drafts.Draft.{known, broken, negated, chain, related, equivalent, implied, one_of, all_of, opposite, aggregate, different, element}
use Rattle.opl_draft.specs.Drafts.Sign.{plus, minus, times, quotient, remainder}
use Rattle.opl_draft.specs.Numbers.{array_or, cells_or, entries, variable_named}
use Rattle.opl_draft.specs.Unrolled.{called, data_draft, has_no_variable, is_absolute, is_clean, is_mentioned, is_plain_variable, named_array, named_cells, named_draft, part_of, step_part, unrolled}

-- with these decision variables, which have these names
module _ (items : List VariableItem) (names : Names) where
  -- ---- parts

  -- the place of a term's first token, which for a bracket is that of the expression inside
  abbrev pub place : Term → ℕ
  place t = (part_of items names t).at

  -- whether a term is a name, in brackets or not; the elements of that name, and the number of its array
  abbrev pub is_name : Term → Bool
  is_name t = (part_of items names t).is_name

  abbrev pub cells_in : Term → Environment → Option Cells
  cells_in t env = (part_of items names t).cells env

  abbrev pub array_in : Term → Environment → Option ℕ
  array_in t env = (part_of items names t).array env

  -- several terms unrolled
  abbrev pub drafts_in : List Term → Environment → Drafts
  drafts_in ts env = drafts_of (map (λ t. unrolled items names t env) ts)

  -- a step unrolled, and several of them
  abbrev pub step_in : Step → Environment → DraftStep
  step_in s env = (step_part items names s).draft env

  abbrev pub steps_in : List Step → Environment → Steps
  steps_in ss env = steps_of (map (λ s. step_in s env) ss)

  abbrev pub is_clean_step : Step → Bool
  is_clean_step s = (step_part items names s).is_clean

  -- the body of an aggregate unrolled, under all choices of its groups for which its condition holds
  abbrev pub bodies_in : List GroupTerm → Option Term → Term → Environment → List Draft
  bodies_in groups condition body env = under broken (map group_meaning groups) condition (λ env. unrolled items names body env ∷ []) env

  -- ---- forms

  -- an expression in which variables are named
  abbrev pub form_draft : Term-F GroupTerm SetTerm Step Term → Environment → Draft
  form_draft (Term-F.Number at n) env = known at (values.Int n)
  form_draft (Term-F.Named at name) env = named_draft at (parameter_or None name env.parameters) (variable_named name items)
  form_draft (Term-F.Bracket at t) env = unrolled items names t env
  form_draft (Term-F.Negative at t) env = negated at (unrolled items names t env)
  form_draft (Term-F.Chain at first steps) env = chain at (unrolled items names first env) (steps_in steps env)
  form_draft (Term-F.Related at left relation right) env = related at relation (unrolled items names left env) (unrolled items names right env)
  form_draft (Term-F.Equivalent at ts) env = equivalent at (drafts_in ts env)
  form_draft (Term-F.Implied at premise conclusion) env = implied at (unrolled items names premise env) (unrolled items names conclusion env)
  form_draft (Term-F.Or at ts) env = one_of at (drafts_in ts env)
  form_draft (Term-F.And at ts) env = all_of at (drafts_in ts env)
  form_draft (Term-F.Not at t) env = opposite at (unrolled items names t env)
  form_draft (Term-F.Aggregate at op groups condition body) env = aggregate at op (drafts_of (bodies_in groups condition body env))
  form_draft (Term-F.Call at op t) env = called op at (unrolled items names t env)
  form_draft (Term-F.AllDifferent at t) env = different at (cells_in t env)
  form_draft (Term-F.Element at base subscripts) env = element at (array_in base env) (drafts_in subscripts env)
  form_draft t env = known 0 (values.Int (pos 0))

  abbrev pub form_place : Term-F GroupTerm SetTerm Step Term → ℕ
  form_place (Term-F.Bracket at t) = place t
  form_place t = at_layer t

  abbrev pub form_name : Term-F GroupTerm SetTerm Step Term → Bool
  form_name (Term-F.Named at name) = true
  form_name (Term-F.Bracket at t) = is_name t
  form_name t = false

  -- what is clean where variables are named in it
  abbrev pub form_clean : Term-F GroupTerm SetTerm Step Term → Bool
  form_clean (Term-F.Number at n) = true
  form_clean (Term-F.Named at name) = is_plain_variable (variable_named name items)
  form_clean (Term-F.Bracket at t) = is_clean items names t
  form_clean (Term-F.Negative at t) = is_clean items names t
  form_clean (Term-F.Chain at first steps) = is_clean items names first && list_all is_clean_step steps
  form_clean (Term-F.Related at left relation right) = is_clean items names left && is_clean items names right
  form_clean (Term-F.Equivalent at ts) = list_all (is_clean items names) ts
  form_clean (Term-F.Implied at premise conclusion) = is_clean items names premise && is_clean items names conclusion
  form_clean (Term-F.Or at ts) = list_all (is_clean items names) ts
  form_clean (Term-F.And at ts) = list_all (is_clean items names) ts
  form_clean (Term-F.Not at t) = is_clean items names t
  form_clean (Term-F.Aggregate at op groups condition body) = list_all (λ g. not (group_use names g)) groups && (has_no_variable items names condition && is_clean items names body)
  form_clean (Term-F.Call at op t) = is_absolute op && is_clean items names t
  form_clean (Term-F.AllDifferent at t) = is_name t
  form_clean (Term-F.Element at base subscripts) = is_name base && list_all (is_clean items names) subscripts
  form_clean t = false

  abbrev pub form_cells : Term-F GroupTerm SetTerm Step Term → Environment → Option Cells
  form_cells (Term-F.Named at name) env = named_cells (parameter_or None name env.parameters) (cells_or None name (entries env.items items))
  form_cells (Term-F.Bracket at t) env = cells_in t env
  form_cells t env = None

  abbrev pub form_array : Term-F GroupTerm SetTerm Step Term → Environment → Option ℕ
  form_array (Term-F.Named at name) env = named_array (parameter_or None name env.parameters) (array_or None 0 name (entries env.items items))
  form_array (Term-F.Bracket at t) env = array_in t env
  form_array t env = None

  abbrev pub form_step : Step-F GroupTerm SetTerm Step Term → Environment → DraftStep
  form_step (Step-F.Plus t) env = record { sign = plus; operand = unrolled items names t env }
  form_step (Step-F.Minus t) env = record { sign = minus; operand = unrolled items names t env }
  form_step (Step-F.Times t) env = record { sign = times; operand = unrolled items names t env }
  form_step (Step-F.Quotient t) env = record { sign = quotient; operand = unrolled items names t env }
  form_step (Step-F.Remainder t) env = record { sign = remainder; operand = unrolled items names t env }

  -- ---- equations

  -- a term of this form is unrolled as a whole, where it names no variable, else by its parts
  abbrev pub IsByForm : Term-F GroupTerm SetTerm Step Term → Environment → Type 0
  IsByForm x env = unrolled items names (roll-Term x) env ≡ cond (is_mentioned items names (roll-Term x)) (form_draft x env) (data_draft (form_place x) (eval (roll-Term x) env))

  -- that, whether it is clean, its place, whether it is a name, and what stands behind the name
  pub record HasForm (x : Term-F GroupTerm SetTerm Step Term) (env : Environment) : Type 0 where
    pub draft : IsByForm x env
    pub clean : is_clean items names (roll-Term x) ≡ cond (is_mentioned items names (roll-Term x)) (form_clean x) true
    pub at : place (roll-Term x) ≡ form_place x
    pub name : is_name (roll-Term x) ≡ form_name x
    pub cells : cells_in (roll-Term x) env ≡ form_cells x env
    pub array : array_in (roll-Term x) env ≡ form_array x env
