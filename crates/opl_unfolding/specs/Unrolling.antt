-- What each form of terms is unrolled to, and what a term and an item give under one choice of parameters.
use Rattle.std.specs.Prelude.{◌≡◌, ℕ, ℤ, pos, List, [], ◌∷◌, Option, None}
use Rattle.opl_tree.specs.declared.expression.AggregateOp.{AggregateOp}
use Rattle.opl_tree.specs.declared.expression.CallOp.{CallOp}
use Rattle.opl_tree.specs.declared.expression.QuestionOp.{QuestionOp}
use Rattle.opl_tree.specs.declared.expression.Relation.{Relation}
use Rattle.opl_term.specs.declared.term.FieldName.{FieldName}
use Rattle.opl_term.specs.declared.term.GroupTerm.{GroupTerm}
use Rattle.opl_term.specs.declared.term.GroupTerm.TheViews.{out-Term}
use Rattle.opl_term.specs.declared.term.SetTerm.{SetTerm}
use Rattle.opl_term.specs.declared.term.Step.{Step}
use Rattle.opl_term.specs.declared.term.Step.TheVariants as steps
use Rattle.opl_term.specs.declared.term.Term.{Term}
use Rattle.opl_term.specs.declared.term.Term.TheVariants as terms
use Rattle.opl_value.specs.declared.value.Value.TheVariants as values
use Rattle.opl_eval.specs.Evaluation.{Environment, eval, parameter_or}
use Rattle.opl_meaning.specs.declared.variable.VariableItem.{VariableItem}
use Rattle.opl_meaning.specs.Runs.{Names}
use Rattle.opl_draft.specs.Drafts.{Draft, drafts_of}
use Rattle.opl_draft.specs.Drafts.Sign.{plus, minus, times, quotient, remainder}
use Rattle.opl_draft.specs.Forms.{array_in, bodies_in, cells_in, drafts_in, form_draft, place, step_in, steps_in}
use Rattle.opl_draft.specs.Instances.{Instance, Instances}
use Rattle.opl_draft.specs.Numbers.{variable_named}
use Rattle.opl_draft.specs.Unrolled.{called, data_draft, named_draft, unrolled}
use Rattle.opl_groups.specs.Met.{Met}

-- with these decision variables, which have these names
module _ (items : List VariableItem) (names : Names) where
  -- An expression in which variables are named, unrolled by its form.
  abbrev pub live_draft : Term → Environment → Draft
  live_draft t env = form_draft items names (out-Term t) env

  -- An expression without variables, evaluated.
  abbrev pub value_draft : Term → Environment → Draft
  value_draft t env = data_draft (place items names t) (eval t env)

  -- What typing lets no variable stand in.
  abbrev pub no_draft : Draft
  no_draft = Draft.known 0 (values.Int (pos 0))

  -- The drafts of the forms of terms, by those of their parts.
  pub record HasDrafts (env : Environment) : Type 0 where
    pub number : (at : ℕ) (n : ℤ) → live_draft (terms.Number at n) env ≡ Draft.known at (values.Int n)
    pub named : (at : ℕ) (name : List ℕ) → live_draft (terms.Named at name) env ≡ named_draft at (parameter_or None name env.parameters) (variable_named name items)
    pub bracket : (at : ℕ) (t : Term) → live_draft (terms.Bracket at t) env ≡ unrolled items names t env
    pub negative : (at : ℕ) (t : Term) → live_draft (terms.Negative at t) env ≡ Draft.negated at (unrolled items names t env)
    pub chain : (at : ℕ) (t : Term) (ss : List Step) → live_draft (terms.Chain at t ss) env ≡ Draft.chain at (unrolled items names t env) (steps_in items names ss env)
    pub related : (at : ℕ) (t : Term) (r : Relation) (u : Term) → live_draft (terms.Related at t r u) env ≡ Draft.related at r (unrolled items names t env) (unrolled items names u env)
    pub member : (at : ℕ) (t : Term) (s : SetTerm) → live_draft (terms.Member at t s) env ≡ no_draft
    pub equivalent : (at : ℕ) (ts : List Term) → live_draft (terms.Equivalent at ts) env ≡ Draft.equivalent at (drafts_in items names ts env)
    pub implied : (at : ℕ) (t : Term) (u : Term) → live_draft (terms.Implied at t u) env ≡ Draft.implied at (unrolled items names t env) (unrolled items names u env)
    pub one_of : (at : ℕ) (ts : List Term) → live_draft (terms.Or at ts) env ≡ Draft.one_of at (drafts_in items names ts env)
    pub all_of : (at : ℕ) (ts : List Term) → live_draft (terms.And at ts) env ≡ Draft.all_of at (drafts_in items names ts env)
    pub opposite : (at : ℕ) (t : Term) → live_draft (terms.Not at t) env ≡ Draft.opposite at (unrolled items names t env)
    pub aggregate : (at : ℕ) (op : AggregateOp) (gs : List GroupTerm) (c : Option Term) (t : Term) → live_draft (terms.Aggregate at op gs c t) env ≡ Draft.aggregate at op (drafts_of (bodies_in items names gs c t env))
    pub call : (at : ℕ) (op : CallOp) (t : Term) → live_draft (terms.Call at op t) env ≡ called op at (unrolled items names t env)
    pub different : (at : ℕ) (t : Term) → live_draft (terms.AllDifferent at t) env ≡ Draft.different at (cells_in items names t env)
    pub question : (at : ℕ) (op : QuestionOp) (t : Term) → live_draft (terms.Question at op t) env ≡ no_draft
    pub element : (at : ℕ) (t : Term) (ts : List Term) → live_draft (terms.Element at t ts) env ≡ Draft.element at (array_in items names t env) (drafts_in items names ts env)
    pub fields : (at : ℕ) (t : Term) (fs : List FieldName) → live_draft (terms.Fields at t fs) env ≡ no_draft
    pub recorded : (at : ℕ) (ts : List Term) → live_draft (terms.Record at ts) env ≡ no_draft
    pub listed : (at : ℕ) (ts : List Term) → live_draft (terms.Listed at ts) env ≡ no_draft
    pub described : (at : ℕ) (t : Term) (gs : List GroupTerm) (c : Option Term) → live_draft (terms.Described at t gs c) env ≡ no_draft
    pub array : (at : ℕ) (ts : List Term) → live_draft (terms.Array at ts) env ≡ no_draft
    pub keyed : (at : ℕ) (ts us : List Term) → live_draft (terms.KeyedArray at ts us) env ≡ no_draft

  -- The drafts of the forms of steps, by those of their operands.
  pub record HasSteps (env : Environment) : Type 0 where
    pub plus : (t : Term) → step_in items names (steps.Plus t) env ≡ record { sign = plus; operand = unrolled items names t env }
    pub minus : (t : Term) → step_in items names (steps.Minus t) env ≡ record { sign = minus; operand = unrolled items names t env }
    pub times : (t : Term) → step_in items names (steps.Times t) env ≡ record { sign = times; operand = unrolled items names t env }
    pub quotient : (t : Term) → step_in items names (steps.Quotient t) env ≡ record { sign = quotient; operand = unrolled items names t env }
    pub remainder : (t : Term) → step_in items names (steps.Remainder t) env ≡ record { sign = remainder; operand = unrolled items names t env }

  -- What a body is unrolled to under a choice of parameters, or the fault at which choices stop.
  abbrev pub body_met : Term → Met → Draft
  body_met t (Met.chosen env) = unrolled items names t env
  body_met t (Met.stopped fault) = Draft.broken fault

-- What items give under a choice, or the fault at which choices stop.
abbrev pub instances_met : Instances → Met → List Instance
instances_met inner (Met.chosen env) = inner env
instances_met inner (Met.stopped fault) = Instance.stopped fault ∷ []
