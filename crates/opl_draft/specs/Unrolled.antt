-- Expressions unrolled into drafts: what names no decision variable is evaluated, aggregates are written out over their elements, and
-- names of variables become numbers.
use Rattle.std.specs.Prelude.{ℕ, pos, Bool, true, false, not, ◌&&◌, cond, List, [], ◌∷◌, map, Option, Some, None, Ok, Err}
use Rattle.std.specs.List.{list_all}
use Rattle.std.specs.Option.{option_map}
use Rattle.opl_tree.specs.declared.expression.CallOp.{CallOp}
use Rattle.opl_tree.specs.declared.expression.CallOp.TheVariants.{Absolute, Cardinality}
use Rattle.opl_term.specs.declared.term.GroupTerm.{GroupTerm}
use Rattle.opl_term.specs.declared.term.SetTerm.{SetTerm}
use Rattle.opl_term.specs.declared.term.Step.{Step}
use Rattle.opl_term.specs.declared.term.Term.{Term}
use Rattle.opl_term.specs.declared.term.GroupTerm.TheOpen.{GroupTerm-F, SetTerm-F, Step-F, Term-F}
use Rattle.opl_term.specs.declared.term.GroupTerm.TheFolds.{fold-Step, fold-Term, map-GroupTerm, map-SetTerm, map-Step, map-Term}
use Rattle.opl_term.specs.declared.term.GroupTerm.TheViews.{roll-GroupTerm, roll-SetTerm, roll-Step, roll-Term}
use Rattle.opl_value.specs.declared.value.IndexSpace.{IndexSpace}
use Rattle.opl_value.specs.declared.value.Value.{Value}
use Rattle.opl_value.specs.declared.value.Value.TheVariants as values
use Rattle.opl_eval.specs.Evaluation.{Environment, Found, eval, group_meaning, parameter_or}
use Rattle.opl_meaning.specs.declared.variable.VariableItem.{VariableItem}
use Rattle.opl_meaning.specs.Runs.{Names, at_layer, group_use, use_of}
use Rattle.opl_draft.specs.Choices.{under}
use Rattle.opl_draft.specs.Drafts.{Cells, Draft, DraftStep, Drafts, drafts_of, steps_of}
use Rattle.opl_draft.specs.Drafts.Draft.{known, broken, variable, negated, chain, related, equivalent, implied, one_of, all_of, opposite, aggregate, absolute, different, element}
use Rattle.opl_draft.specs.Drafts.Sign.{plus, minus, times, quotient, remainder}
use Rattle.opl_draft.specs.Numbers.{Numbered, array_or, cells_or, data_cells, entries, variable_named}

-- ---- names

-- a variable, where it is no array; an array stands nowhere alone, which typing sees to
abbrev pub plain_draft : ℕ → VariableItem → ℕ → Option IndexSpace → Draft
plain_draft at v first None = variable at first v.kind
plain_draft at v first (Some space) = known at (values.Int (pos 0))

-- a name: the parameter of that name, else the variable
abbrev pub named_draft : ℕ → Option Value → Option Numbered → Draft
named_draft at (Some v) x = known at v
named_draft at None (Some v) = plain_draft at v.item v.first v.item.space
named_draft at None None = known at (values.Int (pos 0))

-- the elements of a name: those of the parameter's value, else those of the declared array
abbrev pub named_cells : Option Value → Option Cells → Option Cells
named_cells (Some v) cells = data_cells [] v
named_cells None cells = cells

-- the number of a name's array; a parameter has none
abbrev pub named_array : Option Value → Option ℕ → Option ℕ
named_array (Some v) k = None
named_array None k = k

-- whether a name is that of a variable that is no array
abbrev pub has_no_space : Option IndexSpace → Bool
has_no_space None = true
has_no_space (Some space) = false

abbrev pub is_plain_variable : Option Numbered → Bool
is_plain_variable None = false
is_plain_variable (Some v) = has_no_space v.item.space

-- ---- parts

-- what an expression without variables comes to
abbrev pub data_draft : ℕ → Found Value → Draft
data_draft at (Ok v) = known at v
data_draft at (Err fault) = broken fault

-- of a term: itself; the place of its first token, which for a bracket is that of the expression inside; whether it is a name; whether
-- variables stand only where they may; its draft; and of a name its elements and the number of its array
pub record Part : Type 0 where
  pub term : Term
  pub at : ℕ
  pub is_name : Bool
  pub is_clean : Bool
  pub draft : Environment → Draft
  pub cells : Environment → Option Cells
  pub array : Environment → Option ℕ

-- of a step: itself, whether its operand is clean, and its draft
pub record StepPart : Type 0 where
  pub step : Step
  pub is_clean : Bool
  pub draft : Environment → DraftStep

abbrev pub place_layer : {A B C : Type 0} → Term-F A B C Part → ℕ
place_layer (Term-F.Bracket at t) = t.at
place_layer t = at_layer t

-- a name, in brackets or not
abbrev pub name_layer : {A B C : Type 0} → Term-F A B C Part → Bool
name_layer (Term-F.Named at name) = true
name_layer (Term-F.Bracket at t) = t.is_name
name_layer t = false

-- `abs(a)`; `card(S)` is of data alone
abbrev pub is_absolute : CallOp → Bool
is_absolute Absolute = true
is_absolute Cardinality = false

abbrev pub called : CallOp → ℕ → Draft → Draft
called Absolute at d = absolute at d
called Cardinality at d = known at (values.Int (pos 0))

abbrev pub all_drafts : List Part → Environment → Drafts
all_drafts ts env = drafts_of (map (λ t. t.draft env) ts)

-- with these decision variables, which have these names
module _ (items : List VariableItem) (names : Names) where
  -- ---- where variables may stand

  abbrev pub is_mentioned : Term → Bool
  is_mentioned t = (use_of names t).is_mentioned

  -- a condition, if there is one, that names no variable
  abbrev pub has_no_variable : Option Term → Bool
  has_no_variable None = true
  has_no_variable (Some condition) = not (is_mentioned condition)

  -- an expression in which variables are named is clean where they stand as numbers, names or truths alone: not in a set, a condition of
  -- parameters, a record, or where typing wants data otherwise. Typing rules out all else.
  abbrev pub clean_layer : Term-F GroupTerm SetTerm StepPart Part → Bool
  clean_layer (Term-F.Number at n) = true
  clean_layer (Term-F.Named at name) = is_plain_variable (variable_named name items)
  clean_layer (Term-F.Bracket at t) = t.is_clean
  clean_layer (Term-F.Negative at t) = t.is_clean
  clean_layer (Term-F.Chain at first steps) = first.is_clean && list_all (λ s. s.is_clean) steps
  clean_layer (Term-F.Related at left relation right) = left.is_clean && right.is_clean
  clean_layer (Term-F.Equivalent at ts) = list_all (λ t. t.is_clean) ts
  clean_layer (Term-F.Implied at premise conclusion) = premise.is_clean && conclusion.is_clean
  clean_layer (Term-F.Or at ts) = list_all (λ t. t.is_clean) ts
  clean_layer (Term-F.And at ts) = list_all (λ t. t.is_clean) ts
  clean_layer (Term-F.Not at t) = t.is_clean
  clean_layer (Term-F.Aggregate at op groups condition body) = list_all (λ g. not (group_use names g)) groups && (has_no_variable (option_map (λ c. c.term) condition) && body.is_clean)
  clean_layer (Term-F.Call at op t) = is_absolute op && t.is_clean
  clean_layer (Term-F.AllDifferent at t) = t.is_name
  clean_layer (Term-F.Element at base subscripts) = base.is_name && list_all (λ t. t.is_clean) subscripts
  clean_layer t = false

  -- ---- one layer of terms

  abbrev pub layer_cells : {A B C : Type 0} → Term-F A B C Part → Environment → Option Cells
  layer_cells (Term-F.Named at name) env = named_cells (parameter_or None name env.parameters) (cells_or None name (entries env.items items))
  layer_cells (Term-F.Bracket at t) env = t.cells env
  layer_cells t env = None

  abbrev pub layer_array : {A B C : Type 0} → Term-F A B C Part → Environment → Option ℕ
  layer_array (Term-F.Named at name) env = named_array (parameter_or None name env.parameters) (array_or None 0 name (entries env.items items))
  layer_array (Term-F.Bracket at t) env = t.array env
  layer_array t env = None

  -- an expression in which variables are named, from its parts
  abbrev pub live_layer : Term-F GroupTerm SetTerm StepPart Part → Environment → Draft
  live_layer (Term-F.Number at n) env = known at (values.Int n)
  live_layer (Term-F.Named at name) env = named_draft at (parameter_or None name env.parameters) (variable_named name items)
  live_layer (Term-F.Bracket at t) env = t.draft env
  live_layer (Term-F.Negative at t) env = negated at (t.draft env)
  live_layer (Term-F.Chain at first steps) env = chain at (first.draft env) (steps_of (map (λ s. s.draft env) steps))
  live_layer (Term-F.Related at left relation right) env = related at relation (left.draft env) (right.draft env)
  live_layer (Term-F.Equivalent at ts) env = equivalent at (all_drafts ts env)
  live_layer (Term-F.Implied at premise conclusion) env = implied at (premise.draft env) (conclusion.draft env)
  live_layer (Term-F.Or at ts) env = one_of at (all_drafts ts env)
  live_layer (Term-F.And at ts) env = all_of at (all_drafts ts env)
  live_layer (Term-F.Not at t) env = opposite at (t.draft env)
  live_layer (Term-F.Aggregate at op groups condition body) env =
      aggregate at op (drafts_of (under broken (map group_meaning groups) (option_map (λ c. c.term) condition) (λ env. body.draft env ∷ []) env))
  live_layer (Term-F.Call at op t) env = called op at (t.draft env)
  live_layer (Term-F.AllDifferent at t) env = different at (t.cells env)
  live_layer (Term-F.Element at base subscripts) env = element at (base.array env) (all_drafts subscripts env)
  live_layer t env = known 0 (values.Int (pos 0))

  -- a term again, from its parts
  abbrev pub again : Term-F GroupTerm SetTerm StepPart Part → Term
  again t = roll-Term (map-Term GroupTerm SetTerm StepPart Part GroupTerm SetTerm Step Term (λ g. g) (λ s. s) (λ s. s.step) (λ p. p.term) t)

  abbrev pub step_again : Step-F GroupTerm SetTerm StepPart Part → Step
  step_again t = roll-Step (map-Step GroupTerm SetTerm StepPart Part GroupTerm SetTerm Step Term (λ g. g) (λ s. s) (λ s. s.step) (λ p. p.term) t)

  abbrev pub set_again : SetTerm-F GroupTerm SetTerm StepPart Part → SetTerm
  set_again t = roll-SetTerm (map-SetTerm GroupTerm SetTerm StepPart Part GroupTerm SetTerm Step Term (λ g. g) (λ s. s) (λ s. s.step) (λ p. p.term) t)

  abbrev pub group_again : GroupTerm-F GroupTerm SetTerm StepPart Part → GroupTerm
  group_again t = roll-GroupTerm (map-GroupTerm GroupTerm SetTerm StepPart Part GroupTerm SetTerm Step Term (λ g. g) (λ s. s) (λ s. s.step) (λ p. p.term) t)

  -- the part of a term that has these parts, whether variables are named in it or not
  abbrev pub part_with : Bool → Term → Term-F GroupTerm SetTerm StepPart Part → Part
  part_with has_variables t parts = record {
    term = t;
    at = place_layer parts;
    is_name = name_layer parts;
    is_clean = cond has_variables (clean_layer parts) true;
    draft = λ env. cond has_variables (live_layer parts env) (data_draft (place_layer parts) (eval t env));
    cells = layer_cells parts;
    array = layer_array parts;
  }

  abbrev pub part_layer : Term-F GroupTerm SetTerm StepPart Part → Part
  part_layer parts = part_with (is_mentioned (again parts)) (again parts) parts

  -- the part of a step
  abbrev pub operand_layer : {A B C : Type 0} → Step-F A B C Part → Environment → DraftStep
  operand_layer (Step-F.Plus t) env = record { sign = plus; operand = t.draft env }
  operand_layer (Step-F.Minus t) env = record { sign = minus; operand = t.draft env }
  operand_layer (Step-F.Times t) env = record { sign = times; operand = t.draft env }
  operand_layer (Step-F.Quotient t) env = record { sign = quotient; operand = t.draft env }
  operand_layer (Step-F.Remainder t) env = record { sign = remainder; operand = t.draft env }

  abbrev pub step_clean : {A B C : Type 0} → Step-F A B C Part → Bool
  step_clean (Step-F.Plus t) = t.is_clean
  step_clean (Step-F.Minus t) = t.is_clean
  step_clean (Step-F.Times t) = t.is_clean
  step_clean (Step-F.Quotient t) = t.is_clean
  step_clean (Step-F.Remainder t) = t.is_clean

  abbrev pub step_layer : Step-F GroupTerm SetTerm StepPart Part → StepPart
  step_layer s = record { step = step_again s; is_clean = step_clean s; draft = operand_layer s }

  -- ---- terms

  unfoldable pub part_of : Term → Part
  part_of = fold-Term GroupTerm SetTerm StepPart Part group_again set_again step_layer part_layer

  unfoldable pub step_part : Step → StepPart
  step_part = fold-Step GroupTerm SetTerm StepPart Part group_again set_again step_layer part_layer

  -- whether variables stand in an expression only where they may
  abbrev pub is_clean : Term → Bool
  is_clean t = (part_of t).is_clean

  -- an expression unrolled, where the visible names have these values
  abbrev pub unrolled : Term → Environment → Draft
  unrolled t env = (part_of t).draft env
