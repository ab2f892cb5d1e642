-- What forms are made for and of what, and what the functions that make them answer.
use Rattle.std.specs.Prelude.{◌≡◌, ℕ, ◌+◌, pos, List, [], ◌∷◌, ◌++◌, map, Option, Result, Ok, Err}
use Rattle.opl_tree.specs.declared.expression.Relation.{Relation}
use Rattle.opl_term.specs.declared.term.Step.{Step}
use Rattle.opl_term.specs.declared.term.Term.{Term}
use Rattle.opl_value.specs.declared.value.Value.{Value}
use Rattle.opl_value.specs.declared.value.Value.TheVariants as values
use Rattle.opl_eval.specs.declared.environment.Environment as code
use Rattle.opl_eval.specs.Evaluation.{Environment}
use Rattle.opl_eval.specs.Visible.{seen}
use Rattle.opl_meaning.specs.declared.variable.VariableItem.{VariableItem}
use Rattle.opl_meaning.specs.Runs.{Names}
use Rattle.opl_draft.specs.Drafts.{Draft, DraftStep, drafts_of, steps_of}
use Rattle.opl_draft.specs.Forms.{step_in}
use Rattle.opl_draft.specs.Numbers.{arrays_of, entries}
use Rattle.opl_draft.specs.Unrolled.{unrolled}
use Rattle.opl_form.specs.Made.{array_of, made, made_first, made_same, made_steps, place}
use Rattle.opl_form.specs.Measures.{all_nodes, part_nodes}
use Rattle.opl_form.specs.Nodes as nodes
use Rattle.opl_form.specs.Nodes.{Made, next}
use Rattle.opl_form.specs.Parts.{Form}
use Rattle.opl_groups.specs.declared.scope.Scope.{Scope}
use Rattle.opl_groups.specs.Visits.{sees}
use Rattle.opl_nodes.specs.declared.context.Context.{Context}
use Rattle.opl_nodes.specs.declared.fault.FormFault.{FormFault}
use Rattle.opl_nodes.specs.declared.parts.Parts.{Parts}
use Rattle.opl_nodes.specs.Contexts.{arrays, sets}
use Rattle.opl_nodes.specs.Pieces.{AreParts, Refuses, forms}
use Rattle.opl_declared.specs.Kept.{IsDeclared, names_in}
use Rattle.opl_unfolding.specs.Onto.{Maker, onto, operand_made, same_made, step_made, truth_made}
use Rattle.opl_making.specs.declared.site.Site.{Site}

-- ---- sites

-- The decision variables, and their names.
abbrev pub items : Site → List VariableItem
items s = s.declared.now.items.now

abbrev pub names : Site → Names
names s = names_in s.declared.now

-- What is kept is right for the declared names of an environment: what each name stands for, and all arrays, each with its number.
pub record IsSite (s : Site) (env : code.Environment) : Type 0 where
  pub declared : IsDeclared s.declared.now (seen env).items
  pub numbered : arrays s.context.now ≡ arrays_of (entries (seen env).items s.declared.now.items.now)

-- ---- drafts and their forms

-- What a term is unrolled to, and several.
abbrev pub draft : Site → Scope → Term → Draft
draft s scope t = unrolled (items s) (names s) t (sees scope)

abbrev pub drafts : Site → Scope → List Term → List Draft
drafts s scope ts = map (λ t. unrolled (items s) (names s) t (sees scope)) ts

-- The same under any values of the visible names.
abbrev pub draft_under : Site → Term → Environment → Draft
draft_under s t env = unrolled (items s) (names s) t env

-- A step unrolled, and several.
abbrev pub step_draft : Site → Scope → Step → DraftStep
step_draft s scope t = step_in (items s) (names s) t (sees scope)

abbrev pub step_drafts : Site → Scope → List Step → List DraftStep
step_drafts s scope ts = map (λ t. step_in (items s) (names s) t (sees scope)) ts

-- A value, and the number 0, which stands for what typing rules out.
abbrev pub known : ℕ → Value → Draft
known at v = Draft.known at v

abbrev pub nothing : ℕ → Draft
nothing at = Draft.known at (values.Int (pos 0))

-- What makes the form of a draft: as it is, in an arithmetic place, and as a truth.
abbrev pub maker : Site → Maker
maker s = made (sets s.context.now) (arrays s.context.now) s.context.now.item

abbrev pub operand_maker : Site → Maker
operand_maker s = operand_made (sets s.context.now) (arrays s.context.now) s.context.now.item

abbrev pub truth_maker : Site → Maker
truth_maker s = truth_made (sets s.context.now) (arrays s.context.now) s.context.now.item

-- The parts of a sum behind one more step of a chain, and behind steps.
abbrev pub step_maker : Site → ℕ → ℕ → nodes.Parts → DraftStep → Made nodes.Parts
step_maker s at n ps d = step_made (sets s.context.now) (arrays s.context.now) s.context.now.item at n ps d

abbrev pub steps_maker : Site → ℕ → ℕ → nodes.Parts → List DraftStep → Made nodes.Parts
steps_maker s at n ps ds = made_steps (sets s.context.now) (arrays s.context.now) s.context.now.item at n ps (steps_of ds)

-- Whether a form is as the next draft, as all of these, and the form of an equivalence.
abbrev pub same_step : Site → ℕ → Form → Draft → Made Form
same_step s n g d = same_made (sets s.context.now) (arrays s.context.now) s.context.now.item n g d

abbrev pub same_maker : Site → ℕ → Form → List Draft → Made Form
same_maker s n g ds = made_same (sets s.context.now) (arrays s.context.now) s.context.now.item n g (drafts_of ds)

abbrev pub first_maker : Site → ℕ → List Draft → Made Form
first_maker s n ds = made_first (sets s.context.now) (arrays s.context.now) s.context.now.item n (drafts_of ds)

-- What follows from a form and the next draft: `=>`, and a comparison.
abbrev pub implied_maker : Site → ℕ → Form → Draft → Made Form
implied_maker s n g d = next (maker s (n + part_nodes g) d) (λ h. nodes.implied s.context.now.item n g h)

abbrev pub compared_maker : Site → ℕ → ℕ → Relation → Form → Draft → Made Form
compared_maker s at n r g d = next (operand_maker s (n + part_nodes g) d) (λ h. nodes.compared (sets s.context.now) (arrays s.context.now) s.context.now.item at n r g h)

-- The element of the array of a number, by drafts of subscripts and their forms.
abbrev pub element_maker : Site → ℕ → ℕ → Option ℕ → List Draft → List Form → Made Form
element_maker s at n k ds gs = nodes.indexed (sets s.context.now) (arrays s.context.now) s.context.now.item at n k (array_of (arrays s.context.now) k) (map place ds) gs

-- ---- parts one behind another

-- How many nodes were made before what is made behind parts.
abbrev pub reached : Parts → ℕ
reached ps = ps.before + all_nodes (forms ps.items)

-- Forms, and one more behind them.
abbrev pub behind : List Form → Made Form → Made (List Form)
behind gs m = next m (λ g. Ok (gs ++ g ∷ []))

-- Parts have the forms that are made, where so many nodes were made before them.
pub record AreMade (c : Context) (n : ℕ) (m : Made (List Form)) (ps : Parts) : Type 0 where
  pub are_forms : m ≡ Ok (forms ps.items)
  pub before : ps.before ≡ n
  pub are_parts : AreParts c ps

-- A function answers the parts that are made, or why there are none.
abbrev pub MakesForms : Context → ℕ → Made (List Form) → Result Parts FormFault → Type 0
MakesForms c n m (Ok ps) = AreMade c n m ps
MakesForms c n m (Err fault) = Refuses m fault

-- Parts have the forms of the parts of a sum, the first and the others.
pub record AreSummed (c : Context) (n : ℕ) (m : Made nodes.Parts) (ps : Parts) : Type 0 where
  pub sum : nodes.Parts
  pub is_made : m ≡ Ok sum
  pub are_forms : forms ps.items ≡ sum.0 ∷ sum.1
  pub before : ps.before ≡ n
  pub are_parts : AreParts c ps

-- Parts of which there is one at least: the first, and the others.
pub record AreSome (ps : Parts) : Type 0 where
  pub sum : nodes.Parts
  pub are_forms : forms ps.items ≡ sum.0 ∷ sum.1

abbrev pub MakesSum : Context → ℕ → Made nodes.Parts → Result Parts FormFault → Type 0
MakesSum c n m (Ok ps) = AreSummed c n m ps
MakesSum c n m (Err fault) = Refuses m fault

-- ---- on the way

-- What is made as a whole is what is made of these drafts behind parts.
pub record SoFar (c : Context) (make : Maker) (n : ℕ) (whole : Made (List Form)) (ps : Parts) (ds : List Draft) : Type 0 where
  pub same : whole ≡ onto make n (forms ps.items) ds
  pub before : ps.before ≡ n
  pub are_parts : AreParts c ps

-- The same of the steps of a chain.
pub record StepsSoFar (s : Site) (at n : ℕ) (whole : Made nodes.Parts) (ps : Parts) (ds : List DraftStep) : Type 0 where
  pub sum : nodes.Parts
  pub same : whole ≡ steps_maker s at n sum ds
  pub are_forms : forms ps.items ≡ sum.0 ∷ sum.1
  pub before : ps.before ≡ n
  pub are_parts : AreParts s.context.now ps
