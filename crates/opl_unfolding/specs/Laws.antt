-- Laws by which forms are made part by part, in one pass over terms and without their drafts.
use Rattle.std.specs.Prelude.{◌≡◌, ◌<◌, ◌≤◌, ℕ, ◌+◌, ℤ, true, false, List, [], ◌∷◌, ◌++◌, drop, get_or, length, map, Option, Some, Ok, Err}
use Rattle.std.specs.List.{flat_map}
use Rattle.opl_tree.specs.declared.expression.AggregateOp.{AggregateOp}
use Rattle.opl_term.specs.declared.term.GroupTerm.{GroupTerm}
use Rattle.opl_term.specs.declared.term.Term.{Term}
use Rattle.opl_eval.specs.declared.fault.EvalFault.{EvalFault}
use Rattle.opl_eval.specs.Evaluation.{Environment, Group, group_meaning}
use Rattle.opl_meaning.specs.declared.variable.VariableItem.{VariableItem}
use Rattle.opl_meaning.specs.Runs.{Names}
use Rattle.opl_draft.specs.Drafts.{Cells, Draft, DraftStep, drafts_of, steps_of}
use Rattle.opl_draft.specs.Forms.{bodies_in}
use Rattle.opl_draft.specs.Instances.{Condition, Instance, Instances, condition_of, for_all, in_turn}
use Rattle.opl_draft.specs.Unrolled.{is_mentioned, unrolled}
use Rattle.opl_form.specs.Made.{made, made_all, made_operands, made_same, made_steps, place, places}
use Rattle.opl_form.specs.Measures.{all_nodes}
use Rattle.opl_form.specs.Nodes.{Parts, aggregated, next}
use Rattle.opl_form.specs.Nodes.Fault.{eval}
use Rattle.opl_form.specs.Parts.{Form}
use Rattle.opl_groups.specs.Met.{Met, first, met_under}
use Rattle.opl_groups.specs.Met.Met.{stopped}
use Rattle.opl_unfolding.specs.Onto.{Maker, onto, operand_made, same_made, step_made, truth_made}
use Rattle.opl_unfolding.specs.Posted.{Posted, posted}
use Rattle.opl_unfolding.specs.Unrolling.{HasDrafts, HasSteps, body_met, instances_met, live_draft, value_draft}

-- ---- parts one after another

-- Drafts behind drafts are made behind their forms.
abbrev pub OntoAppend : Type 0
OntoAppend = (make : Maker) (n : ℕ) (before : List Form) (ds es : List Draft) → onto make n before (ds ++ es) ≡ next (onto make n before ds) (λ gs. onto make n gs es)

-- The next of the drafts of terms, from a place on.
abbrev pub OntoNext : Type 0
OntoNext = (f : Term → Draft) (xs : List Term) (make : Maker) (n : ℕ) (before : List Form) (i : ℕ) (x : Term) → i < length xs →
    onto make n before (map f (drop i xs)) ≡ next (make (n + all_nodes before) (f (get_or xs i x))) (λ g. onto make n (before ++ g ∷ []) (map f (drop (i + 1) xs)))

-- Behind the last of them the forms are those that were made.
abbrev pub OntoEnd : Type 0
OntoEnd = (f : Term → Draft) (xs : List Term) (make : Maker) (n : ℕ) (before : List Form) (i : ℕ) → length xs ≤ i → onto make n before (map f (drop i xs)) ≡ Ok before

-- The forms of drafts are made one behind another; so are those in arithmetic places, and their places are those of the drafts.
pub record IsMadeOnto (sets : List (ℤ × ℤ)) (arrays : List Cells) (item n : ℕ) (ds : List Draft) : Type 0 where
  pub all : made_all sets arrays item n (drafts_of ds) ≡ onto (made sets arrays item) n [] ds
  pub operands : made_operands sets arrays item n (drafts_of ds) ≡ onto (operand_made sets arrays item) n [] ds
  pub places : places (drafts_of ds) ≡ map place ds

abbrev pub MadeOnto : Type 0
MadeOnto = (sets : List (ℤ × ℤ)) (arrays : List Cells) (item n : ℕ) (ds : List Draft) → IsMadeOnto sets arrays item n ds

-- An equivalence takes up its first part as a truth, and then one part after another.
pub record IsMadeSame (sets : List (ℤ × ℤ)) (arrays : List Cells) (item n : ℕ) (d : Draft) (ds : List Draft) : Type 0 where
  pub first : (at : ℕ) → made sets arrays item n (Draft.equivalent at (drafts_of (d ∷ ds))) ≡ next (truth_made sets arrays item n d) (λ g. made_same sets arrays item n g (drafts_of ds))
  pub more : (g : Form) → made_same sets arrays item n g (drafts_of (d ∷ ds)) ≡ next (same_made sets arrays item n g d) (λ h. made_same sets arrays item n h (drafts_of ds))

abbrev pub MadeSame : Type 0
MadeSame = (sets : List (ℤ × ℤ)) (arrays : List Cells) (item n : ℕ) (d : Draft) (ds : List Draft) → IsMadeSame sets arrays item n d ds

-- A chain takes up one step after another.
abbrev pub MadeSteps : Type 0
MadeSteps = (sets : List (ℤ × ℤ)) (arrays : List Cells) (item at n : ℕ) (ps : Parts) (s : DraftStep) (ss : List DraftStep) →
    made_steps sets arrays item at n ps (steps_of (s ∷ ss)) ≡ next (step_made sets arrays item at n ps s) (λ qs. made_steps sets arrays item at n qs (steps_of ss))

-- ---- terms

-- What names a decision variable is unrolled by its form.
abbrev pub LiveDrafts : Type 0
LiveDrafts = (items : List VariableItem) (names : Names) (t : Term) (env : Environment) → is_mentioned items names t ≡ true → unrolled items names t env ≡ live_draft items names t env

-- What names none is evaluated.
abbrev pub ValueDrafts : Type 0
ValueDrafts = (items : List VariableItem) (names : Names) (t : Term) (env : Environment) → is_mentioned items names t ≡ false → unrolled items names t env ≡ value_draft items names t env

-- Each of the forms of terms has its draft.
abbrev pub DraftsOfForms : Type 0
DraftsOfForms = (items : List VariableItem) (names : Names) (env : Environment) → HasDrafts items names env

-- Each of the forms of steps has its draft.
abbrev pub DraftsOfSteps : Type 0
DraftsOfSteps = (items : List VariableItem) (names : Names) (env : Environment) → HasSteps items names env

-- ---- choices

-- The bodies of an aggregate are those of the choices of its groups, one after another.
abbrev pub BodiesByChoice : Type 0
BodiesByChoice = (items : List VariableItem) (names : Names) (gs : List GroupTerm) (c : Option Term) (t : Term) (env : Environment) →
    bodies_in items names gs c t env ≡ map (body_met items names t) (met_under (map group_meaning gs) c env)

-- The form of an aggregate is made of those of its body under these choices, one behind another.
abbrev pub AggregatesByChoice : Type 0
AggregatesByChoice = (sets : List (ℤ × ℤ)) (arrays : List Cells) (item n : ℕ) (items : List VariableItem) (names : Names) (at : ℕ) (op : AggregateOp) (gs : List GroupTerm) (c : Option Term) (t : Term) (env : Environment) →
    made sets arrays item n (Draft.aggregate at op (drafts_of (bodies_in items names gs c t env)))
    ≡ next (onto (operand_made sets arrays item) n [] (map (body_met items names t) (met_under (map group_meaning gs) c env))) (λ fs. aggregated sets arrays item op at n fs)

-- Where the choices stop with a fault, that is the fault of the bodies.
abbrev pub BodiesStop : Type 0
BodiesStop = (sets : List (ℤ × ℤ)) (arrays : List Cells) (item n : ℕ) (items : List VariableItem) (names : Names) (t : Term) (before : List Form) (ms : List Met) (fault : EvalFault) →
    first ms ≡ Some (stopped fault) → onto (operand_made sets arrays item) n before (map (body_met items names t) ms) ≡ Err (eval fault)

-- What `forall` gives, it gives under one choice after another.
abbrev pub ForAllByChoice : Type 0
ForAllByChoice = (inner : Instances) (gs : List Group) (c : Option Term) (env : Environment) → for_all gs c inner env ≡ flat_map (instances_met inner) (met_under gs c env)

-- ---- constraints

-- Conditions behind conditions are posted behind their constraints.
abbrev pub PostedAppend : Type 0
PostedAppend = (sets : List (ℤ × ℤ)) (arrays : List Cells) (p : Posted) (cs ds : List Condition) → posted sets arrays p (cs ++ ds) ≡ next (posted sets arrays p cs) (λ q. posted sets arrays q ds)

-- The conditions of instances, where the declared names have these values.
abbrev pub conditions : List VariableItem → Names → Environment → List Instance → List Condition
conditions items names declared is = map (condition_of items names declared) is

-- What stands under `forall` is posted for one choice after another.
abbrev pub PostedByChoice : Type 0
PostedByChoice = (sets : List (ℤ × ℤ)) (arrays : List Cells) (items : List VariableItem) (names : Names) (declared : Environment) (p : Posted) (inner : Instances) (m : Met) (ms : List Met) →
    posted sets arrays p (conditions items names declared (flat_map (instances_met inner) (m ∷ ms)))
    ≡ next (posted sets arrays p (conditions items names declared (instances_met inner m))) (λ q. posted sets arrays q (conditions items names declared (flat_map (instances_met inner) ms)))

-- Items are posted one after another.
abbrev pub PostedInTurn : Type 0
PostedInTurn = (sets : List (ℤ × ℤ)) (arrays : List Cells) (items : List VariableItem) (names : Names) (declared : Environment) (p : Posted) (env : Environment) (inner : Instances) (rest : List Instances) →
    posted sets arrays p (conditions items names declared (in_turn (inner ∷ rest) env))
    ≡ next (posted sets arrays p (conditions items names declared (inner env))) (λ q. posted sets arrays q (conditions items names declared (in_turn rest env)))

-- Where the choices stop with a fault, that is the fault of what is posted.
abbrev pub PostedStop : Type 0
PostedStop = (sets : List (ℤ × ℤ)) (arrays : List Cells) (items : List VariableItem) (names : Names) (declared : Environment) (p : Posted) (inner : Instances) (ms : List Met) (fault : EvalFault) →
    first ms ≡ Some (stopped fault) → posted sets arrays p (conditions items names declared (flat_map (instances_met inner) ms)) ≡ Err (eval fault)
