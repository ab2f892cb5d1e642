-- Laws of unrolling.
use Rattle.std.specs.Prelude.{◌≡◌, ◌≢◌, ℤ, Bool, true, false, filter, List, length, map, Some, Ok, Err}
use Rattle.std.specs.List.{All, flat_map, list_all}
use Rattle.opl_tree.specs.declared.instruction.InstrTree.{InstrTree}
use Rattle.opl_term.specs.declared.term.GroupTerm.{GroupTerm}
use Rattle.opl_term.specs.declared.term.GroupTerm.TheOpen.{Step-F, Term-F}
use Rattle.opl_term.specs.declared.term.GroupTerm.TheViews.{roll-Step}
use Rattle.opl_term.specs.declared.term.SetTerm.{SetTerm}
use Rattle.opl_term.specs.declared.term.Step.{Step}
use Rattle.opl_term.specs.declared.term.Term.{Term}
use Rattle.opl_value.specs.declared.value.Value.{Value}
use Rattle.opl_eval.specs.declared.fault.EvalFault.{EvalFault}
use Rattle.opl_eval.specs.Evaluation.{Environment, eval}
use Rattle.opl_meaning.specs.declared.variable.VariableItem.{VariableItem}
use Rattle.opl_meaning.specs.Assigned.{with_variables}
use Rattle.opl_meaning.specs.Laws.{HasOneSet}
use Rattle.opl_meaning.specs.Runs.{Names}
use Rattle.opl_meaning.specs.Solutions.{declared_sets, product, truth}
use Rattle.opl_draft.specs.Clean.{is_clean_instr}
use Rattle.opl_draft.specs.Drafts.{Cells, Draft, draft_value}
use Rattle.opl_draft.specs.Forms.{HasForm, form_step, step_in}
use Rattle.opl_draft.specs.Instances.{Condition, Instance, condition_of, instances, is_clean_instance}
use Rattle.opl_draft.specs.Numbers.{arrays_of, entries}
use Rattle.opl_draft.specs.Settled.{settled}
use Rattle.opl_draft.specs.Solutions.{Model, holds, solutions}
use Rattle.opl_draft.specs.Unrolled.{is_clean, unrolled}

-- decision variables have these names, and those that are no arrays have one declared set
pub record AreDeclared (items : List VariableItem) (names : Names) : Type 0 where
  pub named : names.all ≡ map (λ v. v.name) items
  pub single : All HasOneSet items

-- an assignment has one number for each declared set
abbrev pub Fits : List VariableItem → List ℤ → Type 0
Fits items ns = length ns ≡ length (flat_map (λ v. v.sets) items)

-- the arrays of a model: those of the data and those of variables
abbrev pub arrays : Environment → List VariableItem → List Cells
arrays env items = arrays_of (entries env.items items)

-- under an assignment an unrolled expression comes to what the expression does, be it a value or a fault
abbrev pub UnrolledMeans : Type 0
UnrolledMeans = (items : List VariableItem) (names : Names) (ns : List ℤ) (env : Environment) (t : Term) → AreDeclared items names → Fits items ns →
    is_clean items names t ≡ true → draft_value (arrays env items) ns (unrolled items names t env) ≡ eval t (with_variables items ns env)

-- whether what a condition comes to under an assignment is true; what comes to no value is not
abbrev pub is_met : List Cells → List ℤ → Condition → Bool
is_met cells ns c = truth (draft_value cells ns c.draft)

-- an instance holds under an assignment exactly where its draft is true
abbrev pub InstanceMeans : Type 0
InstanceMeans = (items : List VariableItem) (names : Names) (ns : List ℤ) (env : Environment) (i : Instance) → AreDeclared items names → Fits items ns →
    is_clean_instance items names i ≡ true → holds env items ns i ≡ is_met (arrays env items) ns (condition_of items names env i)

-- the solutions of a model are the assignments of the declared sets, in lexicographic order, on which the drafts of all instances are true
abbrev pub SolutionsUnrolled : Type 0
SolutionsUnrolled = (m : Model) (names : Names) → AreDeclared m.variables names → list_all (is_clean_instance m.variables names) m.conditions ≡ true →
    solutions m ≡ filter (λ ns. list_all (is_met (arrays m.environment m.variables) ns) (map (condition_of m.variables names m.environment) m.conditions)) (product (declared_sets m.variables))

-- where variables stand in the items of a model only where they may, they do so in all instances
abbrev pub InstancesClean : Type 0
InstancesClean = (items : List VariableItem) (names : Names) (t : InstrTree) (env : Environment) → is_clean_instr items names t ≡ true →
    list_all (is_clean_instance items names) (instances t env) ≡ true

-- each form of terms is unrolled as the equations of forms say, and each form of steps
abbrev pub UnrolledByForm : Type 0
UnrolledByForm = (items : List VariableItem) (names : Names) (x : Term-F GroupTerm SetTerm Step Term) (env : Environment) → HasForm items names x env

abbrev pub StepByForm : Type 0
StepByForm = (items : List VariableItem) (names : Names) (x : Step-F GroupTerm SetTerm Step Term) (env : Environment) → step_in items names (roll-Step x) env ≡ form_step items names x env

-- a draft whose fault is settled comes to no value under any assignment
abbrev pub SettledFaults : Type 0
SettledFaults = (cells : List Cells) (ns : List ℤ) (d : Draft) (fault : EvalFault) (v : Value) → settled cells d ≡ Err fault → draft_value cells ns d ≢ Ok v

-- a draft whose value is settled comes to no other value under any assignment
abbrev pub SettledValues : Type 0
SettledValues = (cells : List Cells) (ns : List ℤ) (d : Draft) (v w : Value) → settled cells d ≡ Ok (Some v) → draft_value cells ns d ≡ Ok w → v ≡ w

-- an instance whose fault is settled holds under no assignment
abbrev pub SettledInstances : Type 0
SettledInstances = (items : List VariableItem) (names : Names) (ns : List ℤ) (env : Environment) (i : Instance) (fault : EvalFault) → AreDeclared items names → Fits items ns →
    is_clean_instance items names i ≡ true → settled (arrays env items) (condition_of items names env i).draft ≡ Err fault → holds env items ns i ≡ false
