-- What a call is about, made ready to be searched.
use Rattle.std.specs.Prelude.{◌≡◌, ⊤, ℕ, ℤ, true, false, ◌++◌, List, length, Option, Some, None, Result, Ok, Err}
use Rattle.opl_bind.specs.Bind.{Data}
use Rattle.opl_expr.specs.Solutions.{declared, is_among}
use Rattle.opl_expr.specs.declared.forms.Cons.{Cons}
use Rattle.opl_expr.specs.declared.model.Core.{Core}
use Rattle.opl_expr.specs.declared.model.Goal.{Goal}
use Rattle.opl_form.specs.Nodes.Fault.{eval, large, deep, many}
use Rattle.opl_ground.specs.Declared.{core_of}
use Rattle.opl_ground.specs.Names.{variable_names}
use Rattle.opl_meaning.specs.Variables.{sets_of}
use Rattle.opl_meaning.specs.declared.variable.VariableItem.{VariableItem}
use Rattle.opl_nodes.specs.declared.fault.FormFault.{FormFault}
use Rattle.opl_nodes.specs.declared.fault.FormFault.TheVariants as form
use Rattle.opl_optimum.specs.Optima.{improving, solutions, value_of}
use Rattle.opl_show.specs.Readings.{names_of}
use Rattle.opl_show.specs.Texts.{Enumerations}
use Rattle.opl_trace.specs.GroundCores.{IsGroundCore}
use Rattle.opl_trace.specs.Marks.{core_trace, objective, section, solved}
use Rattle.opl_trace.specs.Objective.{best_after}
use Rattle.opl_trace.specs.Run.{Out}
use Rattle.opl_tree.specs.declared.model.ModelTree.{ModelTree}
use Rattle.opl_prepare.specs.declared.problem.Problem.{Problem}
use Rattle.opl_files.specs.declared.refusal.Refusal.{Refusal}
use Rattle.opl_files.specs.declared.stop.Stop.{Stop}
use Rattle.opl_files.specs.declared.stop.Stop.TheVariants.{Refused, Spent, ReadFault, WriteFault, OutOfMemory}
use Rattle.opl_prepare.specs.Data.{HasForms, refusal_of_forms}
use Rattle.opl_files.specs.Stage.{Stage, Gives}
use Rattle.opl_prepare.specs.Subject.{Subject}

-- the names of enumerations, as they are printed
abbrev pub enumerations_in : Problem → Enumerations
enumerations_in p = names_of p.enumerations

-- a result by what its value stands for
abbrev pub read_as : {A B : Type 0} → (A → B) → Result A Stop → Result B Stop
read_as reading (Ok a) = Ok (reading a)
read_as reading (Err stop) = Err stop

-- why a call ends at a fault: at a refusal, or memory is wanting
abbrev pub stop_at : Option Refusal → Stop
stop_at (Some refusal) = Refused refusal
stop_at None = OutOfMemory

-- the search of a core with at most so many choices
abbrev pub trace_of : Subject → ℕ → Out
trace_of s n = core_trace false s.core n

-- the core can be searched, without a search section, and its variables are those of the model; its search finds the solutions that are better than all
-- before them, all of these where it is not cut, and else the first; and each assignment gives the objective the value that it has in the model
pub record IsReady (s : Subject) : Type 0 where
  pub ground : IsGroundCore s.core
  pub plain : section false s.core ≡ None
  pub as_many : length (sets_of s.problem.model.variables) ≡ length (declared s.core)
  pub all : (n : ℕ) → (trace_of s n).is_cut ≡ false → solved (trace_of s n).marks ≡ improving s.problem (solutions s.problem)
  pub first : (n : ℕ) → (rest : List (List ℤ)) × (solved (trace_of s n).marks ++ rest ≡ improving s.problem (solutions s.problem))
  pub values : (ns : List ℤ) → is_among ns (declared s.core) ≡ true → best_after (objective s.core) ns None ≡ value_of s.problem ns

-- the problem has the variables of the model, the names of its enumerations, and its core
pub record Poses (s : Subject) (p : Problem) : Type 0 where
  pub variables_are : p.variables ≡ s.problem.model.variables
  pub enumerations_are : enumerations_in p ≡ s.enumerations
  pub core_is : p.core.value ≡ s.core
  pub is_ready : IsReady s

-- a stage that gives what the problem poses, or refuses, or memory is wanting
abbrev pub GivesPosed : Stage Subject → Result Problem Stop → Type 0
GivesPosed P (Ok p) = (s : Subject) × P (Ok s) × Poses s p
GivesPosed P (Err (Refused e)) = P (Err e)
GivesPosed P (Err Spent) = ⊥
GivesPosed P (Err ReadFault) = ⊥
GivesPosed P (Err WriteFault) = ⊥
GivesPosed P (Err OutOfMemory) = ⊤

-- a fault of constraints ends a call at its refusal; want of memory can come at any time
abbrev pub StopsForms : FormFault → Stop → Type 0
StopsForms form.OutOfMemory stop = stop ≡ OutOfMemory
StopsForms (form.Eval fault) stop = stop ≡ stop_at (refusal_of_forms (eval fault))
StopsForms (form.TooLarge at) stop = stop ≡ stop_at (refusal_of_forms (large at))
StopsForms (form.Depth at) stop = stop ≡ stop_at (refusal_of_forms (deep at))
StopsForms (form.Nodes at) stop = stop ≡ stop_at (refusal_of_forms (many at))

-- the core of a model with its data, or why there is none
abbrev pub GivesCore : ModelTree → Data → Enumerations → List VariableItem → Result Core Stop → Type 0
GivesCore tree d e vs (Ok core) =
    (made : Option Goal × List Cons) × HasForms tree d vs (Ok made) × (core ≡ core_of (variable_names e vs) d.environment vs made.0 made.1)
GivesCore tree d e vs (Err stop) = Gives (HasForms tree d vs) (Err stop)
