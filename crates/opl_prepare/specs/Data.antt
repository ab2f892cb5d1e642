-- From a model whose expressions have types and its data files to its core.
use Rattle.std.specs.Prelude.{◌≡◌, ℕ, true, false, List, [], Option, Some, None, Result, Ok, Err}
use Rattle.opl_bind.specs.Bind.{Data, bound}
use Rattle.opl_complete.specs.Complete.{problem_of}
use Rattle.opl_given.specs.declared.fault.BindFault.{BindFault}
use Rattle.opl_given.specs.declared.fault.BindFault.TheVariants as binding
use Rattle.opl_data.specs.declared.tree.DataTree.{DataTree}
use Rattle.opl_eval.specs.declared.fault.EvalFault.{EvalFault}
use Rattle.opl_eval.specs.declared.fault.EvalFault.TheVariants as evaluation
use Rattle.opl_expr.specs.declared.forms.Cons.{Cons}
use Rattle.opl_expr.specs.declared.model.Goal.{Goal}
use Rattle.opl_form.specs.Nodes as forms
use Rattle.opl_form.specs.Nodes.Fault.{eval, large, deep, many}
use Rattle.opl_ground.specs.Declared.{core_of}
use Rattle.opl_ground.specs.Ground.{forms_of}
use Rattle.opl_ground.specs.Names.{variable_names}
use Rattle.opl_meaning.specs.Runs.{names_of, no_names}
use Rattle.opl_meaning.specs.Variables.{variables_in}
use Rattle.opl_meaning.specs.declared.fault.MeaningFault.{MeaningFault}
use Rattle.opl_meaning.specs.declared.fault.MeaningFault.TheVariants as meaning
use Rattle.opl_meaning.specs.declared.variable.VariableItem.{VariableItem}
use Rattle.opl_optimum.specs.Clean.{is_clean_whole}
use Rattle.opl_runs.specs.Runs.{not_yet}
use Rattle.opl_tree.specs.declared.instruction.InstrTree.{InstrTree}
use Rattle.opl_tree.specs.declared.instruction.InstrTree.TheVariants as instr
use Rattle.opl_tree.specs.declared.model.ModelTree.{ModelTree}
use Rattle.opl_files.specs.declared.refusal.Fault.TheVariants as faults
use Rattle.opl_files.specs.declared.refusal.ItemFault.TheVariants as items
use Rattle.opl_files.specs.declared.refusal.Refusal.{Refusal}
use Rattle.opl_files.specs.declared.refusal.Refusal.TheVariants.{At, Item}
use Rattle.opl_prepare.specs.Positions.{positions}
use Rattle.opl_files.specs.Stage.{Stage, Then, Only}
use Rattle.opl_prepare.specs.Subject.{Subject}

-- ---- what runs

-- all of the model runs today
abbrev pub Runs : ModelTree → Stage (Unit {0})
Runs tree (Ok u) = not_yet tree ≡ None
Runs tree (Err e) = (at : ℕ) × (e ≡ At faults.NotYet 0 at) × (not_yet tree ≡ Some at)

-- ---- refusals; want of memory is none

abbrev pub refusal_of_value : EvalFault → Option Refusal
refusal_of_value (evaluation.DivByZero at) = Some (At faults.DivByZero 0 at)
refusal_of_value (evaluation.OutOfIndex at) = Some (At faults.OutOfIndex 0 at)
refusal_of_value (evaluation.TooLarge at) = Some (At faults.TooLarge 0 at)
refusal_of_value (evaluation.EmptyMinMax at) = Some (At faults.EmptyMinMax 0 at)
refusal_of_value evaluation.OutOfMemory = None

abbrev pub refusal_of_data : BindFault → Option Refusal
refusal_of_data (binding.Given name) = Some (Item items.Given name)
refusal_of_data (binding.Twice name) = Some (Item items.Twice name)
refusal_of_data (binding.Missing name) = Some (Item items.Missing name)
refusal_of_data (binding.Shape file at) = Some (At faults.Shape file at)
refusal_of_data (binding.Outside file at) = Some (At faults.Outside file at)
refusal_of_data (binding.Override name) = Some (Item items.Override name)
refusal_of_data (binding.Eval fault) = refusal_of_value fault
refusal_of_data binding.OutOfMemory = None

abbrev pub refusal_of_variables : MeaningFault → Option Refusal
refusal_of_variables (meaning.Eval fault) = refusal_of_value fault
refusal_of_variables (meaning.TooManyVariables at) = Some (At faults.LimitVariables 0 at)
refusal_of_variables (meaning.TooFar at) = Some (At faults.LimitValue 0 at)
refusal_of_variables (meaning.TooWide at) = Some (At faults.LimitDomain 0 at)
refusal_of_variables (meaning.TooManyValues at) = Some (At faults.LimitDomains 0 at)
refusal_of_variables meaning.OutOfMemory = None

abbrev pub refusal_of_forms : forms.Fault → Option Refusal
refusal_of_forms (eval fault) = refusal_of_value fault
refusal_of_forms (large at) = Some (At faults.TooLarge 0 at)
refusal_of_forms (deep at) = Some (At faults.LimitDepth 0 at)
refusal_of_forms (many at) = Some (At faults.LimitNodes 0 at)

-- what a definition comes to: a value, or the refusal at its first fault
abbrev pub Comes : {A E : Type 0} → (E → Option Refusal) → Result A E → Stage A
Comes refusal made (Ok a) = made ≡ Ok a
Comes {E = E} refusal made (Err e) = (fault : E) × (refusal fault ≡ Some e) × (made ≡ Err fault)

-- ---- the data and the variables

-- the data of a model
abbrev pub HasData : ModelTree → List DataTree → Stage Data
HasData tree files = Comes refusal_of_data (bound (positions tree) tree.decls files [])

-- its decision variables
abbrev pub HasVariables : ModelTree → Data → Stage (List VariableItem)
HasVariables tree d = Comes refusal_of_variables (variables_in d.environment [] tree.decls)

-- ---- the objective and the constraints

-- the place of an instruction's first token
abbrev pub place_of : InstrTree → ℕ
place_of (instr.Solve at block) = at
place_of (instr.Optimize at optimum objective block) = at

-- decision variables stand in the instruction only where they may
abbrev pub IsClean : ModelTree → List VariableItem → Stage (Unit {0})
IsClean tree vs (Ok u) = is_clean_whole vs (names_of no_names tree.decls) tree.instr ≡ true
IsClean tree vs (Err e) = (e ≡ At faults.NotYet 0 (place_of tree.instr)) × (is_clean_whole vs (names_of no_names tree.decls) tree.instr ≡ false)

-- its objective, if it has one, and the constraints of its instances
abbrev pub HasForms : ModelTree → Data → List VariableItem → Stage (Option Goal × List Cons)
HasForms tree d vs = Comes refusal_of_forms (forms_of tree d.environment vs)

-- the model with its data, and its core
abbrev pub subject_of : ModelTree → Data → List VariableItem → Option Goal → List Cons → Subject
subject_of tree d vs goal cs = record {
  problem = problem_of tree d.environment vs;
  enumerations = d.known.enumerations;
  core = core_of (variable_names d.known.enumerations vs) d.environment vs goal cs;
}

-- ---- all of it

-- what is behind the test of the instruction, behind the variables, and behind the data
abbrev pub Grounded : ModelTree → Data → List VariableItem → Stage Subject
Grounded tree d vs = Then (HasForms tree d vs) (λ made. Only (subject_of tree d vs made.0 made.1))

abbrev pub Tested : ModelTree → Data → List VariableItem → Stage Subject
Tested tree d vs = Then (IsClean tree vs) (λ u. Grounded tree d vs)

abbrev pub Declared : ModelTree → Data → Stage Subject
Declared tree d = Then (HasVariables tree d) (Tested tree d)

abbrev pub Bound : ModelTree → List DataTree → Stage Subject
Bound tree files = Then (HasData tree files) (Declared tree)

-- what a model with types and its data files come to: what does not run yet comes first, then the data, the variables, the objective and the constraints
abbrev pub Prepared : ModelTree → List DataTree → Stage Subject
Prepared tree files = Then (Runs tree) (λ u. Bound tree files)
