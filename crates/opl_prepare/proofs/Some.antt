-- Models and data files come to an outcome.
use Rattle.std.proofs.Common.{◌≡◌, ◌≢◌, ◌<◌, ◌≤◌, refl, ap, ◌∙◌, ℕ, Bool, true, false, nat_lt, List, [], length, Option, Some, None, Result, Ok, Err, inl, inr, arith}
use Rattle.opl_bind.specs.Bind.{Data, bound}
use Rattle.opl_bind.proofs.NoMemoryBind.{never_memory as bound_never}
use Rattle.opl_data.specs.declared.tree.DataTree.{DataTree}
use Rattle.opl_optimum.specs.Clean.{is_clean_whole}
use Rattle.opl_eval.specs.declared.fault.EvalFault.{EvalFault}
use Rattle.opl_eval.specs.declared.fault.EvalFault.TheVariants as evaluation
use Rattle.opl_faults.specs.Laws.{FormsNeverMemory, GoalsNeverMemory}
use Rattle.opl_form.specs.Nodes as forms
use Rattle.opl_form.specs.Nodes.Fault.{eval, large, deep, many}
use Rattle.opl_given.specs.declared.fault.BindFault.{BindFault}
use Rattle.opl_given.specs.declared.fault.BindFault.TheVariants as binding
use Rattle.opl_ground.specs.Ground.{forms_of}
use Rattle.opl_meaning.proofs.NoMemoryVariables.{variables_never_memory, variables_never_memory_evaluating}
use Rattle.opl_meaning.specs.Runs.{names_of, no_names}
use Rattle.opl_meaning.specs.Variables.{variables_in}
use Rattle.opl_meaning.specs.declared.fault.MeaningFault.{MeaningFault}
use Rattle.opl_meaning.specs.declared.fault.MeaningFault.TheVariants as meaning
use Rattle.opl_meaning.specs.declared.variable.VariableItem.{VariableItem}
use Rattle.opl_runs.specs.Runs.{not_yet}
use Rattle.opl_tree.specs.declared.model.ModelTree.{ModelTree}
use Rattle.opl_files.specs.declared.refusal.Fault.TheVariants.{NotYet}
use Rattle.opl_files.specs.declared.refusal.Fault.TheVariants as faults
use Rattle.opl_files.specs.declared.refusal.ItemFault.TheVariants as items
use Rattle.opl_files.specs.declared.refusal.Refusal.{Refusal}
use Rattle.opl_files.specs.declared.refusal.Refusal.TheVariants.{At, Item}
use Rattle.opl_prepare.specs.Data.{Comes as Made, Declared, Grounded, HasData, HasForms, HasVariables, IsClean, Prepared, Runs, Tested, place_of, refusal_of_data, refusal_of_forms, refusal_of_value, refusal_of_variables, subject_of}
use Rattle.opl_prepare.specs.Positions.{positions}
use Rattle.opl_prepare.proofs.Accepted.{forms_never_memory}
use Rattle.opl_files.proofs.StageLemmas.{Comes, then_comes}

runs_by : (tree : ModelTree) (o : Option ℕ) → not_yet tree ≡ o → Comes (Runs tree)
runs_by tree None e = (Ok tt, e)
runs_by tree (Some at) e = (Err (At NotYet 0 at), (at, refl, e))

-- a fault that is told
abbrev IsTold : {E : Type 0} → (E → Option Refusal) → E → Type 0
IsTold refusal fault = (e : Refusal) × (refusal fault ≡ Some e)

made_comes : {A E : Type 0} (refusal : E → Option Refusal) (made r : Result A E) → made ≡ r → ((fault : E) → made ≡ Err fault → IsTold refusal fault) → Comes (Made refusal made)
made_comes refusal made (Ok a) e told = (Ok a, e)
made_comes refusal made (Err fault) e told = let it = told fault e in (Err it.0, (fault, it.1, e))

value_told : (fault : EvalFault) → fault ≢ evaluation.OutOfMemory → IsTold refusal_of_value fault
value_told (evaluation.DivByZero at) some = (At faults.DivByZero 0 at, refl)
value_told (evaluation.OutOfIndex at) some = (At faults.OutOfIndex 0 at, refl)
value_told (evaluation.TooLarge at) some = (At faults.TooLarge 0 at, refl)
value_told (evaluation.EmptyMinMax at) some = (At faults.EmptyMinMax 0 at, refl)
value_told evaluation.OutOfMemory some = absurd (some refl)

data_told : (fault : BindFault) → fault ≢ binding.OutOfMemory → fault ≢ binding.Eval evaluation.OutOfMemory → IsTold refusal_of_data fault
data_told (binding.Given name) some other = (Item items.Given name, refl)
data_told (binding.Twice name) some other = (Item items.Twice name, refl)
data_told (binding.Missing name) some other = (Item items.Missing name, refl)
data_told (binding.Shape file at) some other = (At faults.Shape file at, refl)
data_told (binding.Outside file at) some other = (At faults.Outside file at, refl)
data_told (binding.Override name) some other = (Item items.Override name, refl)
data_told (binding.Eval fault) some other = value_told fault (λ e. other (ap binding.Eval e))
data_told binding.OutOfMemory some other = absurd (some refl)

variables_told : (fault : MeaningFault) → fault ≢ meaning.OutOfMemory → fault ≢ meaning.Eval evaluation.OutOfMemory → IsTold refusal_of_variables fault
variables_told (meaning.Eval fault) some other = value_told fault (λ e. other (ap meaning.Eval e))
variables_told (meaning.TooManyVariables at) some other = (At faults.LimitVariables 0 at, refl)
variables_told (meaning.TooFar at) some other = (At faults.LimitValue 0 at, refl)
variables_told (meaning.TooWide at) some other = (At faults.LimitDomain 0 at, refl)
variables_told (meaning.TooManyValues at) some other = (At faults.LimitDomains 0 at, refl)
variables_told meaning.OutOfMemory some other = absurd (some refl)

forms_told : (fault : forms.Fault) → fault ≢ eval evaluation.OutOfMemory → IsTold refusal_of_forms fault
forms_told (eval fault) some = value_told fault (λ e. some (ap eval e))
forms_told (large at) some = (At faults.TooLarge 0 at, refl)
forms_told (deep at) some = (At faults.LimitDepth 0 at, refl)
forms_told (many at) some = (At faults.LimitNodes 0 at, refl)

data_comes : (tree : ModelTree) (files : List DataTree) → Comes (HasData tree files)
data_comes tree files = made_comes refusal_of_data _ (bound (positions tree) tree.decls files []) refl (λ fault e.
    data_told fault (λ is. (bound_never (positions tree) tree.decls files []).0 (e ∙ ap Err is)) (λ is. (bound_never (positions tree) tree.decls files []).1 (e ∙ ap Err is)))

variables_come : (tree : ModelTree) (d : Data) → Comes (HasVariables tree d)
variables_come tree d = made_comes refusal_of_variables _ (variables_in d.environment [] tree.decls) refl (λ fault e.
    variables_told fault (λ is. variables_never_memory d.environment [] tree.decls (e ∙ ap Err is)) (λ is. variables_never_memory_evaluating d.environment [] tree.decls (e ∙ ap Err is)))

clean_by : (tree : ModelTree) (vs : List VariableItem) (b : Bool) → is_clean_whole vs (names_of no_names tree.decls) tree.instr ≡ b → Comes (IsClean tree vs)
clean_by tree vs true e = (Ok tt, e)
clean_by tree vs false e = (Err (At NotYet 0 (place_of tree.instr)), (refl, e))

forms_come : FormsNeverMemory → GoalsNeverMemory → (tree : ModelTree) (d : Data) (vs : List VariableItem) → Comes (HasForms tree d vs)
forms_come never goals_never tree d vs = made_comes refusal_of_forms _ (forms_of tree d.environment vs) refl (λ fault e. forms_told fault (λ is. forms_never_memory never goals_never tree d.environment vs (e ∙ ap Err is)))

grounded_comes : FormsNeverMemory → GoalsNeverMemory → (tree : ModelTree) (d : Data) (vs : List VariableItem) → Comes (Grounded tree d vs)
grounded_comes never goals_never tree d vs = then_comes (HasForms tree d vs) _ (forms_come never goals_never tree d vs) (λ made. (Ok (subject_of tree d vs made.0 made.1), refl))

tested_comes : FormsNeverMemory → GoalsNeverMemory → (tree : ModelTree) (d : Data) (vs : List VariableItem) → Comes (Tested tree d vs)
tested_comes never goals_never tree d vs = then_comes (IsClean tree vs) _ (clean_by tree vs (is_clean_whole vs (names_of no_names tree.decls) tree.instr) refl) (λ u. grounded_comes never goals_never tree d vs)

declared_comes : FormsNeverMemory → GoalsNeverMemory → (tree : ModelTree) (d : Data) → Comes (Declared tree d)
declared_comes never goals_never tree d = then_comes (HasVariables tree d) _ (variables_come tree d) (tested_comes never goals_never tree d)

pub prepared_comes : FormsNeverMemory → GoalsNeverMemory → (tree : ModelTree) (files : List DataTree) → Comes (Prepared tree files)
prepared_comes never goals_never tree files = then_comes (Runs tree) _ (runs_by tree (not_yet tree) refl) (λ u. then_comes (HasData tree files) _ (data_comes tree files) (declared_comes never goals_never tree))
