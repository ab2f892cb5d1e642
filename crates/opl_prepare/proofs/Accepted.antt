-- What is known of the core of a model that is accepted.
use Rattle.std.proofs.Common.{◌≡◌, ◌≢◌, refl, sym, ap, ◌∙◌, ℕ, Bool, true, false, List, [], length, Option, Ok, Err, All, rules}
use Rattle.std.proofs.lemmas.List.{length-map}
use Rattle.opl_bind.proofs.FilledArrays.{arrays_filled}
use Rattle.opl_bind.specs.Bind.{Data, bound}
use Rattle.opl_complete.proofs.Ground.{core_is_ground}
use Rattle.opl_complete.specs.Complete.{IsAccepted, SearchBegins, SearchFindsAll, ValuesMean}
use Rattle.opl_data.specs.declared.tree.DataTree.{DataTree}
use Rattle.opl_eval.proofs.Items.{items-keyed}
use Rattle.opl_eval.specs.ArrayKeys.{IsKeyed}
use Rattle.opl_eval.specs.Evaluation.{Environment}
use Rattle.opl_eval.specs.declared.environment.Environment as code
use Rattle.opl_eval.specs.declared.fault.EvalFault.TheVariants as evaluation
use Rattle.opl_eval.specs.Visible.{seen}
use Rattle.opl_expr.specs.Solutions.{declared}
use Rattle.opl_expr.specs.declared.forms.Cons.{Cons}
use Rattle.opl_expr.specs.declared.model.Goal.{Goal}
use Rattle.opl_draft.specs.Laws.{arrays}
use Rattle.opl_faults.specs.Laws.{FormsNeverMemory, GoalsNeverMemory}
use Rattle.opl_form.specs.Laws.{declared_ends}
use Rattle.opl_form.specs.Nodes.{Made, next}
use Rattle.opl_form.specs.Nodes.Fault.{eval}
use Rattle.opl_ground.specs.Declared.{core_of}
use Rattle.opl_ground.specs.Ground.{constraints_of, forms_of, goal_of}
use Rattle.opl_meaning.specs.Runs.{names_of, no_names}
use Rattle.opl_meaning.specs.Variables.{sets_of, variables_in}
use Rattle.opl_meaning.specs.declared.variable.VariableItem.{VariableItem}
use Rattle.opl_tree.specs.declared.model.ModelTree.{ModelTree}
use Rattle.opl_declared.specs.Kept.{declared_names}
use Rattle.opl_optimum.specs.Clean.{is_clean_whole}
use Rattle.opl_optimum.specs.Goals.{goal_nodes}
use Rattle.opl_optimum.specs.Optima.{objective_of}
use Rattle.opl_runs.proofs.DeclaredNames.{names_are_declared}
use Rattle.opl_files.specs.declared.refusal.Fault.TheVariants.{NotYet}
use Rattle.opl_files.specs.declared.refusal.Refusal.TheVariants.{At}
use Rattle.opl_files.specs.declared.stop.Stop.{Stop}
use Rattle.opl_files.specs.declared.stop.Stop.TheVariants.{Refused}
use Rattle.opl_prepare.specs.Data.{IsClean, place_of, subject_of}
use Rattle.opl_files.specs.Stage.{Gives}
use Rattle.opl_prepare.specs.Positions.{positions}
use Rattle.opl_prepare.specs.Prepared.{IsReady}

-- places can be found in the index spaces of the arrays of an environment
pub environment-keyed : (env : code.Environment) → All (λ i. IsKeyed i.value) (seen env).items
environment-keyed env = items-keyed env

-- a step whose fault is not want of memory, and one behind it of which the same holds
next-never : {A B : Type 0} (r : Made A) (f : A → Made B) → r ≢ Err (eval evaluation.OutOfMemory) → ((a : A) → f a ≢ Err (eval evaluation.OutOfMemory)) → next r f ≢ Err (eval evaluation.OutOfMemory)
next-never (Ok a) f h g = g a
next-never (Err fault) f h g = λ e. h (grind rules)

-- want of memory is no fault of an objective and of constraints
pub forms_never_memory : FormsNeverMemory → GoalsNeverMemory → (tree : ModelTree) (env : Environment) (vs : List VariableItem) → forms_of tree env vs ≢ Err (eval evaluation.OutOfMemory)
forms_never_memory never goals_never tree env vs =
    next-never (goal_of tree env vs) _ (goals_never env vs (names_of no_names tree.decls) (objective_of tree.instr))
    (λ goal. next-never (constraints_of tree env vs goal) _ (never (declared_ends vs) (arrays env vs) (goal_nodes goal) vs (names_of no_names tree.decls) env tree.instr) (λ cs. λ e. grind rules))

-- whether an instruction is clean is the same with the names of its text and of its variables
pub clean-so : (tree : ModelTree) (env : Environment) (vs : List VariableItem) (b want : Bool) → variables_in env [] tree.decls ≡ Ok vs →
    b ≡ is_clean_whole vs (declared_names vs) tree.instr → b ≡ want → is_clean_whole vs (names_of no_names tree.decls) tree.instr ≡ want
clean-so tree env vs b want made is w = ap (λ names. is_clean_whole vs names tree.instr) (names_are_declared env tree.decls vs made) ∙ sym is ∙ w

-- variables stand where they may not
pub unclean-stops : (tree : ModelTree) (vs : List VariableItem) (at : ℕ) (stop : Stop) → is_clean_whole vs (names_of no_names tree.decls) tree.instr ≡ false → at ≡ place_of tree.instr →
    stop ≡ Refused (At NotYet 0 at) → Gives (IsClean tree vs) (Err stop)
unclean-stops tree vs at stop unclean place told = rw told (ap (At NotYet 0) place, unclean)

-- a core has as many variables as its model
as_many_sets : (names : List (List ℕ)) (env : Environment) (vs : List VariableItem) (goal : Option Goal) (cs : List Cons) → length (sets_of vs) ≡ length (declared (core_of names env vs goal cs))
unfolding declared
as_many_sets names env vs goal cs = sym (length-map _ _ ∙ length-map _ _)

-- what is made of a step that came to a value, and of the one behind it
step-came : {A B : Type 0} (r : Made A) (f : A → Made B) (b : B) → next r f ≡ Ok b → (a : A) × (r ≡ Ok a) × (f a ≡ Ok b)
step-came (Ok a) f b e = (a, refl, e)
step-came (Err fault) f b e = absurd (grind rules)

-- the objective and the constraints came to these
forms-came : (tree : ModelTree) (env : Environment) (vs : List VariableItem) (goal : Option Goal) (cs : List Cons) → forms_of tree env vs ≡ Ok (goal, cs) →
    (goal_of tree env vs ≡ Ok goal) × (constraints_of tree env vs goal ≡ Ok cs)
forms-came tree env vs goal cs e =
    let first = step-came (goal_of tree env vs) _ _ e in
    let second = step-came (constraints_of tree env vs first.0) _ _ first.2 in
    grind rules

-- the core of an accepted model is ready for its search
pub subject-ready : SearchFindsAll → SearchBegins → ValuesMean → (tree : ModelTree) (files : List DataTree) (d : Data) (vs : List VariableItem) (goal : Option Goal) (cs : List Cons) → All (λ i. IsKeyed i.value) d.environment.items →
    bound (positions tree) tree.decls files [] ≡ Ok d → variables_in d.environment [] tree.decls ≡ Ok vs → is_clean_whole vs (names_of no_names tree.decls) tree.instr ≡ true →
    forms_of tree d.environment vs ≡ Ok (goal, cs) → IsReady (subject_of tree d vs goal cs)
subject-ready search_finds_all search_begins values_mean tree files d vs goal cs keyed given made clean formed =
    let came = forms-came tree d.environment vs goal cs formed in
    let accepted : IsAccepted tree d.environment vs goal cs = record {
      keyed = keyed;
      filled = arrays_filled (positions tree) tree.decls files [] d given;
      variables = made;
      clean = clean;
      objective = came.0;
      constraints = came.1;
    } in
    record {
      ground = core_is_ground d.known.enumerations tree d.environment vs goal cs accepted;
      plain = refl;
      as_many = as_many_sets _ d.environment vs goal cs;
      all = λ n whole. search_finds_all d.known.enumerations tree d.environment vs goal cs accepted false n whole;
      first = λ n. search_begins d.known.enumerations tree d.environment vs goal cs accepted false n;
      values = λ ns among. values_mean d.known.enumerations tree d.environment vs goal cs accepted ns among;
    }
