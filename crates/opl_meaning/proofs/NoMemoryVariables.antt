-- Want of memory is no fault of the decision variables that are declared.
use Rattle.std.proofs.Common.{◌≡◌, ◌≢◌, ℕ, ◌+◌, ℤ, Bool, true, false, cond, length, List, [], ◌∷◌, ◌++◌, Option, None, Some, Ok, Err, subst}
use Rattle.std.specs.Prelude.{nat_le, unsigned_abs, ◌^◌}
use Rattle.opl_tree.specs.declared.declaration.BoundsTree.{BoundsTree}
use Rattle.opl_tree.specs.declared.declaration.DeclTree.{DeclTree}
use Rattle.opl_tree.specs.declared.declaration.DeclTree.TheVariants as decls
use Rattle.opl_tree.specs.declared.declaration.DimTree.{DimTree}
use Rattle.opl_tree.specs.declared.declaration.DimsTree.{DimsTree}
use Rattle.opl_tree.specs.declared.declaration.VariableTree.{VariableTree}
use Rattle.opl_tree.specs.declared.declaration.VariableTypeTree.{VariableTypeTree}
use Rattle.opl_tree.specs.declared.expression.AddTree.{AddTree}
use Rattle.opl_term.specs.Terms.{add_term}
use Rattle.opl_value.specs.declared.value.Value.{Value}
use Rattle.opl_value.specs.Places.{elements, lists}
use Rattle.opl_eval.specs.declared.fault.EvalFault.TheVariants as evaluation_faults
use Rattle.opl_eval.specs.Compare.{number}
use Rattle.opl_eval.specs.Evaluation.{Environment, Found, eval}
use Rattle.opl_eval.proofs.NoMemory as evaluation
use Rattle.opl_given.specs.declared.fault.BindFault.{BindFault}
use Rattle.opl_given.specs.declared.fault.BindFault.TheVariants as faults
use Rattle.opl_bind.specs.Dimensions.{space_in}
use Rattle.opl_given.specs.Faults.{Bound}
use Rattle.opl_given.proofs.NoMemory as binding
use Rattle.opl_bind.proofs.NoMemoryDimensions.{evaluated_space}
use Rattle.opl_meaning.specs.declared.fault.MeaningFault.{MeaningFault}
use Rattle.opl_meaning.specs.declared.fault.MeaningFault.TheVariants.{Eval, TooManyVariables, TooFar, TooWide, TooManyValues, OutOfMemory}
use Rattle.opl_meaning.specs.declared.totals.Totals.{Totals}
use Rattle.opl_meaning.specs.declared.variable.DeclaredSet.{DeclaredSet}
use Rattle.opl_meaning.specs.declared.variable.VariableItem.{VariableItem}
use Rattle.opl_meaning.specs.Faults.{Made, then, found, evaluated}
use Rattle.opl_meaning.specs.Variables.{Ends, fault_of, spaced, ends_of_type, end_in, ends_in, near, near_set, size_of, values_of, few_values, limited_set, set_in, with_name, over, each_set, item_with, few_variables, item_over, item_in, totals_of, with_decl, variables_in}

-- a fault other than want of memory, in an expression too
abbrev pub IsReal : MeaningFault → Type 0
IsReal (Eval fault) = evaluation.IsReal fault
IsReal (TooManyVariables at) = Unit {0}
IsReal (TooFar at) = Unit {0}
IsReal (TooWide at) = Unit {0}
IsReal (TooManyValues at) = Unit {0}
IsReal OutOfMemory = ⊥

-- what is made, or a fault other than want of memory
unfoldable pub Real : {A : Type 0} → Made A → Type 0
Real (Ok a) = Unit {0}
Real (Err e) = IsReal e

pub real_ok : {A : Type 0} (a : A) → Real (Ok a)
unfolding Real
real_ok a = tt

pub real_err : (A : Type 0) (e : MeaningFault) → IsReal e → Real {A = A} (Err e)
unfolding Real
real_err A e h = h

pub real_fault : {A : Type 0} (m : Made A) (e : MeaningFault) → Real m → m ≡ Err e → IsReal e
unfolding Real
real_fault m e h is = subst (λ n. Real n) is h

pub real_never : {A : Type 0} (m : Made A) → Real m → m ≢ Err OutOfMemory
real_never m h is = real_fault m OutOfMemory h is

pub real_never_evaluating : {A : Type 0} (m : Made A) → Real m → m ≢ Err (Eval evaluation_faults.OutOfMemory)
real_never_evaluating m h is = real_fault m (Eval evaluation_faults.OutOfMemory) h is

-- ---- one after another

pub real_then : {A B : Type 0} (m : Made A) (f : A → Made B) → Real m → ((a : A) → Real (f a)) → Real (then m f)
unfolding Real
real_then (Ok a) f h g = g a
real_then (Err e) f h g = h

pub real_found : {A B : Type 0} (f : A → B) (m : Made A) → Real m → Real (found f m)
real_found f m h = real_then m (λ a. Ok (f a)) h (λ a. real_ok (f a))

real_cond : {A : Type 0} (t : Bool) (x y : Made A) → Real x → Real y → Real (cond t x y)
real_cond true x y h g = h
real_cond false x y h g = g

pub real_evaluated : {A : Type 0} (f : Found A) → evaluation.Real f → Real (evaluated f)
unfolding Real evaluation.Real
real_evaluated (Ok a) h = tt
real_evaluated (Err e) h = h

-- ---- index sets

is_real : (e : BindFault) → binding.IsEvaluated e → IsReal (fault_of e)
is_real (faults.Given name) h = absurd h
is_real (faults.Twice name) h = absurd h
is_real (faults.Missing name) h = absurd h
is_real (faults.Shape file at) h = absurd h
is_real (faults.Outside file at) h = absurd h
is_real (faults.Override name) h = absurd h
is_real (faults.Eval fault) h = h
is_real faults.OutOfMemory h = absurd h

pub real_spaced : {A : Type 0} (b : Bound A) → binding.Evaluated b → Real (spaced b)
unfolding Real binding.Comes
real_spaced (Ok a) h = tt
real_spaced (Err e) h = is_real e h

-- ---- the ends of declared sets

real_end : (env : Environment) (t : AddTree) → Real (end_in env t)
real_end env t = real_found number (evaluated (eval (add_term t) env)) (real_evaluated (eval (add_term t) env) (evaluation.real_eval (add_term t) env))

real_ends : (env : Environment) (kind : VariableTypeTree) (bounds : Option BoundsTree) → Real (ends_in env kind bounds)
real_ends env kind None = real_ok (ends_of_type env kind)
real_ends env kind (Some bounds) = real_then (end_in env bounds.low) _ (real_end env bounds.low) (λ low. real_then (end_in env bounds.high) _ (real_end env bounds.high) (λ high. real_ok _))

real_near : (at : ℕ) (n : ℤ) → Real (near at n)
real_near at n = real_cond (nat_le (unsigned_abs n) (2 ^ 62)) (Ok n) (Err (TooFar at)) (real_ok n) (real_err ℤ (TooFar at) tt)

real_near_set : (at : ℕ) (ends : Ends) → Real (near_set at ends)
real_near_set at ends = real_then (near at ends.low) _ (real_near at ends.low) (λ low. real_then (near at ends.high) _ (real_near at ends.high) (λ high. real_ok _))

real_few : (at before : ℕ) (set : DeclaredSet) → Real (few_values at before set)
real_few at before set =
    real_cond (nat_le (size_of set) 1048576) (cond (nat_le (before + size_of set) 33554432) (Ok set) (Err (TooManyValues at))) (Err (TooWide at))
    (real_cond (nat_le (before + size_of set) 33554432) (Ok set) (Err (TooManyValues at)) (real_ok set) (real_err DeclaredSet (TooManyValues at) tt)) (real_err DeclaredSet (TooWide at) tt)

real_limited : (at before : ℕ) (ends : Ends) → Real (limited_set at before ends)
real_limited at before ends = real_then (near_set at ends) (few_values at before) (real_near_set at ends) (λ set. real_few at before set)

real_set : (t : VariableTree) (before : ℕ) (env : Environment) → Real (set_in t before env)
real_set t before env = real_then (ends_in env t.kind t.bounds) (limited_set t.at before) (real_ends env t.kind t.bounds) (λ ends. real_limited t.at before ends)

-- ---- one declaration

real_over : {A : Type 0} (next : Value → List A → Made (List A)) (before : List A) (vs : List Value) → ((v : Value) (more : List A) → Real (next v more)) → Real (over next before vs)
real_over next before [] h = real_ok before
real_over next before (v ∷ vs) h = real_then (next v before) (λ more. over next more vs) (h v before) (λ more. real_over next more vs h)

real_last : (t : VariableTree) (values : ℕ) (env : Environment) (before : List DeclaredSet) → Real (then (set_in t values env) (λ set. Ok (before ++ set ∷ [])))
real_last t values env before = real_then (set_in t values env) (λ set. Ok (before ++ set ∷ [])) (real_set t values env) (λ set. real_ok (before ++ set ∷ []))

real_each_set : (t : VariableTree) (earlier : ℕ) (ds : List DimTree) (vss : List (List Value)) (env : Environment) (before : List DeclaredSet) → Real (each_set t earlier ds vss env before)
real_each_set t earlier [] vss env before = real_last t (earlier + values_of before) env before
real_each_set t earlier (d ∷ ds) [] env before = real_last t (earlier + values_of before) env before
real_each_set t earlier (d ∷ ds) (vs ∷ others) env before =
    real_over (λ v more. each_set t earlier ds others (with_name d.name v env) more) before vs (λ v more. real_each_set t earlier ds others (with_name d.name v env) more)

real_few_variables : {A : Type 0} (at before more : ℕ) (made : Made A) → Real made → Real (few_variables at before more made)
real_few_variables {A} at before more made h = real_cond (nat_le (before + more) 65536) made (Err (TooManyVariables at)) h (real_err A (TooManyVariables at) tt)

real_item_over : (env : Environment) (before : Totals) (t : VariableTree) (dims : Option DimsTree) → Real (item_over env before t dims)
real_item_over env before t None =
    real_few_variables t.at before.variables 1 _ (real_then (set_in t before.values env) (λ set. Ok (item_with t env None (set ∷ []))) (real_set t before.values env) (λ set. real_ok (item_with t env None (set ∷ []))))
real_item_over env before t (Some dims) =
    real_then (spaced (space_in env dims)) _ (real_spaced (space_in env dims) (evaluated_space env dims))
    (λ space. real_few_variables t.at before.variables (elements (lists space)) _
    (real_found (item_with t env (Some space)) (each_set t before.values (dims.first ∷ dims.rest) (lists space) env []) (real_each_set t before.values (dims.first ∷ dims.rest) (lists space) env [])))

pub real_item : (env : Environment) (before : Totals) (t : VariableTree) → Real (item_in env before t)
unfolding item_in
real_item env before t = real_item_over env before t t.dims

-- ---- all declarations

real_decl : (env : Environment) (before : List VariableItem) (t : DeclTree) → Real (with_decl env before t)
real_decl env before (decls.Variable t) = real_found (λ v. before ++ v ∷ []) (item_in env (totals_of before) t) (real_item env (totals_of before) t)
real_decl env before t = real_ok before

-- no decision variables are want of memory
pub real_variables : (env : Environment) (before : List VariableItem) (ts : List DeclTree) → Real (variables_in env before ts)
unfolding variables_in
real_variables env before [] = real_ok before
real_variables env before (t ∷ ts) = real_then (with_decl env before t) (λ more. variables_in env more ts) (real_decl env before t) (λ more. real_variables env more ts)

pub variables_never_memory : (env : Environment) (before : List VariableItem) (ts : List DeclTree) → variables_in env before ts ≢ Err OutOfMemory
variables_never_memory env before ts = real_never (variables_in env before ts) (real_variables env before ts)

pub variables_never_memory_evaluating : (env : Environment) (before : List VariableItem) (ts : List DeclTree) → variables_in env before ts ≢ Err (Eval evaluation_faults.OutOfMemory)
variables_never_memory_evaluating env before ts = real_never_evaluating (variables_in env before ts) (real_variables env before ts)
