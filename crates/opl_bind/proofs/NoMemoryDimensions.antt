-- Want of memory is no fault of the ends and index sets that declarations write.
use Rattle.std.proofs.Common.{List, [], ◌∷◌, ◌++◌, Ok, Err}
use Rattle.opl_tree.specs.declared.declaration.DimTree.{DimTree}
use Rattle.opl_tree.specs.declared.declaration.DimsTree.{DimsTree}
use Rattle.opl_tree.specs.declared.expression.AddTree.{AddTree}
use Rattle.opl_term.specs.declared.term.SetTerm.{SetTerm}
use Rattle.opl_term.specs.declared.term.Term.{Term}
use Rattle.opl_term.specs.Terms.{add_term, set_term}
use Rattle.opl_eval.specs.Evaluation.{Environment, Found, eval, set_meaning}
use Rattle.opl_eval.proofs.NoMemory as evaluation
use Rattle.opl_given.specs.Arrays.{Axis}
use Rattle.opl_bind.specs.Dimensions.{evaluated, number_in, set_in, axis_in, axes_in, dims_of, space_in}
use Rattle.opl_given.proofs.NoMemory.{Comes, Evaluated, Real, evaluated_ok, evaluated_then, real_evaluated}

-- ---- the expressions of declarations

pub evaluated_real : {A : Type 0} (f : Found A) → evaluation.Real f → Evaluated (evaluated f)
unfolding Comes evaluation.Real
evaluated_real (Ok a) h = tt
evaluated_real (Err e) h = h

pub real_found_evaluating : {A : Type 0} (f : Found A) → evaluation.Real f → Real (evaluated f)
real_found_evaluating f h = real_evaluated (evaluated f) (evaluated_real f h)

pub evaluated_eval : (t : Term) (env : Environment) → Evaluated (evaluated (eval t env))
evaluated_eval t env = evaluated_real (eval t env) (evaluation.real_eval t env)

pub evaluated_number : (env : Environment) (t : AddTree) → Evaluated (number_in env t)
unfolding number_in
evaluated_number env t = evaluated_then (evaluated (eval (add_term t) env)) _ (evaluated_eval (add_term t) env) (λ v. evaluated_ok _)

evaluated_set : (env : Environment) (t : SetTerm) → Evaluated (set_in env t)
evaluated_set env t = evaluated_then (evaluated ((set_meaning t).value env)) _ (evaluated_real ((set_meaning t).value env) (evaluation.real_set_meaning t env)) (λ s. evaluated_ok _)

evaluated_axis : (env : Environment) (t : DimTree) → Evaluated (axis_in env t)
unfolding axis_in
evaluated_axis env t = evaluated_then (set_in env (set_term t.set)) _ (evaluated_set env (set_term t.set)) (λ s. evaluated_ok _)

-- index sets have the faults of their expressions alone
pub evaluated_axes : (env : Environment) (before : List Axis) (ts : List DimTree) → Evaluated (axes_in env before ts)
evaluated_axes env before [] = evaluated_ok before
evaluated_axes env before (t ∷ ts) = evaluated_then (axis_in env t) (λ axis. axes_in env (before ++ axis ∷ []) ts) (evaluated_axis env t) (λ axis. evaluated_axes env (before ++ axis ∷ []) ts)

pub evaluated_space : (env : Environment) (dims : DimsTree) → Evaluated (space_in env dims)
unfolding space_in
evaluated_space env dims = evaluated_then (axes_in env [] (dims_of dims)) _ (evaluated_axes env [] (dims_of dims)) (λ axes. evaluated_ok _)

pub real_number_in : (env : Environment) (t : AddTree) → Real (number_in env t)
real_number_in env t = real_evaluated (number_in env t) (evaluated_number env t)

pub real_axes : (env : Environment) (before : List Axis) (ts : List DimTree) → Real (axes_in env before ts)
real_axes env before ts = real_evaluated (axes_in env before ts) (evaluated_axes env before ts)
