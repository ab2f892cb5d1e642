-- What the expressions of declarations come to: ends of ranges, and index sets.
use Rattle.std.specs.Prelude.{ℕ, ℤ, List, [], ◌∷◌, ◌++◌, map, Ok, Err}
use Rattle.opl_tree.specs.declared.declaration.DimTree.{DimTree}
use Rattle.opl_tree.specs.declared.declaration.DimsTree.{DimsTree}
use Rattle.opl_tree.specs.declared.expression.AddTree.{AddTree}
use Rattle.opl_term.specs.declared.term.SetTerm.{SetTerm}
use Rattle.opl_term.specs.declared.term.Term.{Term}
use Rattle.opl_value.specs.declared.value.IndexSpace.{IndexSpace}
use Rattle.opl_value.specs.declared.value.Value.{Value}
use Rattle.opl_term.specs.Terms.{add_term, set_term}
use Rattle.opl_eval.specs.declared.fault.EvalFault.{EvalFault}
use Rattle.opl_eval.specs.declared.fault.EvalFault.TheVariants as eval_faults
use Rattle.opl_eval.specs.Compare.{number}
use Rattle.opl_eval.specs.Evaluation.{Environment, Found, declaration_of, eval, set_meaning}
use Rattle.opl_given.specs.declared.fault.BindFault.{BindFault}
use Rattle.opl_given.specs.declared.fault.BindFault.TheVariants.{Eval, OutOfMemory}
use Rattle.opl_given.specs.Arrays.{Axis}
use Rattle.opl_given.specs.Axes.{axis_of_set}
use Rattle.opl_given.specs.Faults.{Bound, found, then}
use Rattle.opl_value.specs.Places.{space_of}

-- what is found by evaluation, its fault as one of a declaration
abbrev pub evaluated : {A : Type 0} → Found A → Bound A
evaluated (Ok a) = Ok a
evaluated (Err fault) = Err (Eval fault)

-- a fault of evaluation as one of a declaration
abbrev pub fault_of : EvalFault → BindFault
fault_of eval_faults.OutOfMemory = OutOfMemory
fault_of fault = Eval fault

-- what an expression comes to
abbrev pub value_of : Environment → Term → Bound Value
value_of env t = evaluated (eval t env)

-- the number that an expression comes to
unfoldable pub number_in : Environment → AddTree → Bound ℤ
number_in env t = then (value_of env (add_term t)) (λ v. Ok (number v))

-- a set, and the number of the enumeration's declaration if it is one
pub record Declared : Type 0 where
  pub value : Value
  pub declaration : ℕ

abbrev pub set_in : Environment → SetTerm → Bound Declared
set_in env t = then (evaluated ((set_meaning t).value env)) (λ set. Ok (record { value = set; declaration = declaration_of ((set_meaning t).item env) }))

-- the index set of a dimension
unfoldable pub axis_in : Environment → DimTree → Bound Axis
axis_in env t = then (set_in env (set_term t.set)) (λ set. Ok (axis_of_set set.declaration set.value))

-- the index sets of dimensions, in order, behind those before
abbrev pub axes_in : Environment → List Axis → List DimTree → Bound (List Axis)
axes_in env before [] = Ok before
axes_in env before (t ∷ ts) = then (axis_in env t) (λ axis. axes_in env (before ++ axis ∷ []) ts)

-- the dimensions that are written
abbrev pub dims_of : DimsTree → List DimTree
dims_of dims = dims.first ∷ dims.rest

-- the index space of dimensions
unfoldable pub space_in : Environment → DimsTree → Bound IndexSpace
space_in env dims = found (λ axes. space_of (map (λ a. a.dimension) axes)) (axes_in env [] (dims_of dims))

-- a fault of evaluation, or want of memory
abbrev pub IsOfEvaluation : BindFault → Type 0
IsOfEvaluation (Eval fault) = Unit {0}
IsOfEvaluation OutOfMemory = Unit {0}
IsOfEvaluation fault = ⊥
