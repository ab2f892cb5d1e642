-- Objectives: their values under assignments, the solutions of a model with an objective, and which of them are better than all before them.
use Rattle.std.specs.Prelude.{ℤ, int_lt, Bool, true, false, cond, filter, List, [], ◌∷◌, Option, Some, None, is_some, Ok, Err}
use Rattle.opl_tree.specs.declared.instruction.InstrTree.{InstrTree}
use Rattle.opl_tree.specs.declared.instruction.InstrTree.TheVariants as instr
use Rattle.opl_tree.specs.declared.instruction.Optimum.{Optimum}
use Rattle.opl_tree.specs.declared.instruction.Optimum.TheVariants.{Least, Greatest}
use Rattle.opl_term.specs.declared.term.Term.{Term}
use Rattle.opl_term.specs.Terms.{expr_term}
use Rattle.opl_value.specs.declared.value.Value.{Value}
use Rattle.opl_eval.specs.Compare.{number}
use Rattle.opl_eval.specs.Evaluation.{Environment, Found, eval}
use Rattle.opl_meaning.specs.declared.variable.VariableItem.{VariableItem}
use Rattle.opl_meaning.specs.Assigned.{with_variables}
use Rattle.opl_draft.specs.Solutions as conditions
use Rattle.opl_draft.specs.Solutions.{Model}

-- ---- objectives

-- An objective: whether the greatest value is the best, and its expression.
pub record Objective : Type 0 where
  pub is_most : Bool
  pub term : Term

abbrev pub is_greatest : Optimum → Bool
is_greatest Least = false
is_greatest Greatest = true

-- The objective of a model's instruction, if it has one.
abbrev pub objective_of : InstrTree → Option Objective
objective_of (instr.Solve at block) = None
objective_of (instr.Optimize at optimum objective block) = Some (record { is_most = is_greatest optimum; term = expr_term objective })

-- The number that is found, if there is no fault.
abbrev pub number_found : Found Value → Option ℤ
number_found (Ok v) = Some (number v)
number_found (Err fault) = None

-- The value of an objective where the decision variables have the values of an assignment, if it comes to one.
abbrev pub objective_value : Environment → List VariableItem → Objective → List ℤ → Option ℤ
objective_value env items g ns = number_found (eval g.term (with_variables items ns env))

-- ---- solutions

-- A model with its data, and its objective, if it has one.
pub record Problem : Type 0 where
  pub model : Model
  pub objective : Option Objective

-- The value of the objective of a problem; there is none without an objective.
abbrev pub value_by : Model → Option Objective → List ℤ → Option ℤ
value_by m None ns = None
value_by m (Some g) ns = objective_value m.environment m.variables g ns

abbrev pub value_of : Problem → List ℤ → Option ℤ
value_of p ns = value_by p.model p.objective ns

-- Under an assignment an objective comes to a value.
abbrev pub is_defined_by : Model → Option Objective → List ℤ → Bool
is_defined_by m None ns = true
is_defined_by m (Some g) ns = is_some (objective_value m.environment m.variables g ns)

abbrev pub is_defined : Problem → List ℤ → Bool
is_defined p ns = is_defined_by p.model p.objective ns

-- The solutions: the assignments of the declared sets, in lexicographic order, on which all conditions hold and the objective, if there is one, is defined.
unfoldable pub solutions : Problem → List (List ℤ)
solutions p = filter (is_defined p) (conditions.solutions p.model)

-- ---- the better ones

-- The first value is better than the second, and than none.
abbrev pub is_better : Bool → Option ℤ → Option ℤ → Bool
is_better is_most None best = false
is_better is_most (Some v) None = true
is_better is_most (Some v) (Some w) = cond is_most (int_lt w v) (int_lt v w)

-- Those of a list whose value is better than `best` and than that of each before them.
abbrev pub better_than : Bool → (List ℤ → Option ℤ) → Option ℤ → List (List ℤ) → List (List ℤ)
better_than is_most value best [] = []
better_than is_most value best (ns ∷ rest) =
    cond (is_better is_most (value ns) best) (ns ∷ better_than is_most value (value ns) rest) (better_than is_most value best rest)

-- The members of a list whose value is better than that of each before them; without an objective all members.
abbrev pub improving_by : Model → Option Objective → List (List ℤ) → List (List ℤ)
improving_by m None list = list
improving_by m (Some g) list = better_than g.is_most (objective_value m.environment m.variables g) None list

abbrev pub improving : Problem → List (List ℤ) → List (List ℤ)
improving p list = improving_by p.model p.objective list
