-- The solutions of a model: the assignments of the declared sets, in lexicographic order, on which all instances hold.
use Rattle.std.specs.Prelude.{ℤ, Bool, false, filter, List}
use Rattle.std.specs.List.{list_all}
use Rattle.opl_eval.specs.Evaluation.{Environment, eval, with_parameters}
use Rattle.opl_meaning.specs.declared.variable.VariableItem.{VariableItem}
use Rattle.opl_meaning.specs.Assigned.{with_variables}
use Rattle.opl_meaning.specs.Solutions.{declared_sets, product, truth}
use Rattle.opl_draft.specs.Instances.{Instance}
use Rattle.opl_draft.specs.Instances.Instance.{posted, stopped}

-- a model with its data: the declared names with their values, the decision variables, and the conditions
pub record Model : Type 0 where
  pub environment : Environment
  pub variables : List VariableItem
  pub conditions : List Instance

-- whether an instance holds where the decision variables have the values of an assignment; what comes to no value does not hold
abbrev pub holds : Environment → List VariableItem → List ℤ → Instance → Bool
holds env items ns (posted at t ps) = truth (eval t (with_variables items ns (with_parameters ps env)))
holds env items ns (stopped fault) = false

abbrev pub satisfies : Model → List ℤ → Bool
satisfies m ns = list_all (holds m.environment m.variables ns) m.conditions

unfoldable pub solutions : Model → List (List ℤ)
solutions m = filter (satisfies m) (product (declared_sets m.variables))
