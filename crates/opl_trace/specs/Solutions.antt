-- The solutions of a core.
use Rattle.std.specs.Prelude.{Bool, List, [], ◌∷◌, map, ℤ}
use Rattle.std.specs.List.{filter, flat_map, list_all}
use Rattle.opl_domain.specs.Family.{Family}
use Rattle.opl_expr.specs.declared.model.Core.{Core}
use Rattle.opl_expr.specs.Forms.{Fact}
use Rattle.opl_expr.specs.Holds.{holds}
use Rattle.opl_expr.specs.Solutions.{declared, is_true, is_solution}

-- all assignments of the sets of D, in lexicographic order
abbrev pub product : Family → List (List ℤ)
product [] = [] ∷ []
product (vs ∷ D) = flat_map (λ v. map (λ a. v ∷ a) (product D)) vs

-- all constraints hold on an assignment
abbrev pub satisfies : List Fact → List ℤ → Bool
satisfies P a = list_all (λ c. is_true (holds a c)) P

-- the solutions of a core
unfoldable pub solutions : Core → List (List ℤ)
solutions core = filter (is_solution core) (product (declared core))
