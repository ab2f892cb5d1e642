-- What a core asks of an assignment, as plain data.
use Rattle.std.specs.Prelude.{Bool, true, false, ◌&&◌, List, [], ◌∷◌, ◌++◌, map, ℤ, Option, Some, None}
use Rattle.std.specs.List.{list_all}
use Rattle.opl_domain.specs.Span.{values}
use Rattle.opl_domain.specs.Family.{Family, member}
use Rattle.opl_expr.specs.declared.model.Core.{Core}
use Rattle.opl_expr.specs.Forms.{Relation, Term, Fact, term, fact}
use Rattle.opl_expr.specs.Options.{lift1}
use Rattle.opl_expr.specs.Holds.{holds}

-- the constraints of a core
abbrev pub facts : Core → List Fact
facts core = map (fact core.tables core.resources) core.cons

-- the expression of the objective
abbrev pub goal_term : Core → Option Term
goal_term core = lift1 (λ g. term core.tables core.resources g.value) core.goal

-- an objective is compared with itself, so that it must be defined
abbrev pub definedness : Option Term → List Fact
definedness None = []
definedness (Some t) = Fact.cmp Relation.equal t t ∷ []

-- the constraints of a core, and the one that asks for a defined objective
abbrev pub base : Core → List Fact
base core = facts core ++ definedness (goal_term core)

-- the declared sets, each the numbers between its ends
unfoldable pub declared : Core → Family
declared core = map (λ p. values (record { low = p.0; high = p.1 })) core.sets

-- each value is one of its variable's set, and there is one for each variable
abbrev pub is_among : List ℤ → Family → Bool
is_among [] [] = true
is_among [] (vs ∷ F) = false
is_among (v ∷ a) [] = false
is_among (v ∷ a) (vs ∷ F) = member v vs && is_among a F

abbrev pub is_true : Option Bool → Bool
is_true None = false
is_true (Some b) = b

-- an assignment of the declared sets on which each constraint holds, and the objective, if there is one, is defined
unfoldable pub is_solution : Core → List ℤ → Bool
is_solution core a = is_among a (declared core) && list_all (λ c. is_true (holds a c)) (base core)
