-- The objective, the bound that a best value sets, and the better ones of a list of assignments.
use Rattle.std.specs.Prelude.{Bool, true, false, cond, List, [], ◌∷◌, ℤ, ◌≤ℤ◌, int_lt, Option, Some, None}
use Rattle.opl_expr.specs.Forms.{Term, Fact}
use Rattle.opl_expr.specs.Forms.Relation.{below}
use Rattle.opl_expr.specs.Holds.{value}

-- whether the greatest value is the best, and the expression
pub record Objective : Type 0 where
  pub is_most : Bool
  pub term : Term

-- the expression is better than the number
abbrev pub better_than : Objective → ℤ → Fact
better_than g b = cond g.is_most (Fact.cmp below (Term.const b) g.term) (Fact.cmp below g.term (Term.const b))

-- with an objective and a best value, one more constraint: to be better
abbrev pub bound : Option Objective → Option ℤ → List Fact
bound None b = []
bound (Some g) None = []
bound (Some g) (Some b) = better_than g b ∷ []

-- the best value after a solution
abbrev pub best_after : Option Objective → List ℤ → Option ℤ → Option ℤ
best_after None a b = b
best_after (Some g) a b = value a g.term

-- the first value is better than the second, and than none
abbrev pub is_better : Objective → Option ℤ → Option ℤ → Bool
is_better g None b = false
is_better g (Some v) None = true
is_better g (Some v) (Some w) = cond g.is_most (int_lt w v) (int_lt v w)

-- the assignments of a list that are better than b and than all before them
abbrev pub improving_from : Objective → Option ℤ → List (List ℤ) → List (List ℤ)
improving_from g b [] = []
improving_from g b (a ∷ others) = cond (is_better g (value a g.term) b) (a ∷ improving_from g (value a g.term) others) (improving_from g b others)

-- the assignments of a list that are better than all before them; without an objective all of them
abbrev pub improving : Option Objective → List (List ℤ) → List (List ℤ)
improving None assignments = assignments
improving (Some g) assignments = improving_from g None assignments

-- one number is at least as good as another
abbrev pub NotWorse : Bool → ℤ → ℤ → Type 0
NotWorse true i j = i ≤ℤ j
NotWorse false i j = j ≤ℤ i

-- the best value c is at least as good as b
abbrev pub Tighter : Objective → Option ℤ → Option ℤ → Type 0
Tighter g None c = Unit {0}
Tighter g (Some i) None = ⊥
Tighter g (Some i) (Some j) = NotWorse g.is_most i j
