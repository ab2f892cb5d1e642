-- The sum of the greatest values of variables, and the constraint that the sum of variables is at most a limit.
use Rattle.std.specs.Prelude.{◌≡◌, ℕ, ◌<◌, List, [], ◌∷◌, map, length, ℤ, pos, ◌+ℤ◌, slice_index_or, Option, Some, None}
use Rattle.opl_domain.specs.Family.{Family, hull}
use Rattle.opl_expr.specs.Forms.{Term, Fact, terms_of}
use Rattle.opl_expr.specs.Forms.Relation.{at_most}

-- the greatest values of variables together
abbrev pub total_most : Family → List ℕ → ℤ
total_most F [] = pos 0
total_most F (x ∷ xs) = (hull F x).high +ℤ total_most F xs

-- the sum of the variables is at most k
abbrev pub at_most_limit : List ℕ → ℤ → Fact
at_most_limit xs k = Fact.cmp at_most (Term.sum (terms_of (map Term.var xs))) (Term.const k)

-- the sum that is kept, if there is one, is that of the family
abbrev pub IsMost : Option ℤ → Family → List ℕ → Type 0
IsMost None F xs = Unit {0}
IsMost (Some s) F xs = s ≡ total_most F xs

-- each of the list is one of n variables
abbrev pub AreAmong : ℕ → List ℕ → Type 0
AreAmong n xs = (k : ℕ) → k < length xs → slice_index_or xs k 0 < n
