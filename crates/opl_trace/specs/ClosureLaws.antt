-- What is proved of stable families and of the closure.
use Rattle.std.specs.Prelude.{◌≡◌, ◌↔◌, Bool, true, false, List, ℤ, Option, Some, None}
use Rattle.opl_domain.specs.Family.{Family, Below}
use Rattle.opl_expr.specs.Laws.{singles}
use Rattle.opl_trace.specs.Stable.{IsMonotone, IsStable, IsUnionOf, IsStableUnion, IsGreatestStable, HasFailed}
use Rattle.opl_trace.specs.Closure.{closure}

-- the union of any stable families of the same variables is stable
abbrev pub UnionIsStable : Type 0
UnionIsStable = (dead among : Family → Bool) (U : Family) → IsMonotone dead → IsUnionOf among U → ((F : Family) → among F ≡ true → IsStable dead F) → IsStable dead U

-- the union of all stable families within D is the greatest of them, and the greatest is the union
abbrev pub ClosureIsGreatest : Type 0
ClosureIsGreatest = (dead : Family → Bool) (D C : Family) → IsMonotone dead → IsStableUnion dead D C ↔ IsGreatestStable dead D C

-- what the closure answers
abbrev pub ClosesTo : (Family → Bool) → Family → Option Family → Type 0
ClosesTo dead D None = HasFailed dead D
ClosesTo dead D (Some C) = IsStableUnion dead D C

-- the closure is the union of all stable families within D, or there is none
abbrev pub ClosureIsUnion : Type 0
ClosureIsUnion = (dead : Family → Bool) (D : Family) → IsMonotone dead → ClosesTo dead D (closure dead D)

-- the closure holds a family
abbrev pub IsBelowSome : Family → Option Family → Type 0
IsBelowSome F None = ⊥
IsBelowSome F (Some C) = Below F C

-- an assignment of the sets of D that isn't dead lies in the closure
abbrev pub NoneLost : Type 0
NoneLost = (dead : Family → Bool) (D : Family) (a : List ℤ) → IsMonotone dead → dead (singles a) ≡ false → Below (singles a) D → IsBelowSome (singles a) (closure dead D)
