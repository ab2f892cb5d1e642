-- What is told of literals that share variables.
use Rattle.std.specs.Prelude.{◌≡◌, ◌≢◌, ℕ, ◌≤◌, Bool, true, false, cond, List, slice_get, Some}
use Rattle.opl_filter.specs.Mentions.{lists}
use Rattle.opl_count.specs.declared.sum.Literal.{Literal}
use Rattle.opl_count.specs.Costs.{weights_on}
use Rattle.opl_count.specs.Sums.{AreApart, IsAlone}

-- whether two lists have a variable in common
abbrev pub Shares : List ℕ → List ℕ → Bool → Type 0
Shares xs ys false = AreApart xs ys
Shares xs ys true = (x : ℕ) × (lists xs x ≡ true) × (lists ys x ≡ true)

-- the literals at two places are apart, where that are two
abbrev pub AreApartAt : List Literal → ℕ → ℕ → Type 0
AreApartAt ls i j = (l m : Literal) → slice_get ls i ≡ Some l → slice_get ls j ≡ Some m → j ≢ i → AreApart l.part.variables m.part.variables

-- whether the literals at two places hang together
abbrev pub Hangs : List Literal → ℕ → ℕ → Bool → Type 0
Hangs ls i j false = AreApartAt ls i j
Hangs ls i j true = AreApartAt ls i j → ⊥

-- whether no other literal has a variable of the one at a place
abbrev pub IsAloneIf : List Literal → ℕ → Bool → Type 0
IsAloneIf ls i false = IsAlone ls i → ⊥
IsAloneIf ls i true = IsAlone ls i

-- at most its weight, and as much where the literal at place j has a variable of the one at place i
abbrev pub SharesWeight : List Literal → ℕ → ℕ → ℕ → Type 0
SharesWeight ls i j w = (l m : Literal) → slice_get ls i ≡ Some l → slice_get ls j ≡ Some m → (w ≤ m.weight) × ((x : ℕ) → lists l.part.variables x ≡ true → cond (lists m.part.variables x) m.weight 0 ≤ w)

-- as much as the literals have that have a variable of the one at a place
abbrev pub Reaches : List Literal → ℕ → ℕ → Type 0
Reaches ls i w = (l : Literal) → slice_get ls i ≡ Some l → (x : ℕ) → lists l.part.variables x ≡ true → weights_on x ls ≤ w
