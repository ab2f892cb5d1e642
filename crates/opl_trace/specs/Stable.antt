-- Stable families. A test says of each family whether it is dead, as whether it refutes a constraint of a list.
use Rattle.std.specs.Prelude.{◌≡◌, ◌↔◌, ℕ, ◌<◌, Bool, true, false, length, ℤ}
use Rattle.opl_domain.specs.Family.{Family, has, only, Below, Full}

-- a family below a dead one is dead, where none of its sets is empty
pub record IsMonotone (dead : Family → Bool) : Type 0 where
  pub falls : (F G : Family) → Full F → Below F G → dead G ≡ true → dead F ≡ true

-- no set is empty, the family isn't dead, and it isn't dead once one variable has any one of its values alone
pub record IsStable (dead : Family → Bool) (F : Family) : Type 0 where
  pub full : Full F
  pub spared : dead F ≡ false
  pub each : (x : ℕ) (v : ℤ) → x < length F → has F x v ≡ true → dead (only F x v) ≡ false

-- a stable family whose sets are within those of D
pub record IsStableWithin (dead : Family → Bool) (D F : Family) : Type 0 where
  pub stable : IsStable dead F
  pub within : Below F D

-- some family of a collection, which a test tells, has the value v of x
pub record IsSomewhere (among : Family → Bool) (x : ℕ) (v : ℤ) : Type 0 where
  pub family : Family
  pub is_among : among family ≡ true
  pub value : has family x v ≡ true

-- U is the union, variable by variable, of the families of a collection
pub record IsUnionOf (among : Family → Bool) (U : Family) : Type 0 where
  pub family : Family
  pub is_among : among family ≡ true
  pub same : (F : Family) → among F ≡ true → length F ≡ length U
  pub values : (x : ℕ) (v : ℤ) → (has U x v ≡ true) ↔ IsSomewhere among x v

-- some stable family within D has the value v of x
pub record IsInStable (dead : Family → Bool) (D : Family) (x : ℕ) (v : ℤ) : Type 0 where
  pub family : Family
  pub is_stable : IsStableWithin dead D family
  pub value : has family x v ≡ true

-- C is the union, variable by variable, of all stable families within D, of which there is one
pub record IsStableUnion (dead : Family → Bool) (D C : Family) : Type 0 where
  pub family : Family
  pub is_stable : IsStableWithin dead D family
  pub same : length C ≡ length D
  pub values : (x : ℕ) (v : ℤ) → (has C x v ≡ true) ↔ IsInStable dead D x v

-- C is stable within D, and all families that are so are below it
pub record IsGreatestStable (dead : Family → Bool) (D C : Family) : Type 0 where
  pub is_stable : IsStableWithin dead D C
  pub most : (F : Family) → IsStableWithin dead D F → Below F C

-- no family within D is stable
abbrev pub HasFailed : (Family → Bool) → Family → Type 0
HasFailed dead D = (F : Family) → IsStableWithin dead D F → ⊥
