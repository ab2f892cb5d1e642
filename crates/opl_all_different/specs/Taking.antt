-- What becomes of a family where a value is taken from one part.
use Rattle.std.specs.Prelude.{◌≡◌, ◌≢◌, ◌⊎◌, ℕ, Bool, true, false, ℤ, pos, Option, Some, None}
use Rattle.opl_domain.specs.Family.{Family, has, cut_of}
use Rattle.opl_all_different.specs.declared.part.Part.{Part}
use Rattle.opl_all_different.specs.Parts.{value_with, HasOnly, Misses}

-- the value of the variable with which the part has the value v
pub record IsNumber (F : Family) (p : Part) (v w : ℤ) : Type 0 where
  pub there : has F p.variable w ≡ true
  pub is : value_with p w ≡ v
  pub alone : (u : ℤ) → value_with p u ≡ v → u ≡ w

-- the same, or none where there is none
abbrev pub IsNumberFor : Family → Part → ℤ → Option ℤ → Type 0
IsNumberFor F p v None = (w : ℤ) → has F p.variable w ≡ true → value_with p w ≢ v
IsNumberFor F p v (Some w) = IsNumber F p v w

-- variable x has lost the value w, if it has another one
abbrev pub Loses : Family → Family → ℕ → ℤ → Bool → Type 0
Loses D F x w true = (F ≡ cut_of D x w w) × ((u : ℤ) × (has (cut_of D x w w) x u ≡ true))
Loses D F x w false = (F ≡ D) × ((u : ℤ) → has D x u ≡ true → u ≡ w)

-- the variable of the part has lost the value with which the part has the value v
pub record HasLost (D F : Family) (p : Part) (v : ℤ) : Type 0 where
  pub number : ℤ
  pub factor : p.factor ≢ pos 0
  pub had : has D p.variable number ≡ true
  pub is : value_with p number ≡ v
  pub left : F ≡ cut_of D p.variable number number
  pub stays : (u : ℤ) × (has (cut_of D p.variable number number) p.variable u ≡ true)

-- the value v was taken from the part, if it has another one
abbrev pub Takes : Family → Family → Part → ℤ → Bool → Type 0
Takes D F p v true = ((F ≡ D) ⊎ HasLost D F p v) × Misses F p v
Takes D F p v false = (F ≡ D) × HasOnly D p v
