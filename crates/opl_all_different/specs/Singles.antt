-- Parts that have one value.
use Rattle.std.specs.Prelude.{◌≡◌, ◌≢◌, Bool, true, false, ℤ}
use Rattle.opl_domain.specs.Family.{Family, member}
use Rattle.opl_all_different.specs.declared.part.Part.{Part}
use Rattle.opl_all_different.specs.Parts.{numbers_of, value_with}

-- the part has two values
pub record HasTwo (F : Family) (p : Part) : Type 0 where
  pub first : ℤ
  pub second : ℤ
  pub first_there : member first (numbers_of F p) ≡ true
  pub second_there : member second (numbers_of F p) ≡ true
  pub differ : value_with p first ≢ value_with p second

-- whether it has one
abbrev pub Singles : Family → Part → Bool → Type 0
Singles F p true = (v w : ℤ) → member v (numbers_of F p) ≡ true → member w (numbers_of F p) ≡ true → value_with p v ≡ value_with p w
Singles F p false = HasTwo F p
