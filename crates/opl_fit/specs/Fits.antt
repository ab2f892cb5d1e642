-- When a value has the form of a type.
use Rattle.std.specs.Prelude.{◌<◌, ℕ, ℤ, ◌≤ℤ◌, List, [], ◌∷◌, length}
use Rattle.opl_value.specs.declared.value.Value.{Value}
use Rattle.opl_value.specs.declared.value.Value.TheVariants as values
use Rattle.opl_value.specs.Places.{AreDifferent}
use Rattle.opl_given.specs.declared.form.Form.{Form}
use Rattle.opl_given.specs.declared.form.Form.TheVariants as forms
use Rattle.opl_given.specs.Forms.{Known, fields_of, names_of}

module _ (known : Known) where
  mutual
    pub data Fits : Form → Value → Type 0 where
      -- `int`: a whole number
      whole : (n : ℤ) → Fits forms.Int (values.Int n)
      -- a range: a number from its first to its last, both of which are in it
      within : (low high n : ℤ) → low ≤ℤ n → n ≤ℤ high → Fits (forms.Range low high) (values.Int n)
      -- an enumeration: one of its names, by its position
      name : (declaration place : ℕ) → place < length (names_of known declaration) → Fits (forms.Enumeration declaration) (values.Enum declaration place)
      -- a struct: a record with a part for each field
      struct : (declaration : ℕ) (vs : List Value) → EachFits (fields_of known declaration) vs → Fits (forms.Struct declaration) (values.Record vs)
      -- a record with parts of these forms
      row : (fs : List Form) (vs : List Value) → EachFits fs vs → Fits (forms.Record fs) (values.Record vs)
      -- a set: its elements differ, and each has the form of an element
      set : (f : Form) (vs : List Value) → AllFit f vs → AreDifferent vs → Fits (forms.Set f) (values.Set vs)

    -- as many values as forms, each of its own form
    pub data EachFits : List Form → List Value → Type 0 where
      no_part : EachFits [] []
      one_part : (f : Form) (v : Value) (fs : List Form) (vs : List Value) → Fits f v → EachFits fs vs → EachFits (f ∷ fs) (v ∷ vs)

    -- values of the one form
    pub data AllFit : Form → List Value → Type 0 where
      no_element : (f : Form) → AllFit f []
      one_element : (f : Form) (v : Value) (vs : List Value) → Fits f v → AllFit f vs → AllFit f (v ∷ vs)
