-- When a value is of the kind of a type, which is what typing tells of it: as when it fits the type, but a number of a range may lie outside it.
use Rattle.std.specs.Prelude.{◌<◌, ℕ, ℤ, List, [], ◌∷◌, length}
use Rattle.opl_value.specs.declared.value.Value.{Value}
use Rattle.opl_value.specs.declared.value.Value.TheVariants as values
use Rattle.opl_value.specs.Places.{AreDifferent}
use Rattle.opl_given.specs.declared.form.Form.{Form}
use Rattle.opl_given.specs.declared.form.Form.TheVariants as forms
use Rattle.opl_given.specs.Forms.{Known, fields_of, names_of}

module _ (known : Known) where
  mutual
    pub data HasKind : Form → Value → Type 0 where
      whole_kind : (n : ℤ) → HasKind forms.Int (values.Int n)
      range_kind : (low high n : ℤ) → HasKind (forms.Range low high) (values.Int n)
      name_kind : (declaration place : ℕ) → place < length (names_of known declaration) → HasKind (forms.Enumeration declaration) (values.Enum declaration place)
      struct_kind : (declaration : ℕ) (vs : List Value) → EachHasKind (fields_of known declaration) vs → HasKind (forms.Struct declaration) (values.Record vs)
      row_kind : (fs : List Form) (vs : List Value) → EachHasKind fs vs → HasKind (forms.Record fs) (values.Record vs)
      set_kind : (f : Form) (vs : List Value) → AllHaveKind f vs → AreDifferent vs → HasKind (forms.Set f) (values.Set vs)

    pub data EachHasKind : List Form → List Value → Type 0 where
      no_part_kind : EachHasKind [] []
      one_part_kind : (f : Form) (v : Value) (fs : List Form) (vs : List Value) → HasKind f v → EachHasKind fs vs → EachHasKind (f ∷ fs) (v ∷ vs)

    pub data AllHaveKind : Form → List Value → Type 0 where
      no_element_kind : (f : Form) → AllHaveKind f []
      one_element_kind : (f : Form) (v : Value) (vs : List Value) → HasKind f v → AllHaveKind f vs → AllHaveKind f (v ∷ vs)
