-- Forms of values and types of expressions: when a form is that of a type that a declaration writes.
use Rattle.std.specs.Prelude.{ℕ, ℤ, List, [], ◌∷◌}
use Rattle.opl_type_rules.specs.Types.{Sort, Sorts}
use Rattle.opl_type_rules.specs.Types.Sort.{int, enumeration, structure, set}
use Rattle.opl_type_rules.specs.Types.Sorts.{no_sorts, more_sorts}
use Rattle.opl_type_rules.specs.Scope.{Scope, field_sorts}
use Rattle.opl_given.specs.declared.form.Form.{Form}
use Rattle.opl_given.specs.declared.form.Form.TheVariants as forms
use Rattle.opl_given.specs.Forms.{Known, fields_of}

-- numbers of a range are of type `int`
pub data IsFormOf : Form → Sort → Type 0 where
  of_numbers : IsFormOf forms.Int int
  of_range : (low high : ℤ) → IsFormOf (forms.Range low high) int
  of_names : (k : ℕ) → IsFormOf (forms.Enumeration k) (enumeration k)
  of_records : (k : ℕ) → IsFormOf (forms.Struct k) (structure k)
  of_sets : (f : Form) (s : Sort) → IsFormOf f s → IsFormOf (forms.Set f) (set s)

-- as many forms as types, each of its own
pub data AreFormsOf : List Form → Sorts → Type 0 where
  no_form : AreFormsOf [] no_sorts
  one_form : (f : Form) (s : Sort) (fs : List Form) (ss : Sorts) → IsFormOf f s → AreFormsOf fs ss → AreFormsOf (f ∷ fs) (more_sorts s ss)

-- what the declarations say of the fields of structs, as values and in typing
abbrev pub StructsAgree : Known → Scope → Type 0
StructsAgree known sc = (k : ℕ) → AreFormsOf (fields_of known k) (field_sorts sc k)
