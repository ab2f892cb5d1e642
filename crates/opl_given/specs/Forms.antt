-- What the values of types are made of, and what the declarations so far say of them.
use Rattle.std.specs.Prelude.{ℕ, ℤ, min, List, [], ◌∷◌, ◌++◌, length, Option, Some, None, slice_get}
use Rattle.opl_tree.specs.declared.declaration.FieldTree.{FieldTree}
use Rattle.opl_tree.specs.declared.declaration.StructTree.{StructTree}
use Rattle.opl_tree.specs.declared.declaration.TypeTree.{TypeTree}
use Rattle.opl_tree.specs.declared.declaration.TypeTree.TheFolds.{fold-TypeTree}
use Rattle.opl_tree.specs.declared.declaration.TypeTree.TheOpen.{TypeTree-F}
use Rattle.opl_tree.specs.declared.expression.NameTree.{NameTree}
use Rattle.opl_given.specs.declared.form.Form.{Form}
use Rattle.opl_given.specs.declared.form.Form.TheVariants as forms
use Rattle.opl_given.specs.Names.{Text, position}

-- what the declarations so far say: the names of types with their forms, and for each declaration by its number the names of an
-- enumeration and the forms of a struct's fields, or none
pub record Known : Type 0 where
  pub names : List Text
  pub forms : List Form
  pub enumerations : List (List Text)
  pub fields : List (List Form)

-- the list at a place, or the empty one
abbrev pub or_none : {A : Type 0} → Option (List A) → List A
or_none (Some xs) = xs
or_none None = []

-- the names of the enumeration with this number
unfoldable pub names_of : Known → ℕ → List Text
names_of known k = or_none (slice_get known.enumerations k)

-- the forms of the fields of the struct with this number
unfoldable pub fields_of : Known → ℕ → List Form
fields_of known k = or_none (slice_get known.fields k)

abbrev pub or_nothing : Option Form → Form
or_nothing (Some form) = form
or_nothing None = forms.Nothing

-- the form at a place
abbrev pub form_at : List Form → Option ℕ → Form
form_at fs (Some place) = or_nothing (slice_get fs place)
form_at fs None = forms.Nothing

-- the form of the type with this name
unfoldable pub form_named : Known → Text → Form
form_named known name = form_at known.forms (position name known.names)

-- ---- what declarations say

-- the form of a type that is written
abbrev pub type_layer : TypeTree-F (Known → Form) → Known → Form
type_layer (TypeTree-F.Int at) known = forms.Int
type_layer (TypeTree-F.Named name) known = form_named known name.text
type_layer (TypeTree-F.Set at element) known = forms.Set (element known)

unfoldable pub form_of : TypeTree → Known → Form
form_of = fold-TypeTree (Known → Form) type_layer

-- the number of the next declaration; it stands still at the greatest number of 32 bits
unfoldable pub number_of : Known → ℕ
number_of known = min (length known.fields) 4294967295

-- one more declaration, with the names of an enumeration and the forms of a struct's fields
unfoldable pub with_declaration : List Text → List Form → Known → Known
with_declaration names fields known = record { names = known.names; forms = known.forms; enumerations = known.enumerations ++ names ∷ []; fields = known.fields ++ fields ∷ [] }

-- one more named type
unfoldable pub with_type : Text → Form → Known → Known
with_type name form known = record { names = known.names ++ name ∷ []; forms = known.forms ++ form ∷ []; enumerations = known.enumerations; fields = known.fields }

-- before any declaration
abbrev pub nothing_known : Known
nothing_known = record { names = []; forms = []; enumerations = []; fields = [] }

-- the forms of a struct's fields, behind those before
abbrev pub field_forms : List Form → List FieldTree → Known → List Form
field_forms before [] known = before
field_forms before (t ∷ ts) known = field_forms (before ++ form_of t.kind known ∷ []) ts known

-- `range NAME a..b`, `enum NAME ..` and `struct NAME {..}`
abbrev pub with_range : Text → ℤ → ℤ → Known → Known
with_range name low high known = with_declaration [] [] (with_type name (forms.Range low high) known)

abbrev pub with_enumeration : Text → List Text → Known → Known
with_enumeration name names known = with_declaration names [] (with_type name (forms.Enumeration (number_of known)) known)

abbrev pub with_struct : StructTree → Known → Known
with_struct t known = with_declaration [] (field_forms [] (t.first ∷ t.rest) known) (with_type t.name.text (forms.Struct (number_of known)) known)

-- ---- the names of enumerations

abbrev pub listed_names : List Text → List NameTree → List Text
listed_names before [] = before
listed_names before (t ∷ ts) = listed_names (before ++ t.text ∷ []) ts
