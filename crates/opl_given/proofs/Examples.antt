-- Values of data files, worked out by hand.
use Rattle.std.proofs.Common.{◌≡◌, ℕ, ℤ, pos, true, false, [], ◌∷◌, Ok, Err, refl}
use Rattle.opl_data.specs.declared.tree.DataValue.{DataValue}
use Rattle.opl_data.specs.declared.tree.DataValue.TheVariants.{Number, Named, Record, Set, Array}
use Rattle.opl_value.specs.declared.value.Value.TheVariants as values
use Rattle.opl_value.specs.declared.value.Dimension.TheVariants as dimensions
use Rattle.opl_value.proofs.Trees.{trees}
use Rattle.opl_given.specs.declared.fault.BindFault.TheVariants.{Shape, Outside}
use Rattle.opl_given.specs.declared.form.Form.TheVariants as forms
use Rattle.opl_given.specs.Arrays.{Axis, elements_in}
use Rattle.opl_given.specs.Forms.{Known, names_of, fields_of}
use Rattle.opl_given.specs.Values.{value_in}
use Rattle.opl_given.proofs.Layers.{forms_say, values_are}
use Rattle.opl_given.proofs.Slots.{cells}

-- `range R 1..2;`, `enum E {a,b};` and `struct S {R r; E e};`
abbrev known : Known
known = record { names = []; forms = []; enumerations = [] ∷ ((97 ∷ []) ∷ (98 ∷ []) ∷ []) ∷ [] ∷ []; fields = [] ∷ [] ∷ (forms.Range (pos 1) (pos 2) ∷ forms.Enumeration 1 ∷ []) ∷ [] }

abbrev number : ℕ → ℤ → DataValue
number at n = Number at false n

-- the ends of a range type are in it
low_end : value_in known 1 (number 4 (pos 1)) (forms.Range (pos 1) (pos 2)) ≡ Ok (values.Int (pos 1))
low_end = simp (values_are, forms_say) refl

high_end : value_in known 1 (number 4 (pos 2)) (forms.Range (pos 1) (pos 2)) ≡ Ok (values.Int (pos 2))
high_end = simp (values_are, forms_say) refl

-- 3 and -1 are not
above : value_in known 1 (number 4 (pos 3)) (forms.Range (pos 1) (pos 2)) ≡ Err (Outside 1 4)
above = simp (values_are, forms_say) refl

below : value_in known 1 (Number 4 true (pos 1)) (forms.Range (pos 1) (pos 2)) ≡ Err (Outside 1 4)
below = simp (values_are, forms_say) refl

-- a name where a number is awaited is of another shape
no_number : value_in known 2 (Named (record { at = 7; text = 97 ∷ [] })) forms.Int ≡ Err (Shape 2 7)
no_number = simp (values_are, forms_say) refl

-- b is the second name, and c is none
second : value_in known 1 (Named (record { at = 7; text = 98 ∷ [] })) (forms.Enumeration 1) ≡ Ok (values.Enum 1 1)
unfolding names_of
second = simp (values_are, forms_say) refl

no_name : value_in known 1 (Named (record { at = 7; text = 99 ∷ [] })) (forms.Enumeration 1) ≡ Err (Shape 1 7)
unfolding names_of
no_name = simp (values_are, forms_say) refl

-- `<1,a>` has the form of S, and `<1>` has not
struct_record : value_in known 1 (Record 4 (number 5 (pos 1)) (Named (record { at = 7; text = 97 ∷ [] }) ∷ [])) (forms.Struct 2) ≡ Ok (values.Record (values.Int (pos 1) ∷ values.Enum 1 0 ∷ []))
unfolding names_of fields_of
struct_record = simp (values_are, forms_say) refl

short_record : value_in known 1 (Record 4 (number 5 (pos 1)) []) (forms.Struct 2) ≡ Err (Shape 1 4)
unfolding fields_of
short_record = simp (values_are, forms_say) refl

-- `{2,1,2}` is {2,1}
small_set : value_in known 1 (Set 4 (number 5 (pos 2) ∷ number 7 (pos 1) ∷ number 9 (pos 2) ∷ [])) (forms.Set forms.Int) ≡ Ok (values.Set (values.Int (pos 2) ∷ values.Int (pos 1) ∷ []))
small_set = simp (values_are, forms_say, trees) refl

-- ---- arrays

abbrev two : Axis
two = record { dimension = dimensions.Whole (pos 1) (pos 2); form = forms.Int }

-- `[7,8]` over 1..2
both : elements_in known 1 (Shape 1 4) (two ∷ []) forms.Int (Array 4 (number 5 (pos 7) ∷ number 7 (pos 8) ∷ [])) ≡ Ok (values.Int (pos 7) ∷ values.Int (pos 8) ∷ [])
both = simp (dimensions.outs-Whole, cells, values_are, forms_say) refl

-- `[1,2,3]` has an element too many, which is told before the 9 that is outside
too_many : elements_in known 1 (Shape 1 4) (two ∷ []) (forms.Range (pos 1) (pos 2)) (Array 4 (number 5 (pos 9) ∷ number 7 (pos 2) ∷ number 9 (pos 3) ∷ [])) ≡ Err (Shape 1 4)
too_many = simp (dimensions.outs-Whole, cells, values_are, forms_say) refl

-- a row of a nested array is too short
short_row : elements_in known 1 (Shape 1 4) (two ∷ two ∷ []) forms.Int (Array 4 (Array 5 (number 6 (pos 1) ∷ number 8 (pos 2) ∷ []) ∷ Array 10 (number 11 (pos 3) ∷ []) ∷ [])) ≡ Err (Shape 1 4)
short_row = simp (dimensions.outs-Whole, cells, values_are, forms_say) refl
