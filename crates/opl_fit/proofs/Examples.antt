-- Which values fit, worked out by hand.
use Rattle.std.proofs.Common.{◌≡◌, pos, false, [], ◌∷◌, ◌∙◌, arith}
use Rattle.std.proofs.lemmas.Int.{ints}
use Rattle.opl_value.specs.declared.value.Value.TheVariants as values
use Rattle.opl_given.specs.declared.form.Form.{Form}
use Rattle.opl_given.specs.declared.form.Form.TheVariants as forms
use Rattle.opl_given.specs.Forms.{Known, fields_of, names_of}
use Rattle.opl_given.specs.Inside.{is_inside}
use Rattle.opl_given.proofs.Insides.{is_inside-Int}
use Rattle.opl_given.proofs.Numbers.{within-Range-Int}
use Rattle.opl_fit.specs.Fits.{Fits, within, name, struct, no_part, one_part}
use Rattle.opl_fit.specs.OfKind.{HasKind, range_kind}

-- `range R 1..2;`, `enum E {a,b};` and `struct S {R r; E e};`
abbrev known : Known
known = record { names = []; forms = []; enumerations = [] ∷ ((97 ∷ []) ∷ (98 ∷ []) ∷ []) ∷ [] ∷ []; fields = [] ∷ [] ∷ (forms.Range (pos 1) (pos 2) ∷ forms.Enumeration 1 ∷ []) ∷ [] }

abbrev one_or_two : Form
one_or_two = forms.Range (pos 1) (pos 2)

-- both ends of a range fit
low_end : Fits known one_or_two (values.Int (pos 1))
low_end = within (pos 1) (pos 2) (pos 1) (omega (arith, ints)) (omega (arith, ints))

high_end : Fits known one_or_two (values.Int (pos 2))
high_end = within (pos 1) (pos 2) (pos 2) (omega (arith, ints)) (omega (arith, ints))

-- the second name of two
second : Fits known (forms.Enumeration 1) (values.Enum 1 1)
unfolding names_of
second = name 1 1 (omega arith)

-- `<1,b>` is a record of S
pair : Fits known (forms.Struct 2) (values.Record (values.Int (pos 1) ∷ values.Enum 1 1 ∷ []))
unfolding fields_of
pair =
    struct 2 (values.Int (pos 1) ∷ values.Enum 1 1 ∷ [])
    (one_part one_or_two (values.Int (pos 1)) (forms.Enumeration 1 ∷ []) (values.Enum 1 1 ∷ []) low_end (one_part (forms.Enumeration 1) (values.Enum 1 1) [] [] second no_part))

-- 3 is of the kind of the range, but it is not within
third : HasKind known one_or_two (values.Int (pos 3))
third = range_kind (pos 1) (pos 2) (pos 3)

outside : is_inside known (values.Int (pos 3)) one_or_two ≡ false
outside = is_inside-Int known (pos 3) one_or_two ∙ within-Range-Int (pos 1) (pos 2) (pos 3)
