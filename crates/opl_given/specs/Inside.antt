-- Whether the numbers in a value lie in the ranges of its type.
use Rattle.std.specs.Prelude.{Bool, true, ◌&&◌, List, ◌∷◌, Option, Some, None}
use Rattle.std.specs.List.{list_all}
use Rattle.opl_value.specs.declared.value.Value.{Value}
use Rattle.opl_value.specs.declared.value.Value.TheVariants as values
use Rattle.opl_value.specs.declared.value.Dimension.TheOpen.{Value-F}
use Rattle.opl_value.specs.declared.value.Dimension.TheFolds.{fold-Value}
use Rattle.opl_given.specs.declared.form.Form.{Form}
use Rattle.opl_given.specs.Assigned.{is_within}
use Rattle.opl_given.specs.Forms.{Known}
use Rattle.opl_given.specs.Values.{parts_of, element_of}

-- each part by its form
abbrev pub each_inside : List (Form → Bool) → List Form → Bool
each_inside (p ∷ ps) (f ∷ fs) = p f && each_inside ps fs
each_inside ps fs = true

abbrev pub parts_inside : List (Form → Bool) → Option (List Form) → Bool
parts_inside ps (Some fs) = each_inside ps fs
parts_inside ps None = true

-- all elements by the one form
abbrev pub elements_inside : List (Form → Bool) → Option Form → Bool
elements_inside es (Some f) = list_all (λ e. e f) es
elements_inside es None = true

abbrev pub inside_layer : {A C : Type 0} → Known → Value-F A (Form → Bool) C → Form → Bool
inside_layer known (Value-F.Int n) form = is_within form (values.Int n)
inside_layer known (Value-F.Record parts) form = parts_inside parts (parts_of known form)
inside_layer known (Value-F.Set elements) form = elements_inside elements (element_of form)
inside_layer known v form = true

-- whether each number in a value that has a range type lies in its range
unfoldable pub is_inside : Known → Value → Form → Bool
is_inside known = fold-Value (Form → Bool) (Form → Bool) (Form → Bool) (λ d form. true) (inside_layer known) (λ space form. true)
