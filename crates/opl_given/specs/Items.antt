-- The values of items that data files give.
use Rattle.std.specs.Prelude.{pos, Bool, true, false, List, [], ◌∷◌, map, Option, Some, None, Ok, Err}
use Rattle.opl_value.specs.declared.value.Value.{Value}
use Rattle.opl_value.specs.declared.value.Value.TheVariants as values
use Rattle.opl_value.specs.declared.value.Dimension.TheOpen.{Value-F}
use Rattle.opl_value.specs.declared.value.Dimension.TheViews.{out-Value}
use Rattle.opl_value.specs.Places.{space_of, value_at}
use Rattle.opl_given.specs.declared.assigned.Override.{Override}
use Rattle.opl_given.specs.declared.fault.BindFault.TheVariants.{Missing, Shape}
use Rattle.opl_given.specs.declared.form.Form.{Form}
use Rattle.opl_given.specs.Arrays.{Axis, elements_in, values_of}
use Rattle.opl_given.specs.Assigned.{is_assigned, overridden}
use Rattle.opl_given.specs.Faults.{Bound, then, provided, found}
use Rattle.opl_given.specs.Forms.{Known}
use Rattle.opl_given.specs.Given.{GivenValue}
use Rattle.opl_given.specs.Names.{Text}
use Rattle.opl_given.specs.Values.{value_in, first_token}

-- ---- items without dimensions

-- whether a value is an array
abbrev pub array_layer : {A C : Type 0} → Value-F A Value C → Bool
array_layer (Value-F.Array space cells) = true
array_layer v = false

abbrev pub is_array : Value → Bool
is_array v = array_layer (out-Value v)

-- the value that is given; an item to which a value is assigned needs none
abbrev pub given_or_assigned : Known → Form → Text → List Override → Option GivenValue → Bound Value
given_or_assigned known form name os (Some g) = value_in known g.file g.value form
given_or_assigned known form name os None = provided (is_assigned name os) (Missing name) (Ok (values.Int (pos 0)))

-- the value of an item: the one that is given, or the last one that is assigned to it
abbrev pub single_value : Known → Form → Text → List Override → Option GivenValue → Bound Value
single_value known form name os g =
    then (given_or_assigned known form name os g) (λ v. then (overridden name form [] (v ∷ []) os) (λ cells. Ok (value_at cells 0)))

-- ---- arrays

abbrev pub lists_of : List Axis → List (List Value)
lists_of axes = map values_of axes

-- the array over these index sets with these cells, which stand in index order
abbrev pub array_over : List Axis → List Value → Value
array_over axes cells = values.Array (space_of (map (λ a. a.dimension) axes)) cells

-- the array that is given, where the cells to which values are assigned have the last of these
abbrev pub given_array : Known → Form → Text → List Override → GivenValue → List Axis → Bound Value
given_array known form name os g axes =
    then (elements_in known g.file (Shape g.file (first_token g.value)) axes form g.value)
    (λ cells. found (array_over axes) (overridden name form (lists_of axes) cells os))

-- the array of an item over index sets, of which some may have faults: a value that is missing is told before these
abbrev pub array_value : Known → Form → Text → List Override → Bound (List Axis) → Option GivenValue → Bound Value
array_value known form name os axes (Some g) = then axes (given_array known form name os g)
array_value known form name os axes None = Err (Missing name)
