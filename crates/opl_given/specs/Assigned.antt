-- Values that are assigned to items: of those that are assigned to one place the last counts.
use Rattle.std.specs.Prelude.{ℕ, ℤ, Bool, true, ◌&&◌, cond, bytes_eq, int_le, List, [], ◌∷◌, map, set, Option, Some, None, Ok, Err}
use Rattle.std.specs.List.{list_all, list_any}
use Rattle.opl_value.specs.declared.value.Value.{Value}
use Rattle.opl_value.specs.declared.value.Value.TheVariants as values
use Rattle.opl_value.specs.declared.value.Dimension.TheOpen.{Value-F}
use Rattle.opl_value.specs.declared.value.Dimension.TheViews.{out-Value}
use Rattle.opl_value.specs.Places.{place_of}
use Rattle.opl_given.specs.declared.assigned.Override.{Override}
use Rattle.opl_given.specs.declared.fault.BindFault.TheVariants as faults
use Rattle.opl_given.specs.declared.form.Form.{Form}
use Rattle.opl_given.specs.declared.form.Form.TheOpen.{Form-F}
use Rattle.opl_given.specs.declared.form.Form.TheViews.{out-Form}
use Rattle.opl_given.specs.Faults.{Bound, then}
use Rattle.opl_given.specs.Names.{Text}

-- a cell at its place; subscripts that no element has do not fit
abbrev pub placed : Text → List Value → Option ℕ → ℤ → Bound (List Value)
placed name cells (Some place) n = Ok (set cells place (values.Int n))
placed name cells None n = Err (faults.Override name)

abbrev pub assigned : Text → List (List Value) → List Value → Override → Bound (List Value)
assigned name lists cells o = placed name cells (place_of lists (map values.Int o.index)) o.value

-- each value that is assigned to the item at its place, a later one in place of an earlier one
abbrev pub all_assigned : Text → List (List Value) → List Value → List Override → Bound (List Value)
all_assigned name lists cells [] = Ok cells
all_assigned name lists cells (o ∷ os) =
    cond (bytes_eq name o.name) (then (assigned name lists cells o) (λ more. all_assigned name lists more os)) (all_assigned name lists cells os)

abbrev pub is_assigned : Text → List Override → Bool
is_assigned name os = list_any (λ o. bytes_eq name o.name) os

-- a number is within the ends of a range type
abbrev pub within_layer : {A : Type 0} {C D : Type 0} → Form-F A → Value-F C Value D → Bool
within_layer (Form-F.Range low high) (Value-F.Int n) = int_le low n && int_le n high
within_layer form v = true

abbrev pub is_within : Form → Value → Bool
is_within form v = within_layer (out-Form form) (out-Value v)

-- the cells of an item after the assignments; each must be within the ends of its range type
unfoldable pub overridden : Text → Form → List (List Value) → List Value → List Override → Bound (List Value)
overridden name form lists cells os =
    cond (is_assigned name os)
    (then (all_assigned name lists cells os) (λ more. cond (list_all (is_within form) more) (Ok more) (Err (faults.Override name))))
    (Ok cells)
