-- What lies at places while the cells of an array of the model are gathered.
use Rattle.std.specs.Prelude.{ℕ, List, map, Option, Ok}
use Rattle.std.specs.Borrow.{Bor}
use Rattle.std.specs.Option.{option_map}
use Rattle.opl_term.specs.declared.term.Term.{Term}
use Rattle.opl_value.specs.declared.value.Value.{Value}
use Rattle.opl_value.specs.Places.{place_in}
use Rattle.opl_given.specs.declared.fault.BindFault.{BindFault}
use Rattle.opl_given.specs.Arrays.{Axis, is_free, values_of}
use Rattle.opl_given.specs.Faults.{Bound, provided, then}
use Rattle.opl_given.specs.Forms.{Known}
use Rattle.opl_given.specs.Readings.{lent}
use Rattle.opl_bind.specs.Written.{Fit, slot_at, written}

-- the cells that are lent at each place
abbrev pub terms_at : {A : Type 0} → List (Option (List (Bor A))) → List (Option (List A))
terms_at slots = map (option_map lent) slots

-- what expressions are by a form
abbrev pub fits : Known → List Term → List Fit
fits known ts = map (λ t. (written known t).fit) ts

abbrev pub fits_at : Known → List (Option (List Term)) → List (Option (List Fit))
fits_at known slots = map (option_map (fits known)) slots

-- the place of a key, where no cells are yet
abbrev pub key_place : {C : Type 0} → BindFault → Axis → List (Option C) → Bound Value → Bound (Option ℕ)
key_place wrong axis slots key =
    then key (λ v. provided (is_free (slot_at slots (place_in v (values_of axis)))) wrong (Ok (place_in v (values_of axis))))
