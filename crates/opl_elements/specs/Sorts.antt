-- What parts are compared as, as the program has it.
use Rattle.std.specs.Prelude.{ℕ, Bool, cond}
use Rattle.opl_value.specs.declared.value.Value.{Value}
use Rattle.opl_value.specs.declared.value.Dimension.TheViews.{out-Value}
use Rattle.opl_form.specs.Parts as parts
use Rattle.opl_form.specs.Parts.Sort.{whole, named, other}
use Rattle.opl_elements.specs.declared.sorts.Sort.{Sort}
use Rattle.opl_elements.specs.declared.sorts.Sort.TheVariants.{Whole, Named, Other}

-- A sort.
abbrev pub sort : Sort → parts.Sort
sort Whole = whole
sort (Named d) = named d
sort Other = other

-- The sort of a value: a truth counts as a number.
abbrev pub sort_of_value : Value → parts.Sort
sort_of_value v = parts.value_sort (out-Value v)

-- The sort of a variable of an enumeration.
abbrev pub sort_of_names : ℕ → Bool → parts.Sort
sort_of_names d has_positions = cond has_positions (named d) other

-- The sort of an index or an element: a truth is no number there.
abbrev pub sort_of_key : Value → parts.Sort
sort_of_key v = parts.key_layer (out-Value v)

-- A sort where it is that of all, and other where it isn't.
abbrev pub sort_where : Bool → parts.Sort → parts.Sort
sort_where is_one s = cond is_one s other
