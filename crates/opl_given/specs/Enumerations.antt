-- The names of an enumeration, as a data file gives them.
use Rattle.std.specs.Prelude.{ℕ, cond, is_some, List, [], ◌∷◌, ◌++◌, Ok, Err}
use Rattle.opl_data.specs.declared.tree.DataValue.{DataValue}
use Rattle.opl_data.specs.declared.tree.DataPair.{DataPair}
use Rattle.opl_data.specs.declared.tree.DataValue.TheOpen.{DataValue-F}
use Rattle.opl_data.specs.declared.tree.DataValue.TheViews.{out-DataValue}
use Rattle.opl_given.specs.declared.fault.BindFault.{BindFault}
use Rattle.opl_given.specs.declared.fault.BindFault.TheVariants.{Shape}
use Rattle.opl_given.specs.Faults.{Bound, then}
use Rattle.opl_given.specs.Names.{Text, position}
use Rattle.opl_given.specs.Values.{first_token}

-- the name that a value is
abbrev pub name_layer : BindFault → DataValue-F DataValue DataPair → Bound Text
name_layer wrong (DataValue-F.Named name) = Ok name.text
name_layer wrong value = Err wrong

unfoldable pub name_of : BindFault → DataValue → Bound Text
name_of wrong value = name_layer wrong (out-DataValue value)

-- a name behind those before, from which it differs
abbrev pub with_new : BindFault → List Text → Text → Bound (List Text)
with_new wrong before name = cond (is_some (position name before)) (Err wrong) (Ok (before ++ name ∷ []))

-- names that all differ, behind those before
abbrev pub different_names : BindFault → List Text → List DataValue → Bound (List Text)
different_names wrong before [] = Ok before
different_names wrong before (v ∷ vs) = then (name_of wrong v) (λ name. then (with_new wrong before name) (λ names. different_names wrong names vs))

-- a set of names that all differ; all else is of another shape, at the value's first token
abbrev pub names_layer : BindFault → DataValue-F DataValue DataPair → Bound (List Text)
names_layer wrong (DataValue-F.Set at elements) = different_names wrong [] elements
names_layer wrong value = Err wrong

unfoldable pub names_in : BindFault → DataValue → Bound (List Text)
names_in wrong value = names_layer wrong (out-DataValue value)

abbrev pub given_names : ℕ → DataValue → Bound (List Text)
given_names file value = names_in (Shape file (first_token value)) value
