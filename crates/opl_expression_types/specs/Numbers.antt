-- Numbers that are data, where a declaration or an item wants one: the types of their expressions.
use Rattle.std.specs.Prelude.{List, [], Option, Some, None, Ok}
use Rattle.opl_tree.specs.declared.expression.AddTree.{AddTree}
use Rattle.opl_type_rules.specs.Types.{Sort}
use Rattle.opl_type_rules.specs.Scope.{Checked, ◌>>=◌, Scope}
use Rattle.opl_type_rules.specs.Forms.{form_add}
use Rattle.opl_type_rules.specs.Expressions.{kinds, data_number, typing}

-- a number that is data
abbrev pub number_kinds : Scope → AddTree → Checked (List Sort)
number_kinds sc t = do
  n ← typing sc (form_add t) >>= data_number
  Ok (kinds n)

abbrev pub maybe_number : Scope → Option AddTree → Checked (List Sort)
maybe_number sc None = Ok []
maybe_number sc (Some t) = number_kinds sc t
