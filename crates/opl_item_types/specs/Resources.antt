-- The rules of the instruction as the program goes through them: what stands for the resource of a `requires`, and the objective.
use Rattle.std.specs.Prelude.{List, Option, Some, None, Ok}
use Rattle.opl_tree.specs.declared.expression.ExprTree.{ExprTree}
use Rattle.opl_type_rules.specs.Types.{Sort, is_number}
use Rattle.opl_type_rules.specs.Scope.{Checked, ◌>>=◌, Scope, Thing}
use Rattle.opl_type_rules.specs.Scope.Thing.{range}
use Rattle.opl_type_rules.specs.Forms.{form_expr}
use Rattle.opl_type_rules.specs.Expressions.{kinds, used, typing}
use Rattle.opl_type_rules.specs.Expressions.Need.{nothing}

-- what is found, else what is no resource
abbrev pub or_range : Option Thing → Thing
or_range None = range
or_range (Some thing) = thing

abbrev pub objective : ExprTree → Scope → Checked (List Sort)
objective t sc = do
  n ← typing sc (form_expr t) >>= used nothing is_number
  Ok (kinds n)
