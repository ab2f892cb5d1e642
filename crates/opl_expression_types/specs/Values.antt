-- What the program's values stand for in the definitions.
use Rattle.std.specs.Prelude.{map}
use Rattle.opl_expression_types.specs.declared.expression.Opened as opened
use Rattle.opl_type_rules.specs.declared.names.Names.{Names}
use Rattle.opl_type_rules.specs.Expressions.{Opened}
use Rattle.opl_type_rules.specs.Types.{sort}
use Rattle.opl_type_rules.specs.Values.{within}

-- the names that are visible inside parameters, and the types of the expressions in them
abbrev pub opened_in : Names → opened.Opened → Opened
opened_in n o = record { scope = within n o.locals; kinds = map sort o.kinds }
