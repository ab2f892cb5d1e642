use Rattle.std.proofs.Common.{◌≡◌, map, drop}
use Rattle.opl_type_rules.specs.Scope.{with_values}
use Rattle.opl_type_rules.specs.Types.{sort}
use Rattle.opl_type_rules.specs.Values.{within}
use Rattle.opl_expression_types.proofs.pattern.bind_names.Given as goal

abbrev pub invariant-loop-name : goal.invariant-loop-name
invariant-loop-name l =
    with_values l.names (map sort l.types) (within l.model l.fn.locals)
    ≡ with_values (drop l.name-index l.names) (map sort l.left) (within l.model l.locals)
