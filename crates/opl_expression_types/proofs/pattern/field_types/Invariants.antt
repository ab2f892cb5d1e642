use Rattle.std.proofs.Common.{◌≡◌, ◌++◌, map, drop}
use Rattle.opl_type_rules.specs.Types.{sort}
use Rattle.opl_type_rules.specs.Values.{field_sort_of}
use Rattle.opl_expression_types.proofs.pattern.field_types.Given as goal

abbrev pub invariant-loop-field : goal.invariant-loop-field
invariant-loop-field l = map field_sort_of l.fields ≡ map sort l.types ++ map field_sort_of (drop l.field-index l.fields)
