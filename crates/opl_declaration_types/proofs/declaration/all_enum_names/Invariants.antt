use Rattle.std.proofs.Common.{◌≡◌, drop}
use Rattle.opl_declaration_types.specs.DeclarationSteps.{name_each}
use Rattle.opl_type_rules.specs.Values.{scope_of}
use Rattle.opl_declaration_types.proofs.declaration.all_enum_names.Given as goal

abbrev pub invariant-loop-name : goal.invariant-loop-name
invariant-loop-name l = name_each l.number (scope_of l.fn.model) l.names ≡ name_each l.number (scope_of l.model) (drop l.name-index l.names)
