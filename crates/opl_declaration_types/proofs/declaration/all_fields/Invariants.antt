use Rattle.std.proofs.Common.{◌≡◌, drop, map}
use Rattle.opl_declaration_types.specs.DeclarationSteps.{field_each}
use Rattle.opl_type_rules.specs.Values.{field_of, scope_of}
use Rattle.opl_declaration_types.proofs.declaration.all_fields.Given as goal

abbrev pub invariant-loop-other : goal.invariant-loop-other
invariant-loop-other l =
    field_each (scope_of l.model) (map field_of l.fn.fields) l.others
    ≡ field_each (scope_of l.model) (map field_of l.fields) (drop l.other-index l.others)
