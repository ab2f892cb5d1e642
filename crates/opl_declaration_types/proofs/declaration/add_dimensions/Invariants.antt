use Rattle.std.proofs.Common.{◌≡◌, drop}
use Rattle.opl_declaration_types.specs.DeclarationSteps.{see_each, seen_in}
use Rattle.opl_type_rules.specs.Values.{scope_of}
use Rattle.opl_declaration_types.proofs.declaration.add_dimensions.Given as goal

abbrev pub invariant-loop-dim : goal.invariant-loop-dim
invariant-loop-dim l =
    see_each (scope_of l.model) (seen_in l.model l.fn.found) l.dims
    ≡ see_each (scope_of l.model) (seen_in l.model l.found) (drop l.dim-index l.dims)
