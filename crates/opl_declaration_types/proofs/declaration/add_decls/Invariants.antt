use Rattle.std.proofs.Common.{◌≡◌, drop, map}
use Rattle.opl_declaration_types.specs.DeclarationSteps.{decls_behind}
use Rattle.opl_type_rules.specs.Types.{sort}
use Rattle.opl_type_rules.specs.Values.{scope_of}
use Rattle.opl_declaration_types.proofs.declaration.add_decls.Given as goal

abbrev pub invariant-loop-t : goal.invariant-loop-t
invariant-loop-t l =
    decls_behind l.first (map sort l.fn.kinds) (scope_of l.fn.model) l.decls
    ≡ decls_behind l.number (map sort l.kinds) (scope_of l.model) (drop l.t-index l.decls)
