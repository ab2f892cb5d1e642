use Rattle.std.proofs.Common.{arith}
use Rattle.opl_declaration_types.proofs.Declared.{all_declarations}
use Rattle.opl_declaration_types.proofs.declaration.all_decls.Goals as goal

pub returns-in_err-add_decls : goal.returns-in_err-add_decls
returns-in_err-add_decls c = grind (arith, all_declarations)

pub returns : goal.returns
returns c = grind (arith, all_declarations)
