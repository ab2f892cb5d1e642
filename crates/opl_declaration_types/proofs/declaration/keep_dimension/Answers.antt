use Rattle.std.proofs.Common.{arith}
use Rattle.opl_declaration_types.proofs.Declared.{dimensions_kept}
use Rattle.opl_declaration_types.proofs.declaration.keep_dimension.Goals as goal

pub returns-in_ok-keep_index-in-None : goal.returns-in_ok-keep_index-in-None
returns-in_ok-keep_index-in-None c = grind (arith, dimensions_kept)

pub returns-in_ok-keep_index-in-Some : goal.returns-in_ok-keep_index-in-Some
returns-in_ok-keep_index-in-Some c = grind (arith, dimensions_kept)
