use Rattle.std.proofs.Common.{arith}
use Rattle.opl_expression_types.proofs.ArrayCells.{calls_held}
use Rattle.opl_type_rules.proofs.Forms.{prim_forms}
use Rattle.opl_expression_types.proofs.plain.cells_of_prim.Goals as goal

pub returns-in-Array : goal.returns-in-Array
returns-in-Array c = grind (arith, prim_forms, calls_held)

pub returns-in-KeyedArray : goal.returns-in-KeyedArray
returns-in-KeyedArray c = grind (arith, prim_forms, calls_held)

pub returns-in-Number : goal.returns-in-Number
returns-in-Number c = grind (arith, prim_forms, calls_held)
