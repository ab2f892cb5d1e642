use Rattle.opl_expression_types.proofs.ArrayCells.{mul-at}
use Rattle.opl_expression_types.proofs.plain.cells_of_mul.Goals as goal

pub returns-in-Product : goal.returns-in-Product
returns-in-Product c = mul-at _ _ _ _ _ _ _ c.in-Product.is c.as_slice.ensures c.cells_of_product.ensures
