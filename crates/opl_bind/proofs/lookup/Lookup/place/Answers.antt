use Rattle.std.proofs.Common.{arith}
use Rattle.opl_given.proofs.DimensionElements.{dimension_elements}
use Rattle.opl_bind.proofs.lookup.Lookup.place.Goals as goal

pub returns-in-Listed : goal.returns-in-Listed
returns-in-Listed c = grind (arith, dimension_elements)

pub returns-in-Whole : goal.returns-in-Whole
returns-in-Whole c = grind (arith, dimension_elements)
