use Rattle.std.proofs.Common.{arith}
use Rattle.opl_given.proofs.DimensionElements.{dimension_elements}
use Rattle.opl_given.proofs.elements.elements_of.Goals as goal

-- src/elements.rt:36:1
pub returns-in-Whole : goal.returns-in-Whole
returns-in-Whole c = grind (arith, dimension_elements)

-- src/elements.rt:36:1
pub returns-in-Listed : goal.returns-in-Listed
returns-in-Listed c = grind (arith, dimension_elements)
