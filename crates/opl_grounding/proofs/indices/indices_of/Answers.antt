use Rattle.opl_given.specs.Elements.{left}
use Rattle.opl_grounding.proofs.Whole.{whole-indices}
use Rattle.opl_grounding.proofs.indices.indices_of.Goals as goal

pub returns-in-Whole : goal.returns-in-Whole
returns-in-Whole c = whole-indices c.ranks.result c.args.dimension.now (left c.elements_of.result) c.in-Whole.field-0 c.in-Whole.field-1 c.in-Whole.is c.elements_of.ensures c.ranks.ensures
