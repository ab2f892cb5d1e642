use Rattle.std.proofs.Common.{sym, ◌∙◌}
use Rattle.opl_value.specs.Places.{dimension_values}
use Rattle.opl_nodes.specs.Pieces.{form}
use Rattle.opl_elements.proofs.Dimensional.{subscript-known, subscript-live}
use Rattle.opl_elements.proofs.dimensions.subscript_place.Goals as goal

pub returns-in-Some : goal.returns-in-Some
returns-in-Some c = c.place_of.ensures ∙ sym (subscript-known (dimension_values c.args.dimension.now) (form c.args.part.now) c.in-Some.value.now (sym c.in-Some.ensures))

pub returns-in-None : goal.returns-in-None
returns-in-None c = sym (subscript-live (dimension_values c.args.dimension.now) (form c.args.part.now) (sym c.in-None.ensures))
