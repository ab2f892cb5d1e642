use Rattle.opl_value.specs.declared.value.Value.TheVariants as values
use Rattle.std.proofs.Common.{pos}
use Rattle.opl_form.specs.Nodes as making
use Rattle.opl_nodes.specs.Contexts.{arrays, sets}
use Rattle.opl_nodes.specs.Pieces.{forms}
use Rattle.opl_nodes.proofs.Tests.{makes-same}
use Rattle.opl_numbers.proofs.Sums.{product-none}
use Rattle.opl_numbers.proofs.aggregates.product.Goals as goal

pub returns-then-is_empty : goal.returns-then-is_empty
returns-then-is_empty c =
    let k = c.args.context.now in
    makes-same k (making.known_node k.item c.args.parts.before (values.Int (pos 1))) (making.product (sets k) (arrays k) k.item c.args.at c.args.parts.before (forms c.args.parts.items)) c.known_node.result
    (product-none k c.args.at c.args.parts.before c.args.parts.items (c.is_empty-is_empty.ensures.0 c.if-is_empty.true)) c.known_node.ensures
