use Rattle.opl_expr.specs.declared.forms.Expr.TheVariants as E
use Rattle.opl_form.specs.Measures as measures
use Rattle.opl_nodes.specs.Pieces.{magnitude}
use Rattle.opl_numbers.proofs.Measures.{depth-Div, magnitude-Div, nodes-Div}
use Rattle.opl_numbers.proofs.Products.{depth-two, nodes-two, size-first}
use Rattle.opl_numbers.proofs.pairs.quotient_node.Goals as goal

pub number_node-requires-clause-size : goal.number_node-requires-clause-size
number_node-requires-clause-size c =
    size-first c.larger-size.result c.args.left.size (magnitude c.args.context.now c.args.left.expr) (magnitude c.args.context.now (E.Div c.args.left.expr c.args.right.expr)) c.larger-size.ensures c.requires.left.size
    (magnitude-Div c.args.context.now c.args.left.expr c.args.right.expr)

pub number_node-requires-clause-depth : goal.number_node-requires-clause-depth
number_node-requires-clause-depth c =
    depth-two c.deeper-depth.result c.args.left.depth c.args.right.depth (measures.depth c.args.left.expr) (measures.depth c.args.right.expr) (measures.depth (E.Div c.args.left.expr c.args.right.expr)) c.deeper-depth.ensures c.requires.left.depth
    c.requires.right.depth (depth-Div c.args.left.expr c.args.right.expr)

pub number_node-requires-clause-nodes : goal.number_node-requires-clause-nodes
number_node-requires-clause-nodes c =
    nodes-two c.args.left.nodes c.args.right.nodes (measures.nodes c.args.left.expr) (measures.nodes c.args.right.expr) (measures.nodes (E.Div c.args.left.expr c.args.right.expr)) c.requires.left.nodes c.requires.right.nodes
    (nodes-Div c.args.left.expr c.args.right.expr)
