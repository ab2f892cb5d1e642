use Rattle.opl_expr.specs.declared.forms.Expr.TheVariants as E
use Rattle.opl_form.specs.Measures as measures
use Rattle.opl_numbers.proofs.Measures.{depth-Mul, nodes-Mul}
use Rattle.opl_numbers.proofs.Products.{depth-two, nodes-two}
use Rattle.opl_numbers.proofs.pairs.product_node.Goals as goal

pub number_node-requires-clause-size : goal.number_node-requires-clause-size
number_node-requires-clause-size c = c.product_size-size.ensures c.args.context.now c.requires.left c.requires.right

pub number_node-requires-clause-depth : goal.number_node-requires-clause-depth
number_node-requires-clause-depth c =
    depth-two c.deeper-depth.result c.args.left.depth c.args.right.depth (measures.depth c.args.left.expr) (measures.depth c.args.right.expr) (measures.depth (E.Mul c.args.left.expr c.args.right.expr)) c.deeper-depth.ensures c.requires.left.depth
    c.requires.right.depth (depth-Mul c.args.left.expr c.args.right.expr)

pub number_node-requires-clause-nodes : goal.number_node-requires-clause-nodes
number_node-requires-clause-nodes c =
    nodes-two c.args.left.nodes c.args.right.nodes (measures.nodes c.args.left.expr) (measures.nodes c.args.right.expr) (measures.nodes (E.Mul c.args.left.expr c.args.right.expr)) c.requires.left.nodes c.requires.right.nodes
    (nodes-Mul c.args.left.expr c.args.right.expr)
