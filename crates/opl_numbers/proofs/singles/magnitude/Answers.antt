use Rattle.opl_expr.specs.declared.forms.Expr.TheVariants as E
use Rattle.opl_form.specs.Measures as measures
use Rattle.opl_nodes.specs.Pieces.{magnitude}
use Rattle.opl_numbers.proofs.Measures.{depth-Abs, magnitude-Abs, nodes-Abs}
use Rattle.opl_numbers.proofs.Products.{one-more, size-first}
use Rattle.opl_numbers.proofs.singles.magnitude.Goals as goal

pub number_node-requires-clause-size : goal.number_node-requires-clause-size
number_node-requires-clause-size c =
    let k = c.args.context.now in
    let n = c.in_ok-number.number in
    let is = c.in_ok-number.ensures.measures k c.requires in
    size-first c.larger-size.result n.size (magnitude k n.expr) (magnitude k (E.Abs n.expr)) c.larger-size.ensures is.size (magnitude-Abs k n.expr)

pub number_node-requires-clause-depth : goal.number_node-requires-clause-depth
number_node-requires-clause-depth c =
    let n = c.in_ok-number.number in
    let is = c.in_ok-number.ensures.measures c.args.context.now c.requires in
    one-more n.depth (measures.depth n.expr) (measures.depth (E.Abs n.expr)) is.depth (depth-Abs n.expr)

pub number_node-requires-clause-nodes : goal.number_node-requires-clause-nodes
number_node-requires-clause-nodes c =
    let n = c.in_ok-number.number in
    let is = c.in_ok-number.ensures.measures c.args.context.now c.requires in
    one-more n.nodes (measures.nodes n.expr) (measures.nodes (E.Abs n.expr)) is.nodes (nodes-Abs n.expr)
