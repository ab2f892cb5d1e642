use Rattle.std.proofs.Common.{sym, ◌∙◌, ap}
use Rattle.opl_form.specs.Measures as measures
use Rattle.opl_nodes.specs.Pieces.{magnitude}
use Rattle.opl_elements.proofs.Measured.{depth-Var, magnitude-Var, nodes-Var}
use Rattle.opl_elements.proofs.Sorted.{same-capped}
use Rattle.opl_elements.proofs.kinds.variable_node.Goals as goal

pub sorted-requires-clause-size : goal.sorted-requires-clause-size
sorted-requires-clause-size c =
    let k = c.args.context.now in
    same-capped c.magnitude-size.result (magnitude k c.in_ok-expr.expr) (c.magnitude-size.ensures.size ∙ sym (magnitude-Var k c.args.x) ∙ ap (magnitude k) (sym c.in_ok-expr.ensures))

pub sorted-requires-clause-depth : goal.sorted-requires-clause-depth
sorted-requires-clause-depth c = sym (ap measures.depth c.in_ok-expr.ensures ∙ depth-Var c.args.x)

pub sorted-requires-clause-nodes : goal.sorted-requires-clause-nodes
sorted-requires-clause-nodes c = sym (ap measures.nodes c.in_ok-expr.ensures ∙ nodes-Var c.args.x)
