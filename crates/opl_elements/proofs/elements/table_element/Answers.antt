use Rattle.std.proofs.Common.{max, sym, ap, ◌∙◌}
use Rattle.opl_expr.specs.declared.forms.Expr.TheVariants as E
use Rattle.opl_form.specs.Measures.{greatest, total}
use Rattle.opl_form.specs.Nodes.{element_node, element_sort}
use Rattle.opl_nodes.specs.Contexts.{arrays, cells, leaves, sets}
use Rattle.opl_nodes.specs.Pieces.{magnitude}
use Rattle.opl_nodes.proofs.Tests.{makes-same}
use Rattle.std.proofs.Common.{map}
use Rattle.opl_elements.specs.Places as spec
use Rattle.opl_elements.specs.Sorts.{sort}
use Rattle.opl_elements.proofs.Cells.{cell-depth, cell-nodes, magnitude-At}
use Rattle.opl_elements.proofs.Sorted.{same-capped}
use Rattle.opl_elements.proofs.elements.table_element.Goals as goal

pub sorted-requires-clause-size : goal.sorted-requires-clause-size
sorted-requires-clause-size c =
    let k = c.args.context.now in
    same-capped c.larger-size.result (magnitude k c.in_ok-expr.expr)
    (c.larger-size.ensures ∙ ap (max 1) c.greatest_element.ensures ∙ sym (magnitude-At k c.args.number (cells c.args.array.now) c.in_ok-subscripts.subscripts c.requires.array) ∙ ap (magnitude k) (sym c.in_ok-expr.ensures))

pub sorted-requires-clause-depth : goal.sorted-requires-clause-depth
sorted-requires-clause-depth c =
    cell-depth c.args.number c.deepest-depth.result c.args.parts.items c.in_ok-subscripts.subscripts c.in_ok-expr.expr
    (c.deepest-depth.ensures.depth ∙ ap (λ ps. greatest (spec.depths ps)) c.as_slice.ensures) c.in_ok-subscripts.ensures c.in_ok-expr.ensures

pub sorted-requires-clause-nodes : goal.sorted-requires-clause-nodes
sorted-requires-clause-nodes c =
    cell-nodes c.args.number c.in-Some.below c.in-Some-checked_add.nodes c.args.parts.items c.in_ok-subscripts.subscripts c.in_ok-expr.expr
    (c.in-Some.ensures ∙ ap (λ ps. total (spec.nodes ps)) c.as_slice-2.ensures) c.in-Some-checked_add.ensures.1 c.in_ok-subscripts.ensures c.in_ok-expr.ensures

pub returns : goal.returns
returns c =
    let k = c.args.context.now in
    let n = c.args.parts.before in
    makes-same k (element_node (sets k) (arrays k) k.item (sort c.sort_of_elements-sort.result) c.args.at n c.in_ok-expr.expr)
    (element_node (sets k) (arrays k) k.item (element_sort (sets k) (leaves c.args.array.now.leaves)) c.args.at n (E.At c.args.number (map spec.rank c.args.parts.items))) c.sorted.result
    (λ i. element_node (sets k) (arrays k) k.item (c.sort_of_elements-sort.ensures i) c.args.at n ((c.in_ok-expr.ensures ∙ ap (E.At c.args.number) c.in_ok-subscripts.ensures) i)) c.sorted.ensures
