use Rattle.std.proofs.Common.{◌∙◌, ap, arith, map}
use Rattle.opl_expr.specs.declared.forms.Expr.TheVariants as E
use Rattle.opl_form.specs.Nodes as making
use Rattle.opl_form.specs.Parts.{as_number}
use Rattle.opl_nodes.specs.Contexts.{arrays, sets}
use Rattle.opl_nodes.specs.Pieces.{forms}
use Rattle.opl_nodes.proofs.Tests.{makes-same}
use Rattle.opl_numbers.proofs.Rows.{sum-depth, sum-nodes, sum-size}
use Rattle.opl_numbers.proofs.aggregates.sum_node.Goals as goal

pub overflow_add-depth : goal.overflow_add-depth
overflow_add-depth c = omega (arith, (c.in_ok-numbers.ensures c.args.context.now c.requires.each).is_shallow)

pub number_node-requires-clause-size : goal.number_node-requires-clause-size
number_node-requires-clause-size c =
    let k = c.args.context.now in
    sum-size k (map as_number (forms c.args.parts.items)) c.in_ok-numbers.numbers (c.in_ok-numbers.ensures k c.requires.each)

pub number_node-requires-clause-depth : goal.number_node-requires-clause-depth
number_node-requires-clause-depth c =
    let k = c.args.context.now in
    sum-depth k (map as_number (forms c.args.parts.items)) c.in_ok-numbers.numbers (c.in_ok-numbers.ensures k c.requires.each)

pub number_node-requires-clause-nodes : goal.number_node-requires-clause-nodes
number_node-requires-clause-nodes c =
    let k = c.args.context.now in
    c.in-Some.ensures.1 ∙ sum-nodes k (map as_number (forms c.args.parts.items)) c.in_ok-numbers.numbers (c.in_ok-numbers.ensures k c.requires.each)

pub returns : goal.returns
returns c =
    let k = c.args.context.now in
    let n = c.args.parts.before in
    let es = map as_number (forms c.args.parts.items) in
    let is = c.in_ok-numbers.ensures k c.requires.each in
    makes-same k (making.number_node (sets k) (arrays k) k.item c.args.at n (E.Sum c.in_ok-numbers.numbers.exprs)) (making.number_node (sets k) (arrays k) k.item c.args.at n (E.Sum es)) c.number_node.result
    (ap (λ es. making.number_node (sets k) (arrays k) k.item c.args.at n (E.Sum es)) is.exprs) c.number_node.ensures
