use Rattle.std.proofs.Common.{sym, ◌∙◌, ap, arith}
use Rattle.opl_form.specs.Parts.{alike, ranked}
use Rattle.opl_form.specs.Nodes.{by_kind, condition_node, op_of}
use Rattle.opl_nodes.specs.Pieces.{form}
use Rattle.opl_nodes.proofs.Tests.{makes-same}
use Rattle.opl_elements.specs.Comparisons.{live_comparison}
use Rattle.opl_elements.proofs.Relations.{live-small}
use Rattle.opl_elements.proofs.Measured.{measured}
use Rattle.opl_elements.proofs.comparisons.live_comparison.Goals as goal

pub overflow_add-left : goal.overflow_add-left
overflow_add-left c = omega (arith, c.requires.left.is_small, c.requires.right.is_small)

pub by_kind-requires-clause-left : goal.by_kind-requires-clause-left
by_kind-requires-clause-left c = measured c.args.context.now c.args.left c.requires.left

pub by_kind-requires-clause-right : goal.by_kind-requires-clause-right
by_kind-requires-clause-right c = measured c.args.context.now c.args.right c.requires.right

pub returns : goal.returns
returns c =
    let k = c.args.context.now in
    let n = c.args.before in
    let r = c.args.relation in
    let g = form c.args.left in
    let h = form c.args.right in
    makes-same k (condition_node k.item n (by_kind c.are_alike-alike.result (op_of r) (ranked g) (ranked h))) (live_comparison k c.args.at n r g h) c.by_kind.result
    (ap (λ b. condition_node k.item n (by_kind b (op_of r) (ranked g) (ranked h))) (c.are_alike-alike.ensures ∙ (λ i. alike (c.sort_of.ensures i) (c.sort_of-2.ensures i)))
    ∙ sym (live-small k c.args.at n r c.args.left c.args.right c.requires.left c.requires.right (omega (arith, c.if-left-right-ge-CAP.false))))
    c.by_kind.ensures
