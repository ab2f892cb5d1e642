use Rattle.opl_connective.proofs.Seeing.{opposite_sees, part_sees, not_sees, and_sees, or_sees, first_unseen, second_unseen, third_unseen, last_seen, one_unseen}
use Rattle.opl_connective.proofs.deciding.+deciding.Goals as goal

pub node_sees_ends-returns-then-is_opposite : goal.node_sees_ends-returns-then-is_opposite
node_sees_ends-returns-then-is_opposite t c = opposite_sees c.args.node.now c.args.is_opposite c.in-Literal.part c.in-Literal.opposite c.sees_ends.result c.in-Literal.is c.if-is_opposite.true c.sees_ends.ensures

pub node_sees_ends-returns-else-is_opposite : goal.node_sees_ends-returns-else-is_opposite
node_sees_ends-returns-else-is_opposite t c = part_sees c.args.node.now c.args.is_opposite c.in-Literal.part c.in-Literal.opposite c.sees_ends-else-is_opposite.result c.in-Literal.is c.if-is_opposite.false c.sees_ends-else-is_opposite.ensures

pub node_sees_ends-returns-in-Not : goal.node_sees_ends-returns-in-Not
node_sees_ends-returns-in-Not t c = not_sees c.args.node.now c.args.is_opposite c.in-Not.node c.get.result.now c.node_sees_ends.result c.in-Not.is c.get.ensures c.node_sees_ends.ensures

pub node_sees_ends-returns-in-And : goal.node_sees_ends-returns-in-And
node_sees_ends-returns-in-And t c = and_sees c.args.node.now c.args.is_opposite c.in-And._variables c.in-And.nodes c.as_slice.result.now c.all_see_ends.result c.in-And.is c.as_slice.ensures c.all_see_ends.ensures

pub node_sees_ends-returns-in-Or : goal.node_sees_ends-returns-in-Or
node_sees_ends-returns-in-Or t c = or_sees c.args.node.now c.args.is_opposite c.in-Or._variables c.in-Or.nodes c.as_slice-in-Or.result.now c.all_see_ends-in-Or.result c.in-Or.is c.as_slice-in-Or.ensures c.all_see_ends-in-Or.ensures

pub node_sees_ends-returns-then-not-node_sees_ends : goal.node_sees_ends-returns-then-not-node_sees_ends
node_sees_ends-returns-then-not-node_sees_ends t c =
    first_unseen c.args.node.now c.args.is_opposite c.in-Iff._variables c.in-Iff.first c.in-Iff.second c.in-Iff.is c.get-in-Iff.result.now c.node_sees_ends-in-Iff.result c.get-in-Iff.ensures c.node_sees_ends-in-Iff.ensures c.if-not-node_sees_ends.true

pub node_sees_ends-returns-then-not-node_sees_ends-2 : goal.node_sees_ends-returns-then-not-node_sees_ends-2
node_sees_ends-returns-then-not-node_sees_ends-2 t c =
    second_unseen c.args.node.now c.args.is_opposite c.in-Iff._variables c.in-Iff.first c.in-Iff.second c.in-Iff.is c.get-in-Iff-2.result.now c.node_sees_ends-in-Iff-2.result c.get-in-Iff-2.ensures c.node_sees_ends-in-Iff-2.ensures c.if-not-node_sees_ends-2.true

pub node_sees_ends-returns-then-not-node_sees_ends-3 : goal.node_sees_ends-returns-then-not-node_sees_ends-3
node_sees_ends-returns-then-not-node_sees_ends-3 t c =
    third_unseen c.args.node.now c.args.is_opposite c.in-Iff._variables c.in-Iff.first c.in-Iff.second c.in-Iff.is c.get-in-Iff-3.result.now c.node_sees_ends-in-Iff-3.result c.get-in-Iff-3.ensures c.node_sees_ends-in-Iff-3.ensures c.if-not-node_sees_ends-3.true

pub node_sees_ends-returns-else-not-node_sees_ends-3 : goal.node_sees_ends-returns-else-not-node_sees_ends-3
node_sees_ends-returns-else-not-node_sees_ends-3 t c =
    last_seen c.args.node.now c.args.is_opposite c.in-Iff._variables c.in-Iff.first c.in-Iff.second c.in-Iff.is c.get-in-Iff.result.now c.get-in-Iff-2.result.now c.get-in-Iff-3.result.now c.get-in-Iff-4.result.now c.node_sees_ends-in-Iff.result
    c.node_sees_ends-in-Iff-2.result c.node_sees_ends-in-Iff-3.result c.node_sees_ends-in-Iff-4.result c.get-in-Iff.ensures c.node_sees_ends-in-Iff.ensures c.if-not-node_sees_ends.false c.get-in-Iff-2.ensures c.node_sees_ends-in-Iff-2.ensures
    c.if-not-node_sees_ends-2.false c.get-in-Iff-3.ensures c.node_sees_ends-in-Iff-3.ensures c.if-not-node_sees_ends-3.false c.get-in-Iff-4.ensures c.node_sees_ends-in-Iff-4.ensures

pub all_see_ends-returns-then-not-node_sees_ends : goal.all_see_ends-returns-then-not-node_sees_ends
all_see_ends-returns-then-not-node_sees_ends t c =
    one_unseen c.args.is_opposite c.args.nodes.now c.loop-left.left c.index-nodes-left.result c.node_sees_ends.result c.loop-left-test.true c.loop-left.invariant.0 c.index-nodes-left.is c.node_sees_ends.ensures c.if-not-node_sees_ends.true
