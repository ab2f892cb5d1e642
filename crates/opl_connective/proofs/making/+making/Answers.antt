use Rattle.std.proofs.Common.{rules}
use Rattle.std.proofs.lemmas.Result.{IfOk-weaker}
use Rattle.opl_expr.specs.declared.forms.Cons.TheFolds.{the_lemmas}
use Rattle.opl_connective.proofs.Made.{and_sound, or_sound, imp_sound, iff_sound, not_sound, and_made, or_made, imp_made, iff_made, not_made, leaf_there, and_connects, or_connects, imp_connects, iff_connects, not_connects, first_nodes, next_nodes, no_nodes, sound_at}
use Rattle.opl_connective.proofs.making.+making.Goals as goal

pub node_of-nodes_of-requires : goal.node_of-nodes_of-requires
node_of-nodes_of-requires t c = (search (rules, the_lemmas), and_sound c.args.core.now c.args.c.now c.in-And.parts c.as_slice.result.now c.in-And.is c.as_slice.ensures c.requires)

pub node_of-nodes_of-requires-in-Or : goal.node_of-nodes_of-requires-in-Or
node_of-nodes_of-requires-in-Or t c = (search (rules, the_lemmas), or_sound c.args.core.now c.args.c.now c.in-Or.parts c.as_slice-in-Or.result.now c.in-Or.is c.as_slice-in-Or.ensures c.requires)

pub node_of-returns-in-Cmp-clause-kind : goal.node_of-returns-in-Cmp-clause-kind
node_of-returns-in-Cmp-clause-kind t c = IfOk-weaker c.leaf.result _ _ (leaf_there c.args.core.now c.args.c.now c.in-Cmp._op c.in-Cmp._a c.in-Cmp._b c.in-Cmp.is) c.leaf.ensures.kind

pub node_of-returns-in_ok-new-in-Some-clause-node : goal.node_of-returns-in_ok-new-in-Some-clause-node
node_of-returns-in_ok-new-in-Some-clause-node t c =
    and_made c.args.core.now c.args.c.now c.requires c.in_ok-new-in-Some.field-0 c.in_ok-variables-in-And.variables c.in_ok-variables-in-And.ensures c.in-And.parts c.as_slice.result.now c.in-Some.nodes c.in_ok-nodes_of-in-And.field-0 c.in-And.is c.as_slice.ensures
    c.in_ok-nodes_of-in-And.ensures.nodes c.in-Some.is c.in_ok-new-in-Some.ensures

pub node_of-returns-in_ok-new-in-Some-clause-kind : goal.node_of-returns-in_ok-new-in-Some-clause-kind
node_of-returns-in_ok-new-in-Some-clause-kind t c =
    and_connects c.args.core.now c.args.c.now c.in-And.parts c.as_slice.result.now c.in-And.is c.as_slice.ensures c.in_ok-nodes_of-in-And.field-0 c.in-Some.nodes c.in_ok-nodes_of-in-And.ensures.kind c.in-Some.is

pub node_of-returns-in_ok-new-in-Some-2-clause-node : goal.node_of-returns-in_ok-new-in-Some-2-clause-node
node_of-returns-in_ok-new-in-Some-2-clause-node t c =
    or_made c.args.core.now c.args.c.now c.requires c.in_ok-new-in-Some-2.field-0 c.in_ok-variables-in-Or.variables c.in_ok-variables-in-Or.ensures c.in-Or.parts c.as_slice-in-Or.result.now c.in-Some-2.nodes c.in_ok-nodes_of-in-Or.field-0 c.in-Or.is
    c.as_slice-in-Or.ensures c.in_ok-nodes_of-in-Or.ensures.nodes c.in-Some-2.is c.in_ok-new-in-Some-2.ensures

pub node_of-returns-in_ok-new-in-Some-2-clause-kind : goal.node_of-returns-in_ok-new-in-Some-2-clause-kind
node_of-returns-in_ok-new-in-Some-2-clause-kind t c =
    or_connects c.args.core.now c.args.c.now c.in-Or.parts c.as_slice-in-Or.result.now c.in-Or.is c.as_slice-in-Or.ensures c.in_ok-nodes_of-in-Or.field-0 c.in-Some-2.nodes c.in_ok-nodes_of-in-Or.ensures.kind c.in-Some-2.is

pub node_of-returns-in_ok-new-in-Some-7-clause-node : goal.node_of-returns-in_ok-new-in-Some-7-clause-node
node_of-returns-in_ok-new-in-Some-7-clause-node t c =
    not_made c.args.core.now c.args.c.now c.requires c.in_ok-new-in-Some-7.field-0 c.in-Not.a c.get-in-Not.result.now c.in-Some-7.node c.in_ok-node_of-in-Not.field-0 c.in-Not.is c.get-in-Not.ensures c.in_ok-node_of-in-Not.ensures.node c.in-Some-7.is c.in_ok-new-in-Some-7.ensures

pub node_of-returns-in_ok-new-in-Some-7-clause-kind : goal.node_of-returns-in_ok-new-in-Some-7-clause-kind
node_of-returns-in_ok-new-in-Some-7-clause-kind t c = not_connects c.args.core.now c.args.c.now c.in-Not.a c.get-in-Not.result.now c.in-Not.is c.get-in-Not.ensures c.in_ok-node_of-in-Not.field-0 c.in-Some-7.node c.in_ok-node_of-in-Not.ensures.kind c.in-Some-7.is

pub node_of-node_of-requires : goal.node_of-node_of-requires
node_of-node_of-requires t c = (search (rules, the_lemmas), (imp_sound c.args.core.now c.args.c.now c.in-Imp.a c.in-Imp.b c.get.result.now c.get-b.result.now c.in-Imp.is c.get.ensures c.get-b.ensures c.requires).0)

pub node_of-node_of-requires-in-Some-3 : goal.node_of-node_of-requires-in-Some-3
node_of-node_of-requires-in-Some-3 t c = (search (rules, the_lemmas), (imp_sound c.args.core.now c.args.c.now c.in-Imp.a c.in-Imp.b c.get.result.now c.get-b.result.now c.in-Imp.is c.get.ensures c.get-b.ensures c.requires).1)

pub node_of-node_of-requires-in-Iff : goal.node_of-node_of-requires-in-Iff
node_of-node_of-requires-in-Iff t c = (search (rules, the_lemmas), (iff_sound c.args.core.now c.args.c.now c.in-Iff.a c.in-Iff.b c.get-in-Iff.result.now c.get-b-in-Iff.result.now c.in-Iff.is c.get-in-Iff.ensures c.get-b-in-Iff.ensures c.requires).0)

pub node_of-node_of-requires-in-Some-5 : goal.node_of-node_of-requires-in-Some-5
node_of-node_of-requires-in-Some-5 t c = (search (rules, the_lemmas), (iff_sound c.args.core.now c.args.c.now c.in-Iff.a c.in-Iff.b c.get-in-Iff.result.now c.get-b-in-Iff.result.now c.in-Iff.is c.get-in-Iff.ensures c.get-b-in-Iff.ensures c.requires).1)

pub node_of-node_of-requires-in-Not : goal.node_of-node_of-requires-in-Not
node_of-node_of-requires-in-Not t c = (search (rules, the_lemmas), not_sound c.args.core.now c.args.c.now c.in-Not.a c.get-in-Not.result.now c.in-Not.is c.get-in-Not.ensures c.requires)

pub node_of-returns-in_ok-implication-in-Some-4-clause-node : goal.node_of-returns-in_ok-implication-in-Some-4-clause-node
node_of-returns-in_ok-implication-in-Some-4-clause-node t c =
    imp_made c.args.core.now c.args.c.now c.requires c.in_ok-implication-in-Some-4.field-0 c.in_ok-variables-in-Imp.variables c.in_ok-variables-in-Imp.ensures c.in-Imp.a c.in-Imp.b c.get.result.now c.get-b.result.now c.in-Some-3.first c.in-Some-4.second
    c.in_ok-node_of-in-Imp.field-0 c.in_ok-node_of-in-Some-3.field-0 c.in-Imp.is c.get.ensures c.get-b.ensures c.in_ok-node_of-in-Imp.ensures.node c.in-Some-3.is c.in_ok-node_of-in-Some-3.ensures.node c.in-Some-4.is c.in_ok-implication-in-Some-4.ensures

pub node_of-returns-in_ok-implication-in-Some-4-clause-kind : goal.node_of-returns-in_ok-implication-in-Some-4-clause-kind
node_of-returns-in_ok-implication-in-Some-4-clause-kind t c =
    imp_connects c.args.core.now c.args.c.now c.in-Imp.a c.in-Imp.b c.get.result.now c.get-b.result.now c.in-Imp.is c.get.ensures c.get-b.ensures c.in_ok-node_of-in-Imp.field-0 c.in_ok-node_of-in-Some-3.field-0 c.in-Some-3.first c.in-Some-4.second
    c.in_ok-node_of-in-Imp.ensures.kind c.in-Some-3.is c.in_ok-node_of-in-Some-3.ensures.kind c.in-Some-4.is

pub node_of-returns-in_ok-new-in-Some-6-clause-node : goal.node_of-returns-in_ok-new-in-Some-6-clause-node
node_of-returns-in_ok-new-in-Some-6-clause-node t c =
    iff_made c.args.core.now c.args.c.now c.requires c.in_ok-new-in-Some-6.field-0 c.in_ok-variables-in-Iff.variables c.in_ok-variables-in-Iff.ensures c.in-Iff.a c.in-Iff.b c.get-in-Iff.result.now c.get-b-in-Iff.result.now c.in-Some-5.first c.in-Some-6.second
    c.in_ok-node_of-in-Iff.field-0 c.in_ok-node_of-in-Some-5.field-0 c.in-Iff.is c.get-in-Iff.ensures c.get-b-in-Iff.ensures c.in_ok-node_of-in-Iff.ensures.node c.in-Some-5.is c.in_ok-node_of-in-Some-5.ensures.node c.in-Some-6.is c.in_ok-new-in-Some-6.ensures

pub node_of-returns-in_ok-new-in-Some-6-clause-kind : goal.node_of-returns-in_ok-new-in-Some-6-clause-kind
node_of-returns-in_ok-new-in-Some-6-clause-kind t c =
    iff_connects c.args.core.now c.args.c.now c.in-Iff.a c.in-Iff.b c.get-in-Iff.result.now c.get-b-in-Iff.result.now c.in-Iff.is c.get-in-Iff.ensures c.get-b-in-Iff.ensures c.in_ok-node_of-in-Iff.field-0 c.in_ok-node_of-in-Some-5.field-0 c.in-Some-5.first c.in-Some-6.second
    c.in_ok-node_of-in-Iff.ensures.kind c.in-Some-5.is c.in_ok-node_of-in-Some-5.ensures.kind c.in-Some-6.is

pub nodes_of-loop-c-init : goal.nodes_of-loop-c-init
nodes_of-loop-c-init t c = first_nodes c.args.core.now c.args.cs.now c.new-found.result c.new-found.ensures

pub nodes_of-node_of-requires : goal.nodes_of-node_of-requires
nodes_of-node_of-requires t c = (search (rules, the_lemmas), sound_at c.args.core.now c.args.cs.now c.loop-c.c-index c.c-item.result c.loop-c-test.true c.c-item.is c.requires)

pub nodes_of-returns-in-None-clause-kind : goal.nodes_of-returns-in-None-clause-kind
nodes_of-returns-in-None-clause-kind t c = no_nodes c.args.core.now c.args.cs.now c.loop-c.c-index c.c-item.result c.in_ok-node_of.field-0 c.loop-c-test.true c.c-item.is c.in_ok-node_of.ensures.kind c.in-None.is

pub nodes_of-loop-c-preserved : goal.nodes_of-loop-c-preserved
nodes_of-loop-c-preserved t c =
    next_nodes c.args.core.now c.args.cs.now c.loop-c.c-index c.c-item.result c.loop-c.found c.push.new.self c.in-Some.node c.into_inner.result c.in_ok-node_of.field-0 c.loop-c-test.true c.c-item.is c.loop-c.invariant c.in_ok-node_of.ensures.node c.in_ok-node_of.ensures.kind
    c.in-Some.is c.into_inner.ensures c.in_ok-push-in-Some.ensures.ok
