use Rattle.std.proofs.Common.{rules, arith, not}
use Rattle.opl_connective.specs.declared.node.Node.TheFolds.{the_lemmas}
use Rattle.opl_connective.proofs.Reading.{literal_parts, not_part, and_parts, or_parts, iff_first, iff_second, node_at, tree_there, told_at, told_next, told_none, same_told, other_told, opposite_told, part_told, not_told, and_none, and_some, or_none, or_some, iff_told_sure, iff_told_never, iff_told_open}
use Rattle.opl_connective.proofs.refuting.+refuting.Goals as goal

pub first_told-refuted-requires : goal.first_told-refuted-requires
first_told-refuted-requires g t c κs within =
    (search (rules, the_lemmas), (within, (node_at c.args.core.now c.args.nodes.now c.loop-at.at c.index-nodes-at.result c.loop-at-test.true c.index-nodes-at.is c.requires.nodes, c.requires.within)))

pub first_told-returns-then-refuted-told : goal.first_told-returns-then-refuted-told
first_told-returns-then-refuted-told g t c = record {
  least = c.loop-at.invariant.0;
  there = tree_there c.args.nodes.now c.loop-at.at c.loop-at-test.true;
  is = told_at c.args.core.now (g.V.View.family c.args.view.now) c.args.is_opposite c.args.nodes.now c.loop-at.at c.index-nodes-at.result c.refuted.result c.args.told c.loop-at-test.true c.index-nodes-at.is c.refuted.ensures (same_told c.refuted.result c.args.told c.if-refuted-told.true);
  before = c.loop-at.invariant.1;
}

pub first_told-loop-at-preserved : goal.first_told-loop-at-preserved
first_told-loop-at-preserved g t c =
    let F = g.V.View.family c.args.view.now in (
      omega (arith, c.loop-at.invariant.0),
      told_next c.args.core.now F c.args.is_opposite c.args.nodes.now (not c.args.told) c.args.from c.loop-at.at c.loop-at.invariant.1
          (told_at c.args.core.now F c.args.is_opposite c.args.nodes.now c.loop-at.at c.index-nodes-at.result c.refuted.result (not c.args.told) c.loop-at-test.true c.index-nodes-at.is c.refuted.ensures (other_told c.refuted.result c.args.told c.if-refuted-told.false)),
    )

pub first_told-returns : goal.first_told-returns
first_told-returns g t c = told_none c.args.core.now (g.V.View.family c.args.view.now) c.args.is_opposite c.args.nodes.now (not c.args.told) c.args.from c.loop-at.at c.loop-at.invariant.1 c.loop-at-test.false

pub refuted-is_refuted-requires-clause-part : goal.refuted-is_refuted-requires-clause-part
refuted-is_refuted-requires-clause-part g t c = (literal_parts c.args.core.now c.args.node.now c.in-Literal.part c.in-Literal.opposite c.in-Literal.is c.requires.node).1.part

pub refuted-is_refuted-requires-else-is_opposite-clause-part : goal.refuted-is_refuted-requires-else-is_opposite-clause-part
refuted-is_refuted-requires-else-is_opposite-clause-part g t c = (literal_parts c.args.core.now c.args.node.now c.in-Literal.part c.in-Literal.opposite c.in-Literal.is c.requires.node).0

pub refuted-refuted-requires : goal.refuted-refuted-requires
refuted-refuted-requires g t c κs within = (search (rules, the_lemmas), (within, (not_part c.args.core.now c.args.node.now c.in-Not.node c.get.result.now c.in-Not.is c.get.ensures c.requires.node, c.requires.within)))

pub refuted-first_told-requires : goal.refuted-first_told-requires
refuted-first_told-requires g t c κs within = (search (rules, the_lemmas), (within, (and_parts c.args.core.now c.args.node.now c.in-And._variables c.in-And.nodes c.as_slice.result.now c.in-And.is c.as_slice.ensures c.requires.node, c.requires.within)))

pub refuted-first_told-requires-in-Or : goal.refuted-first_told-requires-in-Or
refuted-first_told-requires-in-Or g t c κs within = (search (rules, the_lemmas), (within, (or_parts c.args.core.now c.args.node.now c.in-Or._variables c.in-Or.nodes c.as_slice-in-Or.result.now c.in-Or.is c.as_slice-in-Or.ensures c.requires.node, c.requires.within)))

pub refuted-refuted-requires-in-Iff : goal.refuted-refuted-requires-in-Iff
refuted-refuted-requires-in-Iff g t c κs within = (search (rules, the_lemmas), (within, (iff_first c.args.core.now c.args.node.now c.in-Iff._variables c.in-Iff.first c.in-Iff.second c.get-in-Iff.result.now c.in-Iff.is c.get-in-Iff.ensures c.requires.node, c.requires.within)))

pub refuted-refuted-requires-then-refuted : goal.refuted-refuted-requires-then-refuted
refuted-refuted-requires-then-refuted g t c κs within = (search (rules, the_lemmas), (within, (iff_second c.args.core.now c.args.node.now c.in-Iff._variables c.in-Iff.first c.in-Iff.second c.get-then-refuted.result.now c.in-Iff.is c.get-then-refuted.ensures c.requires.node, c.requires.within)))

pub refuted-refuted-requires-in-Iff-2 : goal.refuted-refuted-requires-in-Iff-2
refuted-refuted-requires-in-Iff-2 g t c κs within = (search (rules, the_lemmas), (within, (iff_first c.args.core.now c.args.node.now c.in-Iff._variables c.in-Iff.first c.in-Iff.second c.get-in-Iff-2.result.now c.in-Iff.is c.get-in-Iff-2.ensures c.requires.node, c.requires.within)))

pub refuted-refuted-requires-then-refuted-2 : goal.refuted-refuted-requires-then-refuted-2
refuted-refuted-requires-then-refuted-2 g t c κs within = (search (rules, the_lemmas), (within, (iff_second c.args.core.now c.args.node.now c.in-Iff._variables c.in-Iff.first c.in-Iff.second c.get-then-refuted-2.result.now c.in-Iff.is c.get-then-refuted-2.ensures c.requires.node, c.requires.within)))

pub refuted-returns-then-is_opposite : goal.refuted-returns-then-is_opposite
refuted-returns-then-is_opposite g t c = opposite_told c.args.core.now (g.V.View.family c.args.view.now) c.args.node.now c.requires.node c.in-Literal.part c.in-Literal.opposite c.args.is_opposite c.is_refuted.result c.in-Literal.is c.if-is_opposite.true c.is_refuted.ensures

pub refuted-returns-else-is_opposite : goal.refuted-returns-else-is_opposite
refuted-returns-else-is_opposite g t c =
    part_told c.args.core.now (g.V.View.family c.args.view.now) c.args.node.now c.requires.node c.in-Literal.part c.in-Literal.opposite c.args.is_opposite c.is_refuted-else-is_opposite.result c.in-Literal.is c.if-is_opposite.false c.is_refuted-else-is_opposite.ensures

pub refuted-returns-in-Not : goal.refuted-returns-in-Not
refuted-returns-in-Not g t c = not_told c.args.core.now (g.V.View.family c.args.view.now) c.args.node.now c.requires.node c.in-Not.node c.get.result.now c.args.is_opposite c.refuted.result c.in-Not.is c.get.ensures c.refuted.ensures

pub refuted-returns-in-None : goal.refuted-returns-in-None
refuted-returns-in-None g t c =
    and_none c.args.core.now (g.V.View.family c.args.view.now) c.args.node.now c.requires.node c.vars-vars.ensures.sets.full c.in-And._variables c.in-And.nodes c.as_slice.result.now c.args.is_opposite c.in-And.is c.as_slice.ensures c.in-None.ensures

pub refuted-returns-in-Some : goal.refuted-returns-in-Some
refuted-returns-in-Some g t c =
    and_some c.args.core.now (g.V.View.family c.args.view.now) c.args.node.now c.requires.node c.vars-vars.ensures.sets.full c.in-And._variables c.in-And.nodes c.as_slice.result.now c.args.is_opposite c.in-Some._at c.in-And.is c.as_slice.ensures c.in-Some.ensures

pub refuted-returns-in-None-first_told : goal.refuted-returns-in-None-first_told
refuted-returns-in-None-first_told g t c =
    or_none c.args.core.now (g.V.View.family c.args.view.now) c.args.node.now c.requires.node c.vars-vars.ensures.sets.full c.in-Or._variables c.in-Or.nodes c.as_slice-in-Or.result.now c.args.is_opposite c.in-Or.is c.as_slice-in-Or.ensures c.in-None-first_told.ensures

pub refuted-returns-in-Some-first_told : goal.refuted-returns-in-Some-first_told
refuted-returns-in-Some-first_told g t c =
    or_some c.args.core.now (g.V.View.family c.args.view.now) c.args.node.now c.requires.node c.vars-vars.ensures.sets.full c.in-Or._variables c.in-Or.nodes c.as_slice-in-Or.result.now c.args.is_opposite c.in-Some-first_told._at c.in-Or.is c.as_slice-in-Or.ensures c.in-Some-first_told.ensures

pub refuted-returns-then-refuted : goal.refuted-returns-then-refuted
refuted-returns-then-refuted g t c =
    iff_told_sure c.args.core.now (g.V.View.family c.args.view.now) c.args.node.now c.requires.node c.vars-vars.ensures.sets.full c.args.is_opposite c.in-Iff._variables c.in-Iff.first c.in-Iff.second c.get-in-Iff.result.now c.in-Iff.is c.get-in-Iff.ensures
    c.get-then-refuted.result.now c.refuted-in-Iff.result c.refuted-then-refuted.result c.get-then-refuted.ensures c.refuted-in-Iff.ensures c.if-refuted.true c.refuted-then-refuted.ensures

pub refuted-returns-then-refuted-2 : goal.refuted-returns-then-refuted-2
refuted-returns-then-refuted-2 g t c =
    iff_told_never c.args.core.now (g.V.View.family c.args.view.now) c.args.node.now c.requires.node c.vars-vars.ensures.sets.full c.args.is_opposite c.in-Iff._variables c.in-Iff.first c.in-Iff.second c.get-in-Iff-2.result.now c.in-Iff.is c.get-in-Iff-2.ensures
    c.get-then-refuted-2.result.now c.refuted-in-Iff-2.result c.refuted-then-refuted-2.result c.get-then-refuted-2.ensures c.refuted-in-Iff-2.ensures c.if-refuted-2.true c.refuted-then-refuted-2.ensures

pub refuted-returns-else-refuted-2 : goal.refuted-returns-else-refuted-2
refuted-returns-else-refuted-2 g t c =
    iff_told_open c.args.core.now (g.V.View.family c.args.view.now) c.args.node.now c.requires.node c.vars-vars.ensures.sets.full c.args.is_opposite c.in-Iff._variables c.in-Iff.first c.in-Iff.second c.get-in-Iff.result.now c.in-Iff.is c.get-in-Iff.ensures
    c.get-in-Iff-2.result.now c.refuted-in-Iff.result c.refuted-in-Iff-2.result c.get-in-Iff-2.ensures c.refuted-in-Iff.ensures c.if-refuted.false c.refuted-in-Iff-2.ensures c.if-refuted-2.false
