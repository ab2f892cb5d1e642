use Rattle.std.proofs.Common.{◌<◌, rules, map, length, refl}
use Rattle.opl_expr.specs.Solutions.{declared}
use Rattle.opl_filter.proofs.Removals.{left_self}
use Rattle.opl_reify.proofs.Looking.{still_below}
use Rattle.opl_connective.specs.declared.node.Node.TheFolds.{the_lemmas}
use Rattle.opl_connective.specs.Trees.{tree, is_refuted, some_refuted, all_refuted}
use Rattle.opl_connective.proofs.Places.{all_falls}
use Rattle.opl_connective.proofs.Going.{dead_goes, goes_carried, gone_first, gone_next, gone_failed, gone_all, one_within}
use Rattle.opl_connective.proofs.Reading.{literal_parts, not_part, and_parts, or_parts, iff_first, iff_second, node_at, tree_slice, there_back, all_there, all_none}
use Rattle.opl_connective.proofs.Turning.{opposite_goes, part_goes, not_goes, and_goes, and_opposite_goes, or_goes, or_opposite_goes, iff_goes, first_goes, second_goes, others_told}
use Rattle.opl_connective.proofs.rounds.+rounds.Goals as goal

pub round-by_part-requires-clause-part : goal.round-by_part-requires-clause-part
round-by_part-requires-clause-part g t c = (literal_parts c.args.core.now c.args.node.now c.in-Literal.part c.in-Literal.opposite c.in-Literal.is c.requires.node).1.part

pub round-by_part-requires-else-is_opposite-clause-part : goal.round-by_part-requires-else-is_opposite-clause-part
round-by_part-requires-else-is_opposite-clause-part g t c = (literal_parts c.args.core.now c.args.node.now c.in-Literal.part c.in-Literal.opposite c.in-Literal.is c.requires.node).0

pub round-round-requires : goal.round-round-requires
round-round-requires g t c κs within = (search (rules, the_lemmas), (within, (not_part c.args.core.now c.args.node.now c.in-Not.node c.get.result.now c.in-Not.is c.get.ensures c.requires.node, c.requires.declared)))

pub round-round_any-requires : goal.round-round_any-requires
round-round_any-requires g t c κs within = (search (rules, the_lemmas), (within, (and_parts c.args.core.now c.args.node.now c.in-And._variables c.in-And.parts c.as_slice-parts.result.now c.in-And.is c.as_slice-parts.ensures c.requires.node, c.requires.declared)))

pub round-round_all-requires : goal.round-round_all-requires
round-round_all-requires g t c κs within = (search (rules, the_lemmas), (within, (and_parts c.args.core.now c.args.node.now c.in-And._variables c.in-And.parts c.as_slice-parts.result.now c.in-And.is c.as_slice-parts.ensures c.requires.node, c.requires.declared)))

pub round-round_all-requires-then-is_opposite-3 : goal.round-round_all-requires-then-is_opposite-3
round-round_all-requires-then-is_opposite-3 g t c κs within = (search (rules, the_lemmas), (within, (or_parts c.args.core.now c.args.node.now c.in-Or._variables c.in-Or.parts c.as_slice-parts-in-Or.result.now c.in-Or.is c.as_slice-parts-in-Or.ensures c.requires.node, c.requires.declared)))

pub round-round_any-requires-in-Or : goal.round-round_any-requires-in-Or
round-round_any-requires-in-Or g t c κs within = (search (rules, the_lemmas), (within, (or_parts c.args.core.now c.args.node.now c.in-Or._variables c.in-Or.parts c.as_slice-parts-in-Or.result.now c.in-Or.is c.as_slice-parts-in-Or.ensures c.requires.node, c.requires.declared)))

pub round-side_left-requires-clause-first : goal.round-side_left-requires-clause-first
round-side_left-requires-clause-first g t c = iff_first c.args.core.now c.args.node.now c.in-Iff._variables c.in-Iff.a c.in-Iff.b c.get-first.result.now c.in-Iff.is c.get-first.ensures c.requires.node

pub round-side_left-requires-clause-second : goal.round-side_left-requires-clause-second
round-side_left-requires-clause-second g t c = iff_second c.args.core.now c.args.node.now c.in-Iff._variables c.in-Iff.a c.in-Iff.b c.get-second.result.now c.in-Iff.is c.get-second.ensures c.requires.node

pub round-round-requires-in-First : goal.round-round-requires-in-First
round-round-requires-in-First g t c κs within = (search (rules, the_lemmas), (within, (iff_first c.args.core.now c.args.node.now c.in-Iff._variables c.in-Iff.a c.in-Iff.b c.get-first.result.now c.in-Iff.is c.get-first.ensures c.requires.node, c.requires.declared)))

pub round-round-requires-in-Second : goal.round-round-requires-in-Second
round-round-requires-in-Second g t c κs within = (search (rules, the_lemmas), (within, (iff_second c.args.core.now c.args.node.now c.in-Iff._variables c.in-Iff.a c.in-Iff.b c.get-second.result.now c.in-Iff.is c.get-second.ensures c.requires.node, c.requires.declared)))

pub round-by_unlike-requires-clause-first : goal.round-by_unlike-requires-clause-first
round-by_unlike-requires-clause-first g t c = iff_first c.args.core.now c.args.node.now c.in-Iff._variables c.in-Iff.a c.in-Iff.b c.get-first.result.now c.in-Iff.is c.get-first.ensures c.requires.node

pub round-by_unlike-requires-clause-second : goal.round-by_unlike-requires-clause-second
round-by_unlike-requires-clause-second g t c = iff_second c.args.core.now c.args.node.now c.in-Iff._variables c.in-Iff.a c.in-Iff.b c.get-second.result.now c.in-Iff.is c.get-second.ensures c.requires.node

pub round-returns-then-is_opposite-clause-goes : goal.round-returns-then-is_opposite-clause-goes
round-returns-then-is_opposite-clause-goes g t c =
    opposite_goes c.args.core.now (g.N.View.family c.args.n.now) (g.N.View.family c.by_part.new.n) c.by_part.result c.args.node.now c.args.is_opposite c.in-Literal.part c.in-Literal.opposite c.in-Literal.is c.requires.node c.if-is_opposite.true c.by_part.ensures.goes

pub round-returns-else-is_opposite-clause-goes : goal.round-returns-else-is_opposite-clause-goes
round-returns-else-is_opposite-clause-goes g t c =
    part_goes c.args.core.now (g.N.View.family c.args.n.now) (g.N.View.family c.by_part-else-is_opposite.new.n) c.by_part-else-is_opposite.result c.args.node.now c.args.is_opposite c.in-Literal.part c.in-Literal.opposite c.in-Literal.is c.if-is_opposite.false
    c.by_part-else-is_opposite.ensures.goes

pub round-returns-in-Not-clause-goes : goal.round-returns-in-Not-clause-goes
round-returns-in-Not-clause-goes g t c =
    not_goes c.args.core.now (g.N.View.family c.args.n.now) (g.N.View.family c.round.new.n) c.round.result c.args.node.now c.args.is_opposite c.in-Not.node c.get.result.now c.in-Not.is c.get.ensures c.round.ensures.goes

pub round-returns-then-is_opposite-2-clause-goes : goal.round-returns-then-is_opposite-2-clause-goes
round-returns-then-is_opposite-2-clause-goes g t c =
    and_opposite_goes c.args.core.now (g.N.View.family c.args.n.now) (g.N.View.family c.round_any.new.n) c.round_any.result c.args.node.now c.args.is_opposite c.requires.node c.vars-vars.ensures.sets c.in-And._variables c.in-And.parts c.as_slice-parts.result.now c.in-And.is
    c.as_slice-parts.ensures c.if-is_opposite-2.true c.round_any.ensures.goes

pub round-returns-else-is_opposite-2-clause-goes : goal.round-returns-else-is_opposite-2-clause-goes
round-returns-else-is_opposite-2-clause-goes g t c =
    and_goes c.args.core.now (g.N.View.family c.args.n.now) (g.N.View.family c.round_all.new.n) c.round_all.result c.args.node.now c.args.is_opposite c.requires.node c.vars-vars.ensures.sets c.in-And._variables c.in-And.parts c.as_slice-parts.result.now c.in-And.is
    c.as_slice-parts.ensures c.if-is_opposite-2.false c.round_all.ensures.goes

pub round-returns-then-is_opposite-3-clause-goes : goal.round-returns-then-is_opposite-3-clause-goes
round-returns-then-is_opposite-3-clause-goes g t c =
    or_opposite_goes c.args.core.now (g.N.View.family c.args.n.now) (g.N.View.family c.round_all-then-is_opposite-3.new.n) c.round_all-then-is_opposite-3.result c.args.node.now c.args.is_opposite c.requires.node c.vars-vars.ensures.sets c.in-Or._variables c.in-Or.parts
    c.as_slice-parts-in-Or.result.now c.in-Or.is c.as_slice-parts-in-Or.ensures c.if-is_opposite-3.true c.round_all-then-is_opposite-3.ensures.goes

pub round-returns-else-is_opposite-3-clause-goes : goal.round-returns-else-is_opposite-3-clause-goes
round-returns-else-is_opposite-3-clause-goes g t c =
    or_goes c.args.core.now (g.N.View.family c.args.n.now) (g.N.View.family c.round_any-in-Or.new.n) c.round_any-in-Or.result c.args.node.now c.args.is_opposite c.requires.node c.vars-vars.ensures.sets c.in-Or._variables c.in-Or.parts c.as_slice-parts-in-Or.result.now
    c.in-Or.is c.as_slice-parts-in-Or.ensures c.if-is_opposite-3.false c.round_any-in-Or.ensures.goes

pub round-returns-in-First-clause-goes : goal.round-returns-in-First-clause-goes
round-returns-in-First-clause-goes g t c =
    first_goes c.args.core.now (g.N.View.family c.args.n.now) (g.N.View.family c.round-in-First.new.n) c.round-in-First.result c.args.node.now c.args.is_opposite c.in-Iff._variables c.in-Iff.a c.in-Iff.b c.get-first.result.now c.get-second.result.now c.in-Iff.is
    c.get-first.ensures c.get-second.ensures c.in-First.is_opposite c.vars-vars.ensures.sets c.in-First.ensures c.round-in-First.ensures.goes

pub round-returns-in-Second-clause-goes : goal.round-returns-in-Second-clause-goes
round-returns-in-Second-clause-goes g t c =
    second_goes c.args.core.now (g.N.View.family c.args.n.now) (g.N.View.family c.round-in-Second.new.n) c.round-in-Second.result c.args.node.now c.args.is_opposite c.in-Iff._variables c.in-Iff.a c.in-Iff.b c.get-first.result.now c.get-second.result.now c.in-Iff.is
    c.get-first.ensures c.get-second.ensures c.in-Second.is_opposite c.vars-vars.ensures.sets c.in-Second.ensures c.round-in-Second.ensures.goes

pub round-returns-in-Both-clause-goes : goal.round-returns-in-Both-clause-goes
round-returns-in-Both-clause-goes g t c =
    iff_goes c.args.core.now (g.N.View.family c.args.n.now) (g.N.View.family c.by_unlike.new.n) c.by_unlike.result c.args.node.now c.args.is_opposite c.in-Iff._variables c.in-Iff.a c.in-Iff.b c.get-first.result.now c.get-second.result.now c.in-Iff.is c.get-first.ensures
    c.get-second.ensures c.by_unlike.ensures.goes

pub round_all-loop-node-init : goal.round_all-loop-node-init
round_all-loop-node-init g t c = (gone_first c.args.core.now c.args.is_opposite (map tree c.args.nodes.now) (g.N.View.family c.args.n.now) (left_self _ _), g.met.N.Narrow.leads_to_itself _)

pub round_all-round-requires : goal.round_all-round-requires
round_all-round-requires g t c κs within = (
  search (rules, the_lemmas),
  (
    within,
    (
      node_at c.args.core.now c.args.nodes.now c.loop-node.node-index c.node-item.result c.loop-node-test.true c.node-item.is c.requires.nodes,
      still_below (some_refuted c.args.core.now c.args.is_opposite (map tree c.args.nodes.now)) (g.N.View.family c.args.n.now) (g.N.View.family c.loop-node.n) (declared c.args.core.now) c.loop-node.invariant.0.removals c.requires.declared,
    ),
  ),
)

pub round_all-returns-then-not-round-clause-goes : goal.round_all-returns-then-not-round-clause-goes
round_all-returns-then-not-round-clause-goes g t c =
    gone_failed c.args.core.now c.args.is_opposite (map tree c.args.nodes.now) (g.N.View.family c.args.n.now) (g.N.View.family c.loop-node.n) (g.N.View.family c.round.new.n) c.loop-node.node-index (tree c.node-item.result) c.vars-vars.ensures.sets
    (tree_slice c.args.nodes.now c.loop-node.node-index c.node-item.result c.loop-node-test.true c.node-item.is) c.loop-node.invariant.0 c.if-not-round.ensures.goes

pub round_all-loop-node-preserved : goal.round_all-loop-node-preserved
round_all-loop-node-preserved g t c = (
  gone_next c.args.core.now c.args.is_opposite (map tree c.args.nodes.now) (g.N.View.family c.args.n.now) (g.N.View.family c.loop-node.n) (g.N.View.family c.round.new.n) c.loop-node.node-index (tree c.node-item.result)
      (tree_slice c.args.nodes.now c.loop-node.node-index c.node-item.result c.loop-node-test.true c.node-item.is) c.loop-node.invariant.0 c.if-not-round.ensures.goes,
  g.met.N.Narrow.leads_on _ _ _ c.loop-node.invariant.1 c.round.ensures.leads_to,
)

pub round_all-returns-clause-goes : goal.round_all-returns-clause-goes
round_all-returns-clause-goes g t c =
    gone_all c.args.core.now c.args.is_opposite (map tree c.args.nodes.now) (g.N.View.family c.args.n.now) (g.N.View.family c.loop-node.n) c.loop-node.node-index c.vars-vars.ensures.sets (all_there c.args.nodes.now c.loop-node.node-index c.loop-node-test.false) c.loop-node.invariant.0

pub round_any-round-requires : goal.round_any-round-requires
round_any-round-requires g t c κs within =
    let there : c.in-Some.first < length c.args.nodes.now = there_back c.args.nodes.now c.in-Some.first c.in-Some.ensures.there in
    (search (rules, the_lemmas), (within, (node_at c.args.core.now c.args.nodes.now c.in-Some.first c.index-nodes-first.result there c.index-nodes-first.is c.requires.nodes, c.requires.declared)))

pub round_any-by_two-requires-clause-first : goal.round_any-by_two-requires-clause-first
round_any-by_two-requires-clause-first g t c = record { there = there_back c.args.nodes.now c.in-Some.first c.in-Some.ensures.there; is = c.in-Some.ensures.is }

pub round_any-by_two-requires-clause-second : goal.round_any-by_two-requires-clause-second
round_any-by_two-requires-clause-second g t c = record { there = there_back c.args.nodes.now c.in-Some-first_told.second c.in-Some-first_told.ensures.there; is = c.in-Some-first_told.ensures.is }

pub round_any-returns-in-None-clause-goes : goal.round_any-returns-in-None-clause-goes
round_any-returns-in-None-clause-goes g t c =
    let D = g.N.View.family c.args.n.now in
    let ts = map tree c.args.nodes.now in
    dead_goes (all_refuted c.args.core.now c.args.is_opposite ts) D D (all_falls c.args.core.now c.args.is_opposite ts) c.vars-vars.ensures.sets refl (all_none c.args.core.now D c.args.is_opposite ts c.in-None.ensures)

pub round_any-returns-in-None-first_told-clause-goes : goal.round_any-returns-in-None-first_told-clause-goes
round_any-returns-in-None-first_told-clause-goes g t c =
    let D = g.N.View.family c.args.n.now in
    let core = c.args.core.now in
    let o = c.args.is_opposite in
    let ts = map tree c.args.nodes.now in
    let m = c.index-nodes-first.result in
    goes_carried (is_refuted core o (tree m)) (all_refuted core o ts) D (g.N.View.family c.round.new.n) c.round.result c.vars-vars.ensures.sets
    (one_within core o ts c.requires.nodes D c.in-Some.first (tree m) (tree_slice c.args.nodes.now c.in-Some.first m (there_back c.args.nodes.now c.in-Some.first c.in-Some.ensures.there) c.index-nodes-first.is)
    (others_told core D o ts c.in-Some.first c.in-Some.ensures c.in-None-first_told.ensures)) c.round.ensures.goes
