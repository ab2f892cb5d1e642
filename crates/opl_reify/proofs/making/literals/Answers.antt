use Rattle.opl_reify.proofs.Made.{first_parts, next_parts, no_literals, sound_at}
use Rattle.opl_reify.proofs.making.literals.Goals as goal

pub loop-c-init : goal.loop-c-init
loop-c-init c = first_parts c.args.core.now c.args.cs.now c.new-parts.result c.new-parts.ensures

pub add_literal-requires : goal.add_literal-requires
add_literal-requires c = sound_at c.args.core.now c.args.cs.now c.loop-c.c-index c.c-item.result c.loop-c-test.true c.c-item.is c.requires

pub loop-c-preserved : goal.loop-c-preserved
loop-c-preserved c =
    next_parts c.args.core.now c.args.cs.now c.loop-c.c-index c.c-item.result c.loop-c.parts c.add_literal.new.parts c.in_ok-add_literal.field-0 c.loop-c-test.true c.c-item.is c.loop-c.invariant c.in_ok-add_literal.ensures.part c.in_ok-add_literal.ensures.kind
    c.if-not-branch.false

pub returns-then-not-branch-clause-kind : goal.returns-then-not-branch-clause-kind
returns-then-not-branch-clause-kind c =
    no_literals c.args.core.now c.args.cs.now c.loop-c.c-index c.c-item.result c.in_ok-add_literal.field-0 c.loop-c-test.true c.c-item.is c.in_ok-add_literal.ensures.kind c.if-not-branch.true
