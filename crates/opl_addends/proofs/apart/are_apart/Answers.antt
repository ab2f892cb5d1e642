use Rattle.opl_addends.proofs.Counting.{once_first, once_next, once_all, factors_sound, factors_number, not_once}
use Rattle.opl_addends.proofs.apart.are_apart.Goals as goal

pub loop-mention-init : goal.loop-mention-init
loop-mention-init c = once_first c.args.core.now c.args.addends.now c.args.mentions.now

pub factors-requires-clause-sound : goal.factors-requires-clause-sound
factors-requires-clause-sound c =
    factors_sound c.args.core.now c.args.addends.now c.args.mentions.now c.loop-mention.mention-index c.mention-item.result c.as_slice-places.result.now c.loop-mention-test.true c.mention-item.is c.as_slice-places.ensures c.requires.numbers c.requires.sound

pub factors-requires-clause-number : goal.factors-requires-clause-number
factors-requires-clause-number c = factors_number c.args.core.now c.args.addends.now c.args.mentions.now c.loop-mention.mention-index c.mention-item.result c.loop-mention-test.true c.mention-item.is c.requires.numbers

pub returns-then-factors-gt1 : goal.returns-then-factors-gt1
returns-then-factors-gt1 c =
    not_once c.args.core.now c.args.addends.now c.args.mentions.now c.loop-mention.mention-index c.mention-item.result c.as_slice-places.result.now c.factors.result c.loop-mention-test.true c.mention-item.is c.as_slice-places.ensures c.requires.numbers c.factors.ensures c.if-factors-gt1.true

pub loop-mention-preserved : goal.loop-mention-preserved
loop-mention-preserved c =
    once_next c.args.core.now c.args.addends.now c.args.mentions.now c.loop-mention.mention-index c.mention-item.result c.as_slice-places.result.now c.factors.result c.loop-mention-test.true c.mention-item.is c.as_slice-places.ensures c.requires.numbers c.factors.ensures c.if-factors-gt1.false c.loop-mention.invariant

pub returns : goal.returns
returns c = once_all c.args.core.now c.args.addends.now c.args.mentions.now c.loop-mention.mention-index c.loop-mention-test.false c.loop-mention.invariant
