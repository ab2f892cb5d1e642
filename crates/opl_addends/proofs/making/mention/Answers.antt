use Rattle.std.proofs.Common.{refl}
use Rattle.opl_addends.proofs.Finding.{finds_none, finds_noted, finds_all}
use Rattle.opl_addends.proofs.making.mention.Goals as goal

pub loop-at-init : goal.loop-at-init
loop-at-init c = finds_none c.args.core.now c.args.addends.now c.args.variable c.new-places.result c.new-places.ensures

pub loop-at-preserved : goal.loop-at-preserved
loop-at-preserved c =
    finds_noted c.args.core.now c.args.addends.now c.args.variable c.loop-at.at c.index-addends-at.result c.loop-at.places c.note.new.places c.loop-at-test.true c.index-addends-at.is c.requires c.in_ok-note.ensures c.loop-at.invariant

pub returns : goal.returns
returns c = finds_all c.args.core.now c.args.addends.now c.args.variable c.loop-at.at (record { variable = c.args.variable; places = c.loop-at.places }) c.loop-at-test.false refl c.loop-at.invariant
