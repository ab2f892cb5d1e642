use Rattle.std.proofs.Common.{◌<◌, ◌≤◌, length, arith}
use Rattle.opl_engine.proofs.Placing.{given_none, given_next, given_all}
use Rattle.opl_engine.proofs.members.take_places.Goals as goal

pub loop-at-init : goal.loop-at-init
loop-at-init c = (given_none c.args.members.now, omega arith)

pub take_places-behind-requires : goal.take_places-behind-requires
take_places-behind-requires c = let l = c.loop-at.invariant.1 in omega (arith, l)

pub loop-at-preserved : goal.loop-at-preserved
loop-at-preserved c =
    let ms = c.loop-at.members in
    let l : c.loop-at.at < length ms = omega (arith, c.loop-at-test.true, c.loop-at.auto.at-end, c.loop-at.invariant.0.long) in
    (given_next c.args.members.now ms c.loop-at.at c.loop-at.behind c.take_places-behind.result c.index-members-at.result c.take_places-behind.new.self l c.loop-at.invariant.0 c.take_places-behind.ensures.places, let w = c.take_places-behind.ensures.within in omega (arith, w))

pub returns : goal.returns
returns c =
    let l : length c.args.members.now ≤ c.loop-at.at = omega (arith, c.loop-at-test.false, c.loop-at.auto.at-end) in
    given_all c.args.members.now c.loop-at.members c.loop-at.at c.loop-at.behind l c.loop-at.invariant.0
