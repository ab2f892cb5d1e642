use Rattle.std.proofs.Common.{◌≡◌, ◌+◌, ◌/◌, ◌%◌, ◌<◌, ◌^◌, arith}
use Rattle.std.specs.Prelude.{slice_index}
use Rattle.std.proofs.lemmas.Nat.Bits.{ones_shl}
use Rattle.opl_trail.proofs.Words.{scans_first, scans_next, scans_end}
use Rattle.opl_trail.proofs.scan.first_left.Goals as goal

pub loop-left-init : goal.loop-left-init
loop-left-init c =
    let e : c.word.result ≡ slice_index c.args.trail.now.top (c.args.from / 64) = c.word.ensures in
    let f : slice_index c.args.trail.now.top (c.args.from / 64) < 2 ^ 64 = rw e at c.word.type_inv in
    rw (e, ones_shl 64 (c.args.from % 64) (omega arith)) (scans_first c.args.trail.now.top c.args.from c.args.last c.requires.order f)

pub loop-left-preserved : goal.loop-left-preserved
loop-left-preserved c =
    let e : c.word-left.result ≡ slice_index c.args.trail.now.top (c.loop-left.place + 1) = c.word-left.ensures in
    let f : slice_index c.args.trail.now.top (c.loop-left.place + 1) < 2 ^ 64 = rw e at c.word-left.type_inv in
    rw e (scans_next c.args.trail.now.top c.args.from c.args.last c.loop-left.place c.loop-left.left c.loop-left.invariant c.loop-left-test.true c.requires.order c.requires.is_left f)

pub returns : goal.returns
returns c = scans_end c.args.trail.now.top c.args.from c.args.last c.loop-left.place c.loop-left.left c.loop-left.invariant (omega (arith, c.loop-left-test.false))
