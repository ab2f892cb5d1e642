use Rattle.std.proofs.Common.{◌≡◌, ◌+◌, ◌-◌, ◌/◌, ◌%◌, ◌<◌, ◌^◌, ◌∙◌, ap, arith, ℕ}
use Rattle.std.specs.Prelude.{slice_index}
use Rattle.std.proofs.lemmas.Nat.Bits.{ones_shr}
use Rattle.opl_trail.proofs.Words.{down_first, down_next, down_end}
use Rattle.opl_trail.proofs.scan.last_left.Goals as goal

pub loop-left-init : goal.loop-left-init
loop-left-init c =
    let e : c.word.result ≡ slice_index c.args.trail.now.top (c.args.to / 64) = c.word.ensures in
    let f : slice_index c.args.trail.now.top (c.args.to / 64) < 2 ^ 64 = rw e at c.word.type_inv in
    let k : 64 - (63 - c.args.to % 64) ≡ c.args.to % 64 + 1 = omega arith in
    let r = ones_shr 64 (63 - c.args.to % 64) (omega arith) ∙ ap (λ (n : ℕ). 2 ^ n - 1) k in
    rw (e, r) (down_first c.args.trail.now.top c.args.first c.args.to c.requires.order f)

pub loop-left-preserved : goal.loop-left-preserved
loop-left-preserved c =
    let e : c.word-left.result ≡ slice_index c.args.trail.now.top (c.loop-left.place - 1) = c.word-left.ensures in
    let f : slice_index c.args.trail.now.top (c.loop-left.place - 1) < 2 ^ 64 = rw e at c.word-left.type_inv in
    rw e (down_next c.args.trail.now.top c.args.first c.args.to c.loop-left.place c.loop-left.left c.loop-left.invariant c.loop-left-test.true c.requires.order c.requires.is_left f)

pub returns : goal.returns
returns c = down_end c.args.trail.now.top c.args.first c.args.to c.loop-left.place c.loop-left.left c.loop-left.invariant (omega (arith, c.loop-left-test.false))
