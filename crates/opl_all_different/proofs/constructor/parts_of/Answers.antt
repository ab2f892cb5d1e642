use Rattle.std.proofs.Common.{subst, sym, ◌+◌, take}
use Rattle.opl_expr.proofs.Parts.{sound_at}
use Rattle.opl_range.specs.Between.{term_of}
use Rattle.opl_all_different.specs.Reading.{AreSeen, Shares, HaveParts}
use Rattle.opl_all_different.proofs.Readings.{parts_next, none_read, shared_read}
use Rattle.opl_all_different.proofs.constructor.parts_of.Goals as goal

pub part_of-requires-clause-sound : goal.part_of-requires-clause-sound
part_of-requires-clause-sound c = sound_at c.args.core.now.sets (term_of c.args.core.now) c.args.es.now c.loop-e.e-index c.e-item.result c.loop-e-test.true c.e-item.is c.requires.sound.1

pub returns-in-None : goal.returns-in-None
returns-in-None c = none_read c.args.core.now c.args.es.now c.loop-e.e-index c.e-item.result c.loop-e-test.true c.e-item.is c.in-None.ensures

pub returns-then-is_shared : goal.returns-then-is_shared
returns-then-is_shared c =
    let s = c.in_ok-is_shared-in-Some.ensures.shares c.loop-e.parts c.loop-e.invariant.1 in
    shared_read c.args.core.now c.args.es.now c.loop-e.parts c.loop-e.e-index c.e-item.result c.in-Some.part c.loop-e-test.true c.e-item.is c.loop-e.invariant.0 c.in-Some.ensures (subst (Shares c.loop-e.parts c.in-Some.part) c.if-is_shared.true s)

pub loop-e-preserved : goal.loop-e-preserved
loop-e-preserved c =
    let s = c.in_ok-is_shared-in-Some.ensures.shares c.loop-e.parts c.loop-e.invariant.1 in
    let more = sym c.in_ok-push-in-Some.ensures.ok in (
      subst (HaveParts c.args.core.now (take (c.loop-e.e-index + 1) c.args.es.now)) more
          (parts_next c.args.core.now c.args.es.now c.loop-e.parts c.loop-e.e-index c.e-item.result c.in-Some.part c.loop-e-test.true c.e-item.is c.loop-e.invariant.0 c.in-Some.ensures (subst (Shares c.loop-e.parts c.in-Some.part) c.if-is_shared.false s)),
      subst (AreSeen c.shares.new.seen) more (c.in_ok-is_shared-in-Some.ensures.seen c.loop-e.parts c.loop-e.invariant.1),
    )
