use Rattle.std.proofs.Common.{refl}
use Rattle.std.specs.Prelude.{FitsSigned}
use mir.Syntax.{w64}
use Rattle.std.proofs.lemmas.Int.{to_z-of_z}
use Rattle.opl_closure.proofs.Waking.{wakes_cut, wakes_none}
use Rattle.opl_closure.proofs.watched.WatchedNarrow.cut.Goals as goal

pub returns-clause-leads_to : goal.returns-clause-leads_to
returns-clause-leads_to g c =
    let lo : FitsSigned w64 c.args.lo = c.ranges.lo in
    let hi : FitsSigned w64 c.args.hi = c.ranges.hi in
    let b = rw (c.if-not-has_between.false, to_z-of_z w64 c.args.lo lo, to_z-of_z w64 c.args.hi hi) at c.has_between.ensures in
    let k = rw (to_z-of_z w64 c.args.lo lo, to_z-of_z w64 c.args.hi hi) at c.cut-2.ensures.cut in
    let w = rw (to_z-of_z w64 c.args.lo lo, to_z-of_z w64 c.args.hi hi) at c.wake_for.ensures in
    (refl, refl, refl, refl, c.cut-2.ensures.leads_to, rw k (wakes_cut c.args.self.now.watchers.now c.args.self.now.end_watchers.now c.args.self.now.waiting.now c.wake_for.new.waiting (g.N.View.family c.args.self.now.inner.now) c.args.x c.args.lo c.args.hi c.requires.within b w))

pub returns-then-not-has_between-clause-leads_to : goal.returns-then-not-has_between-clause-leads_to
returns-then-not-has_between-clause-leads_to g c =
    let lo : FitsSigned w64 c.args.lo = c.ranges.lo in
    let hi : FitsSigned w64 c.args.hi = c.ranges.hi in
    let b = rw (c.if-not-has_between.true, to_z-of_z w64 c.args.lo lo, to_z-of_z w64 c.args.hi hi) at c.has_between.ensures in
    let k = rw (to_z-of_z w64 c.args.lo lo, to_z-of_z w64 c.args.hi hi) at c.cut.ensures.cut in
    (refl, refl, refl, refl, c.cut.ensures.leads_to, rw k (wakes_none c.args.self.now.watchers.now c.args.self.now.end_watchers.now c.args.self.now.waiting.now (g.N.View.family c.args.self.now.inner.now) c.args.x c.args.lo c.args.hi c.requires.within b))
