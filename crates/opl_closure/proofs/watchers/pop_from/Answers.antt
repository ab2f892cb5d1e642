use Rattle.std.proofs.Common.{◌≡◌, ◌-◌, length, subst}
use Rattle.std.specs.Prelude.{slice_get, Some}
use Rattle.opl_closure.proofs.Waking.{popped}
use Rattle.opl_closure.proofs.watchers.pop_from.Goals as goal

pub loop-last-preserved : goal.loop-last-preserved
loop-last-preserved c = λ j l h.
    popped c.loop-last.list.items c.pop.new.self.items c.pop.result c.in-Some.last.now c.args.i j c.pop.ensures.items
    (subst (λ js. Some c.in-Some.last.now ≡ slice_get js (length js - 1)) c.deref.ensures.value c.in-Some.ensures.value) c.if-last-i.false l (c.loop-last.invariant j l h)
