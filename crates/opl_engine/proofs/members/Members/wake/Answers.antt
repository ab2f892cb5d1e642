use Rattle.std.proofs.Common.{◌∙◌, ◌<◌, length, ap, arith, length-set, true, false}
use Rattle.std.proofs.lemmas.List.{get_or-set_same}
use Rattle.opl_closure.specs.Waits.{waits}
use Rattle.opl_engine.specs.Crowds.{Crowd}
use Rattle.opl_engine.proofs.Crowds.{crowd_waits}
use Rattle.opl_engine.proofs.members.Members.wake.Goals as goal

pub wake-requires : goal.wake-requires
wake-requires c =
    let v = ap (λ (k : Crowd). length k.members) c.self.view_is in
    omega (arith, c.requires, c.self.invariant.same, v)

pub invariant_of-self : goal.invariant_of-self
invariant_of-self c =
    let s = c.self.inside in
    rw c.wake.ensures (crowd_waits s.members.items s.watchers s.end_watchers s.waiting _ c.self.invariant (length-set s.waiting c.args.i true))

pub returns-clause-woken : goal.returns-clause-woken
returns-clause-woken c =
    let s = c.self.inside in
    let v = ap (λ (k : Crowd). length k.members) c.self.view_is in
    let l : c.args.i < length s.waiting = omega (arith, c.requires, c.self.invariant.same, v) in
    ap (λ w. waits w c.args.i) c.wake.ensures ∙ get_or-set_same s.waiting c.args.i true false l
