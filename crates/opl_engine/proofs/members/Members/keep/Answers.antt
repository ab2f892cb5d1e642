use Rattle.std.proofs.Common.{◌≤◌, length, ap, arith}
use Rattle.opl_engine.specs.Crowds.{Crowd}
use Rattle.opl_engine.proofs.Crowds.{crowd_taken}
use Rattle.opl_engine.proofs.members.Members.keep.Goals as goal

pub rest-requires : goal.rest-requires
rest-requires c =
    let v = ap (λ (k : Crowd). length k.members) c.self.view_is in
    omega (arith, c.requires, c.self.invariant.same, v)

pub invariant_of-self : goal.invariant_of-self
invariant_of-self c =
    let s = c.self.inside in
    let v = ap (λ (k : Crowd). length k.members) c.self.view_is in
    let l : c.args.members ≤ length s.members.items = omega (arith, c.requires, v) in
    rw c.truncate.ensures.items (crowd_taken s.members.items s.watchers s.end_watchers s.waiting c.rest.new.self c.args.members c.self.invariant l c.rest.ensures.long)
