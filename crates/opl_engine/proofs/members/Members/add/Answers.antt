use Rattle.std.proofs.Common.{◌∙◌, ◌+◌, ◌<◌, ◌^◌, length, sym, subst, arith}
use Rattle.opl_closure.specs.Watching.{KeepsBefore}
use Rattle.opl_engine.specs.Crowds.{Watches}
use Rattle.opl_engine.specs.Members.{wakes_on, wakes_by_ends}
use Rattle.opl_engine.proofs.Crowds.{crowd_added}
use Rattle.opl_engine.proofs.members.Members.add.Goals as goal

pub invariant_of-self-2 : goal.invariant_of-self-2
invariant_of-self-2 c =
    let s = c.self.inside in
    let m = c.args.member in
    let e = c.len-place.ensures ∙ s.members.ok.0 in
    let l : length s.members.items + 1 < 2 ^ 32 = omega (arith, c.len-place.ensures, s.members.ok.0, c.if-place.false) in
    let k = c.enrol.ensures.kept in
    let o = c.in_ok-enrol.ensures.ok in
    rw (c.push_reserved.ensures.items, c.in_ok-reserve.ensures.items, o.2)
    (crowd_added s.members.items m s.watchers c.enrol.new.watchers s.end_watchers c.enrol.new.end_watchers s.waiting c.self.invariant l
    (subst (λ n. KeepsBefore n s.watchers c.enrol.new.watchers) e k.0.before)
    (subst (λ n. KeepsBefore n s.end_watchers c.enrol.new.end_watchers) e k.1.before)
    (k.1.long ∙ c.self.invariant.alike ∙ sym k.0.long)
    (subst (λ n. Watches n (wakes_on m) c.enrol.new.watchers) e o.0)
    (subst (λ n. Watches n (wakes_by_ends m) c.enrol.new.end_watchers) e o.1))
