use Rattle.std.proofs.Common.{◌≡◌, ◌∙◌, ◌<◌, length, ap, sym, arith}
use Rattle.std.specs.Prelude.{slice_get, Some}
use Rattle.std.proofs.lemmas.Option.{slice_get-get_or}
use Rattle.opl_engine.specs.declared.member.Member.{Member}
use Rattle.opl_engine.specs.Crowds.{Crowd}
use Rattle.opl_engine.specs.Members.{names, sees_ends}
use Rattle.opl_engine.proofs.Crowds.{crowd_set}
use Rattle.opl_engine.proofs.Lists.{the_one}
use Rattle.opl_engine.proofs.members.Members.set_best.Goals as goal

pub invariant_of-self : goal.invariant_of-self
invariant_of-self c =
    let s = c.self.inside in
    let v = ap (λ (k : Crowd). length k.members) c.self.view_is in
    let l : 0 < length s.members.items = omega (arith, c.requires, v) in
    let is : (a : Member) → slice_get s.members.items 0 ≡ Some a → c.index_mut.result.now ≡ a =
    λ a h. c.index_mut.ensures.value ∙ the_one _ a (sym (slice_get-get_or s.members.items 0 c.index_mut.result.now l) ∙ h) in
    rw c.wake.ensures (crowd_set s.members.items s.watchers s.end_watchers s.waiting c.set_bound.new.member c.self.invariant
    (λ a h x. c.set_bound.ensures.woken x ∙ ap (λ m. names m x) (is a h))
    (λ a h. c.set_bound.ensures.ends ∙ ap sees_ends (is a h)))
