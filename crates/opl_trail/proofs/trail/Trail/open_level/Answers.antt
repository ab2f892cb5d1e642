use Rattle.std.proofs.Common.{rules, ◌≡◌, ◌∙◌, ◌+◌, ◌≤◌, ◌<◌, ◌^◌, ◌∷◌, ℕ, reverse, length, ap, arith}
use Rattle.std.specs.Vec.{vec_capacity}
use Rattle.opl_trail.proofs.Marks.{reverse_last}
use Rattle.opl_trail.proofs.Levels.{open_trail}
use Rattle.opl_trail.proofs.trail.Trail.open_level.Goals as goal

pub invariant_of-self-2 : goal.invariant_of-self-2
invariant_of-self-2 c =
    let t = c.self.invariant in
    let made : reverse c.push.new.self.items ≡ c.len-start.result ∷ reverse c.self.inside.marks.items = ap (reverse {A = ℕ}) c.in_ok-push.ensures.items ∙ reverse_last c.self.inside.marks.items c.len-start.result in
    let s = c.self.inside in
    let start : c.len-start.result ≡ length s.saved.items = search rules in
    let few : length s.saved.items + length s.bits < 2 ^ 32 = omega (arith, c.len-start.ensures, c.len-size.ensures, t.same, t.few, c.if-start-size.false) in
    let room : length s.saved.items + length s.bits ≤ vec_capacity c.reserve.new.self = omega (arith, c.in_ok-reserve.ensures.ok, c.in_ok-reserve.ensures.len, c.len-size.ensures, t.same) in
    rw (made, c.in_ok-reserve.ensures.items, start) (open_trail (reverse s.marks.items) s.saved.items s.at.items s.bits (vec_capacity s.saved) (vec_capacity c.reserve.new.self) t room few)
