use Rattle.std.proofs.Common.{◌≡◌, ◌∙◌, ◌-◌, ◌∷◌, ℕ, reverse, length, ap, arith}
use Rattle.opl_trail.specs.Levels.{Levels}
use Rattle.std.specs.Vec.{vec_capacity}
use Rattle.opl_trail.proofs.Marks.{reverse_last}
use Rattle.opl_trail.proofs.Levels.{close_trail, few_writes}
use Rattle.opl_trail.proofs.trail.Trail.close_level.Goals as goal

pub invariant_of-self : goal.invariant_of-self
invariant_of-self c =
    let s = c.self.inside in
    let m = c.in-Some.mark in
    let made : reverse s.marks.items ≡ m ∷ reverse c.pop.new.self.items = ap (reverse {A = ℕ}) c.in-Some.ensures.items ∙ reverse_last c.pop.new.self.items m in
    let t = rw made at c.self.invariant in
    let u = c.undo_to.ensures in
    rw (u.saved, u.at, u.bits, u.room) (close_trail m (reverse c.pop.new.self.items) s.saved.items s.at.items s.bits (vec_capacity s.saved) t)

pub returns-in-Some-clause-front : goal.returns-in-Some-clause-front
returns-in-Some-clause-front c =
    let s = c.self.inside in
    let m = c.in-Some.mark in
    let made : reverse s.marks.items ≡ m ∷ reverse c.pop.new.self.items = ap (reverse {A = ℕ}) c.in-Some.ensures.items ∙ reverse_last c.pop.new.self.items m in
    let t = rw made at c.self.invariant in
    let u = c.undo_to.ensures in
    let k = few_writes m 0 c.args.split (reverse c.pop.new.self.items) s.saved.items s.at.items s.bits (vec_capacity s.saved) t in
    let v : s.bits ≡ c.args.self.now.top = ap (λ (l : Levels). l.top) c.self.view_is in
    rw (← v, u.bits) (omega (arith, k, u.front))

pub returns-in-Some-clause-back : goal.returns-in-Some-clause-back
returns-in-Some-clause-back c =
    let s = c.self.inside in
    let m = c.in-Some.mark in
    let made : reverse s.marks.items ≡ m ∷ reverse c.pop.new.self.items = ap (reverse {A = ℕ}) c.in-Some.ensures.items ∙ reverse_last c.pop.new.self.items m in
    let t = rw made at c.self.invariant in
    let u = c.undo_to.ensures in
    let k = few_writes m c.args.split (length s.bits - c.args.split) (reverse c.pop.new.self.items) s.saved.items s.at.items s.bits (vec_capacity s.saved) t in
    let v : s.bits ≡ c.args.self.now.top = ap (λ (l : Levels). l.top) c.self.view_is in
    rw (← v, u.bits) (omega (arith, k, u.back))
