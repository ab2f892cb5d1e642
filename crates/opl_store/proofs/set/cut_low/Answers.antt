use Rattle.std.proofs.Common.{◌∙◌, ◌+◌, ◌≤ℤ◌, ℤ, ℕ, length, ap, arith}
use Rattle.std.specs.Prelude.{FitsSigned}
use mir.Syntax.{w64}
use Rattle.std.proofs.lemmas.Int.{to_z-of_z, ints}
use Rattle.opl_trail.specs.Levels.{Levels}
use Rattle.opl_store.specs.Stored.{high_gone, set_in, IsReady}
use Rattle.opl_store.proofs.Ends.{CutsLow, cuts_low, least_in, low_declared, high_declared, top_place, place_order, place_small, first_at_most, touches}
use Rattle.opl_store.proofs.set.cut_low.Goals as goal

hi_low : (words : _) (x : ℕ) (s : _) (hi : ℤ) → IsReady words x s → ((v : ℤ) → Rattle.opl_domain.specs.Family.IsLeast (set_in words x s) v → v ≤ℤ hi) → s.least ≤ℤ hi
hi_low words x s hi i h = let l = least_in words x s i.set in low_declared words x s _ hi i.set l (h _ l)

pub place_of-requires-clause-low : goal.place_of-requires-clause-low
place_of-requires-clause-low c =
    let f : FitsSigned w64 c.args.hi = c.ranges.hi in
    rw (to_z-of_z w64 c.args.hi f) (hi_low c.args.trail.now.top c.args.x c.args.shape c.args.hi c.requires.ready c.requires.least)

pub place_of-requires-clause-high : goal.place_of-requires-clause-high
place_of-requires-clause-high c =
    let f : FitsSigned w64 c.args.hi = c.ranges.hi in
    let s = c.requires.stays in
    rw (to_z-of_z w64 c.args.hi f) (high_declared c.args.trail.now.top c.args.x c.args.shape c.args.greatest c.args.hi c.requires.ready.set c.requires.greatest (omega (arith, ints, s)))

pub overflow_add-place_of : goal.overflow_add-place_of
overflow_add-place_of c =
    let f : FitsSigned w64 c.args.hi = c.ranges.hi in
    let s = c.requires.stays in
    let p = rw (to_z-of_z w64 c.args.hi f) at c.place_of.ensures in
    let d = high_declared c.args.trail.now.top c.args.x c.args.shape c.args.greatest c.args.hi c.requires.ready.set c.requires.greatest (omega (arith, ints, s)) in
    let k = place_small c.args.shape c.args.hi c.place_of.result (length c.args.trail.now.top) p d c.requires.ready.within in
    omega (arith, k, c.requires.ready.small)

pub place_of-requires-2-clause-high : goal.place_of-requires-2-clause-high
place_of-requires-2-clause-high c =
    let f : FitsSigned w64 c.args.greatest = c.ranges.greatest in
    rw (to_z-of_z w64 c.args.greatest f) (high_declared c.args.trail.now.top c.args.x c.args.shape c.args.greatest c.args.greatest c.requires.ready.set c.requires.greatest (omega (arith, ints)))

pub first_left-place-requires-clause-within : goal.first_left-place-requires-clause-within
first_left-place-requires-clause-within c =
    let f : FitsSigned w64 c.args.greatest = c.ranges.greatest in
    let p = rw (to_z-of_z w64 c.args.greatest f) at c.place_of-2.ensures in
    (top_place c.args.trail.now.top c.args.x c.args.shape c.args.greatest c.place_of-2.result c.requires.ready c.requires.greatest p).0

pub first_left-place-requires-clause-is_left : goal.first_left-place-requires-clause-is_left
first_left-place-requires-clause-is_left c =
    let f : FitsSigned w64 c.args.greatest = c.ranges.greatest in
    let p = rw (to_z-of_z w64 c.args.greatest f) at c.place_of-2.ensures in
    (top_place c.args.trail.now.top c.args.x c.args.shape c.args.greatest c.place_of-2.result c.requires.ready c.requires.greatest p).1

pub overflow_cast-low-2 : goal.overflow_cast-low-2
overflow_cast-low-2 c =
    let f : FitsSigned w64 c.args.greatest = c.ranges.greatest in
    let h : FitsSigned w64 c.args.hi = c.ranges.hi in
    let p = rw (to_z-of_z w64 c.args.greatest f) at c.place_of-2.ensures in
    let q = rw (to_z-of_z w64 c.args.hi h) at c.place_of.ensures in
    let t = top_place c.args.trail.now.top c.args.x c.args.shape c.args.greatest c.place_of-2.result c.requires.ready c.requires.greatest p in
    let o = place_order c.args.shape c.args.hi c.args.greatest c.place_of.result c.place_of-2.result q p c.requires.stays in
    let m = first_at_most c.args.trail.now.top (c.place_of.result + 1) c.first_left-place.result c.place_of-2.result c.first_left-place.ensures (omega (arith, o)) t.1 in
    let d = high_declared c.args.trail.now.top c.args.x c.args.shape c.args.greatest c.args.greatest c.requires.ready.set c.requires.greatest (omega (arith, ints)) in
    let few = c.requires.ready.few in
    omega (arith, ints, m, p.0, p.1, d, few)

plan : (c : goal.After-ends) → CutsLow c.args.trail.now.top c.args.x c.args.shape c.args.hi c.ends.result
plan c =
    let f : FitsSigned w64 c.args.greatest = c.ranges.greatest in
    let h : FitsSigned w64 c.args.hi = c.ranges.hi in
    let p = rw (to_z-of_z w64 c.args.greatest f) at c.place_of-2.ensures in
    let q = rw (to_z-of_z w64 c.args.hi h) at c.place_of.ensures in
    let e = c.high_gone.ensures ∙ ap high_gone c.word.ensures in
    cuts_low c.args.trail.now.top c.args.x c.args.shape c.args.hi c.args.greatest c.place_of.result c.place_of-2.result c.first_left-place.result c.ends.result c.requires.ready c.requires.least c.requires.greatest c.requires.stays q p c.first_left-place.ensures
    c.ends.ensures.low (c.ends.ensures.high ∙ e) (omega (arith, c.ends.ensures.value, c.ends.ensures.low, e))

made : (c : goal.After-raise) → CutsLow c.args.trail.now.top c.args.x c.args.shape c.args.hi c.ends.result
made c =
    let f : FitsSigned w64 c.args.greatest = c.ranges.greatest in
    let h : FitsSigned w64 c.args.hi = c.ranges.hi in
    let p = rw (to_z-of_z w64 c.args.greatest f) at c.place_of-2.ensures in
    let q = rw (to_z-of_z w64 c.args.hi h) at c.place_of.ensures in
    let e = c.high_gone.ensures ∙ ap high_gone c.word.ensures in
    cuts_low c.args.trail.now.top c.args.x c.args.shape c.args.hi c.args.greatest c.place_of.result c.place_of-2.result c.first_left-place.result c.ends.result c.requires.ready c.requires.least c.requires.greatest c.requires.stays q p c.first_left-place.ensures
    c.ends.ensures.low (c.ends.ensures.high ∙ e) (omega (arith, c.ends.ensures.value, c.ends.ensures.low, e))

pub raise-requires-clause-more : goal.raise-requires-clause-more
raise-requires-clause-more c = (plan c).more

pub returns-clause-set : goal.returns-clause-set
returns-clause-set c lo h = rw (ap (λ (l : Levels). l.top) c.raise.ensures) ((made c).cuts lo h)

pub returns-clause-ready : goal.returns-clause-ready
returns-clause-ready c = rw (ap (λ (l : Levels). l.top) c.raise.ensures) (made c).ready

pub returns-clause-others : goal.returns-clause-others
returns-clause-others c = rw (ap (λ (l : Levels). l.top) c.raise.ensures) (touches c.args.trail.now.top c.args.x c.ends.result c.args.shape)

pub returns-clause-narrows : goal.returns-clause-narrows
returns-clause-narrows c = rw (ap (λ (l : Levels). l.top) c.raise.ensures) (made c).narrows
