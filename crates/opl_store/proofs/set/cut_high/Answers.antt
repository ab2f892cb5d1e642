use Rattle.std.proofs.Common.{◌∙◌, ◌-◌, ◌≤ℤ◌, ◌<ℤ◌, ◌+ℤ◌, pos, ℤ, ℕ, length, ap, arith}
use Rattle.std.specs.Prelude.{FitsSigned}
use mir.Syntax.{w64}
use Rattle.std.proofs.lemmas.Int.{to_z-of_z, ints}
use Rattle.opl_domain.specs.Family.{IsGreatest}
use Rattle.opl_trail.specs.Levels.{Levels}
use Rattle.opl_store.specs.Stored.{low_gone, set_in, IsReady}
use Rattle.opl_store.proofs.Ends.{CutsHigh, cuts_high, greatest_in, low_declared, high_declared, bottom_place, place_order, place_small, last_at_least, touches}
use Rattle.opl_store.proofs.set.cut_high.Goals as goal

lo_high : (words : _) (x : ℕ) (s : _) (lo : ℤ) → IsReady words x s → ((v : ℤ) → IsGreatest (set_in words x s) v → lo ≤ℤ v) → lo <ℤ (s.least +ℤ pos s.size)
lo_high words x s lo i h = let l = greatest_in words x s i.set in high_declared words x s _ lo i.set l (h _ l)

pub place_of-requires-clause-low : goal.place_of-requires-clause-low
place_of-requires-clause-low c =
    let f : FitsSigned w64 c.args.least = c.ranges.least in
    rw (to_z-of_z w64 c.args.least f) (low_declared c.args.trail.now.top c.args.x c.args.shape c.args.least c.args.least c.requires.ready.set c.requires.least (omega (arith, ints)))

pub place_of-requires-clause-high : goal.place_of-requires-clause-high
place_of-requires-clause-high c =
    let f : FitsSigned w64 c.args.least = c.ranges.least in
    let h = lo_high c.args.trail.now.top c.args.x c.args.shape c.args.lo c.requires.ready c.requires.greatest in
    let s = c.requires.stays in
    rw (to_z-of_z w64 c.args.least f) (omega (arith, ints, h, s))

pub place_of-requires-2-clause-high : goal.place_of-requires-2-clause-high
place_of-requires-2-clause-high c =
    let f : FitsSigned w64 c.args.lo = c.ranges.lo in
    rw (to_z-of_z w64 c.args.lo f) (lo_high c.args.trail.now.top c.args.x c.args.shape c.args.lo c.requires.ready c.requires.greatest)

pub last_left-place-requires-clause-within : goal.last_left-place-requires-clause-within
last_left-place-requires-clause-within c =
    let f : FitsSigned w64 c.args.lo = c.ranges.lo in
    let q = rw (to_z-of_z w64 c.args.lo f) at c.place_of-2.ensures in
    let k = place_small c.args.shape c.args.lo c.place_of-2.result (length c.args.trail.now.top) q (lo_high c.args.trail.now.top c.args.x c.args.shape c.args.lo c.requires.ready c.requires.greatest) c.requires.ready.within in
    omega (arith, k)

pub last_left-place-requires-clause-is_left : goal.last_left-place-requires-clause-is_left
last_left-place-requires-clause-is_left c =
    let f : FitsSigned w64 c.args.least = c.ranges.least in
    let p = rw (to_z-of_z w64 c.args.least f) at c.place_of.ensures in
    (bottom_place c.args.trail.now.top c.args.x c.args.shape c.args.least c.place_of.result c.requires.ready c.requires.least p).1

pub overflow_sub-high-2 : goal.overflow_sub-high-2
overflow_sub-high-2 c =
    let f : FitsSigned w64 c.args.lo = c.ranges.lo in
    let q = rw (to_z-of_z w64 c.args.lo f) at c.place_of-2.ensures in
    let h = lo_high c.args.trail.now.top c.args.x c.args.shape c.args.lo c.requires.ready c.requires.greatest in
    let b = c.last_left-place.ensures.before in
    omega (arith, ints, q.0, q.1, h, b)

pub overflow_cast-high-3 : goal.overflow_cast-high-3
overflow_cast-high-3 c =
    let f : FitsSigned w64 c.args.least = c.ranges.least in
    let h : FitsSigned w64 c.args.lo = c.ranges.lo in
    let p = rw (to_z-of_z w64 c.args.least f) at c.place_of.ensures in
    let q = rw (to_z-of_z w64 c.args.lo h) at c.place_of-2.ensures in
    let t = bottom_place c.args.trail.now.top c.args.x c.args.shape c.args.least c.place_of.result c.requires.ready c.requires.least p in
    let o = place_order c.args.shape c.args.least c.args.lo c.place_of.result c.place_of-2.result p q c.requires.stays in
    let m = last_at_least c.args.trail.now.top (c.place_of-2.result - 1) c.last_left-place.result c.place_of.result c.last_left-place.ensures (omega (arith, o)) t.1 in
    let few = c.requires.ready.few in
    omega (arith, m, p.0, few)

plan : (c : goal.After-ends) → CutsHigh c.args.trail.now.top c.args.x c.args.shape c.args.lo c.ends.result
plan c =
    let f : FitsSigned w64 c.args.least = c.ranges.least in
    let h : FitsSigned w64 c.args.lo = c.ranges.lo in
    let p = rw (to_z-of_z w64 c.args.least f) at c.place_of.ensures in
    let q = rw (to_z-of_z w64 c.args.lo h) at c.place_of-2.ensures in
    let e = c.low_gone.ensures ∙ ap low_gone c.word.ensures in
    cuts_high c.args.trail.now.top c.args.x c.args.shape c.args.lo c.args.least c.place_of-2.result c.place_of.result c.last_left-place.result c.ends.result c.requires.ready c.requires.greatest c.requires.least c.requires.stays q p c.last_left-place.ensures
    (c.ends.ensures.low ∙ e) c.ends.ensures.high (omega (arith, c.ends.ensures.value, c.ends.ensures.high, e))

made : (c : goal.After-raise) → CutsHigh c.args.trail.now.top c.args.x c.args.shape c.args.lo c.ends.result
made c =
    let f : FitsSigned w64 c.args.least = c.ranges.least in
    let h : FitsSigned w64 c.args.lo = c.ranges.lo in
    let p = rw (to_z-of_z w64 c.args.least f) at c.place_of.ensures in
    let q = rw (to_z-of_z w64 c.args.lo h) at c.place_of-2.ensures in
    let e = c.low_gone.ensures ∙ ap low_gone c.word.ensures in
    cuts_high c.args.trail.now.top c.args.x c.args.shape c.args.lo c.args.least c.place_of-2.result c.place_of.result c.last_left-place.result c.ends.result c.requires.ready c.requires.greatest c.requires.least c.requires.stays q p c.last_left-place.ensures
    (c.ends.ensures.low ∙ e) c.ends.ensures.high (omega (arith, c.ends.ensures.value, c.ends.ensures.high, e))

pub raise-requires-clause-more : goal.raise-requires-clause-more
raise-requires-clause-more c = (plan c).more

pub returns-clause-set : goal.returns-clause-set
returns-clause-set c hi h = rw (ap (λ (l : Levels). l.top) c.raise.ensures) ((made c).cuts hi h)

pub returns-clause-ready : goal.returns-clause-ready
returns-clause-ready c = rw (ap (λ (l : Levels). l.top) c.raise.ensures) (made c).ready

pub returns-clause-others : goal.returns-clause-others
returns-clause-others c = rw (ap (λ (l : Levels). l.top) c.raise.ensures) (touches c.args.trail.now.top c.args.x c.ends.result c.args.shape)

pub returns-clause-narrows : goal.returns-clause-narrows
returns-clause-narrows c = rw (ap (λ (l : Levels). l.top) c.raise.ensures) (made c).narrows
