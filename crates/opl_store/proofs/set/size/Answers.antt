use Rattle.std.proofs.Common.{◌≡◌, ◌∙◌, ◌+◌, ◌*◌, ◌-◌, ◌+ℤ◌, pos, ℕ, ap, sym, arith}
use Rattle.std.specs.Prelude.{slice_index}
use Rattle.opl_trail.specs.Gone.{count_left}
use Rattle.opl_store.specs.Stored.{low_gone, high_gone, set_in}
use Rattle.opl_store.proofs.Picked.{length-picked, count_most}
use Rattle.opl_store.proofs.set.size.Goals as goal

pub overflow_cast-result : goal.overflow_cast-result
overflow_cast-result c =
    let s = c.args.shape in
    let low : ℕ = s.first * 64 + c.low_gone.result in
    let high : ℕ = s.first * 64 + (s.size - 1 - c.high_gone.result) in
    let m = count_most c.args.trail.now.top low (high + 1 - low) in
    omega (arith, c.count_left.ensures, m, c.requires.few)

pub returns : goal.returns
unfolding set_in
returns c =
    let words = c.args.trail.now.top in
    let s = c.args.shape in
    let l : ℕ = low_gone (slice_index words c.args.x) in
    let h : ℕ = high_gone (slice_index words c.args.x) in
    let el : c.low_gone.result ≡ l = c.low_gone.ensures ∙ ap low_gone c.word-ends.ensures in
    let eh : c.high_gone.result ≡ h = c.high_gone.ensures ∙ ap high_gone c.word-ends.ensures in
    let n : s.first * 64 + (s.size - 1 - c.high_gone.result) + 1 - (s.first * 64 + c.low_gone.result) ≡ s.size - h - l = omega (arith, el, eh, c.requires.set.order) in
    c.count_left.ensures
    ∙ ap (count_left words (s.first * 64 + c.low_gone.result)) n
    ∙ ap (λ k. count_left words (s.first * 64 + k) (s.size - h - l)) el
    ∙ sym (length-picked words (s.first * 64 + l) (s.least +ℤ pos l) (s.size - h - l))
