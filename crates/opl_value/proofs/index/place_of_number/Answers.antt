use Rattle.std.proofs.Common.{◌≡◌, pos, ◌+ℤ◌, ◌-ℤ◌, ◌≤ℤ◌, length, sym, arith}
use Rattle.std.proofs.lemmas.Int.{ints}
use Rattle.opl_value.specs.declared.value.Value.TheVariants.{Int}
use Rattle.opl_value.specs.Places.{numbers_between}
use Rattle.opl_value.proofs.Places.{length-numbers_between, place_in-number, place_in-no_number, same_number}
use Rattle.opl_value.proofs.index.place_of_number.Goals as goal
use Rattle.opl_value.proofs.index.place_of_number.Goals.{then-number-low-via-then-number-low, then-number-low-via-else-number-low+then-high-number}

pub returns-then-number-low : goal.returns-then-number-low
returns-then-number-low c = sym (place_in-no_number c.args.low c.args.high (Int c.args.number) (λ n e l h.
    let same : c.args.number ≡ n = same_number c.args.number n e in
    elim c.then-number-low.branch [
      | then-number-low-via-then-number-low w ↦ absurd (omega (arith, ints))
      | then-number-low-via-else-number-low+then-high-number w ↦ absurd (omega (arith, ints))
    ]))

pub distance-requires-clause-near : goal.distance-requires-clause-near
distance-requires-clause-near c =
    let low = c.args.low in
    let high = c.args.high in
    let le : low ≤ℤ high = omega (arith, ints) in
    let len : pos (length (numbers_between low high)) ≡ high +ℤ pos 1 -ℤ low = length-numbers_between low high le in
    omega (arith, ints)

pub returns : goal.returns
returns c =
    let e : (c.args.low +ℤ pos c.distance.result) ≡ c.args.number = omega (arith, ints, c.distance.ensures) in
    let h : c.args.number ≤ℤ c.args.high = omega (arith, ints) in
    sym (place_in-number c.args.low c.args.high c.args.number c.distance.result e h)
