use Rattle.std.proofs.Common.{◌≡◌, pos, ◌+ℤ◌, ◌-ℤ◌, ◌≤ℤ◌, length, arith}
use Rattle.std.proofs.lemmas.Int.{ints}
use Rattle.opl_value.specs.Places.{numbers_between}
use Rattle.opl_value.proofs.Places.{length-numbers_between}
use Rattle.opl_value.proofs.index.size_between.Goals as goal

pub distance-requires-clause-near : goal.distance-requires-clause-near
distance-requires-clause-near c =
    let low = c.args.low in
    let high = c.args.high in
    let le : low ≤ℤ high = omega (arith, ints) in
    let len : pos (length (numbers_between low high)) ≡ high +ℤ pos 1 -ℤ low = length-numbers_between low high le in
    omega (arith, ints)

pub overflow_add-result : goal.overflow_add-result
overflow_add-result c =
    let low = c.args.low in
    let high = c.args.high in
    let le : low ≤ℤ high = omega (arith, ints) in
    let len : pos (length (numbers_between low high)) ≡ high +ℤ pos 1 -ℤ low = length-numbers_between low high le in
    omega (arith, ints, c.distance.ensures)

pub returns : goal.returns
returns c =
    let low = c.args.low in
    let high = c.args.high in
    let le : low ≤ℤ high = omega (arith, ints) in
    let len : pos (length (numbers_between low high)) ≡ high +ℤ pos 1 -ℤ low = length-numbers_between low high le in
    omega (arith, ints, c.distance.ensures)
