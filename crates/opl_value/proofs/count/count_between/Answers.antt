use Rattle.std.proofs.Common.{◌≡◌, ◌<◌, ◌^◌, pos, ◌+ℤ◌, ◌-ℤ◌, ◌≤ℤ◌, length, sym, ◌∙◌, true≢false, arith, rules}
use Rattle.std.proofs.lemmas.Int.{ints}
use Rattle.opl_value.specs.Places.{numbers_between}
use Rattle.opl_value.proofs.Places.{length-numbers_between}
use Rattle.opl_value.proofs.count.count_between.Goals as goal

pub size_between-requires : goal.size_between-requires
size_between-requires c =
    let low = c.args.low in
    let high = c.args.high in
    let le : low ≤ℤ high = omega (arith, ints) in
    let len : pos (length (numbers_between low high)) ≡ high +ℤ pos 1 -ℤ low = length-numbers_between low high le in
    let near = c.is_near.ensures.0 c.if-is_near.true in
    let few : length (numbers_between low high) < 2 ^ 64 = omega (arith, ints, near) in
    search (rules, few)

pub returns-else-is_near : goal.returns-else-is_near
returns-else-is_near c l =
    let low = c.args.low in
    let high = c.args.high in
    let le : low ≤ℤ high = omega (arith, ints) in
    let len : pos (length (numbers_between low high)) ≡ high +ℤ pos 1 -ℤ low = length-numbers_between low high le in
    absurd (true≢false (sym (c.is_near.ensures.1 (omega (arith, ints))) ∙ c.if-is_near.false))
