use Rattle.std.proofs.Common.{arith}
use Rattle.opl_words.proofs.Digits.{few}
use Rattle.opl_words.proofs.number.decimal.Goals as goal

pub overflow_mul-value : goal.overflow_mul-value
overflow_mul-value c =
    let i = c.loop-digit.digit-index in
    let within = few i (omega (arith, c.requires, c.loop-digit-test.true)) in
    omega (arith, within, c.loop-digit.invariant.small)

pub overflow_add-value : goal.overflow_add-value
overflow_add-value c =
    let i = c.loop-digit.digit-index in
    let within = few i (omega (arith, c.requires, c.loop-digit-test.true)) in
    omega (arith, within, c.loop-digit.invariant.small, c.from.ensures)
