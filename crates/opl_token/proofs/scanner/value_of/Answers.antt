use Rattle.std.proofs.Common.{sym, ◌∙◌, arith}
use Rattle.opl_token.proofs.Numbers.{next_too_large}
use Rattle.opl_token.proofs.scanner.value_of.Goals as goal

pub returns-in_err-checked_mul : goal.returns-in_err-checked_mul
returns-in_err-checked_mul c =
    c.from_residual.ensures ∙ sym (next_too_large c.loop-digit.value c.loop-digit.digit-index c.args.digits.now c.loop-digit.invariant c.loop-digit-test.true (omega (arith, c.in_err-checked_mul.ensures)))

pub returns-in_err-value : goal.returns-in_err-value
returns-in_err-value c =
    c.from_residual-in_err-value.ensures ∙ sym (next_too_large c.loop-digit.value c.loop-digit.digit-index c.args.digits.now c.loop-digit.invariant c.loop-digit-test.true (omega (arith, c.in_err-value.ensures, c.in_ok-checked_mul.ensures)))
