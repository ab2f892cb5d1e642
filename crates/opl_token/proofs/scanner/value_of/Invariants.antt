use Rattle.std.proofs.Common.{◌≡◌, drop}
use Rattle.opl_token.specs.Lexeme.{number}
use Rattle.opl_token.proofs.Numbers.{number_from}
use Rattle.opl_token.proofs.scanner.value_of.Given as goal

abbrev pub invariant-loop-digit : goal.invariant-loop-digit
invariant-loop-digit l = number_from l.value (drop l.digit-index l.digits) ≡ number l.digits
