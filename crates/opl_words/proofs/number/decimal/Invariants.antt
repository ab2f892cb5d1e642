use Rattle.std.proofs.Common.{◌≡◌, ◌<◌, ◌^◌, drop}
use Rattle.std.specs.List.{list_all}
use Rattle.std.specs.Char.{is_ascii_digit}
use Rattle.opl_words.specs.Requests.{decimal}
use Rattle.opl_words.proofs.Digits.{decimal_from}
use Rattle.opl_words.proofs.number.decimal.Given as goal

abbrev pub invariant-loop-digit : goal.invariant-loop-digit
invariant-loop-digit l = record {
  value : decimal_from l.value (drop l.digit-index l.digits) ≡ decimal l.digits;
  digits : list_all is_ascii_digit (drop l.digit-index l.digits) ≡ list_all is_ascii_digit l.digits;
  small : l.value < 10 ^ l.digit-index;
}
