use Rattle.std.proofs.Common.{◌≡◌, map, take}
use Rattle.opl_numbers.specs.Numbers.{number_at}
use Rattle.opl_numbers.proofs.row.each_number.Given as goal

-- the numbers so far
abbrev pub invariant-loop-part : goal.invariant-loop-part
invariant-loop-part l = l.numbers.items ≡ map number_at (take l.part-index l.parts)
