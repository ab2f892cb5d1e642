use Rattle.std.proofs.Common.{◌≡◌, take}
use Rattle.std.specs.Prelude.{fold}
use Rattle.std.specs.Int.{int_max}
use Rattle.opl_eval.proofs.arithmetic.greatest.Given as goal

-- the greatest so far
abbrev pub invariant-loop-number : goal.invariant-loop-number
invariant-loop-number l = l.found ≡ fold int_max l.initial.found (take l.number-index l.others)
