use Rattle.std.proofs.Common.{◌≡◌, take}
use Rattle.opl_expr.proofs.+copies.Given as goal

abbrev pub invariant-copy::constraints-loop-part : goal.invariant-copy::constraints-loop-part
invariant-copy::constraints-loop-part l = l.copies ≡ take l.part-index l.parts

abbrev pub invariant-copy::expressions-loop-part : goal.invariant-copy::expressions-loop-part
invariant-copy::expressions-loop-part l = l.copies ≡ take l.part-index l.parts
