use Rattle.std.proofs.Common.{◌≡◌, take}
use Rattle.opl_expr.proofs.copy_core.resources.Given as goal

abbrev pub invariant-loop-part : goal.invariant-loop-part
invariant-loop-part l = l.copies ≡ take l.part-index l.parts
