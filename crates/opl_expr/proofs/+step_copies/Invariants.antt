use Rattle.std.proofs.Common.{◌≡◌, take}
use Rattle.opl_expr.proofs.+step_copies.Given as goal

abbrev pub invariant-copy_core::steps-loop-part : goal.invariant-copy_core::steps-loop-part
invariant-copy_core::steps-loop-part l = l.copies ≡ take l.part-index l.parts

abbrev pub invariant-copy_core::branches-loop-part : goal.invariant-copy_core::branches-loop-part
invariant-copy_core::branches-loop-part l = l.copies ≡ take l.part-index l.parts
