use Rattle.std.proofs.Common.{◌≡◌, drop}
use Rattle.opl_eval.specs.Evaluation.{part_at}
use Rattle.opl_eval.specs.Visible.{position_in}
use Rattle.opl_eval.proofs.connect.inner_part.Given as goal

-- what is left gives what all of it gives
abbrev pub invariant-loop-name : goal.invariant-loop-name
invariant-loop-name l = part_at (position_in l.positions) l.part (drop l.name-index l.names) ≡ part_at (position_in l.positions) l.whole l.names
