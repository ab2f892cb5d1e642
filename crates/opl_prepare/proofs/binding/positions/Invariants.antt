use Rattle.std.proofs.Common.{◌≡◌, ℕ, drop}
use Rattle.opl_eval.specs.Visible.{position_in}
use Rattle.opl_prepare.specs.Positions.{position_or, positions}
use Rattle.opl_prepare.proofs.binding.positions.Given as goal

abbrev pub invariant-loop-field : goal.invariant-loop-field
invariant-loop-field l = (place : ℕ) → position_or (position_in l.positions place) place (drop l.field-index l.field-items) ≡ positions l.typed.tree place
