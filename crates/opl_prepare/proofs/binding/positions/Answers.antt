use Rattle.std.proofs.Common.{◌∙◌}
use Rattle.opl_prepare.proofs.PositionLemmas.{positions-begin}
use Rattle.opl_prepare.proofs.binding.positions.Goals as goal

pub loop-field-init : goal.loop-field-init
loop-field-init c place =
    positions-begin c.args.typed.now.tree _ _ _ place c.args.typed.now.is_typed (c.as_slice-field-items.ensures ∙ c.in_ok-found.ensures) (c.new-positions.ensures place)
