use Rattle.std.proofs.Common.{refl}
use Rattle.opl_prepare.proofs.PositionLemmas.{data-ended}
use Rattle.opl_prepare.proofs.binding.data.Goals as goal

pub returns-in-Err : goal.returns-in-Err
returns-in-Err c =
    data-ended c.args.typed.now.tree c.args.files.now _ _ _ _ c.in-Err.fault _ c.in_ok-positions.ensures c.as_slice.ensures refl refl c.in-Err.ensures c.stop_of_data.ensures
