use Rattle.opl_bind.specs.Readings.{data_of}
use Rattle.opl_ground.specs.Ground.{forms_of}
use Rattle.opl_prepare.proofs.Stops.{forms-stop}
use Rattle.opl_prepare.proofs.preparing.core_of.Goals as goal

pub returns-in-Err : goal.returns-in-Err
returns-in-Err c =
    forms-stop (forms_of c.args.typed.now.tree (data_of c.args.data.now).environment c.args.variables.now) c.in-Err.fault _ c.in-Err.ensures c.stop_of_forms.ensures
