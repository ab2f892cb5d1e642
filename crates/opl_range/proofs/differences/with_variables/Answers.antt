use Rattle.opl_range.proofs.Minus.{whole_fits, whole_is}
use Rattle.opl_range.proofs.differences.with_variables.Goals as goal

pub add-requires : goal.add-requires
add-requires g c = whole_fits c.args.core.now (g.V.View.family c.args.view.now) c.args.a.now c.args.b.now _ _ c.requires.within c.requires.sound c.requires.rest c.variables_between.ensures

pub returns : goal.returns
returns g c = whole_is _ _ _ _ _ _ c.add.ensures c.variables_between.ensures
