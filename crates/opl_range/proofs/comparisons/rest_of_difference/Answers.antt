use Rattle.opl_range.proofs.Compare.{negative_fits, difference_fits}
use Rattle.opl_range.proofs.comparisons.rest_of_difference.Goals as goal

pub negative-requires : goal.negative-requires
negative-requires g c = negative_fits c.args.core.now (g.V.View.family c.args.view.now) c.args.a.now c.args.b.now c.args.second c.requires.within c.requires.sound c.requires.second

pub sum-requires : goal.sum-requires
sum-requires g c = difference_fits c.args.core.now (g.V.View.family c.args.view.now) c.args.a.now c.args.b.now c.args.first c.args.second c.negative.result c.requires.within c.requires.sound c.requires.first c.requires.second c.negative.ensures
