use Rattle.opl_expr.specs.Forms.{Fact}
use Rattle.opl_expr.specs.Forms.Relation.{equal}
use Rattle.opl_range.specs.Between.{term_of}
use Rattle.opl_range.proofs.Compare.{opposite_is}
use Rattle.opl_range.proofs.comparisons.compared.Goals as goal

pub opposite-requires : goal.opposite-requires
opposite-requires g c =
    opposite_is (g.V.View.family c.args.view.now) (Fact.cmp equal (term_of c.args.core.now c.args.a.now) (term_of c.args.core.now c.args.b.now)) c.equal-in-Ne.result c.equal-in-Ne.ensures
