use Rattle.opl_expr.specs.Forms.{compared}
use Rattle.opl_range.specs.Between.{term_of}
use Rattle.opl_range.proofs.Compare.{refuted_by}
use Rattle.opl_range.proofs.comparisons.refutes.Goals as goal

pub returns-in_default : goal.returns-in_default
returns-in_default g c =
    refuted_by (g.V.View.family c.args.view.now) (compared c.args.op (term_of c.args.core.now c.args.a.now) (term_of c.args.core.now c.args.b.now)) c.compared.result c.is_possible.result c.compared.ensures c.is_possible.ensures
