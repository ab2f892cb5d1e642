use Rattle.std.proofs.Common.{rules}
use Rattle.std.specs.Prelude.{FitsSigned}
use mir.Syntax.{w128}
use Rattle.std.proofs.lemmas.Int.{to_z-of_z}
use Rattle.opl_linear_filter.proofs.Adding.{factor_put}
use Rattle.opl_linear_filter.proofs.factors.add_factor.Goals as goal

pub returns-clause-factors : goal.returns-clause-factors
returns-clause-factors c =
    let fits : FitsSigned w128 c.added.result = search rules in
    let small : FitsSigned w128 c.factor_of-before.result = search rules in
    let given : FitsSigned w128 c.args.factor = search rules in
    factor_put c.args.factors.now c.insert.new.self c.args.x c.factor_of-before.result c.args.factor c.added.result (simp to_z-of_z at c.in_ok-insert.ensures.updates) c.factor_of-before.ensures (simp to_z-of_z at c.added.ensures)
