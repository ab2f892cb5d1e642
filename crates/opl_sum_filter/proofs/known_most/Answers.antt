use Rattle.std.proofs.Common.{rules}
use Rattle.std.specs.Prelude.{FitsSigned}
use mir.Syntax.{w128}
use Rattle.std.proofs.lemmas.Int.{to_z-of_z}
use Rattle.opl_sum_filter.proofs.Sums.{kept_is}
use Rattle.opl_sum_filter.proofs.known_most.Goals as goal

pub returns-in-Some : goal.returns-in-Some
returns-in-Some g c =
    let fits : FitsSigned w128 c.in-Some.most = search rules in
    simp to_z-of_z (kept_is c.args.most (g.V.View.family c.args.v.now) c.args.variables.now c.in-Some.most c.in-Some.is c.requires.kept)
