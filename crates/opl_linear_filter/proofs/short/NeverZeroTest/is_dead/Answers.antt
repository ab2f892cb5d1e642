use Rattle.opl_linear_filter.proofs.Values.{never_zero_is}
use Rattle.std.proofs.lemmas.Int.{to_z-of_z}
use Rattle.std.proofs.Common.{rules}
use Rattle.std.specs.Prelude.{FitsSigned}
use mir.Syntax.{w128}
use Rattle.opl_linear_filter.proofs.short.NeverZeroTest.is_dead.Goals as goal

pub returns : goal.returns
returns g c =
    let k : FitsSigned w128 c.args.self.now.constant = search rules in
    let h = simp to_z-of_z at c.has_zero.ensures in
    never_zero_is c.args.self.now.parts.now c.args.self.now.constant (g.V.View.family c.args.view.now) c.has_zero.result c.requires c.vars-vars.ensures.sets.full h
