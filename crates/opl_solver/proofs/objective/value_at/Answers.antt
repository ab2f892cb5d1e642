use Rattle.std.proofs.Common.{rules}
use Rattle.std.specs.Prelude.{FitsSigned}
use mir.Syntax.{w128}
use Rattle.std.proofs.lemmas.Int.{to_z-of_z}
use Rattle.opl_expr.specs.Forms.{term}
use Rattle.opl_solver.proofs.Objectives.{value_none, value_some}
use Rattle.opl_solver.proofs.objective.value_at.Goals as goal

pub returns-in-None : goal.returns-in-None
returns-in-None g c =
    let core = c.args.core.now in
    value_none core.sets (g.V.View.family c.args.view.now) (term core.tables core.resources c.args.e.now) c.range.result c.requires.sound c.vars-vars.ensures.sets c.requires.single c.range.ensures c.in-None.is

pub returns-in-Some : goal.returns-in-Some
returns-in-Some g c =
    let core = c.args.core.now in
    let low : FitsSigned w128 c.lo.result = search rules in
    rw (to_z-of_z w128 c.lo.result low) (value_some core.sets (g.V.View.family c.args.view.now) (term core.tables core.resources c.args.e.now) c.range.result c.in-Some.values c.lo.result c.requires.sound c.vars-vars.ensures.sets c.requires.single c.range.ensures c.in-Some.is c.lo.ensures.value)
