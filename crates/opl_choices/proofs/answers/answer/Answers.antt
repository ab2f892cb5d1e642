use Rattle.std.proofs.Common.{rules, ◌≤◌, ◌<◌, length, arith, ap, ◌∙◌, to_z, of_z}
use Rattle.std.specs.Prelude.{FitsSigned}
use Rattle.std.proofs.lemmas.Int.{to_z-of_z}
use mir.Syntax.{w64, w128}
use Rattle.opl_choices.proofs.AnswerParts.{no_variable, least_answer, greatest_answer}
use Rattle.opl_choices.proofs.answers.answer.Goals as goal

pub returns-then-x-vars : goal.returns-then-x-vars
returns-then-x-vars g c =
    let past : length (g.V.View.family c.args.view.now) ≤ c.args.x = omega (arith, c.vars.ensures.count, c.if-x-vars.true) in
    no_variable (g.V.View.family c.args.view.now) c.args.ask c.args.x past

pub returns-in-Least : goal.returns-in-Least
returns-in-Least g c =
    let narrow : FitsSigned w64 c.min.result = search rules in
    let wide : FitsSigned w128 c.min.result = search rules in
    let there : c.args.x < length (g.V.View.family c.args.view.now) = omega (arith, c.vars.ensures.count, c.if-x-vars.false) in
    ap (λ v. to_z w128 (of_z w128 v)) (to_z-of_z w64 c.min.result narrow) ∙ to_z-of_z w128 c.min.result wide
    ∙ least_answer (g.V.View.family c.args.view.now) c.args.ask c.args.x c.min.result c.vars.ensures.sets there c.in-Least.is c.min.ensures

pub returns-in-Greatest : goal.returns-in-Greatest
returns-in-Greatest g c =
    let narrow : FitsSigned w64 c.max.result = search rules in
    let wide : FitsSigned w128 c.max.result = search rules in
    let there : c.args.x < length (g.V.View.family c.args.view.now) = omega (arith, c.vars.ensures.count, c.if-x-vars.false) in
    ap (λ v. to_z w128 (of_z w128 v)) (to_z-of_z w64 c.max.result narrow) ∙ to_z-of_z w128 c.max.result wide
    ∙ greatest_answer (g.V.View.family c.args.view.now) c.args.ask c.args.x c.max.result c.vars.ensures.sets there c.in-Greatest.is c.max.ensures
