use Rattle.std.proofs.Common.{◌≡◌, ◌≤◌, ltb, false, length, arith, ◌∙◌}
use Rattle.std.proofs.lemmas.Bool.Decides.{nat_tests}
use Rattle.opl_choices.proofs.AnswerParts.{no_single}
use Rattle.opl_choices.proofs.answers.is_single.Goals as goal

pub returns-else-x-vars : goal.returns-else-x-vars
returns-else-x-vars g c =
    let past : length (g.V.View.family c.args.view.now) ≤ c.args.x = omega (arith, c.vars.ensures.count, c.if-x-vars.false) in
    let below : ltb c.args.x c.vars.result ≡ false = grind (arith, nat_tests) in
    below ∙ no_single (g.V.View.family c.args.view.now) c.args.x past
