use Rattle.opl_expr.specs.Forms.{fact}
use Rattle.opl_reify.specs.Parts.{signed}
use Rattle.opl_reify.proofs.Made.{added_part}
use Rattle.opl_reify.proofs.making.add_literal.Goals as goal

pub returns-in_ok-push-in-Some-clause-part : goal.returns-in_ok-push-in-Some-clause-part
returns-in_ok-push-in-Some-clause-part c =
    let core = c.args.core.now in
    added_part core (signed c.args.is_opposite (fact core.tables core.resources c.args.c.now)) c.in-Some.part c.args.parts.now c.push.new.self c.in_ok-literal.field-0 c.in_ok-literal.ensures.part c.in-Some.is c.in_ok-push-in-Some.ensures.ok
