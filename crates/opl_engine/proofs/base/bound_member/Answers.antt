use Rattle.std.proofs.Common.{◌∙◌, ap}
use Rattle.opl_expr.specs.Forms.{fact}
use Rattle.opl_engine.proofs.Made.{first_none, first_some, goal_sound}
use Rattle.opl_engine.proofs.base.bound_member.Goals as goal

pub returns-in-None : goal.returns-in-None
returns-in-None c = first_none c.args.core.now c.new.result c.in-None.is c.new.ensures

pub new-requires-in-Some : goal.new-requires-in-Some
new-requires-in-Some c = goal_sound c.args.core.now c.in-Some.goal c.in-Some.is c.requires

pub returns-in_ok-form-in-Some : goal.returns-in_ok-form-in-Some
returns-in_ok-form-in-Some c =
    let core = c.args.core.now in
    first_some core c.in-Some.goal (fact core.tables core.resources c.as_ref.result.now) c.in_ok-variables-in-Some.variables c.in-Some.is c.requires
    (ap (fact core.tables core.resources) c.as_ref.ensures ∙ c.in_ok-c-in-Some.ensures) c.in_ok-variables-in-Some.ensures c.in_ok-form-in-Some.form c.in_ok-form-in-Some.ensures
