use Rattle.std.proofs.Common.{refl}
use Rattle.opl_addends.proofs.Finding.{one_added}
use Rattle.opl_addends.proofs.making.add_one.Goals as goal

pub returns : goal.returns
returns c =
    one_added c.args.core.now c.args.e.now c.args.is_opposite (record { is_opposite = c.args.is_opposite; expression = c.in_ok-expression.expression; variables = c.in_ok-variables.variables })
    c.args.found.now c.push.new.self refl c.in_ok-expression.ensures c.in_ok-variables.ensures c.in_ok-push.ensures.ok
