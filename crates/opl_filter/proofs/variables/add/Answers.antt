use Rattle.std.proofs.Common.{◌∙◌, sym}
use Rattle.opl_filter.proofs.Adding.{adds_last, adds_listed}
use Rattle.opl_filter.proofs.variables.add.Goals as goal

pub returns-in_ok-push : goal.returns-in_ok-push
returns-in_ok-push c = adds_last _ _ _ c.in_ok-push.ensures.ok

pub returns-else-not-contains : goal.returns-else-not-contains
returns-else-not-contains c = adds_listed c.args.found.now c.as_slice.result.now c.args.x c.as_slice.ensures (sym c.contains.ensures.value ∙ c.if-not-contains.false)
