use Rattle.std.proofs.Common.{sym, ap}
use Rattle.opl_elements.specs.Sorts as spec
use Rattle.opl_elements.proofs.Sorted.{sorted-named, sorted-other, sorted-whole}
use Rattle.opl_elements.proofs.kinds.sorted.Goals as goal

pub returns-in-Whole : goal.returns-in-Whole
returns-in-Whole c = sorted-whole c.args.context.now c.args.at c.args.before c.args.expr (spec.sort c.args.sort) c.tested.result (sym (ap spec.sort c.in-Whole.is)) c.tested.ensures

pub returns-in-Named : goal.returns-in-Named
returns-in-Named c = sorted-named c.args.context.now c.args.at c.args.before c.in-Named.declaration c.args.expr (spec.sort c.args.sort) c.tested-in-Named.result (sym (ap spec.sort c.in-Named.is)) c.tested-in-Named.ensures

pub returns-in-Other : goal.returns-in-Other
returns-in-Other c = sorted-other c.args.context.now c.args.at c.args.before c.args.expr (spec.sort c.args.sort) (sym (ap spec.sort c.in-Other.is))
