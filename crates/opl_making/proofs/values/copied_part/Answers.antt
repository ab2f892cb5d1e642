use Rattle.std.proofs.Common.{ap}
use Rattle.opl_making.specs.Sites.{known, maker}
use Rattle.opl_making.proofs.Next.{makes-same}
use Rattle.opl_making.proofs.values.copied_part.Goals as goal

pub returns : goal.returns
returns c =
    makes-same c.args.site.context.now (maker c.args.site c.args.before (known c.args.at c.in_ok-value.value)) (maker c.args.site c.args.before (known c.args.at c.args.value.now)) c.value_node.result
    (ap (λ v. maker c.args.site c.args.before (known c.args.at v)) c.in_ok-value.ensures) c.value_node.ensures
