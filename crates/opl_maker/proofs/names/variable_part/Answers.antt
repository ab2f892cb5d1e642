use Rattle.std.proofs.Common.{None, ap, sym}
use Rattle.opl_draft.specs.Unrolled.{plain_draft}
use Rattle.opl_making.specs.Sites.{maker, nothing}
use Rattle.opl_making.proofs.Next.{makes-same}
use Rattle.opl_maker.proofs.names.variable_part.Goals as goal

pub returns-in-None : goal.returns-in-None
returns-in-None c =
    makes-same c.args.site.context.now (maker c.args.site c.args.before (plain_draft c.args.at c.args.numbered.item.now c.args.numbered.first None))
    (maker c.args.site c.args.before (plain_draft c.args.at c.args.numbered.item.now c.args.numbered.first c.args.numbered.item.now.space)) c.variable.result
    (ap (λ space. maker c.args.site c.args.before (plain_draft c.args.at c.args.numbered.item.now c.args.numbered.first space)) (sym c.in-None.is)) c.variable.ensures

pub returns-in-Some : goal.returns-in-Some
returns-in-Some c =
    makes-same c.args.site.context.now (maker c.args.site c.args.before (nothing c.args.at))
    (maker c.args.site c.args.before (plain_draft c.args.at c.args.numbered.item.now c.args.numbered.first c.args.numbered.item.now.space)) c.nothing_part.result
    (ap (λ space. maker c.args.site c.args.before (plain_draft c.args.at c.args.numbered.item.now c.args.numbered.first space)) (sym c.in-Some.is)) c.nothing_part.ensures
