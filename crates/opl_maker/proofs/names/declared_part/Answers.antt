use Rattle.std.proofs.Common.{None, Some, ap}
use Rattle.opl_declared.specs.Kept.{numbered_of}
use Rattle.opl_draft.specs.Numbers.{variable_named}
use Rattle.opl_draft.specs.Unrolled.{named_draft}
use Rattle.opl_making.specs.Sites.{items, maker, nothing}
use Rattle.opl_making.proofs.Next.{makes-same}
use Rattle.opl_maker.proofs.names.declared_part.Goals as goal

pub returns-in-Some : goal.returns-in-Some
returns-in-Some c =
    makes-same c.args.site.context.now (maker c.args.site c.args.before (named_draft c.args.at None (Some (numbered_of c.in-Some.numbered))))
    (maker c.args.site c.args.before (named_draft c.args.at None (variable_named c.args.name.now (items c.args.site)))) c.variable_part.result
    (ap (λ x. maker c.args.site c.args.before (named_draft c.args.at None x)) c.in-Some.ensures) c.variable_part.ensures

pub returns-in-None : goal.returns-in-None
returns-in-None c =
    makes-same c.args.site.context.now (maker c.args.site c.args.before (nothing c.args.at))
    (maker c.args.site c.args.before (named_draft c.args.at None (variable_named c.args.name.now (items c.args.site)))) c.nothing_part.result
    (ap (λ x. maker c.args.site c.args.before (named_draft c.args.at None x)) c.in-None.ensures) c.nothing_part.ensures
