use Rattle.std.proofs.Common.{None, Some, ap, sym}
use Rattle.opl_draft.specs.Drafts.{Draft}
use Rattle.opl_draft.specs.Forms.{cells_in}
use Rattle.opl_declared.specs.Lookups.{cells_named}
use Rattle.opl_groups.specs.Visits.{sees}
use Rattle.opl_making.specs.Sites.{items, maker, names}
use Rattle.opl_making.proofs.Next.{makes-same}
use Rattle.opl_maker.proofs.names.difference.Goals as goal

pub returns-in-Some : goal.returns-in-Some
returns-in-Some c =
    makes-same c.args.site.context.now (maker c.args.site c.args.before (Draft.different c.args.at (cells_named (items c.args.site) (Some c.in-Some.name.now) (sees c.args.scope))))
    (maker c.args.site c.args.before (Draft.different c.args.at (cells_in (items c.args.site) (names c.args.site) c.args.term.now (sees c.args.scope)))) c.named_difference.result
    (ap (λ a. maker c.args.site c.args.before (Draft.different c.args.at a)) (sym (c.in-Some.ensures.cells (sees c.args.scope)))) c.named_difference.ensures

pub returns-in-None : goal.returns-in-None
returns-in-None c =
    makes-same c.args.site.context.now (maker c.args.site c.args.before (Draft.different c.args.at None))
    (maker c.args.site c.args.before (Draft.different c.args.at (cells_in (items c.args.site) (names c.args.site) c.args.term.now (sees c.args.scope)))) c.truth_node.result
    (ap (λ a. maker c.args.site c.args.before (Draft.different c.args.at a)) (sym (c.in-None.ensures.cells (sees c.args.scope)))) c.truth_node.ensures
