use Rattle.std.proofs.Common.{Some, ap, sym, ◌∙◌}
use Rattle.opl_value.specs.declared.value.Value.TheVariants as values
use Rattle.opl_eval.specs.Visible.{seen}
use Rattle.opl_draft.specs.Drafts.{Draft}
use Rattle.opl_draft.specs.Numbers.{entries}
use Rattle.opl_form.specs.Made.{array_of}
use Rattle.opl_form.specs.Nodes as nodes
use Rattle.opl_declared.specs.Lookups.{cells_named}
use Rattle.opl_groups.specs.Visits.{sees}
use Rattle.opl_nodes.specs.Contexts.{arrays, sets}
use Rattle.opl_making.specs.Sites.{items, maker}
use Rattle.opl_making.proofs.ArrayNames.{array-numbered, cells-hidden, cells-seen, data-differ}
use Rattle.opl_making.proofs.Next.{makes-same}
use Rattle.opl_maker.proofs.names.named_difference.Goals as goal

pub returns-in_ok-differ-in-Some : goal.returns-in_ok-differ-in-Some
returns-in_ok-differ-in-Some c =
    makes-same c.args.site.context.now (nodes.known_node c.args.site.context.now.item c.args.before (values.Bool c.in_ok-differ-in-Some.differ))
    (maker c.args.site c.args.before (Draft.different c.args.at (cells_named (items c.args.site) (Some c.args.name.now) (sees c.args.scope)))) c.truth_node.result
    (ap (λ b. nodes.known_node c.args.site.context.now.item c.args.before (values.Bool b)) c.in_ok-differ-in-Some.ensures
    ∙ sym (data-differ (sets c.args.site.context.now) (arrays c.args.site.context.now) c.args.site.context.now.item c.args.at c.args.before c.in-Some.value.now)
    ∙ ap (λ a. maker c.args.site c.args.before (Draft.different c.args.at a)) (sym (cells-hidden (items c.args.site) c.args.name.now c.args.scope.environment.now c.args.scope.parameters.now c.in-Some.value.now (sym c.in-Some.ensures))))
    c.truth_node.ensures

pub returns-in_ok-array-in-None : goal.returns-in_ok-array-in-None
returns-in_ok-array-in-None c =
    makes-same c.args.site.context.now (maker c.args.site c.args.before (Draft.different c.args.at (array_of (arrays c.args.site.context.now) c.in_ok-array-in-None.array)))
    (maker c.args.site c.args.before (Draft.different c.args.at (cells_named (items c.args.site) (Some c.args.name.now) (sees c.args.scope)))) c.different.result
    (ap (λ a. maker c.args.site c.args.before (Draft.different c.args.at a))
    (ap (array_of (arrays c.args.site.context.now)) c.in_ok-array-in-None.ensures
    ∙ array-numbered c.args.name.now (entries (seen c.args.scope.environment.now).items (items c.args.site)) (arrays c.args.site.context.now) c.requires.numbered
    ∙ sym (cells-seen (items c.args.site) c.args.name.now c.args.scope.environment.now c.args.scope.parameters.now (sym c.in-None.ensures))))
    c.different.ensures
