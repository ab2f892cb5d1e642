use Rattle.std.proofs.Common.{[], Ok, ap, sym, ◌∙◌}
use Rattle.opl_value.specs.declared.value.Value.TheVariants as values
use Rattle.opl_eval.specs.Visible.{seen}
use Rattle.opl_draft.specs.Drafts.{Draft, array_at}
use Rattle.opl_draft.specs.Numbers.{entries}
use Rattle.opl_nodes.specs.Contexts.{arrays}
use Rattle.opl_making.specs.Sites.{items}
use Rattle.opl_making.proofs.ArrayNames.{array-numbered, cells-hidden, cells-seen}
use Rattle.opl_held.specs.declared.outcome.Outcome.TheVariants.{Fixed}
use Rattle.opl_held.specs.Sourced.{worth_at}
use Rattle.opl_held.proofs.Drawn.{array-same, data-differ}
use Rattle.opl_held.proofs.names.named_difference.Goals as goal

pub returns-in_ok-elements_differ-in-Some : goal.returns-in_ok-elements_differ-in-Some
returns-in_ok-elements_differ-in-Some c at =
    ap (λ a. worth_at c.args.site c.args.values.now (Draft.different at a)) (cells-hidden (items c.args.site) c.args.name.now c.args.scope.environment.now c.args.scope.parameters.now c.in-Some.value.now (sym c.in-Some.ensures))
    ∙ data-differ (arrays c.args.site.context.now) c.args.values.now at c.in-Some.value.now
    ∙ ap (λ b. Ok (Fixed (values.Bool b))) (sym c.in_ok-elements_differ-in-Some.ensures)

pub returns-in_ok-different-in-None : goal.returns-in_ok-different-in-None
returns-in_ok-different-in-None c at =
    ap (λ a. worth_at c.args.site c.args.values.now (Draft.different at a))
    (cells-seen (items c.args.site) c.args.name.now c.args.scope.environment.now c.args.scope.parameters.now (sym c.in-None.ensures)
    ∙ sym (array-numbered c.args.name.now (entries (seen c.args.scope.environment.now).items (items c.args.site)) (arrays c.args.site.context.now) c.requires.numbered)
    ∙ array-same (arrays c.args.site.context.now) _
    ∙ ap (array_at (arrays c.args.site.context.now) []) (sym c.in_ok-array-in-None.ensures))
    ∙ ap (λ o. Ok o) (sym c.in_ok-different-in-None.ensures)
