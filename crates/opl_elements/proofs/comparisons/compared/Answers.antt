use Rattle.std.proofs.Common.{sym, ◌∙◌}
use Rattle.opl_value.specs.declared.value.Value.TheVariants as values
use Rattle.opl_form.specs.Nodes as making
use Rattle.opl_form.specs.Nodes.{known_node}
use Rattle.opl_nodes.specs.Contexts.{arrays, sets}
use Rattle.opl_nodes.specs.Pieces.{form}
use Rattle.opl_nodes.proofs.Tests.{makes-same}
use Rattle.opl_elements.specs.Comparisons.{live_comparison}
use Rattle.opl_elements.proofs.Relations.{compared-known, compared-live}
use Rattle.opl_elements.proofs.comparisons.compared.Goals as goal

pub returns-in-Some : goal.returns-in-Some
returns-in-Some c =
    let k = c.args.context.now in
    let g = form c.args.left in
    let h = form c.args.right in
    makes-same k (known_node k.item c.args.before (values.Bool c.in-Some.holds)) (making.compared (sets k) (arrays k) k.item c.args.at c.args.before c.args.relation g h) c.truth_node.result
    (sym (compared-known k c.args.at c.args.before c.args.relation g h c.in-Some.holds (sym c.related-known.ensures ∙ c.in-Some.is))) c.truth_node.ensures

pub returns-in-None : goal.returns-in-None
returns-in-None c =
    let k = c.args.context.now in
    let g = form c.args.left in
    let h = form c.args.right in
    makes-same k (live_comparison k c.args.at c.args.before c.args.relation g h) (making.compared (sets k) (arrays k) k.item c.args.at c.args.before c.args.relation g h) c.live_comparison.result
    (sym (compared-live k c.args.at c.args.before c.args.relation g h (sym c.related-known.ensures ∙ c.in-None.is))) c.live_comparison.ensures
