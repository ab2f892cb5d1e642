use Rattle.std.proofs.Common.{sym, ap, ◌∙◌}
use Rattle.opl_value.specs.declared.value.Value.TheVariants as values
use Rattle.opl_eval.specs.Compare.{all_different}
use Rattle.opl_form.specs.Nodes.{known_node}
use Rattle.opl_nodes.specs.Contexts.{leaves}
use Rattle.opl_nodes.proofs.Tests.{makes-same}
use Rattle.opl_elements.specs.Differences.{leaves_differ}
use Rattle.opl_elements.proofs.Differing.{listed-differ}
use Rattle.opl_elements.proofs.differences.elements_differ.Goals as goal

pub returns-in-Listed : goal.returns-in-Listed
returns-in-Listed c =
    let k = c.args.context.now in
    makes-same k (known_node k.item c.args.before (values.Bool (all_different c.in-Listed.values.now))) (leaves_differ k c.args.at c.args.before (leaves c.args.array.now.leaves)) c.values_differ.result
    (sym (ap (λ l. leaves_differ k c.args.at c.args.before (leaves l)) c.in-Listed.is ∙ listed-differ k c.args.at c.args.before c.in-Listed.values.now)) c.values_differ.ensures
