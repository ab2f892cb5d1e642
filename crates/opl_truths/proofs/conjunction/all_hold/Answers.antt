use Rattle.std.proofs.Common.{ap, ◌∙◌}
use Rattle.std.specs.List.{list_all}
use Rattle.opl_truths.specs.Conditions.{is_true_part}
use Rattle.opl_truths.proofs.Truths.{all-hold-known, all-hold-live}
use Rattle.opl_truths.proofs.conjunction.all_hold.Goals as goal

pub returns-then-are_known : goal.returns-then-are_known
returns-then-are_known c =
    all-hold-known c.args.context.now c.args.parts c.requires c.all_true.result c.truth_node.result c.if-are_known.true (c.all_true.ensures ∙ ap (list_all is_true_part) c.as_slice.ensures) c.truth_node.ensures

pub returns-else-are_known : goal.returns-else-are_known
returns-else-are_known c = all-hold-live c.args.context.now c.args.parts c.requires c.demands.result c.if-are_known.false c.demands.ensures
