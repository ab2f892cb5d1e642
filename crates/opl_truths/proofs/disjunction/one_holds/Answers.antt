use Rattle.std.proofs.Common.{ap, ◌∙◌}
use Rattle.std.specs.List.{list_any}
use Rattle.opl_truths.specs.Conditions.{is_true_part}
use Rattle.opl_truths.proofs.Truths.{one-holds-known, one-holds-live}
use Rattle.opl_truths.proofs.disjunction.one_holds.Goals as goal

pub returns-then-are_known : goal.returns-then-are_known
returns-then-are_known c =
    one-holds-known c.args.context.now c.args.parts c.requires c.any_true.result c.truth_node.result c.if-are_known.true (c.any_true.ensures ∙ ap (list_any is_true_part) c.as_slice.ensures) c.truth_node.ensures

pub returns-else-are_known : goal.returns-else-are_known
returns-else-are_known c = one-holds-live c.args.context.now c.args.parts c.requires c.alternatives.result c.if-are_known.false c.alternatives.ensures
