use Rattle.std.proofs.Common.{sym, ap, ◌∙◌}
use Rattle.opl_form.specs.Nodes.{variable_sort, variable_sorts}
use Rattle.opl_nodes.specs.Contexts.{sets}
use Rattle.opl_elements.proofs.Successive.{sorts-numbers, sorts-positions}
use Rattle.opl_elements.proofs.runs.are_alike.Goals as goal

pub returns-in-Number : goal.returns-in-Number
returns-in-Number c =
    let s = sets c.args.context.now in
    sym (ap (λ k. variable_sorts s (variable_sort s k c.args.first) k c.args.first c.args.count) c.in-Number.is ∙ sorts-numbers s c.args.first c.args.count)

pub returns-in-Enumeration : goal.returns-in-Enumeration
returns-in-Enumeration c =
    let s = sets c.args.context.now in
    c.all_positions.ensures
    ∙ sym (ap (λ k. variable_sorts s (variable_sort s k c.args.first) k c.args.first c.args.count) c.in-Enumeration.is ∙ sorts-positions s c.in-Enumeration.field-0 c.args.first c.args.count)
