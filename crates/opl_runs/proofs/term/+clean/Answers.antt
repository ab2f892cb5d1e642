use Rattle.opl_declared.specs.Kept.{names_in}
use Rattle.opl_runs.proofs.Aggregates.{aggregate-else, aggregate-then}
use Rattle.opl_runs.proofs.term.+clean.Goals as goal

pub has_clean_form-returns-then-are_data : goal.has_clean_form-returns-then-are_data
has_clean_form-returns-then-are_data t c =
    aggregate-then c.args.scope.now.items.now (names_in c.args.scope.now.declared) c.args.term.now c.in-Aggregate.field-0 c.in-Aggregate.field-1
    c.in-Aggregate.groups c.as_slice-in-Aggregate.result.now c.in-Aggregate.condition c.in-Aggregate.body c.are_data.result
    c.get-then-are_data.result.now c.is_clean-then-are_data.result c.in-Aggregate.is c.as_slice-in-Aggregate.ensures c.get-then-are_data.ensures
    c.if-are_data.true c.are_data.ensures c.is_clean-then-are_data.ensures

pub has_clean_form-returns-else-are_data : goal.has_clean_form-returns-else-are_data
has_clean_form-returns-else-are_data t c =
    aggregate-else c.args.scope.now.items.now (names_in c.args.scope.now.declared) c.args.term.now c.in-Aggregate.field-0 c.in-Aggregate.field-1
    c.in-Aggregate.groups c.as_slice-in-Aggregate.result.now c.in-Aggregate.condition c.in-Aggregate.body c.are_data.result
    c.in-Aggregate.is c.as_slice-in-Aggregate.ensures c.if-are_data.false c.are_data.ensures
