use Rattle.std.proofs.Common.{arith}
use Rattle.opl_declaration_types.proofs.Declared.{initial_values, keyed_parts}
use Rattle.opl_declaration_types.proofs.declaration.+initials.Goals as goal

pub initial-returns-in_err-plain_value-in-None : goal.initial-returns-in_err-plain_value-in-None
initial-returns-in_err-plain_value-in-None t c = grind (arith, initial_values)

pub initial-returns-in_ok-plain_value-in-None : goal.initial-returns-in_ok-plain_value-in-None
initial-returns-in_ok-plain_value-in-None t c = grind (arith, initial_values)

pub initial-returns-in_err-initial_cells-in-Listed : goal.initial-returns-in_err-initial_cells-in-Listed
initial-returns-in_err-initial_cells-in-Listed t c = grind (arith, initial_values)

pub initial-returns-in_ok-initial_cells-in-Listed : goal.initial-returns-in_ok-initial_cells-in-Listed
initial-returns-in_ok-initial_cells-in-Listed t c = grind (arith, initial_values)

pub initial-returns-in_err-initial_pairs-in-Keyed : goal.initial-returns-in_err-initial_pairs-in-Keyed
initial-returns-in_err-initial_pairs-in-Keyed t c = grind (arith, initial_values)

pub initial-returns-in_ok-initial_pairs-in-Keyed : goal.initial-returns-in_ok-initial_pairs-in-Keyed
initial-returns-in_ok-initial_pairs-in-Keyed t c = grind (arith, initial_values)

pub initial-returns-in_err-plain_value-in-Other : goal.initial-returns-in_err-plain_value-in-Other
initial-returns-in_err-plain_value-in-Other t c = grind (arith, initial_values)

pub initial-returns-in_ok-plain_value-in-Other : goal.initial-returns-in_ok-plain_value-in-Other
initial-returns-in_ok-plain_value-in-Other t c = grind (arith, initial_values)

pub initial_pair-returns-in_err-data_of : goal.initial_pair-returns-in_err-data_of
initial_pair-returns-in_err-data_of t c = grind (arith, keyed_parts)

pub initial_pair-returns-in_err-initial : goal.initial_pair-returns-in_err-initial
initial_pair-returns-in_err-initial t c = grind (arith, keyed_parts)

pub initial_pair-returns : goal.initial_pair-returns
initial_pair-returns t c = grind (arith, keyed_parts)
