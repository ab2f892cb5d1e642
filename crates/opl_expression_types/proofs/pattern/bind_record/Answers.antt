use Rattle.std.proofs.Common.{arith}
use Rattle.opl_expression_types.proofs.Patterns.{patterns_bound}
use Rattle.opl_type_rules.proofs.Sorts.{sorts}
use Rattle.opl_expression_types.proofs.pattern.bind_record.Goals as goal

pub returns-in_ok-unknown_names-in-Any : goal.returns-in_ok-unknown_names-in-Any
returns-in_ok-unknown_names-in-Any c = grind (arith, sorts, patterns_bound)

pub returns-in_ok-parts-in-Record : goal.returns-in_ok-parts-in-Record
returns-in_ok-parts-in-Record c = grind (arith, sorts, patterns_bound)

pub returns-in-Row : goal.returns-in-Row
returns-in-Row c = grind (arith, sorts, patterns_bound)

pub returns-in-Int : goal.returns-in-Int
returns-in-Int c = grind (arith, sorts, patterns_bound)

pub returns-in-Int-2 : goal.returns-in-Int-2
returns-in-Int-2 c = grind (arith, sorts, patterns_bound)

pub returns-in-Int-3 : goal.returns-in-Int-3
returns-in-Int-3 c = grind (arith, sorts, patterns_bound)

pub returns-in-Int-4 : goal.returns-in-Int-4
returns-in-Int-4 c = grind (arith, sorts, patterns_bound)

pub returns-in-Int-5 : goal.returns-in-Int-5
returns-in-Int-5 c = grind (arith, sorts, patterns_bound)

pub returns-in-Int-6 : goal.returns-in-Int-6
returns-in-Int-6 c = grind (arith, sorts, patterns_bound)

pub returns-in-Int-7 : goal.returns-in-Int-7
returns-in-Int-7 c = grind (arith, sorts, patterns_bound)

pub returns-in-Int-8 : goal.returns-in-Int-8
returns-in-Int-8 c = grind (arith, sorts, patterns_bound)

pub returns-in-Int-9 : goal.returns-in-Int-9
returns-in-Int-9 c = grind (arith, sorts, patterns_bound)

pub returns-in-Int-10 : goal.returns-in-Int-10
returns-in-Int-10 c = grind (arith, sorts, patterns_bound)

pub returns-in-Int-11 : goal.returns-in-Int-11
returns-in-Int-11 c = grind (arith, sorts, patterns_bound)
