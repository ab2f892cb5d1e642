use Rattle.std.proofs.lemmas.Result.{IfOk-weaker}
use Rattle.opl_all_different.proofs.Made.{sound_as, filter_for, there_for, none_made, other_Fixed, other_Cmp, other_And, other_Or, other_Imp, other_Iff, other_Not, other_Capacity, other_Bound}
use Rattle.opl_all_different.proofs.different_filter.DifferentFilter.new.Goals as goal

pub of_expressions-requires : goal.of_expressions-requires
of_expressions-requires c = sound_as c.args.core.now c.args.c.now c.in-AllDifferent.parts c.as_slice.result.now c.in-AllDifferent.is c.as_slice.ensures c.requires

pub returns-in-AllDifferent-clause-filter : goal.returns-in-AllDifferent-clause-filter
returns-in-AllDifferent-clause-filter c =
    IfOk-weaker c.of_expressions.result _ _ (filter_for c.args.core.now c.args.c.now c.in-AllDifferent.parts c.as_slice.result.now c.in-AllDifferent.is c.as_slice.ensures) c.of_expressions.ensures

pub returns-in-AllDifferent-clause-kind : goal.returns-in-AllDifferent-clause-kind
returns-in-AllDifferent-clause-kind c =
    IfOk-weaker c.of_expressions.result _ _ (there_for c.args.core.now c.args.c.now c.in-AllDifferent.parts c.as_slice.result.now c.in-AllDifferent.is c.as_slice.ensures) c.of_expressions.ensures

pub returns-in-Fixed-clause-kind : goal.returns-in-Fixed-clause-kind
returns-in-Fixed-clause-kind c = none_made c.args.core.now c.args.c.now _ c.in-Fixed.is (other_Fixed _)

pub returns-in-Cmp-clause-kind : goal.returns-in-Cmp-clause-kind
returns-in-Cmp-clause-kind c = none_made c.args.core.now c.args.c.now _ c.in-Cmp.is (other_Cmp _ _ _)

pub returns-in-And-clause-kind : goal.returns-in-And-clause-kind
returns-in-And-clause-kind c = none_made c.args.core.now c.args.c.now _ c.in-And.is (other_And _)

pub returns-in-Or-clause-kind : goal.returns-in-Or-clause-kind
returns-in-Or-clause-kind c = none_made c.args.core.now c.args.c.now _ c.in-Or.is (other_Or _)

pub returns-in-Imp-clause-kind : goal.returns-in-Imp-clause-kind
returns-in-Imp-clause-kind c = none_made c.args.core.now c.args.c.now _ c.in-Imp.is (other_Imp _ _)

pub returns-in-Iff-clause-kind : goal.returns-in-Iff-clause-kind
returns-in-Iff-clause-kind c = none_made c.args.core.now c.args.c.now _ c.in-Iff.is (other_Iff _ _)

pub returns-in-Not-clause-kind : goal.returns-in-Not-clause-kind
returns-in-Not-clause-kind c = none_made c.args.core.now c.args.c.now _ c.in-Not.is (other_Not _)

pub returns-in-Capacity-clause-kind : goal.returns-in-Capacity-clause-kind
returns-in-Capacity-clause-kind c = none_made c.args.core.now c.args.c.now _ c.in-Capacity.is (other_Capacity _ _)

pub returns-in-Bound-clause-kind : goal.returns-in-Bound-clause-kind
returns-in-Bound-clause-kind c = none_made c.args.core.now c.args.c.now _ c.in-Bound.is (other_Bound _)
