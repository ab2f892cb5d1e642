use Rattle.std.proofs.Common.{◌∙◌, ap, subst}
use Rattle.std.proofs.lemmas.Result.{IfOk-weaker}
use Rattle.opl_expr.specs.Forms.{fact}
use Rattle.opl_expr.specs.Sound.{IsSoundFact}
use Rattle.opl_expr.proofs.Plain.{fact_Cmp}
use Rattle.opl_range.proofs.Arms.{cmp_same}
use Rattle.opl_linear_filter.proofs.Which.{filter_for, there_for, none_made, other_Fixed, other_And, other_Or, other_Imp, other_Iff, other_Not, other_AllDifferent, other_Capacity, other_Bound}
use Rattle.opl_linear_filter.proofs.linear_filter.LinearFilter.new.Goals as goal

pub of_comparison-requires : goal.of_comparison-requires
of_comparison-requires c =
    let core = c.args.core.now in
    cmp_same core c.in-Cmp.op c.in-Cmp.a c.in-Cmp.b _ _ c.get.ensures c.get-in-Cmp.ensures
    (subst (IsSoundFact core.sets) (ap (fact core.tables core.resources) c.in-Cmp.is ∙ fact_Cmp core.tables core.resources c.in-Cmp.op c.in-Cmp.a c.in-Cmp.b) c.requires)

pub returns-in-Cmp-clause-filter : goal.returns-in-Cmp-clause-filter
returns-in-Cmp-clause-filter c =
    IfOk-weaker c.of_comparison.result _ _ (filter_for c.args.core.now c.args.c.now c.in-Cmp.op c.in-Cmp.a c.in-Cmp.b c.get.result.now c.get-in-Cmp.result.now c.in-Cmp.is c.get.ensures c.get-in-Cmp.ensures) c.of_comparison.ensures

pub returns-in-Cmp-clause-kind : goal.returns-in-Cmp-clause-kind
returns-in-Cmp-clause-kind c =
    IfOk-weaker c.of_comparison.result _ _ (there_for c.args.core.now c.args.c.now c.in-Cmp.op c.in-Cmp.a c.in-Cmp.b c.get.result.now c.get-in-Cmp.result.now c.in-Cmp.is c.get.ensures c.get-in-Cmp.ensures) c.of_comparison.ensures

pub returns-in-Fixed-clause-kind : goal.returns-in-Fixed-clause-kind
returns-in-Fixed-clause-kind c = none_made c.args.core.now c.args.c.now _ c.in-Fixed.is (other_Fixed _)

pub returns-in-And-clause-kind : goal.returns-in-And-clause-kind
returns-in-And-clause-kind c = none_made c.args.core.now c.args.c.now _ c.in-And.is (other_And _)

pub returns-in-Or-clause-kind : goal.returns-in-Or-clause-kind
returns-in-Or-clause-kind c = none_made c.args.core.now c.args.c.now _ c.in-Or.is (other_Or _)

pub returns-in-Imp-clause-kind : goal.returns-in-Imp-clause-kind
returns-in-Imp-clause-kind c = none_made c.args.core.now c.args.c.now _ c.in-Imp.is (other_Imp _ _)

pub returns-in-Iff-clause-kind : goal.returns-in-Iff-clause-kind
returns-in-Iff-clause-kind c = none_made c.args.core.now c.args.c.now _ c.in-Iff.is (other_Iff _ _)

pub returns-in-Not-clause-kind : goal.returns-in-Not-clause-kind
returns-in-Not-clause-kind c = none_made c.args.core.now c.args.c.now _ c.in-Not.is (other_Not _)

pub returns-in-AllDifferent-clause-kind : goal.returns-in-AllDifferent-clause-kind
returns-in-AllDifferent-clause-kind c = none_made c.args.core.now c.args.c.now _ c.in-AllDifferent.is (other_AllDifferent _)

pub returns-in-Capacity-clause-kind : goal.returns-in-Capacity-clause-kind
returns-in-Capacity-clause-kind c = none_made c.args.core.now c.args.c.now _ c.in-Capacity.is (other_Capacity _ _)

pub returns-in-Bound-clause-kind : goal.returns-in-Bound-clause-kind
returns-in-Bound-clause-kind c = none_made c.args.core.now c.args.c.now _ c.in-Bound.is (other_Bound _)
