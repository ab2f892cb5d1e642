use Rattle.std.proofs.Common.{length}
use Rattle.std.proofs.lemmas.Result.{IfOk-weaker}
use Rattle.opl_range.specs.Between.{between}
use Rattle.opl_linear_filter.specs.Factors.{factor_at}
use Rattle.opl_linear_filter.proofs.Adding.{first_can, second_can, both_are, both_small, none_below}
use Rattle.opl_linear_filter.proofs.Listing.{parts_same}
use Rattle.opl_linear_filter.proofs.parts.parts_between.Goals as goal

pub add_form-requires-clause-fits : goal.add_form-requires-clause-fits
add_form-requires-clause-fits c = first_can c.args.core.now c.args.a.now c.args.b.now c.new-factors.result c.new-factors.result c.new-factors.result c.requires c.new-factors.ensures.empty

pub add_form-requires-clause-below : goal.add_form-requires-clause-below
add_form-requires-clause-below c = none_below _ c.new-factors.result c.new-factors.ensures.empty

pub add_form-requires-2-clause-fits : goal.add_form-requires-2-clause-fits
add_form-requires-2-clause-fits c = second_can c.args.core.now c.args.a.now c.args.b.now c.new-factors.result c.add_form.new.factors c.add_form.new.factors c.requires c.new-factors.ensures.empty c.in_ok-add_form.ensures.factors

pub listed-requires : goal.listed-requires
listed-requires c = both_small c.args.core.now c.args.a.now c.args.b.now c.new-factors.result c.add_form.new.factors c.add_form-2.new.factors c.requires c.new-factors.ensures.empty c.in_ok-add_form.ensures.factors c.in_ok-add_form-2.ensures.factors

pub returns : goal.returns
returns c =
    let same = both_are c.args.core.now c.args.a.now c.args.b.now c.new-factors.result c.add_form.new.factors c.add_form-2.new.factors c.requires c.new-factors.ensures.empty c.in_ok-add_form.ensures.factors c.in_ok-add_form-2.ensures.factors in
    let n = length c.args.core.now.sets in
    let form = between c.args.core.now c.args.a.now c.args.b.now in
    IfOk-weaker c.listed.result _ _ (λ both h. let p = h n c.in_ok-add_form-2.ensures.below in (parts_same (factor_at c.add_form-2.new.factors) form n both.0 same p.0, p.1)) c.listed.ensures
