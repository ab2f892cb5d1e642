use Rattle.std.proofs.Common.{rules, ap, sym, ◌∙◌, arith}
use Rattle.std.specs.Prelude.{FitsSigned}
use mir.Syntax.{w128}
use Rattle.std.proofs.lemmas.Int.{ints, to_z-of_z}
use Rattle.opl_linear.specs.Linear.{opposite}
use Rattle.opl_linear_filter.proofs.Building.{opposites_added}
use Rattle.opl_linear_filter.proofs.Listing.{none_listed, all_listed, listed_less, listed_more, none_left, factor_small, taken}
use Rattle.opl_linear_filter.proofs.parts.listed.Goals as goal

pub add-requires : goal.add-requires
add-requires c =
    let fits : FitsSigned w128 c.in-Some.factor = search rules in
    let t = taken c.loop-x.left c.pop_last.new.self c.in-Some.x c.in-Some.factor c.in-Some.ensures.value c.in-Some.ensures.greatest c.in-Some.ensures.updates in
    simp to_z-of_z (factor_small c.loop-x.left c.pop_last.new.self c.in-Some.x c.in-Some.factor t c.args.factors c.loop-x.parts c.loop-x.invariant.0)

pub loop-x-init : goal.loop-x-init
loop-x-init c =
    (none_listed c.args.factors c.new-parts.result c.new-parts.ensures c.requires, c.new-opposites.ensures ∙ sym (ap opposite c.new-parts.ensures))

pub loop-x-preserved : goal.loop-x-preserved
loop-x-preserved c =
    let fits : FitsSigned w128 c.in-Some.factor = search rules in
    let t = taken c.loop-x.left c.pop_last.new.self c.in-Some.x c.in-Some.factor c.in-Some.ensures.value c.in-Some.ensures.greatest c.in-Some.ensures.updates in
    (listed_less c.loop-x.left c.pop_last.new.self c.in-Some.x c.in-Some.factor t c.args.factors c.loop-x.parts c.loop-x.invariant.0 (omega (arith, ints, c.if-factor-ne0.false)), c.loop-x.invariant.1)

pub loop-x-preserved-in-Continue-1 : goal.loop-x-preserved-in-Continue-1
loop-x-preserved-in-Continue-1 c =
    let fits : FitsSigned w128 c.in-Some.factor = search rules in
    let t = taken c.loop-x.left c.pop_last.new.self c.in-Some.x c.in-Some.factor c.in-Some.ensures.value c.in-Some.ensures.greatest c.in-Some.ensures.updates in
    let p = simp to_z-of_z at c.in_ok-add.ensures.parts in
    let o = simp to_z-of_z at c.in_ok-add.ensures.opposites in (
      listed_more c.loop-x.left c.pop_last.new.self c.in-Some.x c.in-Some.factor t c.args.factors c.loop-x.parts c.loop-x.invariant.0 c.add.new.parts p (λ e. c.if-factor-ne0.true (omega (arith, ints, e))),
      opposites_added c.loop-x.parts c.loop-x.opposites c.add.new.parts c.add.new.opposites c.in-Some.x c.in-Some.factor c.loop-x.invariant.1 p o,
    )

pub returns : goal.returns
returns c = λ n b.
    (all_listed c.args.factors c.loop-x.left c.loop-x.parts n (none_left c.loop-x.left.entries c.in_default.ensures.variant.1) b c.loop-x.invariant.0, c.loop-x.invariant.1)
