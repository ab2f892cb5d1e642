use Rattle.std.proofs.Common.{rules, arith}
use Rattle.std.specs.Prelude.{FitsSigned}
use mir.Syntax.{w128}
use Rattle.std.proofs.lemmas.Int.{to_z-of_z}
use Rattle.std.proofs.lemmas.Result.{IfOk-weaker}
use Rattle.opl_expr.specs.declared.forms.Cons.TheFolds.{the_lemmas}
use Rattle.opl_expr.proofs.Parts.{sound_at}
use Rattle.opl_range.proofs.Parts.{sum_parts, neg_part, mul_first, mul_second}
use Rattle.opl_range.specs.Between.{term_of}
use Rattle.opl_count.specs.Readings.{load}
use Rattle.opl_count.proofs.Readings.{truth_sound, truth_one, truth_fits, number_fits, number_read, negated_fits, negated_read, left_fits, right_fits, left_read, right_read, sum_fits, sum_read, read_first, next_fits, read_next, read_none}
use Rattle.opl_count.proofs.reading.+reading.Goals as goal

pub read-add-requires : goal.read-add-requires
read-add-requires t c =
    let fits : FitsSigned w128 c.in-Const.k = search rules in
    let e = simp to_z-of_z at c.amount.ensures in
    number_fits c.args.core.now c.args.e.now c.in-Const.k c.amount.result _ c.in-Const.is e c.requires.fits

pub read-read_all-requires : goal.read-read_all-requires
read-read_all-requires t c = (search (rules, the_lemmas), (sum_parts _ _ _ _ _ _ c.in-Sum.is c.as_slice.ensures c.requires.sound, sum_fits c.args.core.now c.args.e.now c.in-Sum.parts c.as_slice.result.now (load c.args.costs.now) c.in-Sum.is c.as_slice.ensures c.requires.fits))

pub read-read-requires : goal.read-read-requires
read-read-requires t c = (search (rules, the_lemmas), (neg_part _ _ _ _ _ _ c.in-Neg.is c.get.ensures c.requires.sound, negated_fits c.args.core.now c.args.e.now c.in-Neg.a c.get.result.now (load c.args.costs.now) c.in-Neg.is c.get.ensures c.requires.fits))

pub read-add_multiple-requires-clause-sound : goal.read-add_multiple-requires-clause-sound
read-add_multiple-requires-clause-sound t c = mul_second _ _ _ _ _ _ _ c.in-Mul.is c.get-in-Some.ensures c.requires.sound

pub read-add_multiple-requires-clause-fits : goal.read-add_multiple-requires-clause-fits
read-add_multiple-requires-clause-fits t c =
    let fits : FitsSigned w128 c.in-Some.k = search rules in
    simp to_z-of_z (left_fits c.args.core.now c.args.e.now c.in-Mul.a c.in-Mul.b c.get-in-Mul.result.now c.get-in-Some.result.now c.in-Some.k (load c.args.costs.now) c.in-Mul.is c.get-in-Mul.ensures c.get-in-Some.ensures c.in-Some.ensures c.requires.fits)

pub read-add_multiple-requires-in-Some-constant-clause-sound : goal.read-add_multiple-requires-in-Some-constant-clause-sound
read-add_multiple-requires-in-Some-constant-clause-sound t c = mul_first _ _ _ _ _ _ _ c.in-Mul.is c.get-in-Some-constant.ensures c.requires.sound

pub read-add_multiple-requires-in-Some-constant-clause-fits : goal.read-add_multiple-requires-in-Some-constant-clause-fits
read-add_multiple-requires-in-Some-constant-clause-fits t c =
    let fits : FitsSigned w128 c.in-Some-constant.k = search rules in
    simp to_z-of_z (right_fits c.args.core.now c.args.e.now c.in-Mul.a c.in-Mul.b c.get-in-Mul.result.now c.get-in-Some-constant.result.now c.get-in-None.result.now c.in-Some-constant.k (load c.args.costs.now) c.in-Mul.is c.get-in-Mul.ensures c.get-in-Some-constant.ensures c.get-in-None.ensures c.in-None.ensures c.in-Some-constant.ensures c.requires.fits)

pub read-add_truth-requires-clause-sound : goal.read-add_truth-requires-clause-sound
read-add_truth-requires-clause-sound t c = truth_sound c.args.core.now c.args.e.now c.in-Truth.c c.get-in-Truth.result.now c.in-Truth.is c.get-in-Truth.ensures c.requires.sound

pub read-add_truth-requires-clause-fits : goal.read-add_truth-requires-clause-fits
read-add_truth-requires-clause-fits t c = truth_fits c.args.core.now c.args.e.now c.in-Truth.c (load c.args.costs.now) c.in-Truth.is c.requires.fits

pub read-returns-in-Const : goal.read-returns-in-Const
read-returns-in-Const t c =
    let fits : FitsSigned w128 c.in-Const.k = search rules in
    let e = simp to_z-of_z at c.amount.ensures in
    let p = simp to_z-of_z at c.is_paid.ensures in
    number_read c.args.core.now c.args.is_negative c.args.e.now c.in-Const.k c.is_paid.result c.amount.result c.args.costs.now c.add.new.costs c.in-Const.is p e c.add.ensures

pub read-returns-in-Sum : goal.read-returns-in-Sum
read-returns-in-Sum t c =
    IfOk-weaker c.read_all.result _ _ (sum_read c.args.core.now c.args.is_negative c.args.e.now c.in-Sum.parts c.as_slice.result.now c.args.costs.now c.read_all.new.costs c.in-Sum.is c.as_slice.ensures) c.read_all.ensures

pub read-returns-in-Neg : goal.read-returns-in-Neg
read-returns-in-Neg t c = IfOk-weaker c.read.result _ _ (negated_read c.args.core.now c.args.is_negative c.args.e.now c.in-Neg.a c.get.result.now c.args.costs.now c.read.new.costs c.in-Neg.is c.get.ensures) c.read.ensures

pub read-returns-in-Some : goal.read-returns-in-Some
read-returns-in-Some t c =
    let fits : FitsSigned w128 c.in-Some.k = search rules in
    let h = simp to_z-of_z at c.add_multiple.ensures in
    IfOk-weaker c.add_multiple.result _ _ (left_read c.args.core.now c.args.is_negative c.args.e.now c.in-Mul.a c.in-Mul.b c.get-in-Mul.result.now c.get-in-Some.result.now c.in-Some.k c.args.costs.now c.add_multiple.new.costs c.in-Mul.is c.get-in-Mul.ensures c.get-in-Some.ensures c.in-Some.ensures) h

pub read-returns-in-Some-constant : goal.read-returns-in-Some-constant
read-returns-in-Some-constant t c =
    let fits : FitsSigned w128 c.in-Some-constant.k = search rules in
    let h = simp to_z-of_z at c.add_multiple-in-Some-constant.ensures in
    IfOk-weaker c.add_multiple-in-Some-constant.result _ _
    (right_read c.args.core.now c.args.is_negative c.args.e.now c.in-Mul.a c.in-Mul.b c.get-in-Mul.result.now c.get-in-Some-constant.result.now c.get-in-None.result.now c.in-Some-constant.k c.args.costs.now c.add_multiple-in-Some-constant.new.costs
    c.in-Mul.is c.get-in-Mul.ensures c.get-in-Some-constant.ensures c.get-in-None.ensures c.in-None.ensures c.in-Some-constant.ensures) h

pub read-returns-in-Truth : goal.read-returns-in-Truth
read-returns-in-Truth t c = IfOk-weaker c.add_truth.result _ _ (truth_one c.args.core.now c.args.is_negative c.args.e.now c.in-Truth.c c.get-in-Truth.result.now c.args.costs.now c.add_truth.new.costs c.in-Truth.is c.get-in-Truth.ensures) c.add_truth.ensures

pub read_all-loop-left-init : goal.read_all-loop-left-init
read_all-loop-left-init t c = (omega arith, read_first c.args.core.now c.args.is_negative c.args.parts.now c.args.costs.now)

pub read_all-read-requires : goal.read_all-read-requires
read_all-read-requires t c = (
  search (rules, the_lemmas),
  (
    sound_at c.args.core.now.sets (term_of c.args.core.now) c.args.parts.now _ _ (omega (arith, c.loop-left.invariant.0, c.loop-left-test.true)) c.index-parts-left.is c.requires.sound.1,
    next_fits c.args.core.now c.args.is_negative c.args.parts.now c.loop-left.left c.index-parts-left.result c.args.costs.now c.loop-left.costs c.loop-left-test.true c.loop-left.invariant.0 c.index-parts-left.is c.loop-left.invariant.1 c.requires.fits,
  ),
)

pub read_all-returns-then-not-branch : goal.read_all-returns-then-not-branch
read_all-returns-then-not-branch t c =
    read_none c.args.core.now c.args.is_negative c.args.parts.now c.loop-left.left c.index-parts-left.result c.loop-left.costs c.read.new.costs c.loop-left-test.true c.loop-left.invariant.0 c.index-parts-left.is c.in_ok-read.field-0 c.in_ok-read.ensures c.if-not-branch.true

pub read_all-loop-left-preserved : goal.read_all-loop-left-preserved
read_all-loop-left-preserved t c =
    (omega (arith, c.loop-left.invariant.0), read_next c.args.core.now c.args.is_negative c.args.parts.now c.loop-left.left c.index-parts-left.result c.args.costs.now c.loop-left.costs c.read.new.costs c.loop-left-test.true c.loop-left.invariant.0 c.index-parts-left.is c.loop-left.invariant.1 c.in_ok-read.field-0 c.in_ok-read.ensures c.if-not-branch.false)
