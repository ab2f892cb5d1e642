use Rattle.std.proofs.Common.{◌≡◌, ◌-◌, [], length, drop, map, sym, ◌∙◌, ap, get_or, pos, arith}
use Rattle.opl_expr.specs.Solutions.{is_among}
use Rattle.opl_trace.specs.Between.{values_between}
use Rattle.opl_domain.specs.Family.{member}
use Rattle.opl_expr.proofs.Parts.{drop_none}
use Rattle.opl_sound.proofs.Within.{among_is, other_count, one_outside, one_more}
use Rattle.opl_sound.proofs.views.is_assignment.Goals as goal

pub returns-then-values-sets : goal.returns-then-values-sets
returns-then-values-sets c = other_count c.args.values.now c.args.core.now.sets (λ e. c.if-values-sets.true (e ∙ ap length (sym c.as_slice-sets.ensures))) ∙ sym (among_is c.args.core.now c.args.values.now)

pub returns-then-not-is_between : goal.returns-then-not-is_between
returns-then-not-is_between c =
    one_outside c.args.values.now c.args.core.now.sets (c.loop-left.left - 1) (pos 0, pos 0) (omega (arith, c.loop-left-test.true, c.loop-left.invariant.0)) (c.if-values-sets.false ∙ ap length c.as_slice-sets.ensures)
    (ap (λ ps. member (get_or c.args.values.now (c.loop-left.left - 1) (pos 0)) (values_between (get_or ps (c.loop-left.left - 1) (pos 0, pos 0)))) (sym c.as_slice-sets.ensures) ∙ sym c.is_between.ensures ∙ c.if-not-is_between.true)
    ∙ sym (among_is c.args.core.now c.args.values.now)

pub loop-left-preserved : goal.loop-left-preserved
loop-left-preserved c = (
  omega (arith, c.loop-left.invariant.0),
  one_more c.args.values.now c.args.core.now.sets c.loop-left.left (pos 0, pos 0) c.loop-left-test.true c.loop-left.invariant.0 (c.if-values-sets.false ∙ ap length c.as_slice-sets.ensures)
      (ap (λ ps. member (get_or c.args.values.now (c.loop-left.left - 1) (pos 0)) (values_between (get_or ps (c.loop-left.left - 1) (pos 0, pos 0)))) (sym c.as_slice-sets.ensures) ∙ sym c.is_between.ensures ∙ c.if-not-is_between.false) c.loop-left.invariant.1,
)

pub loop-left-init : goal.loop-left-init
loop-left-init c =
    let same = c.if-values-sets.false ∙ ap length c.as_slice-sets.ensures in (
      omega arith,
      ap (λ xs. is_among xs (map values_between (drop (length c.args.values.now) c.args.core.now.sets))) (drop_none c.args.values.now)
          ∙ ap (λ k. is_among [] (map values_between (drop k c.args.core.now.sets))) same ∙ ap (λ ps. is_among [] (map values_between ps)) (drop_none c.args.core.now.sets),
    )

pub returns : goal.returns
returns c =
    let none : c.loop-left.left ≡ 0 = omega (arith, c.loop-left-test.false) in
    sym (ap (λ k. is_among (drop k c.args.values.now) (map values_between (drop k c.args.core.now.sets))) (sym none) ∙ c.loop-left.invariant.1) ∙ sym (among_is c.args.core.now c.args.values.now)
