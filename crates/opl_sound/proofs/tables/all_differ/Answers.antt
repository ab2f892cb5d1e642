use Rattle.std.proofs.Common.{◌-◌, sym, ◌∙◌, ap, drop, arith}
use Rattle.opl_expr.specs.Laws.{all_differ}
use Rattle.opl_expr.proofs.Parts.{one_less}
use Rattle.opl_sound.proofs.Lists.{one_again, none_again}
use Rattle.opl_sound.proofs.tables.all_differ.Goals as goal

pub returns-then-stands_again : goal.returns-then-stands_again
returns-then-stands_again c = one_again c.args.numbers.now (c.loop-left.left - 1) (omega (arith, c.loop-left-test.true, c.loop-left.invariant.0)) (sym c.stands_again.ensures ∙ c.if-stands_again.true)

pub loop-left-preserved : goal.loop-left-preserved
loop-left-preserved c = (
  omega (arith, c.loop-left.invariant.0),
  none_again c.args.numbers.now (c.loop-left.left - 1) (omega (arith, c.loop-left-test.true, c.loop-left.invariant.0)) (sym c.stands_again.ensures ∙ c.if-stands_again.false)
      (ap (λ k. all_differ (drop k c.args.numbers.now)) (one_less c.loop-left.left c.loop-left-test.true) ∙ c.loop-left.invariant.1),
)
