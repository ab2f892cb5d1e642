use Rattle.std.proofs.Common.{◌≡◌, ◌+◌, true, false, cond, ap, sym, ◌∙◌, arith}
use Rattle.opl_reference_search.specs.Leaves.{is_choice}
use Rattle.opl_reference_search.proofs.Leaves.{choices_at}
use Rattle.opl_reference_search.proofs.leaf.choices.Goals.{then-is_choice, else-is_choice}
use Rattle.opl_reference_search.proofs.leaf.choices.Goals as goal

pub loop-mark-preserved : goal.loop-mark-preserved
loop-mark-preserved c =
    let core = c.args.core.now in
    elim c.if-is_choice.branch [
      | then-is_choice w ↦
          let e : c.if-is_choice.count ≡ c.loop-mark.count + 1 = w.count-is in
          let i : is_choice c.mark-item.result ≡ true = sym w.if-is_choice.ensures in (
            choices_at core c.args.marks.now c.loop-mark.mark-index c.loop-mark.count c.if-is_choice.count c.mark-item.result c.mark-item.result c.loop-mark-test.true c.mark-item.is c.loop-mark.invariant.0 (e ∙ ap (λ b. c.loop-mark.count + cond b 1 0) (sym i)),
            omega (arith, e, c.loop-mark.invariant.1),
          )
      | else-is_choice w ↦
          let e : c.if-is_choice.count ≡ c.loop-mark.count + 0 = omega (arith, w.count-is) in
          let i : is_choice c.mark-item.result ≡ false = sym w.if-is_choice.ensures in (
            choices_at core c.args.marks.now c.loop-mark.mark-index c.loop-mark.count c.if-is_choice.count c.mark-item.result c.mark-item.result c.loop-mark-test.true c.mark-item.is c.loop-mark.invariant.0 (e ∙ ap (λ b. c.loop-mark.count + cond b 1 0) (sym i)),
            omega (arith, e, c.loop-mark.invariant.1),
          )
    ]
