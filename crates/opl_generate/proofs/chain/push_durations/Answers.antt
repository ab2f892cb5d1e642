use Rattle.std.proofs.Common.{◌≡◌, ◌∙◌, ◌<◌, ◌+◌, ◌-◌, ◌++◌, ap, ap₂, sym, arith, append-nil}
use Rattle.std.specs.Prelude.{decimal}
use Rattle.opl_generate.proofs.Listed.{all_written, comma, comma_between, comma_first, drawn, still, written}
use Rattle.opl_generate.proofs.chain.push_durations.Goals.{then-number-gt0+in_ok-extend_from_slice, else-number-gt0}
use Rattle.opl_generate.proofs.chain.push_durations.Goals as goal

pub loop-number-preserved : goal.loop-number-preserved
loop-number-preserved c =
    let k = c.loop-number.number in
    let source = c.loop-number.source in
    let text = c.loop-number.text.items in
    let lt : k < c.args.size = c.loop-number-test.true in
    let behind : c.if-number-gt0.text.items ≡ text ++ comma k = elim c.if-number-gt0.branch [
      | then-number-gt0+in_ok-extend_from_slice w ↦ (λ i. (w.text-is i).items) ∙ w.in_ok-extend_from_slice.ensures.items ∙ ap (λ t. text ++ t) (sym (comma_between k w.if-number-gt0.true))
      | else-number-gt0 w ↦ (λ i. (w.text-is i).items) ∙ sym (append-nil text) ∙ ap (λ t. text ++ t) (sym (comma_first k (omega (arith, w.if-number-gt0.false))))
    ] in
    let number = c.from.ensures ∙ c.duration.ensures.value in
    let new = c.in_ok-push_number.ensures ∙ ap₂ (λ t n. t ++ decimal n) behind number in
    ap₂ (λ t s. t ++ still (k + 1) (drawn (c.args.size - (k + 1)) s)) new c.duration.ensures.rest
    ∙ sym (written k c.args.size source text lt) ∙ c.loop-number.invariant

pub returns : goal.returns
returns c =
    let whole : c.loop-number.number ≡ c.args.size = omega (arith, c.loop-number-test.false, c.loop-number.auto.number-end) in
    all_written c.loop-number.number c.args.size c.loop-number.source c.loop-number.text.items _ whole c.loop-number.invariant
