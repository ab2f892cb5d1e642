use Rattle.std.proofs.Common.{◌≡◌, ◌∙◌, ◌∷◌, ◌++◌, [], ap, sym, arith}
use Rattle.opl_trace.specs.Marks.{numbers_from}
use Rattle.opl_steps.specs.Tasks.Task.{values}
use Rattle.opl_search.specs.Tails.{tail_of}
use Rattle.opl_search.proofs.Parts.{tail_end, tail_label, numbers_next}
use Rattle.opl_search.proofs.tail.label_all.Goals as goal

pub loop-x-preserved : goal.loop-x-preserved
loop-x-preserved c = c.in_ok-push.ensures.ok ∙ ap (λ ns. ns ++ c.loop-x.x ∷ []) c.loop-x.invariant ∙ sym (numbers_next c.loop-x.x)

pub returns : goal.returns
returns c =
    let e : c.loop-x.x ≡ c.args.count = omega (arith, c.loop-x-test.false, c.loop-x.auto.x-end) in
    tail_label c.in_ok-variables.variables 0 c.in_ok-rest.rest
    ∙ ap (λ ys. values ys ∷ tail_of c.in_ok-rest.rest.value) (c.in_ok-variables.ensures.ok ∙ c.loop-x.invariant ∙ ap (numbers_from 0) e)
    ∙ ap (λ ts. values (numbers_from 0 c.args.count) ∷ ts) (ap tail_of c.in_ok-rest.ensures.ok ∙ tail_end)
