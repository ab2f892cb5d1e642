use Rattle.std.proofs.Common.{◌≡◌, ◌++◌, ◌∷◌, [], sym, ap, ◌∙◌, arith}
use Rattle.opl_draft.specs.Drafts.{variable_values}
use Rattle.opl_held.proofs.Variables.{variables-last}
use Rattle.opl_held.proofs.assigned.variables.Goals as goal

pub loop-place-preserved : goal.loop-place-preserved
loop-place-preserved c =
    c.in_ok-push.ensures.items
    ∙ (λ i. c.loop-place.invariant i ++ c.in_ok-variable.ensures i ∷ [])
    ∙ sym (variables-last c.args.values.now c.args.kind c.args.first c.loop-place.place)

pub returns : goal.returns
returns c =
    let end : c.loop-place.place ≡ c.args.count = omega (arith, c.loop-place-test.false, c.loop-place.auto.place-end) in
    c.loop-place.invariant ∙ ap (variable_values [] c.args.values.now c.args.kind c.args.first) end
