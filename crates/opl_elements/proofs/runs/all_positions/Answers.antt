use Rattle.std.proofs.Common.{◌+◌, ◌-◌, ◌&&◌, sym, ap, ◌∙◌}
use Rattle.opl_nodes.specs.Contexts.{sets}
use Rattle.opl_elements.specs.Runs as spec
use Rattle.opl_elements.proofs.Successive.{positions-all, positions-more, positions-none}
use Rattle.opl_elements.proofs.runs.all_positions.Goals as goal

pub loop-place-init : goal.loop-place-init
loop-place-init c = positions-all (sets c.args.context.now) c.args.first c.args.count

pub returns-then-not-has_positions : goal.returns-then-not-has_positions
returns-then-not-has_positions c =
    let s = sets c.args.context.now in
    let x = c.args.first in
    let n = c.args.count in
    let i = c.loop-place.place in
    sym (c.loop-place.invariant ∙ positions-more s x n i c.loop-place-test.true
    ∙ ap (λ b. b && spec.all_positions s (x + (i + 1)) (n - (i + 1))) (sym c.has_positions.ensures ∙ c.if-not-has_positions.true))

pub loop-place-preserved : goal.loop-place-preserved
loop-place-preserved c =
    let s = sets c.args.context.now in
    let x = c.args.first in
    let n = c.args.count in
    let i = c.loop-place.place in
    c.loop-place.invariant ∙ positions-more s x n i c.loop-place-test.true
    ∙ ap (λ b. b && spec.all_positions s (x + (i + 1)) (n - (i + 1))) (sym c.has_positions.ensures ∙ c.if-not-has_positions.false)

pub returns : goal.returns
returns c = sym (c.loop-place.invariant ∙ positions-none (sets c.args.context.now) c.args.first c.args.count c.loop-place.place c.loop-place-test.false)
