use Rattle.std.proofs.Common.{◌∙◌, ◌<◌, ◌+◌, ◌^◌, length, map, ap, sym, subst}
use Rattle.std.specs.List.{All}
use Rattle.opl_expr.specs.Solutions.{declared}
use Rattle.opl_trace.proofs.Families.{below_self}
use Rattle.opl_engine.specs.States.{seen}
use Rattle.opl_store.specs.Stacks.{Stack, IsRange, all_blocks, values_between}
use Rattle.opl_solver.proofs.Beginnings.{all_ranges, few_words, begins_both, begins_pair}
use Rattle.opl_solver.proofs.pair.Pair.new.Goals as goal

pub new-requires-clause-ranges : goal.new-requires-clause-ranges
new-requires-clause-ranges c =
    let core = c.args.core.value in
    subst (All IsRange) (sym (c.as_slice.ensures ∙ ap (λ d. d.sets) c.as_ref.ensures)) (all_ranges core.sets c.requires.some c.requires.ground.sound.sets)

pub new-requires-clause-few : goal.new-requires-clause-few
new-requires-clause-few c =
    let core = c.args.core.value in
    subst (λ ps. length ps + all_blocks ps < 2 ^ 32) (sym (c.as_slice.ensures ∙ ap (λ d. d.sets) c.as_ref.ensures)) (few_words core c.requires.ground)

pub invariant_of-result : goal.invariant_of-result
invariant_of-result c =
    let core = c.args.core.value in
    let e = c.in_ok-engine.ensures.engine in
    let s = c.in_ok-store.ensures in
    let sets = c.as_slice.ensures ∙ ap (λ d. d.sets) c.as_ref.ensures in
    begins_pair core (seen c.in_ok-engine.engine) c.in_ok-store.store c.requires.ground.sound e.0 e.1 e.2 e.3 (ap (λ (t : Stack). t.top) s ∙ ap (map values_between) sets) (ap (λ (t : Stack). t.below) s)
    (c.in_ok-engine.ensures.fits (declared core) (below_self (declared core)))

pub returns : goal.returns
returns c =
    let core = c.args.core.value in
    let e = c.in_ok-engine.ensures.engine in
    let sets = c.as_slice.ensures ∙ ap (λ d. d.sets) c.as_ref.ensures in
    begins_both core (seen c.in_ok-engine.engine) c.in_ok-store.store e.0 e.1 e.2 e.3 (ap (λ (t : Stack). t.top) c.in_ok-store.ensures ∙ ap (map values_between) sets)
