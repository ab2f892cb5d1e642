use Rattle.std.proofs.Common.{◌≡◌, ◌∙◌, ◌+◌, [], length, replicate, ap, arith}
use Rattle.opl_store.specs.Stacks.{all_blocks}
use Rattle.opl_store.proofs.New.{new_store, new_family, declared_new, length-shapes}
use Rattle.opl_store.proofs.store.Store.new.Goals as goal

pub invariant_of-result : goal.invariant_of-result
invariant_of-result c =
    let n = length c.args.sets.now in
    let e = c.in_ok-shapes.ensures.0 in
    let made : c.in_ok-trail.trail ≡ record { top = replicate (n + all_blocks c.args.sets.now) 0; below = [] } = c.in_ok-trail.ensures ∙ ap (λ k. record { top = replicate k 0; below = [] }) c.in_ok-shapes.ensures.1 in
    (rw e (new_store c.args.sets.now c.in_ok-trail.trail c.requires.ranges c.requires.few made), rw e (omega (arith, length-shapes n c.args.sets.now, c.requires.few)))

pub returns : goal.returns
returns c =
    let n = length c.args.sets.now in
    let e = c.in_ok-shapes.ensures.0 in
    let made : c.in_ok-trail.trail ≡ record { top = replicate (n + all_blocks c.args.sets.now) 0; below = [] } = c.in_ok-trail.ensures ∙ ap (λ k. record { top = replicate k 0; below = [] }) c.in_ok-shapes.ensures.1 in
    rw (e, made, declared_new n c.args.sets.now c.requires.ranges) (ap (λ F. record { declared = c.args.sets.now; top = F; below = [] }) (new_family (n + all_blocks c.args.sets.now) n c.args.sets.now))
