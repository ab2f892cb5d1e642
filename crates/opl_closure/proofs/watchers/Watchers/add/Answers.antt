use Rattle.std.proofs.Common.{◌≡◌, ◌∙◌, ◌<◌, true, get_or, length, map, set, subst, sym, arith, length-set, inl, inr}
use Rattle.opl_filter.specs.Mentions.{lists}
use Rattle.opl_closure.specs.Waits.{watches}
use Rattle.opl_closure.proofs.Waking.{listed_at, listed_more, vec_kept, vec_put}
use Rattle.opl_closure.proofs.watchers.Watchers.add.Goals as goal

pub index_mut-requires : goal.index_mut-requires
index_mut-requires c =
    let x = get_or c.args.variables.now c.loop-x.x-index 0 in
    omega (arith, c.requires x (listed_at c.args.variables.now c.loop-x.x-index c.loop-x-test.true), c.loop-x.invariant.long, c.loop-x.self-inside.lists.ok.0)

pub returns-in_err-put-clause-kept : goal.returns-in_err-put-clause-kept
returns-in_err-put-clause-kept c = λ j y l h.
    let x = get_or c.args.variables.now c.loop-x.x-index 0 in
    let b : x < length c.loop-x.self-inside.lists.items = omega (arith, c.requires x (listed_at c.args.variables.now c.loop-x.x-index c.loop-x-test.true), c.loop-x.invariant.long) in
    vec_kept c.loop-x.self-inside.lists.items (λ v. v.items) c.index_mut.result.now c.put.new.list x c.args.i j y b
    (λ k m q. c.put.ensures.kept k m (subst (λ v. lists v.items k ≡ true) (sym c.index_mut.ensures.value) q)) l (c.loop-x.invariant.kept j y l h)

pub loop-x-preserved : goal.loop-x-preserved
loop-x-preserved c =
    let x = get_or c.args.variables.now c.loop-x.x-index 0 in
    let b : x < length c.loop-x.self-inside.lists.items = omega (arith, c.requires x (listed_at c.args.variables.now c.loop-x.x-index c.loop-x-test.true), c.loop-x.invariant.long) in
    record {
      long = length-set c.loop-x.self-inside.lists.items x c.put.new.list ∙ c.loop-x.invariant.long;
      kept = λ j y l h.
          vec_kept c.loop-x.self-inside.lists.items (λ v. v.items) c.index_mut.result.now c.put.new.list x c.args.i j y b
          (λ k m q. c.put.ensures.kept k m (subst (λ v. lists v.items k ≡ true) (sym c.index_mut.ensures.value) q)) l (c.loop-x.invariant.kept j y l h);
      added = λ y h.
          let p = vec_put c.loop-x.self-inside.lists.items (λ v. v.items) c.put.new.list x c.args.i y b c.in_ok-put.ensures.ok in
          elim (listed_more c.args.variables.now c.loop-x.x-index y c.loop-x-test.true h) [
            | inl k ↦ p.0 (c.loop-x.invariant.added y k)
            | inr e ↦ subst (λ z. watches (map (λ v. v.items) (set c.loop-x.self-inside.lists.items x c.put.new.list)) c.args.i z ≡ true) (sym e) p.1
          ];
    }
