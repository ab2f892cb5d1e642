use Rattle.std.proofs.Common.{◌+◌, ◌∷◌, ◌∙◌, ap, arith, length, map, subst, sym}
use Rattle.opl_value.specs.Places.{dimension_values}
use Rattle.opl_given.specs.Elements.{left}
use Rattle.opl_bind.specs.Keys.{Arrives, chosen, to_come}
use Rattle.opl_meaning.specs.VariableReadings.{sees}
use Rattle.opl_meaning.specs.Variables.{values_of}
use Rattle.opl_meaning.proofs.EachSet.{keys-start, next-set}
use Rattle.opl_meaning.proofs.Limits.{values-more}
use Rattle.opl_meaning.proofs.sets.each_set.Goals as goal

pub loop-sets-init : goal.loop-sets-init
loop-sets-init c = record {
  made = keys-start c.args.t.now c.args.earlier (c.args.first.now ∷ c.args.rest.now) (map dimension_values c.args.dimensions.now) (map dimension_values c.first_of.result.now) (sees c.args.visible) c.in_ok-ends.ends c.as_slice.result.now
      (length c.args.rest.now + 1) (to_come c.new-walk.result) c.new-sets.result
      c.in_ok-ends.ensures (omega arith) c.first_of.ensures (ap (map left) c.as_slice.ensures.value ∙ c.in_ok-index_sets.ensures) c.new-walk.ensures c.new-sets.ensures;
  values = omega (arith, ap values_of c.new-sets.ensures);
}

pub loop-sets-preserved : goal.loop-sets-preserved
loop-sets-preserved c = record {
  made = next-set c.args.t.now _ c.args.earlier c.loop-sets.values (c.args.first.now ∷ c.args.rest.now) (sees c.args.visible) c.loop-sets.sets c.push.new.self c.in_ok-set.set
      (to_come c.loop-sets.walk) (to_come c.advance.new.self) (chosen c.key.result.now) _ c.loop-sets.invariant.made
      (subst (Arrives (to_come c.loop-sets.walk) c.advance.new.self) c.if-branch.true c.in_ok-advance.ensures ∙ ap (λ key. key ∷ to_come c.advance.new.self) (sym c.key.ensures))
      c.loop-sets.invariant.values c.in_ok-set.ensures c.in_ok-push.ensures.ok;
  values = omega (arith, c.in_ok-values.ensures, c.loop-sets.invariant.values, values-more c.loop-sets.sets c.in_ok-set.set, ap values_of c.in_ok-push.ensures.ok);
}
