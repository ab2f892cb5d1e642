use Rattle.std.proofs.Common.{◌≡◌, ◌+◌, ◌∷◌, [], length, map}
use Rattle.opl_value.specs.Places.{dimension_values}
use Rattle.opl_bind.specs.Keys.{to_come}
use Rattle.opl_meaning.specs.EachSet.{over_keys, set_at, set_by}
use Rattle.opl_meaning.specs.VariableReadings.{sees}
use Rattle.opl_meaning.specs.Variables.{each_set, values_of}
use Rattle.opl_meaning.proofs.sets.each_set.Given as goal

abbrev pub decreases-loop-sets : goal.decreases-loop-sets
decreases-loop-sets l = length (to_come l.walk)

abbrev pub invariant-loop-sets : goal.invariant-loop-sets
invariant-loop-sets l = record {
  made : each_set l.t l.earlier (l.first ∷ l.rest) (map dimension_values l.dimensions) (sees l.visible) []
      ≡ over_keys (set_at (set_by l.t l.ends) l.earlier (l.first ∷ l.rest) (sees l.visible)) l.sets (to_come l.walk);
  values : l.values ≡ l.earlier + values_of l.sets;
}
