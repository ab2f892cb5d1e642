use Rattle.std.proofs.Common.{◌≡◌, ◌+◌, ◌≤◌, ◌++◌, drop, map}
use Rattle.opl_show.specs.Courses.{all_brackets, distance_of, to_write}
use Rattle.opl_show.specs.Parts.{keyed, layers, texts}
use Rattle.opl_show.specs.Readings.{names_of, values_of}
use Rattle.opl_show.specs.Texts.{behind, joined, nested}
use Rattle.opl_show.proofs.Weights.{weight, dimension_weight, total}
use Rattle.opl_show.proofs.value.+texts.Given as goal

abbrev pub decreases-push_value : goal.decreases-push_value
decreases-push_value l = weight l.value.now

abbrev pub decreases-push_values : goal.decreases-push_values
decreases-push_values l = total (map weight l.values.now) + 1

abbrev pub decreases-push_enclosed : goal.decreases-push_enclosed
decreases-push_enclosed l = total (map weight l.values.now) + 2

abbrev pub decreases-push_cell : goal.decreases-push_cell
decreases-push_cell l = total (map weight (values_of l.cells)) + 1

abbrev pub decreases-push_nested : goal.decreases-push_nested
decreases-push_nested l = total (map weight (values_of l.cells)) + 2

abbrev pub decreases-push_array : goal.decreases-push_array
decreases-push_array l = total (map dimension_weight l.dims.now) + total (map weight (values_of l.cells)) + 5

abbrev pub decreases-layers_of : goal.decreases-layers_of
decreases-layers_of l = total (map dimension_weight l.dims.now) + 4

abbrev pub decreases-layer_of : goal.decreases-layer_of
decreases-layer_of l = dimension_weight l.dimension.now + 3

abbrev pub decreases-key_texts : goal.decreases-key_texts
decreases-key_texts l = total (map weight l.keys.now) + 2

abbrev pub decreases-key_text : goal.decreases-key_text
decreases-key_text l = weight l.key.now + 1

abbrev pub invariant-push_values-loop-value : goal.invariant-push_values-loop-value
invariant-push_values-loop-value l =
    l.fn.text.items ++ joined (texts (names_of l.enumerations) l.values)
    ≡ l.text.items ++ behind (texts (names_of l.enumerations) (drop l.value-index l.others))

abbrev pub invariant-push_nested-loop-course : goal.invariant-push_nested-loop-course
invariant-push_nested-loop-course l = record {
  text : l.fn.text.items ++ nested (all_brackets l.layers) (texts (names_of l.enumerations) (values_of l.fn.cells))
      ≡ l.text.items ++ to_write l.course (texts (names_of l.enumerations) (values_of l.left));
  weighs : total (map weight (values_of l.left)) ≤ total (map weight (values_of l.fn.cells));
}

abbrev pub decreases-push_nested-loop-course : goal.decreases-push_nested-loop-course
decreases-push_nested-loop-course l = distance_of l.course

abbrev pub invariant-layers_of-loop-dimension : goal.invariant-layers_of-loop-dimension
invariant-layers_of-loop-dimension l = layers (names_of l.enumerations) l.dims ≡ all_brackets l.layers.items ++ layers (names_of l.enumerations) (drop l.dimension-index l.dims)

abbrev pub invariant-key_texts-loop-key : goal.invariant-key_texts-loop-key
invariant-key_texts-loop-key l = keyed (names_of l.enumerations) l.keys ≡ l.texts ++ keyed (names_of l.enumerations) (drop l.key-index l.keys)
