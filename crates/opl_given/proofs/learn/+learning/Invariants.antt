use Rattle.std.proofs.Common.{◌≡◌, [], map, drop}
use Rattle.opl_given.specs.Axes as spec
use Rattle.opl_given.proofs.learn.+learning.Given as goal

abbrev pub invariant-learn_parts-loop-part : goal.invariant-learn_parts-loop-part
invariant-learn_parts-loop-part l =
    spec.parts_learnt [] (map spec.learnt l.parts) l.forms ≡ spec.parts_learnt l.found (map spec.learnt (drop l.part-index l.parts)) l.left

abbrev pub invariant-learn_elements-loop-element : goal.invariant-learn_elements-loop-element
invariant-learn_elements-loop-element l =
    spec.elements_learnt (map spec.learnt l.elements) l.fn.form ≡ spec.elements_learnt (map spec.learnt (drop l.element-index l.elements)) l.found
