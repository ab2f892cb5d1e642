use Rattle.std.proofs.Common.{◌≡◌, ◌+◌, [], map, drop}
use Rattle.opl_eval.specs.Weights.{total, weight}
use Rattle.opl_given.specs.Readings.{known_of}
use Rattle.opl_bind.specs.Scopes.{names_in}
use Rattle.opl_given.specs.Values.{all_by_form, each_by_form}
use Rattle.opl_bind.specs.Written as spec
use Rattle.opl_bind.proofs.fitted.+fitting.Given as goal

abbrev pub decreases-fitted : goal.decreases-fitted
decreases-fitted l = weight l.term.now + 4

abbrev pub decreases-parts_fitted : goal.decreases-parts_fitted
decreases-parts_fitted l = total (map weight l.parts.now) + 5

abbrev pub decreases-elements_fitted : goal.decreases-elements_fitted
decreases-elements_fitted l = total (map weight l.elements.now) + 5

abbrev pub invariant-parts_fitted-loop-part : goal.invariant-parts_fitted-loop-part
invariant-parts_fitted-loop-part l =
    each_by_form [] (spec.under (names_in l.scope) (map (spec.written (known_of l.types)) l.parts)) l.forms
    ≡ each_by_form l.found (spec.under (names_in l.scope) (map (spec.written (known_of l.types)) (drop l.part-index l.parts))) l.left

abbrev pub invariant-elements_fitted-loop-element : goal.invariant-elements_fitted-loop-element
invariant-elements_fitted-loop-element l =
    all_by_form [] (spec.under (names_in l.scope) (map (spec.written (known_of l.types)) l.elements)) l.form
    ≡ all_by_form l.found (spec.under (names_in l.scope) (map (spec.written (known_of l.types)) (drop l.element-index l.elements))) l.form
