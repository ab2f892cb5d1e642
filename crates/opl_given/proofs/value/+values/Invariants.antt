use Rattle.std.proofs.Common.{◌≡◌, [], ◌∷◌, map, drop}
use Rattle.opl_given.specs.Readings.{known_of}
use Rattle.opl_given.specs.Values.{each_by_form, all_by_form, value_in}
use Rattle.opl_given.proofs.value.+values.Given as goal

abbrev pub invariant-parts_in-loop-part : goal.invariant-parts_in-loop-part
invariant-parts_in-loop-part l =
    each_by_form (l.fn.first ∷ []) (map (value_in (known_of l.types) l.file) l.rest) l.forms
    ≡ each_by_form l.parts (map (value_in (known_of l.types) l.file) (drop l.part-index l.rest)) l.left

abbrev pub invariant-elements_in-loop-element : goal.invariant-elements_in-loop-element
invariant-elements_in-loop-element l =
    all_by_form [] (map (value_in (known_of l.types) l.file) l.elements) l.form
    ≡ all_by_form l.found (map (value_in (known_of l.types) l.file) (drop l.element-index l.elements)) l.form
