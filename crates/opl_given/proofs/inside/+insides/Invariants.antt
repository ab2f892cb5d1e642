use Rattle.std.proofs.Common.{◌≡◌, map, drop}
use Rattle.std.specs.List.{list_all}
use Rattle.opl_given.specs.Inside as spec
use Rattle.opl_given.specs.Readings.{known_of}
use Rattle.opl_given.proofs.inside.+insides.Given as goal

abbrev pub invariant-parts_inside-loop-part : goal.invariant-parts_inside-loop-part
invariant-parts_inside-loop-part l =
    spec.each_inside (map (spec.is_inside (known_of l.types)) l.parts) l.forms
    ≡ spec.each_inside (map (spec.is_inside (known_of l.types)) (drop l.part-index l.parts)) l.left

abbrev pub invariant-elements_inside-loop-element : goal.invariant-elements_inside-loop-element
invariant-elements_inside-loop-element l =
    list_all (λ inside. inside l.form) (map (spec.is_inside (known_of l.types)) l.elements)
    ≡ list_all (λ inside. inside l.form) (map (spec.is_inside (known_of l.types)) (drop l.element-index l.elements))
