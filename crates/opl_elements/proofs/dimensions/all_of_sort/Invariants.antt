use Rattle.std.proofs.Common.{◌≡◌, take, true}
use Rattle.opl_form.specs.Parts.{all_alike}
use Rattle.opl_elements.specs.Sorts.{sort}
use Rattle.opl_elements.proofs.dimensions.all_of_sort.Given as goal

abbrev pub invariant-loop-value : goal.invariant-loop-value
invariant-loop-value l = all_alike (sort l.sort) (take l.value-index l.values) ≡ true
