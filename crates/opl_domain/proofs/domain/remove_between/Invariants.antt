use Rattle.std.proofs.lemmas.List.Filters.{FiltersInPlace}
use Rattle.opl_domain.specs.Family.{is_outside}
use Rattle.opl_domain.proofs.domain.remove_between.Given as goal

abbrev pub invariant-loop-place : goal.invariant-loop-place
invariant-loop-place l = FiltersInPlace (is_outside l.fn.lo l.fn.hi) l.initial.values.items l.values.items l.kept l.place
