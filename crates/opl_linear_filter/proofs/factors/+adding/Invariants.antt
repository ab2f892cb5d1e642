use Rattle.std.proofs.Common.{drop}
use Rattle.opl_range.specs.Between.{term_of}
use Rattle.opl_linear_filter.proofs.Adding.{AddsUpTo}
use Rattle.opl_linear_filter.proofs.factors.+adding.Given as goal

abbrev pub invariant-add_forms-loop-part : goal.invariant-add_forms-loop-part
invariant-add_forms-loop-part l = AddsUpTo l.core.sets (term_of l.core) l.times l.initial.factors l.factors l.parts (drop l.part-index l.parts)
