use Rattle.opl_filter.specs.Mentions.{use_mentions}
use Rattle.opl_filter.proofs.Adding.{AddsFirst}
use Rattle.opl_filter.proofs.variables.add_uses.Given as goal

abbrev pub invariant-loop-u : goal.invariant-loop-u
invariant-loop-u l = AddsFirst use_mentions l.uses l.u-index l.initial.found l.found
