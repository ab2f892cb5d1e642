use Rattle.opl_addends.proofs.Finding.{AddsFirst}
use Rattle.opl_addends.proofs.making.+making.Given as goal

abbrev pub invariant-add_all-loop-part : goal.invariant-add_all-loop-part
invariant-add_all-loop-part l = AddsFirst l.core l.is_opposite l.parts l.part-index l.initial.found l.found
