use Rattle.std.proofs.Common.{◌≡◌, map, take}
use Rattle.opl_trace.specs.SoundCores.{facts_in}
use Rattle.opl_steps.specs.Steps.{bodies_then}
use Rattle.opl_choices.specs.Branches.{element}
use Rattle.opl_reference_search.specs.Tasks.{tasks_in}
use Rattle.opl_reference_search.specs.Steps.{ways_in}
use Rattle.opl_reference_search.proofs.statements.each_body.Given as goal

abbrev pub invariant-loop-element : goal.invariant-loop-element
invariant-loop-element l = ways_in l.core l.ways ≡ bodies_then (facts_in l.core l.posted) (map (λ e. element l.core e.now) (take l.element-index l.elements)) (tasks_in l.core l.others)
