use Rattle.std.proofs.Common.{◌≡◌, map, drop}
use Rattle.opl_declared.specs.Kept.{names_in}
use Rattle.opl_meaning.specs.Runs.{any, any_mentioned, group_use, step_use, use_of}
use Rattle.opl_declared.proofs.mention.+mentions.Given as goal

abbrev pub invariant-in_terms-loop-term : goal.invariant-in_terms-loop-term
invariant-in_terms-loop-term l =
    any_mentioned (map (use_of (names_in l.declared)) l.terms) ≡ any_mentioned (map (use_of (names_in l.declared)) (drop l.term-index l.terms))

abbrev pub invariant-in_steps-loop-step : goal.invariant-in_steps-loop-step
invariant-in_steps-loop-step l = any (map (step_use (names_in l.declared)) l.steps) ≡ any (map (step_use (names_in l.declared)) (drop l.step-index l.steps))

abbrev pub invariant-in_groups-loop-group : goal.invariant-in_groups-loop-group
invariant-in_groups-loop-group l = any (map (group_use (names_in l.declared)) l.groups) ≡ any (map (group_use (names_in l.declared)) (drop l.group-index l.groups))
