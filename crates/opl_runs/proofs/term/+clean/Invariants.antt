use Rattle.std.proofs.Common.{◌≡◌, drop}
use Rattle.std.specs.List.{list_all}
use Rattle.opl_declared.specs.Kept.{names_in}
use Rattle.opl_draft.specs.Forms.{is_clean_step}
use Rattle.opl_draft.specs.Unrolled.{is_clean}
use Rattle.opl_runs.proofs.term.+clean.Given as goal

abbrev pub invariant-are_clean-loop-term : goal.invariant-are_clean-loop-term
invariant-are_clean-loop-term l =
    list_all (is_clean l.scope.items.now (names_in l.scope.declared)) l.terms ≡ list_all (is_clean l.scope.items.now (names_in l.scope.declared)) (drop l.term-index l.terms)

abbrev pub invariant-are_clean_steps-loop-step : goal.invariant-are_clean_steps-loop-step
invariant-are_clean_steps-loop-step l =
    list_all (is_clean_step l.scope.items.now (names_in l.scope.declared)) l.steps ≡ list_all (is_clean_step l.scope.items.now (names_in l.scope.declared)) (drop l.step-index l.steps)
