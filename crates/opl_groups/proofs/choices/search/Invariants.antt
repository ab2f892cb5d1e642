use Rattle.std.proofs.Common.{◌≡◌}
use Rattle.opl_groups.specs.Courses.{pending}
use Rattle.opl_groups.specs.Visits.{met_at, sees}
use Rattle.opl_groups.proofs.choices.search.Given as goal

-- the same is to be met as at first
abbrev pub invariant-loop : goal.invariant-loop
invariant-loop l =
    pending (met_at l.visit) (sees l.scope) l.initial.ahead l.initial.turns.chosen.items ≡ pending (met_at l.visit) (sees l.scope) l.ahead l.turns.chosen.items
