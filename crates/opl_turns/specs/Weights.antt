-- A bound on the turns that come before the next choice, with n choices left.
use Rattle.std.specs.Prelude.{ℕ, ◌+◌, ◌*◌, List, [], ◌∷◌}
use Rattle.opl_steps.specs.Tasks.{Task}
use Rattle.opl_steps.specs.Costs.{cost_tasks}
use Rattle.opl_turns.specs.Coming.{Place}
use Rattle.opl_turns.specs.Coming.Place.{ways, gate}

abbrev pub weight_places : List Place → ℕ → ℕ
weight_places [] n = 0
weight_places (ways ws ∷ os) n = weight_places os n + 1
weight_places (gate ts ∷ os) n = weight_places os n + (2 * cost_tasks ts n + 1)

-- before the sets of a moment
abbrev pub weight_down : List Task → List Place → ℕ → ℕ
weight_down ts os n = 2 * cost_tasks ts n + 3 + weight_places os n

-- at a moment
abbrev pub weight_at : List Task → List Place → ℕ → ℕ
weight_at ts os n = 2 * cost_tasks ts n + 2 + weight_places os n

-- behind a path
abbrev pub weight_back : List Place → ℕ → ℕ
weight_back os n = 1 + weight_places os n
