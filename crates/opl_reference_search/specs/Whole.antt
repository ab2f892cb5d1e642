-- What a whole search has to do.
use Rattle.std.specs.Prelude.{ℕ, List, [], ◌∷◌, Option, Some, None}
use Rattle.opl_trace.specs.Statements.{Statement}
use Rattle.opl_steps.specs.Tasks.{Task}
use Rattle.opl_steps.specs.Tasks.Task.{act, values}

-- a section, if there is one, and then a value for each variable
abbrev pub whole : Option Statement → List ℕ → List Task
whole None xs = values xs ∷ []
whole (Some s) xs = act s ∷ values xs ∷ []
