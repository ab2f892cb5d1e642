-- What the program finds to come next, as plain data.
use Rattle.std.specs.Prelude.{List, map}
use Rattle.opl_expr.specs.declared.model.Core.{Core}
use Rattle.opl_trace.specs.SoundCores.{facts_in}
use Rattle.opl_steps.specs.Steps.{Way, Next}
use Rattle.opl_steps.specs.Steps.Next.{finished, nothing, spent, go, choose, commit}
use Rattle.opl_choices.specs.Branches.{statement_in}
use Rattle.opl_reference_search.specs.Tasks.{tasks_in}
use Rattle.opl_reference_search.specs.declared.«next».Way as code
use Rattle.opl_reference_search.specs.declared.«next».Next as code_next

-- the constraints from which a path goes on, and what it has to do
abbrev pub way_of : Core → code.Way → Way
way_of core w = record { label = w.label; posted = facts_in core w.posted; tasks = tasks_in core w.tasks }

-- ways in their order
abbrev pub ways_in : Core → List code.Way → List Way
ways_in core ws = map (way_of core) ws

-- what comes next
abbrev pub next_of : Core → code_next.Next → Next
next_of core (code_next.TheVariants.Finished) = finished
next_of core (code_next.TheVariants.Nothing) = nothing
next_of core (code_next.TheVariants.Spent) = spent
next_of core (code_next.TheVariants.Go w) = go (way_of core w)
next_of core (code_next.TheVariants.Choose ws) = choose (ways_in core ws)
next_of core (code_next.TheVariants.Commit s ts) = commit (statement_in core s.now) (tasks_in core ts)
