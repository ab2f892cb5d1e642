-- What a call comes to: a search of a model with its data, the text of its core, the summary of a made model's search, or the help.
use Rattle.std.specs.Prelude.{◌≡◌, ◌⊎◌, ℕ, ℤ, true, false, ◌||◌, not, is_some, List, [], ◌∷◌, ◌++◌, take, Option, Some, None}
use Rattle.std.specs.List.{All}
use Rattle.opl_expr.specs.declared.model.Core.{Core}
use Rattle.opl_generate.specs.Texts.{head_text}
use Rattle.opl_ground_text.specs.Texts.{constraints_heading, ground_text, variables_heading}
use Rattle.opl_meaning.specs.declared.variable.VariableItem.{VariableItem}
use Rattle.opl_optimum.specs.Optima.{improving, solutions, value_of}
use Rattle.opl_show.specs.declared.ending.Last.{Last}
use Rattle.opl_show.specs.declared.ending.Last.TheVariants as last
use Rattle.opl_show.specs.Texts.{Enumerations}
use Rattle.opl_solve.specs.declared.show.Showing.{Showing}
use Rattle.opl_solve.specs.Texts.{closing_of, ending, found, goal_value, is_limited, search_text}
use Rattle.opl_trace.specs.Marks.{core_trace, objective}
use Rattle.opl_trace.specs.Run.{Out}
use Rattle.opl_words.specs.declared.call.Command.{Command}
use Rattle.opl_words.specs.declared.call.Command.TheVariants.{Solve, Ground}
use Rattle.opl_words.specs.declared.call.Generated.{Generated}
use Rattle.opl_words.specs.declared.call.Searching.{Searching}
use Rattle.opl_words.specs.Requests.{default_budget}
use Rattle.opl_prepare.specs.Prepared.{trace_of}
use Rattle.opl_prepare.specs.Subject.{Subject}
use Rattle.opl_tool.specs.declared.answer.Answer.{Answer}
use Rattle.opl_tool.specs.declared.answer.Answer.TheVariants.{Done, NoSolution, Spent}
use Rattle.opl_tool.specs.Help.{help_text}

pub data Task : Type 0 where
  solves : Searching → Subject → Task
  grounds : Subject → Task
  summarizes : Generated → Subject → Task
  helps : Task

-- a command over a model with its data
abbrev pub task_of : Command → Subject → Task
task_of (Solve s) subject = solves s subject
task_of Ground subject = grounds subject

-- ---- what a task prints and answers

-- each solution is shown as it is found where the core has no objective, or where those that improve are asked for
abbrev pub showing_of : Searching → Core → Showing
showing_of s core = record { limit = s.limit; is_each = s.is_improving || not (is_some core.goal) }

-- the text of a core's search
abbrev pub solve_text : Searching → Enumerations → List VariableItem → Core → List ℕ
solve_text s enumerations items core = search_text (objective core) enumerations items (showing_of s core) (core_trace false core s.budget)

-- a command's text and answer
abbrev pub command_text : Command → Enumerations → List VariableItem → Core → List ℕ
command_text (Solve s) enumerations items core = solve_text s enumerations items core
command_text Ground enumerations items core = ground_text core

-- all solutions, each as it is found
abbrev pub all_each : Showing
all_each = record { limit = None; is_each = true }

-- the summary of the search of a made model's core: what it was made from, how many variables and constraints it has, and the closing lines
abbrev pub made_text : Generated → Core → List ℕ
made_text g core = (head_text g ++ variables_heading core ++ constraints_heading core) ++ closing_of (objective core) all_each (core_trace false core default_budget)

-- a search that a choice too many ends is spent, whatever it found
abbrev pub search_answer : Last → List (List ℤ) → Answer
search_answer last.Spent list = Spent
search_answer last.End [] = NoSolution
search_answer last.End (ns ∷ rest) = Done
search_answer last.Limit [] = NoSolution
search_answer last.Limit (ns ∷ rest) = Done

abbrev pub trace_answer : Option ℕ → Out → Answer
trace_answer limit out = search_answer (ending limit out) (found limit out)

abbrev pub command_answer : Command → Core → Answer
command_answer (Solve s) core = trace_answer s.limit (core_trace false core s.budget)
command_answer Ground core = Done

unfoldable pub task_text : Task → List ℕ
task_text (solves s subject) = solve_text s subject.enumerations subject.problem.model.variables subject.core
task_text (grounds subject) = ground_text subject.core
task_text (summarizes g subject) = made_text g subject.core
task_text helps = help_text

unfoldable pub task_answer : Task → Answer
task_answer (solves s subject) = trace_answer s.limit (trace_of subject s.budget)
task_answer (grounds subject) = Done
task_answer (summarizes g subject) = trace_answer None (trace_of subject default_budget)
task_answer helps = Done

-- ---- what is found

-- a list up to a limit, if there is one
abbrev pub up_to : {A : Type 0} → Option ℕ → List A → List A
up_to None list = list
up_to (Some n) list = take n list

-- a search came to its end, or to its limit
abbrev pub IsWhole : Option ℕ → Out → Type 0
IsWhole limit out = (out.is_cut ≡ false) ⊎ (is_limited limit out ≡ true)

-- What a search finds are the first of the solutions that are better than all before them, without an objective the first of all; where it came to its end, or
-- to its limit, all of these up to the limit. The value that is shown of each is that of the model's objective.
pub record Finds (limit : Option ℕ) (s : Subject) (out : Out) : Type 0 where
  pub all : IsWhole limit out → found limit out ≡ up_to limit (improving s.problem (solutions s.problem))
  pub first : (rest : List (List ℤ)) × (found limit out ++ rest ≡ improving s.problem (solutions s.problem))
  pub values : All (λ ns. goal_value (objective s.core) ns ≡ value_of s.problem ns) (found limit out)

abbrev pub TaskFinds : Task → Type 0
TaskFinds (solves s subject) = Finds s.limit subject (trace_of subject s.budget)
TaskFinds (grounds subject) = Unit {0}
TaskFinds (summarizes g subject) = Finds None subject (trace_of subject default_budget)
TaskFinds helps = Unit {0}
