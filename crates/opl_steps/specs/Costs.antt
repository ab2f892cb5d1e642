-- A bound on the moments that tasks take one after another: each moment lessens it, and so does each choice.
use Rattle.std.specs.Prelude.{◌≡◌, ◌<◌, ℕ, zero, suc, ◌+◌, ◌*◌, max, List, [], ◌∷◌, length}
use Rattle.opl_trace.specs.Elements.{Arm}
use Rattle.opl_trace.specs.Statements.{Statement, Statements, Branch, Branches}
use Rattle.opl_trace.specs.Statements.Statement.{post, block, try, try_all, for_all, select, once, while, decide, generate, rank}
use Rattle.opl_trace.specs.Statements.Statements.{no_statements, more_statements}
use Rattle.opl_trace.specs.Statements.Branch.{branch}
use Rattle.opl_trace.specs.Statements.Branches.{no_branches, more_branches}
use Rattle.opl_steps.specs.Tasks.{Task}
use Rattle.opl_steps.specs.Tasks.Task.{act, values, orders, elements, turns}
use Rattle.opl_steps.specs.Steps.{Way, Next}
use Rattle.opl_steps.specs.Steps.Next.{finished, nothing, spent, go, choose, commit}

abbrev mutual
  -- of a statement, with n choices left
  pub cost : Statement → ℕ → ℕ
  cost (post c) n = 1
  cost (block ss) n = suc (cost_all ss n)
  cost (try ss) n = suc (cost_all ss n)
  cost (try_all bs) n = suc (cost_branches bs n)
  cost (for_all bs) n = suc (suc (cost_branches bs n))
  cost (select bs) n = suc (cost_branches bs n)
  cost (once s) n = suc (cost s n)
  cost (while c s) n = suc (suc (n * suc (cost s n)))
  cost (decide c s t) n = suc (cost s n + cost t n)
  cost (generate xs) n = suc (suc (length xs))
  cost (rank pairs) n = suc (suc (length pairs))

  pub cost_all : Statements → ℕ → ℕ
  cost_all no_statements n = 0
  cost_all (more_statements s ss) n = cost s n + cost_all ss n

  pub cost_branch : Branch → ℕ → ℕ
  cost_branch (branch c key rising s) n = cost s n

  pub cost_branches : Branches → ℕ → ℕ
  cost_branches no_branches n = 0
  cost_branches (more_branches b bs) n = suc (cost_branch b n + cost_branches bs n)

abbrev pub cost_elements : List (Arm Statement) → ℕ → ℕ
cost_elements [] n = 0
cost_elements (a ∷ others) n = suc (cost a.body n + cost_elements others n)

-- of a task
abbrev pub cost_task : Task → ℕ → ℕ
cost_task (act s) n = cost s n
cost_task (values xs) n = suc (length xs)
cost_task (orders ps) n = suc (length ps)
cost_task (elements es) n = suc (cost_elements es n)
cost_task (turns m c s) n = suc (n * suc (cost s n))

-- of tasks
abbrev pub cost_tasks : List Task → ℕ → ℕ
cost_tasks [] n = 0
cost_tasks (t ∷ ts) n = cost_task t n + cost_tasks ts n

-- of the dearest of some ways
abbrev pub cost_ways : List Way → ℕ → ℕ
cost_ways [] n = 0
cost_ways (w ∷ ws) n = max (cost_tasks w.tasks n) (cost_ways ws n)

-- of alternatives, each of which takes a choice
abbrev pub cost_choice : List Way → ℕ → ℕ
cost_choice ws zero = 0
cost_choice ws (suc m) = suc (2 * cost_ways ws m)

-- what comes next costs less than the tasks, with as many choices left; alternatives cost less with one choice fewer
abbrev pub IsLess : List Task → ℕ → Next → Type 0
IsLess ts n finished = Unit {0}
IsLess ts n nothing = Unit {0}
IsLess ts n spent = Unit {0}
IsLess ts n (go w) = cost_tasks w.tasks n < cost_tasks ts n
IsLess ts n (choose ws) = (0 < cost_tasks ts n) × ((m : ℕ) → n ≡ suc m → cost_ways ws m < cost_tasks ts n)
IsLess ts n (commit s us) = (cost_tasks (act s ∷ []) n < cost_tasks ts n) × (cost_tasks us n < cost_tasks ts n)
