-- What comes next, by the sets of a moment and what is to be done.
use Rattle.std.specs.Prelude.{ℕ, zero, suc, cond, List, [], ◌∷◌, ◌++◌, map, length, ℤ, Option, Some, None}
use Rattle.opl_domain.specs.Family.{Family, set_of}
use Rattle.opl_expr.specs.Forms.{Fact}
use Rattle.opl_trace.specs.Answers.{is_single, answered, is_met, is_decided, is_value, precedes}
use Rattle.opl_trace.specs.Elements.{Arm, pick, ordered, taken}
use Rattle.opl_trace.specs.Statements.{Statement, Statements, Branch, Branches}
use Rattle.opl_trace.specs.Statements.Statement.{post, block, try, try_all, for_all, select, once, while, decide, generate, rank}
use Rattle.opl_trace.specs.Statements.Statements.{no_statements, more_statements}
use Rattle.opl_trace.specs.Statements.Branch.{branch}
use Rattle.opl_trace.specs.Statements.Branches.{no_branches, more_branches}
use Rattle.opl_steps.specs.Tasks.{Task}
use Rattle.opl_steps.specs.Tasks.Task.{act, values, orders, elements, turns}

-- the variable and its value where it is an alternative of labelling, the constraints from which a path goes on, and what it has
-- to do
pub record Way : Type 0 where
  pub label : Option (ℕ × ℤ)
  pub posted : List Fact
  pub tasks : List Task

-- all is done; there is no mark; a choice is due that can't be made; the path goes on; alternatives in order; a statement under
-- `once`, and what follows it
pub data Next : Type 0 where
  finished : Next
  nothing : Next
  spent : Next
  go : Way → Next
  choose : List Way → Next
  commit : Statement → List Task → Next

-- ---- statements

abbrev pub on : List Fact → List Task → Way
on P ts = record { label = None; posted = P; tasks = ts }

-- the same once variable x has the value v
abbrev pub on_value : ℕ → ℤ → List Fact → List Task → Way
on_value x v P ts = record { label = Some (x, v); posted = P ++ is_value x v ∷ []; tasks = ts }

-- statements before other tasks
abbrev pub acts_then : Statements → List Task → List Task
acts_then no_statements ts = ts
acts_then (more_statements s ss) ts = act s ∷ acts_then ss ts

-- each statement as an alternative, each before the same tasks
abbrev pub each_then : List Fact → Statements → List Task → List Way
each_then P no_statements ts = []
each_then P (more_statements s ss) ts = on P (act s ∷ ts) ∷ each_then P ss ts

abbrev pub element_of : Branch → Arm Statement
element_of (branch c key rising s) = record { when = c; key = key; rising = rising; body = s }

abbrev pub elements_of : Branches → List (Arm Statement)
elements_of no_branches = []
elements_of (more_branches b bs) = element_of b ∷ elements_of bs

-- the body of each element as an alternative
abbrev pub bodies_then : List Fact → List (Arm Statement) → List Task → List Way
bodies_then P es ts = map (λ a. on P (act a.body ∷ ts)) es

-- the first element by its key, if there is one
abbrev pub first_then : Family → List Fact → List (Arm Statement) → List Task → Next
first_then C P [] ts = nothing
first_then C P (a ∷ others) ts = go (on P (act (pick C a others).arm.body ∷ ts))

-- a statement, at sets C with the constraints P and n choices left, and then the tasks ts
abbrev pub performed : Family → List Fact → ℕ → Statement → List Task → Next
performed C P n (post c) ts = go (on (P ++ answered C c ∷ []) ts)
performed C P n (block ss) ts = go (on P (acts_then ss ts))
performed C P n (try ss) ts = choose (each_then P ss ts)
performed C P n (try_all bs) ts = let ready = taken C (elements_of bs) in choose (bodies_then P (ordered C (length ready) ready) ts)
performed C P n (for_all bs) ts = go (on P (elements (taken C (elements_of bs)) ∷ ts))
performed C P n (select bs) ts = first_then C P (taken C (elements_of bs)) ts
performed C P n (once s) ts = commit s ts
performed C P n (while c s) ts = go (on P (turns n c s ∷ ts))
performed C P n (decide c s t) ts = go (on P (act (cond (is_met C c) s t) ∷ ts))
performed C P n (generate xs) ts = go (on P (values xs ∷ ts))
performed C P n (rank pairs) ts = go (on P (orders pairs ∷ ts))

-- ---- other tasks

abbrev pub labelled : Family → List Fact → List ℕ → List Task → Next
labelled C P [] ts = go (on P ts)
labelled C P (x ∷ xs) ts = cond (is_single C x) (go (on P (values xs ∷ ts))) (choose (map (λ v. on_value x v P (values xs ∷ ts)) (set_of C x)))

-- both orders of a pair
abbrev pub both_then : List Fact → ℕ × ℕ → List (ℕ × ℕ) → List Task → Next
both_then P p ps ts = choose (on (P ++ precedes p.0 p.1 ∷ []) (orders ps ∷ ts) ∷ on (P ++ precedes p.1 p.0 ∷ []) (orders ps ∷ ts) ∷ [])

abbrev pub ranked : Family → List Fact → List (ℕ × ℕ) → List Task → Next
ranked C P [] ts = go (on P ts)
ranked C P (p ∷ ps) ts = cond (is_decided C (precedes p.0 p.1)) (go (on P (orders ps ∷ ts))) (cond (is_decided C (precedes p.1 p.0)) (go (on P (orders ps ∷ ts))) (both_then P p ps ts))

abbrev pub visited : Family → List Fact → List (Arm Statement) → List Task → Next
visited C P [] ts = go (on P ts)
visited C P (a ∷ others) ts = let p = pick C a others in go (on P (act p.arm.body ∷ elements p.others ∷ ts))

abbrev pub turned : List Fact → ℕ → Fact → Statement → List Task → Next
turned P zero c s ts = spent
turned P (suc m) c s ts = choose (on P (act s ∷ turns m c s ∷ ts) ∷ [])

abbrev pub looped : Family → List Fact → ℕ → Fact → Statement → List Task → Next
looped C P m c s ts = cond (is_met C c) (turned P m c s ts) (go (on P ts))

-- a task, and then others
abbrev pub started : Family → List Fact → ℕ → Task → List Task → Next
started C P n (act s) ts = performed C P n s ts
started C P n (values xs) ts = labelled C P xs ts
started C P n (orders ps) ts = ranked C P ps ts
started C P n (elements es) ts = visited C P es ts
started C P n (turns m c s) ts = looped C P m c s ts

abbrev pub next_step : Family → List Fact → ℕ → List Task → Next
next_step C P n [] = finished
next_step C P n (t ∷ ts) = started C P n t ts
