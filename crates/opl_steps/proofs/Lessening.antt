-- What comes next costs less.
use Rattle.std.proofs.Common.{◌≡◌, ℕ, zero, suc, ◌+◌, ◌*◌, ◌<◌, ◌≤◌, max, Bool, true, false, cond, refl, List, [], ◌∷◌, map, length, ℤ, ap, arith}
use Rattle.std.proofs.Math.Nat.{mul-le-mul}
use Rattle.opl_domain.specs.Family.{Family, set_of}
use Rattle.opl_expr.specs.Forms.{Fact}
use Rattle.opl_trace.specs.Answers.{is_single, is_met, is_decided, precedes, key_value}
use Rattle.opl_trace.specs.Elements.{Arm, Picked, comes_first, pick, ordered, taken}
use Rattle.opl_trace.specs.Statements.{Statement, Statements, Branch, Branches}
use Rattle.opl_trace.specs.Statements.Statement.{post, block, try, try_all, for_all, select, once, while, decide, generate, rank}
use Rattle.opl_trace.specs.Statements.Statements.{no_statements, more_statements}
use Rattle.opl_trace.specs.Statements.Branch.{branch}
use Rattle.opl_trace.specs.Statements.Branches.{no_branches, more_branches}
use Rattle.opl_steps.specs.Tasks.{Task}
use Rattle.opl_steps.specs.Tasks.Task.{act, values, orders, elements, turns}
use Rattle.opl_steps.specs.Steps.{Way, on, on_value, acts_then, each_then, elements_of, bodies_then, first_then, performed, labelled, both_then, ranked, visited, turned, started, next_step}
use Rattle.opl_steps.specs.Steps.Next.{go, choose}
use Rattle.opl_steps.specs.Costs.{cost, cost_all, cost_branch, cost_branches, cost_elements, cost_task, cost_tasks, cost_ways, IsLess}

-- ---- fewer choices cost no more

module _ (m n : ℕ) (h : m ≤ n) where
  mutual
    cost_less : (s : Statement) → cost s m ≤ cost s n
    cost_less (post c) = omega arith
    cost_less (block ss) = omega (arith, all_less ss)
    cost_less (try ss) = omega (arith, all_less ss)
    cost_less (try_all bs) = omega (arith, branches_less bs)
    cost_less (for_all bs) = omega (arith, branches_less bs)
    cost_less (select bs) = omega (arith, branches_less bs)
    cost_less (once s) = omega (arith, cost_less s)
    cost_less (while c s) = let k : suc (cost s m) ≤ suc (cost s n) = omega (arith, cost_less s) in omega (arith, mul-le-mul h k)
    cost_less (decide c s t) = omega (arith, cost_less s, cost_less t)
    cost_less (generate xs) = omega arith
    cost_less (rank pairs) = omega arith

    all_less : (ss : Statements) → cost_all ss m ≤ cost_all ss n
    all_less no_statements = omega arith
    all_less (more_statements s ss) = omega (arith, cost_less s, all_less ss)

    branch_less : (b : Branch) → cost_branch b m ≤ cost_branch b n
    branch_less (branch c key rising s) = cost_less s

    branches_less : (bs : Branches) → cost_branches bs m ≤ cost_branches bs n
    branches_less no_branches = omega arith
    branches_less (more_branches b bs) = omega (arith, branch_less b, branches_less bs)

  elements_less : (es : List (Arm Statement)) → cost_elements es m ≤ cost_elements es n
  elements_less [] = omega arith
  elements_less (a ∷ es) = omega (arith, cost_less a.body, elements_less es)

  task_less : (t : Task) → cost_task t m ≤ cost_task t n
  task_less (act s) = cost_less s
  task_less (values xs) = omega arith
  task_less (orders ps) = omega arith
  task_less (elements es) = omega (arith, elements_less es)
  task_less (turns k c s) = let l : suc (cost s m) ≤ suc (cost s n) = omega (arith, cost_less s) in omega (arith, mul-le-mul h l)

  pub tasks_less : (ts : List Task) → cost_tasks ts m ≤ cost_tasks ts n
  tasks_less [] = omega arith
  tasks_less (t ∷ ts) = omega (arith, task_less t, tasks_less ts)

-- ---- elements

-- a first element, and the others
abbrev cost_picked : Picked Statement → ℕ → ℕ
cost_picked p n = suc (cost p.arm.body n + cost_elements p.others n)

pick_cost : (F : Family) (a : Arm Statement) (es : List (Arm Statement)) (n : ℕ) → cost_picked (pick F a es) n ≡ cost_elements (a ∷ es) n
pick_cost F a [] n = refl
pick_cost F a (b ∷ es) n =
    let i = pick_cost F b es n in
    elim (comes_first a.rising (key_value F (pick F b es).arm.key) (key_value F a.key)) as (λ t.
    cost_picked (cond t (record { arm = (pick F b es).arm; others = a ∷ (pick F b es).others }) (record { arm = a; others = b ∷ es })) n ≡ cost_elements (a ∷ b ∷ es) n) [
      | true ↦ omega (arith, i)
      | false ↦ refl
    ]

ordered_cost : (F : Family) (k : ℕ) (es : List (Arm Statement)) (n : ℕ) → cost_elements (ordered F k es) n ≤ cost_elements es n
ordered_cost F zero es n = omega arith
ordered_cost F (suc k) [] n = omega arith
ordered_cost F (suc k) (a ∷ es) n = let i = pick_cost F a es n in let j = ordered_cost F k (pick F a es).others n in omega (arith, i, j)

taken_cost : (F : Family) (es : List (Arm Statement)) (n : ℕ) → cost_elements (taken F es) n ≤ cost_elements es n
taken_cost F [] n = omega arith
taken_cost F (a ∷ es) n =
    let i = taken_cost F es n in
    elim (is_met F a.when) as (λ v. cost_elements (cond v (a ∷ taken F es) (taken F es)) n ≤ cost_elements (a ∷ es) n) [
      | true ↦ omega (arith, i)
      | false ↦ omega (arith, i)
    ]

branches_cost : (bs : Branches) (n : ℕ) → cost_elements (elements_of bs) n ≡ cost_branches bs n
branches_cost no_branches n = refl
branches_cost (more_branches (branch c key rising s) bs) n = let i = branches_cost bs n in omega (arith, i)

ready_cost : (F : Family) (bs : Branches) (n : ℕ) → cost_elements (taken F (elements_of bs)) n ≤ cost_branches bs n
ready_cost F bs n = let i = taken_cost F (elements_of bs) n in let j = branches_cost bs n in omega (arith, i, j)

-- ---- lists

below_max : (a b c : ℕ) → a ≤ c → b ≤ c → max a b ≤ c
below_max a b c h i = omega (arith, h, i)

acts_cost : (ss : Statements) (ts : List Task) (n : ℕ) → cost_tasks (acts_then ss ts) n ≡ cost_all ss n + cost_tasks ts n
acts_cost no_statements ts n = omega arith
acts_cost (more_statements s ss) ts n = let i = acts_cost ss ts n in omega (arith, i)

each_cost : (P : List Fact) (ss : Statements) (ts : List Task) (m n : ℕ) → m ≤ n → cost_ways (each_then P ss ts) m ≤ cost_all ss n + cost_tasks ts n
each_cost P no_statements ts m n h = omega arith
each_cost P (more_statements s ss) ts m n h =
    let i = each_cost P ss ts m n h in let j = cost_less m n h s in let k = tasks_less m n h ts in
    below_max (cost s m + cost_tasks ts m) (cost_ways (each_then P ss ts) m) ((cost s n + cost_all ss n) + cost_tasks ts n) (omega (arith, j, k)) (omega (arith, i))

bodies_cost : (P : List Fact) (es : List (Arm Statement)) (ts : List Task) (m n : ℕ) → m ≤ n → cost_ways (bodies_then P es ts) m ≤ cost_elements es n + cost_tasks ts n
bodies_cost P [] ts m n h = omega arith
bodies_cost P (a ∷ es) ts m n h =
    let i = bodies_cost P es ts m n h in let j = cost_less m n h a.body in let k = tasks_less m n h ts in
    below_max (cost a.body m + cost_tasks ts m) (cost_ways (bodies_then P es ts) m) (suc (cost a.body n + cost_elements es n) + cost_tasks ts n) (omega (arith, j, k)) (omega (arith, i))

-- ways that have the same to do
same_cost : (f : ℤ → Way) (us : List Task) (vs : List ℤ) (m : ℕ) → ((v : ℤ) → (f v).tasks ≡ us) → cost_ways (map f vs) m ≤ cost_tasks us m
same_cost f us [] m h = omega arith
same_cost f us (v ∷ vs) m h =
    let i = same_cost f us vs m h in let j = ap (λ ws. cost_tasks ws m) (h v) in
    below_max (cost_tasks (f v).tasks m) (cost_ways (map f vs) m) (cost_tasks us m) (omega (arith, j)) i

-- ---- what comes next

module _ (C : Family) (P : List Fact) (n : ℕ) where
  first_less : (bs : Branches) (es : List (Arm Statement)) (ts : List Task) → cost_elements es n ≤ cost_branches bs n → IsLess (act (select bs) ∷ ts) n (first_then C P es ts)
  first_less bs [] ts h = tt
  first_less bs (a ∷ es) ts h = let i = pick_cost C a es n in omega (arith, i, h)

  statement_less : (s : Statement) (ts : List Task) → IsLess (act s ∷ ts) n (performed C P n s ts)
  statement_less (post c) ts = omega arith
  statement_less (block ss) ts = let i = acts_cost ss ts n in omega (arith, i)
  statement_less (try ss) ts = (omega arith, λ m e. let i = each_cost P ss ts m n (omega (arith, e)) in omega (arith, i))
  statement_less (try_all bs) ts = (
    omega arith,
    λ m e.
        let ready = taken C (elements_of bs) in
        let i = bodies_cost P (ordered C (length ready) ready) ts m n (omega (arith, e)) in
        let j = ordered_cost C (length ready) ready n in
        let k = ready_cost C bs n in
        omega (arith, i, j, k),
  )
  statement_less (for_all bs) ts = let k = ready_cost C bs n in omega (arith, k)
  statement_less (select bs) ts = first_less bs (taken C (elements_of bs)) ts (ready_cost C bs n)
  statement_less (once s) ts = (omega arith, omega arith)
  statement_less (while c s) ts = omega arith
  statement_less (decide c s t) ts = elim (is_met C c) as (λ v. cost (cond v s t) n + cost_tasks ts n < suc (cost s n + cost t n) + cost_tasks ts n) [
    | true ↦ omega arith
    | false ↦ omega arith
  ]
  statement_less (generate xs) ts = omega arith
  statement_less (rank pairs) ts = omega arith

  label_less : (xs : List ℕ) (ts : List Task) → IsLess (values xs ∷ ts) n (labelled C P xs ts)
  label_less [] ts = omega arith
  label_less (x ∷ xs) ts =
      let ways = map (λ v. on_value x v P (values xs ∷ ts)) (set_of C x) in
      elim (is_single C x) as (λ v. IsLess (values (x ∷ xs) ∷ ts) n (cond v (go (on P (values xs ∷ ts))) (choose ways))) [
        | true ↦ omega arith
        | false ↦ (
          omega arith,
          λ m e.
              let i = same_cost (λ v. on_value x v P (values xs ∷ ts)) (values xs ∷ ts) (set_of C x) m (λ v. refl) in
              let j = tasks_less m n (omega (arith, e)) ts in
              omega (arith, i, j),
        )
      ]

  rank_less : (ps : List (ℕ × ℕ)) (ts : List Task) → IsLess (orders ps ∷ ts) n (ranked C P ps ts)
  rank_less [] ts = omega arith
  rank_less (p ∷ ps) ts = either (is_decided C (precedes p.0 p.1)) (is_decided C (precedes p.1 p.0))
    where
      either : (u v : Bool) → IsLess (orders (p ∷ ps) ∷ ts) n (cond u (go (on P (orders ps ∷ ts))) (cond v (go (on P (orders ps ∷ ts))) (both_then P p ps ts)))
      either true v = omega arith
      either false true = omega arith
      either false false = (omega arith, λ m e. let j = tasks_less m n (omega (arith, e)) ts in omega (arith, j))

  visit_less : (es : List (Arm Statement)) (ts : List Task) → IsLess (elements es ∷ ts) n (visited C P es ts)
  visit_less [] ts = omega arith
  visit_less (a ∷ es) ts = let i = pick_cost C a es n in omega (arith, i)

  suc_times : (m x : ℕ) → suc m * x ≡ x + m * x
  suc_times m x = grind arith

  turn_cost : (s : Statement) (ts : List Task) (m : ℕ) → n ≡ suc m → cost s m + (suc (m * suc (cost s m)) + cost_tasks ts m) < suc (n * suc (cost s n)) + cost_tasks ts n
  turn_cost s ts m e =
      let h : m ≤ n = omega (arith, e) in
      let a : suc (cost s m) ≤ suc (cost s n) = (let i = cost_less m n h s in omega (arith, i)) in
      let r : suc m ≤ n = omega (arith, e) in
      let b = mul-le-mul r a in
      let t = suc_times m (suc (cost s m)) in
      let d = tasks_less m n h ts in
      omega (arith, b, d, t)

  loop_less : (k : ℕ) (c : Fact) (s : Statement) (ts : List Task) (v : Bool) → IsLess (turns k c s ∷ ts) n (cond v (turned P k c s ts) (go (on P ts)))
  loop_less zero c s ts true = tt
  loop_less zero c s ts false = omega arith
  loop_less (suc k) c s ts true = (omega arith, λ m e. let i = turn_cost s ts m e in omega (arith, i))
  loop_less (suc k) c s ts false = omega arith

  task_step_less : (t : Task) (ts : List Task) → IsLess (t ∷ ts) n (started C P n t ts)
  task_step_less (act s) ts = statement_less s ts
  task_step_less (values xs) ts = label_less xs ts
  task_step_less (orders ps) ts = rank_less ps ts
  task_step_less (elements es) ts = visit_less es ts
  task_step_less (turns k c s) ts = loop_less k c s ts (is_met C c)

  pub step_less : (ts : List Task) → IsLess ts n (next_step C P n ts)
  step_less [] = tt
  step_less (t ∷ ts) = task_step_less t ts
