-- The search: the marks that a statement makes, and then what follows it.
use Rattle.std.specs.Prelude.{ℕ, zero, suc, ◌-◌, Bool, true, false, cond, List, [], ◌∷◌, ◌++◌, map, length, ℤ, pos, slice_index_or, Option, Some, None}
use Rattle.std.specs.List.{list_any}
use Rattle.opl_domain.specs.Family.{Family, set_of}
use Rattle.opl_expr.specs.Forms.{Fact}
use Rattle.opl_expr.specs.Range.{is_refuted}
use Rattle.opl_trace.specs.Closure.{closure}
use Rattle.opl_trace.specs.Statements.{Statement, Statements, Branch, Branches}
use Rattle.opl_trace.specs.Statements.Statement.{post, block, try, try_all, for_all, select, once, while, decide, generate, rank}
use Rattle.opl_trace.specs.Statements.Statements.{no_statements, more_statements}
use Rattle.opl_trace.specs.Statements.Branch.{branch}
use Rattle.opl_trace.specs.Statements.Branches.{no_branches, more_branches}
use Rattle.opl_trace.specs.Answers.{is_single, answered, is_met, is_decided, is_value, precedes}
use Rattle.opl_trace.specs.Elements.{Arm, pick, ordered, taken}
use Rattle.opl_trace.specs.Objective.{Objective, bound, best_after}

-- ---- what a search makes

-- an alternative is entered, with the variable and its value where it is one of labelling; a statement that stands under `once`
-- is done, with these constraints; a solution; the end of the whole, as a choice was due and none was left
pub data Mark : Type 0 where
  choice : Option (ℕ × ℤ) → Mark
  leaf : List Fact → Mark
  solution : List ℤ → Mark
  cut : Mark

-- the marks that are made but the Cut, the best value after them, the choices left, and whether a Cut ends the whole
pub record Out : Type 0 where
  pub marks : List Mark
  pub best : Option ℤ
  pub left : ℕ
  pub is_cut : Bool

-- what follows, with these constraints, this best value and as many choices left
abbrev pub Rest : Type 0
Rest = List Fact → Option ℤ → ℕ → Out

-- no mark
abbrev pub nothing : Rest
nothing P b n = record { marks = []; best = b; left = n; is_cut = false }

-- all marks
abbrev pub marks_of : Out → List Mark
marks_of o = o.marks ++ cond o.is_cut (cut ∷ []) []

-- the Cut alone
abbrev pub stopped : Option ℤ → Out
stopped b = record { marks = []; best = b; left = zero; is_cut = true }

-- the same, whatever the constraints and the choices left
abbrev pub spent : Rest
spent P b n = stopped b

-- a mark before the others
abbrev pub marked : Mark → Out → Out
marked m o = record { marks = m ∷ o.marks; best = o.best; left = o.left; is_cut = o.is_cut }

-- marks before the others
abbrev pub behind : List Mark → Out → Out
behind ms o = record { marks = ms ++ o.marks; best = o.best; left = o.left; is_cut = o.is_cut }

-- what follows some marks; after a Cut nothing does
abbrev pub after : Out → (Option ℤ → ℕ → Out) → Out
after o next = cond o.is_cut o (behind o.marks (next o.best o.left))

-- an alternative: the variable and its value, if it is one of labelling, and what it makes
pub record Alternative : Type 0 where
  pub label : Option (ℕ × ℤ)
  pub rest : Rest

-- alternatives that aren't of labelling
abbrev pub unlabelled : List Rest → List Alternative
unlabelled ks = map (λ k. record { label = None; rest = k }) ks

-- an alternative for each value of variable x
abbrev pub by_value : ℕ → (ℤ → Rest) → List ℤ → List Alternative
by_value x k vs = map (λ v. record { label = Some (x, v); rest = k v }) vs

-- alternatives in order: each makes a Choice mark, and starts with the constraints as on entry
abbrev pub alternatives : List Alternative → Rest
alternatives [] P b n = nothing P b n
alternatives (a ∷ others) P b zero = stopped b
alternatives (a ∷ others) P b (suc n) = after (marked (choice a.label) (a.rest P b n)) (alternatives others P)

-- ---- once

-- how many of the marks are choices
abbrev pub choices : List Mark → ℕ
choices [] = zero
choices (choice l ∷ ms) = suc (choices ms)
choices (leaf P ∷ ms) = choices ms
choices (solution a ∷ ms) = choices ms
choices (cut ∷ ms) = choices ms

-- the constraints of the first Leaf, and the marks before it
pub record Left : Type 0 where
  pub before : List Mark
  pub posted : List Fact

abbrev pub left_with : Mark → Option Left → Option Left
left_with m None = None
left_with m (Some l) = Some (record { before = m ∷ l.before; posted = l.posted })

abbrev pub first_leaf : List Mark → Option Left
first_leaf [] = None
first_leaf (choice l ∷ ms) = left_with (choice l) (first_leaf ms)
first_leaf (leaf P ∷ ms) = Some (record { before = []; posted = P })
first_leaf (solution a ∷ ms) = left_with (solution a) (first_leaf ms)
first_leaf (cut ∷ ms) = left_with cut (first_leaf ms)

-- what follows the first Leaf, with n choices on entry; with no Leaf all marks are kept
abbrev pub committed : Rest → Out → Option ℤ → ℕ → Option Left → Out
committed next o b n None = o
committed next o b n (Some l) = behind l.before (next l.posted b (n - choices l.before))

-- ---- elements of tryall, forall and select

-- the first element of those by its key, if there is one
abbrev pub selected : Family → List (Arm (Rest → Rest)) → Rest → Rest
selected F [] next = nothing
selected F (a ∷ others) next = (pick F a others).arm.body next

-- ---- the rules

-- the first value of each variable
abbrev pub values_of : Family → List ℤ
values_of F = map (λ vs. slice_index_or vs zero (pos 0)) F

-- the family refutes a constraint, or the bound
unfoldable pub is_dead : Option Objective → List Fact → Option ℤ → Family → Bool
is_dead goal P b F = list_any (is_refuted F) (P ++ bound goal b)

-- the sets at a moment: the closure of the constraints and the bound, within the declared sets
unfoldable pub closed : Option Objective → Family → List Fact → Option ℤ → Option Family
closed goal D P b = closure (is_dead goal P b) D

-- what is done with the sets of a moment; if the closure has failed, there is no mark
abbrev pub entered : (Family → Rest) → Option Family → Rest
entered next None = nothing
entered next (Some C) = next C

-- the rules, where `sets` gives the sets of each moment by its constraints and its best value
module _ (goal : Option Objective) (sets : List Fact → Option ℤ → Option Family) where
  -- what is done with the sets of the moment
  unfoldable pub within : (Family → Rest) → Rest
  within next P b n = entered next (sets P b) P b n

  -- at the end of the whole there is a solution
  abbrev pub whole_leaf : Rest
  whole_leaf = within (λ C P b n. record { marks = solution (values_of C) ∷ []; best = best_after goal (values_of C) b; left = n; is_cut = false })

  -- at the end of the statement under `once` there is a Leaf
  abbrev pub inner_leaf : Rest
  inner_leaf = within (λ C P b n. record { marks = leaf P ∷ []; best = b; left = n; is_cut = false })

  -- a value for each variable of a list, in order
  abbrev pub label : List ℕ → Rest → Rest
  label [] next = within (λ C. next)
  label (x ∷ xs) next = within (λ C. cond (is_single C x) (label xs next) (alternatives (by_value x (λ v P. label xs next (P ++ is_value x v ∷ [])) (set_of C x))))

  -- an order for each pair of a list
  abbrev pub rank_pairs : List (ℕ × ℕ) → Rest → Rest
  rank_pairs [] next = within (λ C. next)
  rank_pairs (p ∷ ps) next =
      within (λ C. cond (is_decided C (precedes p.0 p.1)) (rank_pairs ps next) (cond (is_decided C (precedes p.1 p.0)) (rank_pairs ps next)
      (alternatives (unlabelled ((λ P. rank_pairs ps next (P ++ precedes p.0 p.1 ∷ [])) ∷ (λ P. rank_pairs ps next (P ++ precedes p.1 p.0 ∷ [])) ∷ [])))))

  -- elements, each chosen when it is reached; n is at least their number
  abbrev pub visit : ℕ → List (Arm (Rest → Rest)) → Rest → Rest
  visit zero arms next = within (λ C. next)
  visit (suc n) [] next = within (λ C. next)
  visit (suc n) (a ∷ others) next = within (λ C. let p = pick C a others in p.arm.body (visit n p.others next))

  -- a loop of at most n turns; each makes a Choice mark, so that the choices left are turns enough
  abbrev pub loop : ℕ → Fact → (Rest → Rest) → Rest → Rest
  loop zero c body next = within (λ C. cond (is_met C c) spent next)
  loop (suc m) c body next = within (λ C. cond (is_met C c) (alternatives (unlabelled (body (loop m c body next) ∷ []))) next)

  abbrev mutual
    -- a statement, and then what follows it
    pub perform : Statement → Rest → Rest
    perform (post c) next = within (λ C P. next (P ++ answered C c ∷ []))
    perform (block ss) next = within (λ C. perform_all ss next)
    perform (try ss) next = within (λ C. alternatives (unlabelled (performed ss next)))
    perform (try_all bs) next = within (λ C. let ready = taken C (arms bs) in alternatives (unlabelled (map (λ a. a.body next) (ordered C (length ready) ready))))
    perform (for_all bs) next = within (λ C. let ready = taken C (arms bs) in visit (length ready) ready next)
    perform (select bs) next = within (λ C. selected C (taken C (arms bs)) next)
    perform (once s) next = within (λ C P b n. let o = perform s inner_leaf P b n in committed next o b n (first_leaf o.marks))
    perform (while c s) next = λ P b n. loop n c (perform s) next P b n
    perform (decide c s t) next = within (λ C. cond (is_met C c) (perform s next) (perform t next))
    perform (generate xs) next = label xs next
    perform (rank pairs) next = rank_pairs pairs next

    -- statements one after another
    pub perform_all : Statements → Rest → Rest
    perform_all no_statements next = next
    perform_all (more_statements s ss) next = perform s (perform_all ss next)

    -- each statement as an alternative
    pub performed : Statements → Rest → List Rest
    performed no_statements next = []
    performed (more_statements s ss) next = perform s next ∷ performed ss next

    pub arm_of : Branch → Arm (Rest → Rest)
    arm_of (branch c key rising s) = record { when = c; key = key; rising = rising; body = perform s }

    pub arms : Branches → List (Arm (Rest → Rest))
    arms no_branches = []
    arms (more_branches b bs) = arm_of b ∷ arms bs
