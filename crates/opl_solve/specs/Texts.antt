-- The text of what a search finds.
use Rattle.std.specs.Prelude.{ℕ, zero, suc, ◌+◌, ◌-◌, ◌^◌, min, Bool, true, false, cond, nat_le, List, [], ◌∷◌, ◌++◌, length, take, ℤ, Option, Some, None}
use Rattle.opl_meaning.specs.declared.variable.VariableItem.{VariableItem}
use Rattle.opl_show.specs.Texts.{Enumerations, solution_text, closing}
use Rattle.opl_show.specs.declared.ending.Last.{Last}
use Rattle.opl_show.specs.declared.ending.Last.TheVariants as last
use Rattle.opl_trace.specs.Objective.{Objective, best_after}
use Rattle.opl_trace.specs.Run.Mark.{choice, leaf, solution, cut}
use Rattle.opl_trace.specs.Run.{Mark, Out, choices}
use Rattle.opl_trace.specs.Marks.{solved}
use Rattle.opl_solve.specs.declared.show.Showing.{Showing}

-- ---- up to a limit

-- the solutions that are found, up to the limit, if there is one
abbrev pub found : Option ℕ → Out → List (List ℤ)
found None out = solved out.marks
found (Some n) out = take n (solved out.marks)

-- as many solutions are found as the limit says
abbrev pub is_limited : Option ℕ → Out → Bool
is_limited None out = false
is_limited (Some n) out = nat_le n (length (solved out.marks))

-- how many choices stand among marks before the nth solution; all of them where there are fewer solutions
abbrev pub choices_until : ℕ → List Mark → ℕ
choices_until zero ms = 0
choices_until (suc n) [] = 0
choices_until (suc n) (choice l ∷ ms) = suc (choices_until (suc n) ms)
choices_until (suc n) (leaf P ∷ ms) = choices_until (suc n) ms
choices_until (suc n) (solution a ∷ ms) = choices_until n ms
choices_until (suc n) (cut ∷ ms) = choices_until (suc n) ms

-- how many choices are made: those before the last solution that a limit lets be found, or all
abbrev pub choices_made : Option ℕ → Out → ℕ
choices_made None out = choices out.marks
choices_made (Some n) out = choices_until n out.marks

-- how a search ends: at its limit, with its choices spent, or where no other solution is left
abbrev pub ending : Option ℕ → Out → Last
ending limit out = cond (is_limited limit out) last.Limit (cond out.is_cut last.Spent last.End)

-- ---- values of the objective

-- the value of the objective, if there is one, under a solution
abbrev pub goal_value : Option Objective → List ℤ → Option ℤ
goal_value goal ns = best_after goal ns None

-- the last of a list; of an empty one `before`
abbrev pub last_from : (before : Option (List ℤ)) → List (List ℤ) → Option (List ℤ)
last_from before [] = before
last_from before (ns ∷ list) = last_from (Some ns) list

-- the value under a solution, if there is one
abbrev pub value_of : Option Objective → Option (List ℤ) → Option ℤ
value_of goal None = None
value_of goal (Some ns) = goal_value goal ns

-- the best value that was found: that of the last solution
abbrev pub best_of : Option Objective → List (List ℤ) → Option ℤ
best_of goal list = value_of goal (last_from None list)

-- ---- what is shown

-- a solution, if there is one
abbrev pub alone : Option (List ℤ) → List (List ℤ)
alone None = []
alone (Some ns) = ns ∷ []

-- each solution of a list, or the last one alone
abbrev pub shown : (is_each : Bool) → List (List ℤ) → List (List ℤ)
shown true list = list
shown false list = alone (last_from None list)

-- one more; at 2 ^ 64 - 1 it stands still
abbrev pub counted : ℕ → ℕ
counted number = min (number + 1) (2 ^ 64 - 1)

-- solutions, where so many are shown before
unfoldable pub solution_texts : Option Objective → Enumerations → List VariableItem → (before : ℕ) → List (List ℤ) → List ℕ
solution_texts goal enumerations items before [] = []
solution_texts goal enumerations items before (ns ∷ rest) =
    solution_text enumerations items (counted before) ns (goal_value goal ns) ++ solution_texts goal enumerations items (counted before) rest

-- how many solutions are shown after these, where so many are shown before
unfoldable pub count_from : (before : ℕ) → List (List ℤ) → ℕ
count_from before [] = before
count_from before (ns ∷ rest) = count_from (counted before) rest

-- the solutions that are shown of what a search makes
abbrev pub shown_of : Showing → Out → List (List ℤ)
shown_of showing out = shown showing.is_each (found showing.limit out)

-- the closing lines of what a search makes
abbrev pub closing_of : Option Objective → Showing → Out → List ℕ
closing_of goal showing out =
    closing (count_from 0 (shown_of showing out)) (choices_made showing.limit out) (best_of goal (found showing.limit out)) (ending showing.limit out)

-- the whole text of what a search makes: the solutions, each with its number, and the closing lines
unfoldable pub search_text : Option Objective → Enumerations → List VariableItem → Showing → Out → List ℕ
search_text goal enumerations items showing out = solution_texts goal enumerations items 0 (shown_of showing out) ++ closing_of goal showing out
