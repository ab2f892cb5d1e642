-- Laws of objectives.
use Rattle.std.specs.Prelude.{◌≡◌, ◌≢◌, ◌↔◌, ℕ, ◌+◌, ◌≤◌, ℤ, Bool, true, List, [], ◌∷◌, ◌++◌, Option, Some, None, Ok}
use Rattle.std.specs.List.{All, AllPairs}
use Rattle.opl_eval.specs.Evaluation.{Environment}
use Rattle.opl_meaning.specs.declared.variable.VariableItem.{VariableItem}
use Rattle.opl_meaning.specs.Runs.{Names}
use Rattle.opl_meaning.specs.Variables.{sets_of}
use Rattle.opl_draft.specs.Drafts.{Cells, Draft}
use Rattle.opl_draft.specs.Laws.{AreDeclared, arrays as arrays_in}
use Rattle.opl_draft.specs.Solutions.{Model, satisfies}
use Rattle.opl_draft.specs.Unrolled.{is_clean, unrolled}
use Rattle.opl_expr.specs.declared.forms.Expr.{Expr}
use Rattle.opl_expr.specs.Forms.{Term}
use Rattle.opl_expr.specs.Holds.{value}
use Rattle.opl_expr.specs.Sound.{IsSmall, IsSoundTerm}
use Rattle.opl_form.specs.Parts.{Form, as_number}
use Rattle.opl_form.specs.Measures.{depth, nodes}
use Rattle.opl_form.specs.Nodes.{size}
use Rattle.opl_form.specs.Worth.{plain}
use Rattle.opl_form.specs.Laws.{AreSoundArrays, IsAssignment, declared_ends}
use Rattle.opl_trace.specs.Objective as cores
use Rattle.opl_optimum.specs.Optima.{Objective, Problem, better_than, improving, improving_by, is_defined, objective_value, solutions, value_of}
use Rattle.opl_optimum.specs.Goals.{goal_form}
use Rattle.opl_optimum.specs.Best.{HasOneOfEach, IsAmong, IsBestOf, Precedes}

-- ---- objectives of cores

-- Under each assignment of the declared sets, the expression of an objective has the value of the objective, and none where the objective has none.
abbrev pub GoalMeans : Type 0
GoalMeans = (items : List VariableItem) (names : Names) (env : Environment) (item : ℕ) (g : Objective) (f : Form) → AreDeclared items names →
    AreSoundArrays (declared_ends items) (arrays_in env items) → is_clean items names g.term ≡ true →
    goal_form (declared_ends items) (arrays_in env items) item (unrolled items names g.term env) ≡ Ok f →
    (ns : List ℤ) → IsAssignment (declared_ends items) ns → value ns (plain (arrays_in env items) (as_number f)) ≡ objective_value env items g ns

-- An expression is sound, twice its magnitude is small, and it is at most 2048 deep and has at most 4194304 nodes.
pub record IsSoundNumber (sets : List (ℤ × ℤ)) (arrays : List Cells) (e : Expr) : Type 0 where
  pub sound : IsSoundTerm sets (plain arrays e)
  pub twice : IsSmall (size sets arrays e + size sets arrays e)
  pub depth : depth e ≤ 2048
  pub nodes : nodes e ≤ 4194304

-- The expression of an objective is sound, can be compared with its own values, and is within the limits.
abbrev pub GoalIsSound : Type 0
GoalIsSound = (sets : List (ℤ × ℤ)) (arrays : List Cells) (item : ℕ) (d : Draft) (f : Form) → AreSoundArrays sets arrays → goal_form sets arrays item d ≡ Ok f →
    IsSoundNumber sets arrays (as_number f)

-- ---- the better ones

-- Where an expression has the value of an objective on each of a list, the better ones of the list are the same.
abbrev pub ImprovingAgrees : Type 0
ImprovingAgrees = (m : Model) (g : Objective) (t : Term) (list : List (List ℤ)) → All (λ ns. value ns t ≡ objective_value m.environment m.variables g ns) list →
    cores.improving (Some (record { is_most = g.is_most; term = t })) list ≡ improving_by m (Some g) list

-- ---- the best one

-- The last of the better ones of a list in lexicographic order is the best of the list.
abbrev pub LastIsBest : Type 0
LastIsBest = (is_most : Bool) (value : List ℤ → Option ℤ) (list before : List (List ℤ)) (ns : List ℤ) → AllPairs Precedes list →
    better_than is_most value None list ≡ before ++ ns ∷ [] → IsBestOf is_most value list ns

-- The solutions of a problem are in lexicographic order.
abbrev pub SolutionsInOrder : Type 0
SolutionsInOrder = (p : Problem) → AllPairs Precedes (solutions p)

-- The last of the better solutions of a problem with an objective is the best solution.
abbrev pub BestIsBest : Type 0
BestIsBest = (p : Problem) (g : Objective) (before : List (List ℤ)) (ns : List ℤ) → p.objective ≡ Some g → improving p (solutions p) ≡ before ++ ns ∷ [] →
    IsBestOf g.is_most (value_of p) (solutions p) ns

-- Each solution of a problem with an objective has a value.
abbrev pub SolutionsHaveValues : Type 0
SolutionsHaveValues = (p : Problem) (g : Objective) (ns : List ℤ) → p.objective ≡ Some g → IsAmong ns (solutions p) → (v : ℤ) × (value_of p ns ≡ Some v)

-- Where there is a solution, there is a best one.
abbrev pub SomeIsBest : Type 0
SomeIsBest = (p : Problem) → solutions p ≢ [] → improving p (solutions p) ≢ []

-- No solution is lost, and each one is a solution: an assignment of the declared sets on which all conditions hold, and the objective is defined.
abbrev pub SolutionsAre : Type 0
SolutionsAre = (p : Problem) (ns : List ℤ) → IsAmong ns (solutions p) ↔ (HasOneOfEach (sets_of p.model.variables) ns × (satisfies p.model ns ≡ true) × (is_defined p ns ≡ true))
