-- The marks of a whole search.
use Rattle.std.specs.Prelude.{ℕ, zero, suc, ◌+◌, ◌*◌, Bool, true, false, List, [], ◌∷◌, length, ℤ, Option, Some, None}
use Rattle.opl_domain.specs.Family.{Family}
use Rattle.opl_expr.specs.declared.model.Core.{Core}
use Rattle.opl_expr.specs.Forms.{Fact, term}
use Rattle.opl_expr.specs.Options.{lift1}
use Rattle.opl_expr.specs.Solutions.{base, declared}
use Rattle.opl_trace.specs.Objective.{Objective}
use Rattle.opl_trace.specs.Statements.{Statement, statement}
use Rattle.opl_trace.specs.Run.Mark.{choice, leaf, solution, cut}
use Rattle.opl_trace.specs.Run.{Mark, Out, Rest, marks_of, closed, whole_leaf, label, perform}

-- n numbers from x on
abbrev pub numbers_from : ℕ → ℕ → List ℕ
numbers_from x zero = []
numbers_from x (suc n) = x ∷ numbers_from (suc x) n

-- default labelling: a value for each of n variables in their order
abbrev pub labelled : Option Objective → (List Fact → Option ℤ → Option Family) → ℕ → Rest
labelled goal sets n = label goal sets (numbers_from zero n) (whole_leaf goal sets)

-- a section, if there is one, and then default labelling
abbrev pub searched : Option Objective → (List Fact → Option ℤ → Option Family) → ℕ → Option Statement → Rest
searched goal sets n None = labelled goal sets n
searched goal sets n (Some s) = perform goal sets s (labelled goal sets n)

-- what a whole search makes with n choices, where the declared sets are those of D
unfoldable pub trace : Option Objective → Family → Option Statement → List Fact → ℕ → Out
trace goal D section P n = searched goal (closed goal D) (length D) section P None n

-- ---- the search of a core

abbrev pub objective : Core → Option Objective
objective core = lift1 (λ g. record { is_most = g.maximize; term = term core.tables core.resources g.value }) core.goal

-- the search section, unless default search is asked
abbrev pub section : Bool → Core → Option Statement
section true core = None
section false core = lift1 (statement core.tables core.resources) core.search

abbrev pub core_trace : Bool → Core → ℕ → Out
core_trace default core n = trace (objective core) (declared core) (section default core) (base core) n

-- the marks of a core's search with n choices
abbrev pub core_marks : Bool → Core → ℕ → List Mark
core_marks default core n = marks_of (core_trace default core n)

-- how many non-empty prefixes the assignments of D have
abbrev pub prefixes : Family → ℕ
prefixes [] = zero
prefixes (vs ∷ D) = length vs * (1 + prefixes D)

-- the solutions among marks
abbrev pub solved : List Mark → List (List ℤ)
solved [] = []
solved (choice l ∷ ms) = solved ms
solved (leaf P ∷ ms) = solved ms
solved (solution a ∷ ms) = a ∷ solved ms
solved (cut ∷ ms) = solved ms
