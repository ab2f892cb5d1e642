-- Parts one after another: what is made of them so far.
use Rattle.std.specs.Prelude.{ℕ, ℤ, pos, Bool, true, false, ◌||◌, ◌&&◌, List, [], ◌∷◌, ◌++◌, Ok, Err}
use Rattle.std.specs.Int.{int_min, int_max}
use Rattle.opl_tree.specs.declared.expression.AggregateOp.{AggregateOp}
use Rattle.opl_tree.specs.declared.expression.AggregateOp.TheVariants as aggregates
use Rattle.opl_eval.specs.declared.fault.EvalFault.TheVariants.{EmptyMinMax}
use Rattle.opl_eval.specs.Arithmetic.{then}
use Rattle.opl_eval.specs.Compare.{number}
use Rattle.opl_eval.specs.Evaluation as evaluation
use Rattle.opl_eval.specs.Evaluation.{Found, is_true}
use Rattle.opl_draft.specs.Drafts.{Cells, Draft}
use Rattle.opl_draft.specs.Drafts.Sign.{plus, times}
use Rattle.opl_held.specs.declared.connective.Connective.{Connective}
use Rattle.opl_held.specs.declared.connective.Connective.TheVariants.{Equivalent, Or, And}
use Rattle.opl_held.specs.declared.outcome.Outcome.{Outcome}
use Rattle.opl_held.specs.declared.outcome.Outcome.TheVariants.{Fixed}
use Rattle.opl_held.specs.Outcomes.{Worth, both, changed}
use Rattle.opl_held.specs.Worth.{Sum, added, worth}

-- ---- truths

-- Two truths.
abbrev pub joined : Connective → Bool → Bool → Bool
joined Equivalent a b = evaluation.same a b
joined Or a b = a || b
joined And a b = a && b

-- Of no truths.
abbrev pub start : Connective → Bool
start Equivalent = true
start Or = false
start And = true

-- One truth more.
abbrev pub met : Connective → Outcome Bool → Worth → Outcome Bool
met c s o = changed (λ p. joined c p.0 (is_true p.1)) (both s o)

-- ---- aggregates

-- Of no numbers.
abbrev pub nothing : AggregateOp → ℕ → Found ℤ
nothing aggregates.Sum at = Ok (pos 0)
nothing aggregates.Product at = Ok (pos 1)
nothing aggregates.Min at = Err (EmptyMinMax at)
nothing aggregates.Max at = Err (EmptyMinMax at)

-- The least number so far, and one more.
abbrev pub lesser : Found ℤ → ℤ → Found ℤ
lesser (Ok m) n = Ok (int_min m n)
lesser (Err fault) n = Ok n

-- The greatest number so far, and one more.
abbrev pub greater : Found ℤ → ℤ → Found ℤ
greater (Ok m) n = Ok (int_max m n)
greater (Err fault) n = Ok n

-- One factor more; the fault of a product without variables stays, whatever follows.
abbrev pub multiplied : ℕ → Sum → Worth → Sum
multiplied at (Fixed (Err fault)) o = Fixed (Err fault)
multiplied at s o = added at times s o

-- One body more.
abbrev pub gathered : AggregateOp → ℕ → Sum → Worth → Sum
gathered aggregates.Sum at s o = added at plus s o
gathered aggregates.Product at s o = multiplied at s o
gathered aggregates.Min at s o = changed (λ p. lesser p.0 (number p.1)) (both s o)
gathered aggregates.Max at s o = changed (λ p. greater p.0 (number p.1)) (both s o)

-- ---- drafts one after another

-- One part behind others.
abbrev pub longer : List Worth → Worth → List Worth
longer os o = os ++ o ∷ []

-- What is made of drafts, each by one step.
abbrev pub behind : {S : Type 0} → List Cells → List ℤ → (S → Worth → S) → S → List Draft → Found S
behind arrays ns more s [] = Ok s
behind arrays ns more s (d ∷ ds) = then (worth arrays ns d) (λ o. behind arrays ns more (more s o) ds)
