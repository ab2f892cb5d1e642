-- What is found under choices that are made one after another, and what is still to be found.
use Rattle.std.specs.Prelude.{◌≡◌, ◌≢◌, ◌-◌, ◌++◌, ℕ, Bool, cond, List, [], ◌∷◌, drop, Option, Some, None, Result, Ok, Err}
use Rattle.opl_term.specs.declared.term.Pattern.{Pattern}
use Rattle.opl_value.specs.declared.value.Value.{Value}
use Rattle.opl_value.specs.Places.{numbers_between}
use Rattle.opl_eval.specs.declared.fault.EvalFault.{EvalFault}
use Rattle.opl_eval.specs.declared.fault.EvalFault.TheVariants.{OutOfMemory}
use Rattle.opl_eval.specs.declared.elements.Elements.{Elements}
use Rattle.opl_eval.specs.declared.elements.Elements.TheVariants as elements
use Rattle.opl_eval.specs.declared.turns.Course.{Course}
use Rattle.opl_eval.specs.declared.turns.Turn.{Turn}
use Rattle.opl_eval.specs.declared.turns.Ahead.{Ahead}
use Rattle.opl_eval.specs.declared.turns.Ahead.TheVariants as ahead
use Rattle.opl_eval.specs.Arithmetic.{then}
use Rattle.opl_eval.specs.Evaluation.{Environment, Found, found, bound, parameter_or, with_parameters}
use Rattle.opl_eval.specs.Visible.{names_on}

-- the elements that are left
abbrev pub left : Elements → List Value
left (elements.Listed vs place) = drop place vs.value
left (elements.Between low high) = numbers_between low high
left (elements.Named declaration p end) = names_on declaration p (end - p)

-- what is found for each value, by what stands behind it
abbrev pub turns : {A : Type 0} → (List Value → Value → Found (List A)) → List Value → Found (List A)
turns f [] = Ok []
turns f (v ∷ vs) = then (f vs v) (λ xs. found (λ ys. xs ++ ys) (turns f vs))

-- what is found under all choices of these values for these patterns, where each next one is of all values, or of those behind it
abbrev pub chosen : {A : Type 0} → Bool → List Pattern → List Value → (Environment → Found (List A)) → Environment → Found (List A)
chosen is_ordered [] vs inner env = inner env
chosen is_ordered (p ∷ ps) vs inner env = turns (λ later v. chosen is_ordered ps (cond is_ordered later vs) inner (with_parameters (bound p v) env)) vs

-- what is found behind the groups up to a place
abbrev pub Inner : Type 0
Inner = ℕ → Environment → Found (List Value)

-- what is found first, and then more
abbrev pub both : {A : Type 0} → Found (List A) → Found (List A) → Found (List A)
both first more = then first (λ xs. found (λ ys. xs ++ ys) more)

-- the environment with what turns chose, the first turn first
abbrev pub under : Environment → List Turn → Environment
under env [] = env
under env (t ∷ ts) = under (with_parameters (bound t.course.pattern.now t.element) env) ts

-- what is found by what is left for a pattern
abbrev pub left_of : Inner → Course → Environment → Found (List Value)
left_of inner c env = turns (λ behind v. chosen c.is_ordered c.others.now (cond c.is_ordered behind (left c.all)) (inner c.later) (with_parameters (bound c.pattern.now v) env)) (left c.rest)

-- what is found by what is left for turns, the last turn first
abbrev pub still : Inner → Environment → Found (List Value) → List Turn → Found (List Value)
still inner env after [] = after
still inner env after (t ∷ ts) = still inner (with_parameters (bound t.course.pattern.now t.element) env) (both (left_of inner t.course env) after) ts

-- what is found next
abbrev pub ahead_in : Inner → Ahead → Environment → Found (List Value)
ahead_in inner (ahead.Groups place) env = inner place env
ahead_in inner (ahead.Patterns n) env = chosen n.is_ordered n.patterns.now (left n.elements) (inner n.later) env
ahead_in inner ahead.Back env = Ok []

-- all that is to be found
abbrev pub pending : Inner → Environment → Ahead → List Turn → Found (List Value)
pending inner env next ts = both (ahead_in inner next (under env ts)) (still inner env (Ok []) ts)

-- the same is to be found
abbrev pub GoesOn : Ahead → List Turn → Ahead → List Turn → Type 0
GoesOn before ts next us = (inner : Inner) (env : Environment) → pending inner env before ts ≡ pending inner env next us

-- what a function answers that finds what is next
abbrev pub Leads : (Inner → Found (List Value)) → Environment → Result Ahead EvalFault → Type 0
Leads what env (Ok next) = (inner : Inner) → what inner ≡ ahead_in inner next env
Leads what env (Err e) = e ≢ OutOfMemory → (inner : Inner) → what inner ≡ Err e

-- ---- names

-- the first value, else the second
abbrev pub or_before : Option Value → Option Value → Option Value
or_before None before = before
or_before (Some v) before = Some v

-- the value that the latest turn gives to a name, else the one before
abbrev pub in_turns : Option Value → List ℕ → List Turn → Option Value
in_turns before name [] = before
in_turns before name (t ∷ ts) = in_turns (parameter_or before name (bound t.course.pattern.now t.element)) name ts
