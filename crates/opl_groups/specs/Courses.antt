-- What is met under choices that are made one after another, and what is still to be met.
use Rattle.std.specs.Prelude.{◌≡◌, ◌++◌, ℕ, Bool, cond, List, [], ◌∷◌}
use Rattle.opl_term.specs.declared.term.Pattern.{Pattern}
use Rattle.opl_value.specs.declared.value.Value.{Value}
use Rattle.opl_eval.specs.Evaluation.{Environment, bound, with_parameters}
use Rattle.opl_eval.specs.Turns.{left, under}
use Rattle.opl_eval.specs.declared.turns.Course.{Course}
use Rattle.opl_eval.specs.declared.turns.Turn.{Turn}
use Rattle.opl_groups.specs.declared.course.Ahead.{Ahead}
use Rattle.opl_groups.specs.declared.course.Ahead.TheVariants as ahead
use Rattle.opl_groups.specs.Met.{Met}

-- what is met for each value, by what stands behind it
abbrev pub turns : (List Value → Value → List Met) → List Value → List Met
turns f [] = []
turns f (v ∷ vs) = f vs v ++ turns f vs

-- what is met under all choices of these values for these patterns, where each next one is of all values, or of those behind it
abbrev pub along : Bool → List Pattern → List Value → (Environment → List Met) → Environment → List Met
along is_ordered [] vs inner env = inner env
along is_ordered (p ∷ ps) vs inner env = turns (λ later v. along is_ordered ps (cond is_ordered later vs) inner (with_parameters (bound p v) env)) vs

-- what is met from the group at a place on
abbrev pub Inner : Type 0
Inner = ℕ → Environment → List Met

-- what is met by what is left for a pattern
abbrev pub left_of : Inner → Course → Environment → List Met
left_of inner c env = turns (λ behind v. along c.is_ordered c.others.now (cond c.is_ordered behind (left c.all)) (inner c.later) (with_parameters (bound c.pattern.now v) env)) (left c.rest)

-- what is met by what is left for turns, the last turn first
abbrev pub still : Inner → Environment → List Met → List Turn → List Met
still inner env after [] = after
still inner env after (t ∷ ts) = still inner (with_parameters (bound t.course.pattern.now t.element) env) (left_of inner t.course env ++ after) ts

-- what is met next
abbrev pub ahead_in : Inner → Ahead → Environment → List Met
ahead_in inner (ahead.Groups place) env = inner place env
ahead_in inner (ahead.Patterns n) env = along n.is_ordered n.patterns.now (left n.elements) (inner n.later) env
ahead_in inner ahead.Back env = []

-- all that is to be met
abbrev pub pending : Inner → Environment → Ahead → List Turn → List Met
pending inner env next ts = ahead_in inner next (under env ts) ++ still inner env [] ts

-- the same is to be met
abbrev pub GoesOn : Ahead → List Turn → Ahead → List Turn → Type 0
GoesOn before ts next us = (inner : Inner) (env : Environment) → pending inner env before ts ≡ pending inner env next us
