-- What comes next, and what that makes.
use Rattle.std.specs.Prelude.{◌≡◌, ℕ, List, [], ◌∷◌, map, ℤ, Option}
use Rattle.opl_domain.specs.Family.{Family}
use Rattle.opl_expr.specs.Forms.{Fact}
use Rattle.opl_trace.specs.Objective.{Objective}
use Rattle.opl_trace.specs.Run as run
use Rattle.opl_trace.specs.Run.{Alternative, stopped, alternatives, committed, first_leaf}
use Rattle.opl_steps.specs.Tasks.{Task, End, end_of, doing}
use Rattle.opl_steps.specs.Tasks.End.{inner}
use Rattle.opl_steps.specs.Tasks.Task.{act}
use Rattle.opl_steps.specs.Steps.{Way, Next}
use Rattle.opl_steps.specs.Steps.Next.{finished, nothing, spent, go, choose, commit}

module _ (goal : Option Objective) (sets : List Fact → Option ℤ → Option Family) where
  -- what each way makes, from its own constraints
  abbrev pub rests : End → List Way → List Alternative
  rests end ws = map (λ w. record { label = w.label; rest = λ P. doing goal sets end w.tasks w.posted }) ws

  -- the tasks make what comes next
  abbrev pub Means : End → List Task → List Fact → Option ℤ → ℕ → Next → Type 0
  Means e ts P b n finished = doing goal sets e ts P b n ≡ end_of goal sets e P b n
  Means e ts P b n nothing = doing goal sets e ts P b n ≡ run.nothing P b n
  Means e ts P b n spent = doing goal sets e ts P b n ≡ stopped b
  Means e ts P b n (go w) = doing goal sets e ts P b n ≡ doing goal sets e w.tasks w.posted b n
  Means e ts P b n (choose ws) = doing goal sets e ts P b n ≡ alternatives (rests e ws) [] b n
  Means e ts P b n (commit s us) = doing goal sets e ts P b n ≡ (let o = doing goal sets inner (act s ∷ []) P b n in committed (doing goal sets e us) o b n (first_leaf o.marks))
