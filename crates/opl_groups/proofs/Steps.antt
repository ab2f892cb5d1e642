-- Steps from choice to choice.
use Rattle.std.proofs.Common.{◌≡◌, ◌≢◌, ℕ, List, [], ◌∷◌, ◌++◌, Result, Some, Ok, Err, ap, subst, sym, ◌∙◌}
use Rattle.opl_eval.specs.declared.fault.EvalFault.{EvalFault}
use Rattle.opl_eval.specs.declared.fault.EvalFault.TheVariants.{OutOfMemory}
use Rattle.opl_eval.specs.Evaluation.{Environment}
use Rattle.opl_groups.specs.declared.choices.Progress.{Progress}
use Rattle.opl_groups.specs.declared.choices.Progress.TheVariants as progress
use Rattle.opl_groups.specs.declared.course.Ahead.{Ahead}
use Rattle.opl_groups.specs.declared.course.Ahead.TheVariants as ahead
use Rattle.opl_eval.specs.declared.turns.Turn.{Turn}
use Rattle.opl_eval.specs.Turns.{under}
use Rattle.opl_groups.specs.Courses.{Inner, pending, still}
use Rattle.opl_groups.specs.Met.{Met, first}
use Rattle.opl_groups.specs.Met.Met.{stopped}
use Rattle.opl_groups.specs.Visits.{Reaches, Steps}

first-append : (ms ns : List Met) (m : Met) → first ms ≡ Some m → first (ms ++ ns) ≡ Some m
first-append [] ns m h = cc
first-append (k ∷ ks) ns m h = h

reached : (inner : Inner) (env : Environment) (ts : List Turn) (before : List Met) (r : Result Progress EvalFault) → Reaches inner (under env ts) before r → Steps inner env (before ++ still inner env [] ts) ts r
reached inner env ts before (Ok (progress.On next)) h = ap (λ l. l ++ still inner env [] ts) h
reached inner env ts before (Ok progress.Met) h = ap (λ l. l ++ still inner env [] ts) h
reached inner env ts before (Ok progress.Ended) h = absurd h
reached inner env ts before (Err e) h = λ n. first-append before (still inner env [] ts) (stopped e) (h n)

-- a step from a group on
pub steps-groups : (inner : Inner) (env : Environment) (ts : List Turn) (a : Ahead) (place : ℕ) (r : Result Progress EvalFault) → a ≡ ahead.Groups place →
    Reaches inner (under env ts) (inner place (under env ts)) r → Steps inner env (pending inner env a ts) ts r
steps-groups inner env ts a place r e h =
    subst (λ b. Steps inner env (pending inner env b ts) ts r) (sym e)
    (reached inner env ts (inner place (under env ts)) r h)

-- a fault at a step is a fault of all steps
pub fault-behind : (before now : List Met) (e : EvalFault) → before ≡ now → (e ≢ OutOfMemory → first now ≡ Some (stopped e)) → e ≢ OutOfMemory → first before ≡ Some (stopped e)
fault-behind before now e s h n = ap first s ∙ h n
