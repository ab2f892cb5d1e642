-- A variable that was given a value needs no label.
use Rattle.std.proofs.Common.{◌≡◌, ◌∙◌, ℕ, List, [], ◌∷◌, ◌++◌, ℤ, sym}
use Rattle.std.specs.Prelude.{Option, Some}
use Rattle.opl_domain.specs.Family.{Family, Below}
use Rattle.opl_expr.specs.Forms.{Fact}
use Rattle.opl_trace.specs.Answers.{is_value}
use Rattle.opl_trace.specs.Objective.{Objective}
use Rattle.opl_trace.specs.Run.{closed}
use Rattle.opl_trace.proofs.Posting.{posted_is_single}
use Rattle.opl_steps.specs.Tasks.{Task}
use Rattle.opl_steps.specs.Tasks.Task.{values}
use Rattle.opl_turns.specs.Covered.{IsAlone, Covers}
use Rattle.opl_turns.proofs.Covered.{covers_single, covers_below}

-- once x has the value v, it needs no label
pub covers_posted : (goal : Option Objective) (D F C : Family) (P : List Fact) (b : Option ℤ) (x : ℕ) (v : ℤ) (xs : List ℕ) (ts : List Task) →
    Covers F (values (x ∷ xs) ∷ ts) → closed goal D (P ++ is_value x v ∷ []) b ≡ Some C → Below C F → Covers C (values xs ∷ ts)
covers_posted goal D F C P b x v xs ts h e k =
    let one : IsAlone C x = λ u w m n. posted_is_single goal D P b x v u C e m ∙ sym (posted_is_single goal D P b x v w C e n) in
    covers_single C x xs ts one (covers_below C F (values (x ∷ xs) ∷ ts) k h)
