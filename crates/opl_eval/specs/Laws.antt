-- Laws of data expressions and of their numbers.
use Rattle.std.specs.Prelude.{◌≡◌, ◌≢◌, ◌<◌, ℕ, ℤ, ◌+ℤ◌, ◌*ℤ◌, unsigned_abs, List, Ok, Err}
use Rattle.opl_term.specs.declared.term.SetTerm.{SetTerm}
use Rattle.opl_term.specs.declared.term.Term.{Term}
use Rattle.opl_eval.specs.declared.arithmetic.Operation.{Operation}
use Rattle.opl_eval.specs.declared.fault.EvalFault.TheVariants.{OutOfMemory}
use Rattle.opl_eval.specs.Arithmetic.{IsSmall, run, quotient, remainder}
use Rattle.opl_eval.specs.Evaluation.{Environment, eval, set_meaning}

-- what a chain gives is small, where its first operand is
abbrev pub ResultsAreSmall : Type 0
ResultsAreSmall = (at : ℕ) (a : ℤ) (os : List Operation) (n : ℤ) → IsSmall a → run at a os ≡ Ok n → IsSmall n

-- a number is the divisor times the quotient, and the remainder, which is nearer to 0 than the divisor
abbrev pub QuotientsLeaveRemainders : Type 0
QuotientsLeaveRemainders = (at : ℕ) (a b q r : ℤ) → quotient at a b ≡ Ok q → remainder at a b ≡ Ok r
    → (a ≡ b *ℤ q +ℤ r) × (unsigned_abs r < unsigned_abs b)

-- want of memory is no fault of an expression
abbrev pub NeverMemory : Type 0
NeverMemory = (t : Term) (env : Environment) → eval t env ≢ Err OutOfMemory

-- nor of a set
abbrev pub SetsNeverMemory : Type 0
SetsNeverMemory = (s : SetTerm) (env : Environment) → (set_meaning s).value env ≢ Err OutOfMemory
