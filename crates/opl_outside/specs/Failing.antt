-- Which calls fail, where they are named beforehand by their numbers.
use Rattle.std.specs.Prelude.{◌≡◌, ℕ, ◌/◌, Bool, true, false, List, length, take, nat_eq, Result, Ok, Err}
use Rattle.std.specs.List.{list_any}
use Rattle.opl_outside.specs.Counts.{raised}
use Rattle.opl_outside.specs.declared.error.OutsideError.{OutsideError}
use Rattle.opl_outside.specs.declared.error.OutsideError.TheVariants.{Failed, OutOfMemory}
use Rattle.opl_outside.specs.declared.failing.FailingCalls.{FailingCalls}

-- whether the next call fails: the first call has the number 1
abbrev pub fails_next : FailingCalls → Bool
fails_next calls = list_any (λ number. nat_eq number (raised calls.made)) calls.numbers

-- one more call was made
abbrev pub after_call : FailingCalls → FailingCalls
after_call calls = record calls { made = raised calls.made }

-- a call failed exactly where its number is named; one that wanted memory is not counted
abbrev pub FailsWhereNamed : {A : Type 0} → FailingCalls → FailingCalls → Result A OutsideError → Type 0
FailsWhereNamed old new (Ok x) = (fails_next old ≡ false) × (new ≡ after_call old)
FailsWhereNamed old new (Err Failed) = (fails_next old ≡ true) × (new ≡ after_call old)
FailsWhereNamed old new (Err OutOfMemory) = new ≡ old

-- the first half of a piece, rounded down
abbrev pub first_half : List ℕ → List ℕ
first_half piece = take (length piece / 2) piece
