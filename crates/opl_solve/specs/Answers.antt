-- What is asked of a machine, and what it answers.
use Rattle.std.specs.Prelude.{◌≡◌, ℕ, Bool, true, false, nat_le, Option, Some, None, Result, Ok, Err}
use Rattle.opl_outside.specs.declared.error.OutsideError.{OutsideError}
use Rattle.opl_outside.specs.declared.error.OutsideError.TheVariants.{OutOfMemory}
use Rattle.opl_search.specs.declared.machine.Last.TheVariants as at
use Rattle.opl_search.specs.Machines.{Searching, IsSolution, IsEnd}
use Rattle.opl_show.specs.declared.ending.Last.{Last}
use Rattle.opl_show.specs.declared.ending.Last.TheVariants as last

-- before the first call
abbrev pub IsBefore : Searching → Type 0
IsBefore m = (m.last ≡ at.Nothing) × (m.solutions ≡ 0) × (m.choices ≡ 0) × (m.best ≡ None)

-- the same search
abbrev pub IsSame : Searching → Searching → Type 0
IsSame m n = (n.core ≡ m.core) × (n.way ≡ m.way) × (n.budget ≡ m.budget)

-- so many solutions are as many as the limit says
abbrev pub is_met : Option ℕ → ℕ → Bool
is_met None k = false
is_met (Some n) k = nat_le n k

-- where so many solutions are found: another one, or how the search has ended; want of memory is the one fault
abbrev pub Turns : Option ℕ → ℕ → Searching → Searching → Result (Option Last) OutsideError → Type 0
Turns limit k m n (Ok None) = (is_met limit k ≡ false) × IsSolution m n × IsSame m n
Turns limit k m n (Ok (Some (last.End))) = (is_met limit k ≡ false) × IsEnd m n false at.End × IsSame m n
Turns limit k m n (Ok (Some (last.Limit))) = (is_met limit k ≡ true) × (n ≡ m)
Turns limit k m n (Ok (Some (last.Spent))) = (is_met limit k ≡ false) × IsEnd m n true at.Spent × IsSame m n
Turns limit k m n (Err fault) = fault ≡ OutOfMemory
