-- Queues: those who wait, in the order in which they are taken.
use Rattle.std.specs.Prelude.{◌≡◌, ℕ, zero, ◌+◌, ◌≤◌, Bool, true, cond, nat_eq, List, [], ◌∷◌, length}
use Rattle.opl_closure.specs.Waits.{waits, count_waits}

-- how often i stands in a list
abbrev pub occurrences : ℕ → List ℕ → ℕ
occurrences i [] = zero
occurrences i (j ∷ others) = cond (nat_eq i j) 1 0 + occurrences i others

-- a queue for members, some of whom wait: each that waits is queued, and the queue lists once each that is queued; there is
-- room for all of them
pub record IsQueue (flags queued : List Bool) (queue : List ℕ) (room : ℕ) : Type 0 where
  pub same : length queued ≡ length flags
  pub waiting : (i : ℕ) → waits flags i ≡ true → waits queued i ≡ true
  pub places : (i : ℕ) → occurrences i queue ≡ cond (waits queued i) 1 0
  pub count : length queue ≡ count_waits queued
  pub fits : length flags ≤ room
