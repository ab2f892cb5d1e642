-- Counts of faults.
use Rattle.std.specs.Prelude.{◌≡◌, ℕ, ◌+◌, ◌-◌, ◌^◌, ◌≤◌, min, Result, Ok, Err}
use Rattle.opl_outside.specs.declared.error.OutsideError.{OutsideError}
use Rattle.opl_outside.specs.declared.error.OutsideError.TheVariants.{Failed, OutOfMemory}

-- one more; at the last value of the counter, a `u64`, it stands still
abbrev pub raised : ℕ → ℕ
raised count = min (count + 1) (2 ^ 64 - 1)

-- the count did not fall, and it rose or stands at its last value
abbrev pub Rose : ℕ → ℕ → Type 0
Rose before now = (before ≤ now) × (raised before ≤ now)

-- only a fault is counted
abbrev pub Counts : {A : Type 0} → ℕ → ℕ → Result A OutsideError → Type 0
Counts before now (Ok x) = now ≡ before
Counts before now (Err Failed) = Rose before now
Counts before now (Err OutOfMemory) = now ≡ before

-- a fault is counted once, and nothing else is
abbrev pub CountsOnce : {A : Type 0} → ℕ → ℕ → Result A OutsideError → Type 0
CountsOnce before now (Ok x) = now ≡ before
CountsOnce before now (Err Failed) = now ≡ raised before
CountsOnce before now (Err OutOfMemory) = now ≡ before
