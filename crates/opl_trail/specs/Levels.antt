-- Lists of words, level by level.
use Rattle.std.specs.Prelude.{ℕ, zero, suc, ◌+◌, cond, nat_eq, List, slice_index}

-- the words now, and those at the opening of each open level, the last level first
pub record Levels : Type 0 where
  pub top : List ℕ
  pub below : List (List ℕ)

-- of the n words from place k on, how many differ between two lists
abbrev pub changed : List ℕ → List ℕ → ℕ → ℕ → ℕ
changed old new k zero = zero
changed old new k (suc n) = cond (nat_eq (slice_index old k) (slice_index new k)) 0 1 + changed old new (suc k) n
