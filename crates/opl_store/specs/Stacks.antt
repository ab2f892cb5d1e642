-- Stacks of families over declared sets, and in how many blocks two families differ.
use Rattle.std.specs.Prelude.{ℕ, zero, suc, ◌+◌, ◌/◌, ◌≤◌, ◌^◌, ◌&&◌, not, Bool, true, cond, List, [], ◌∷◌, ℤ, pos, ◌+ℤ◌, ◌≤ℤ◌, ◌<ℤ◌}
use Rattle.opl_domain.specs.Span.{values, span_size}
use Rattle.opl_domain.specs.Family.{Family, member, set_of, most_values}

-- a set is declared by its ends, and has all numbers from the first to the second
abbrev pub size_between : ℤ × ℤ → ℕ
size_between p = span_size (record { low = p.0; high = p.1 })

abbrev pub values_between : ℤ × ℤ → List ℤ
values_between p = values (record { low = p.0; high = p.1 })

-- it is not empty and not too large, and its numbers have 64 bits
abbrev pub IsRange : ℤ × ℤ → Type 0
IsRange p = (p.0 ≤ℤ p.1) × (size_between p ≤ most_values) × (p.1 <ℤ pos (2 ^ 63))

-- a block is 64 consecutive numbers of a declared set, counted from the least; the last block may be shorter
abbrev pub blocks : ℤ × ℤ → ℕ
blocks p = (size_between p + 63) / 64

abbrev pub all_blocks : List (ℤ × ℤ) → ℕ
all_blocks [] = zero
all_blocks (p ∷ ps) = blocks p + all_blocks ps

-- the declared sets; the family now; and the families at the opening of each open level, the last level first
pub record Stack : Type 0 where
  pub declared : List (ℤ × ℤ)
  pub top : Family
  pub below : List Family

-- of the n numbers from v on, two lists have the same
abbrev pub agree : ℕ → ℤ → List ℤ → List ℤ → Bool
agree zero v xs ys = true
agree (suc n) v xs ys = cond (member v xs) (member v ys) (not (member v ys)) && agree n (v +ℤ pos 1) xs ys

-- of the n blocks from the number v on, in how many two lists differ
abbrev pub blocks_differing : ℕ → ℤ → List ℤ → List ℤ → ℕ
blocks_differing zero v xs ys = zero
blocks_differing (suc n) v xs ys = cond (agree 64 v xs ys) 0 1 + blocks_differing n (v +ℤ pos 64) xs ys

-- in how many blocks two families differ, where the variables from x on have these declared sets
abbrev pub differing_from : List (ℤ × ℤ) → ℕ → Family → Family → ℕ
differing_from [] x F G = zero
differing_from (p ∷ ps) x F G = blocks_differing (blocks p) p.0 (set_of F x) (set_of G x) + differing_from ps (suc x) F G

-- the same of all variables
abbrev pub differing_blocks : List (ℤ × ℤ) → Family → Family → ℕ
differing_blocks declared F G = differing_from declared 0 F G
