-- The value of decimal digits, read from the left.
use Rattle.std.proofs.Common.{ℕ, ◌+◌, ◌-◌, ◌*◌, ◌^◌, ◌<◌, ◌≤◌, List, arith}
use Rattle.std.specs.List.{fold}
use Rattle.std.proofs.Math.Nat.{pow-le-pow_right}

-- the value of digits behind digits of the value n
abbrev pub decimal_from : ℕ → List ℕ → ℕ
decimal_from n digits = fold (λ value digit. 10 * value + (digit - 48)) n digits

-- what is written with up to 18 digits
pub few : (i : ℕ) → i < 19 → 10 ^ i ≤ 10 ^ 18
few i h = pow-le-pow_right {n = 10} (omega arith) {i = i} {j = 18} (omega arith)
