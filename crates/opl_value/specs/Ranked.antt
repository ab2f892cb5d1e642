-- Values beside their places, as they are sorted.
use Rattle.std.specs.Prelude.{◌≡◌, ℕ, zero, suc, ◌<◌, List, [], ◌∷◌, ◌++◌, length, map}
use Rattle.std.specs.Borrow.{Bor}
use Rattle.std.specs.List.{All, Contains}
use Rattle.opl_value.specs.declared.value.Value.{Value}
use Rattle.opl_value.specs.Places.{value_at}

-- each pair has a place of the list and the value there
abbrev pub IsPaired : List Value → Bor Value × ℕ → Type 0
IsPaired values p = (p.1 < length values) × (p.0.now ≡ value_at values p.1)

-- the numbers below n, in their order
abbrev pub numbers_below : ℕ → List ℕ
numbers_below zero = []
numbers_below (suc n) = numbers_below n ++ n ∷ []

-- the first n values are paired with their places, in the order of these
pub record ArePaired (values : List Value) (n : ℕ) (pairs : List (Bor Value × ℕ)) : Type 0 where
  pub all : All (IsPaired values) pairs
  pub each : (j : ℕ) → j < n → (p : Bor Value × ℕ) × Contains pairs p × (p.1 ≡ j)
  pub ordered : map (λ p. p.1) pairs ≡ numbers_below n
