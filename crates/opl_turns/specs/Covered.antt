-- Which variables will be given a value by labelling before a search comes to the end of what is to be done.
use Rattle.std.specs.Prelude.{◌≡◌, ℕ, Bool, true, false, ◌||◌, ◌⊎◌, nat_eq, List, [], ◌∷◌, ℤ}
use Rattle.std.specs.List.{list_any}
use Rattle.opl_domain.specs.Family.{Family, has}
use Rattle.opl_steps.specs.Tasks.{Task}
use Rattle.opl_steps.specs.Tasks.Task.{act, values, orders, elements, turns}

-- variable y is one of those that some task labels
abbrev pub labels : List Task → ℕ → Bool
labels [] y = false
labels (act s ∷ ts) y = labels ts y
labels (values xs ∷ ts) y = list_any (nat_eq y) xs || labels ts y
labels (orders ps ∷ ts) y = labels ts y
labels (elements es ∷ ts) y = labels ts y
labels (turns m c s ∷ ts) y = labels ts y

-- the set of variable y has no two values
abbrev pub IsAlone : Family → ℕ → Type 0
IsAlone F y = (v w : ℤ) → has F y v ≡ true → has F y w ≡ true → v ≡ w

-- no set has two values
abbrev pub AreAlone : Family → Type 0
AreAlone F = (y : ℕ) → IsAlone F y

-- each set that has two values is that of a variable that a task labels
abbrev pub Covers : Family → List Task → Type 0
Covers F ts = (y : ℕ) → IsAlone F y ⊎ (labels ts y ≡ true)
