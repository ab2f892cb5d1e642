-- What the best of a list of assignments is, in other words.
use Rattle.std.specs.Prelude.{◌≡◌, ◌⊎◌, ℤ, ◌≤ℤ◌, ◌<ℤ◌, Bool, false, List, [], ◌∷◌, Option}
use Rattle.opl_meaning.specs.declared.variable.DeclaredSet.{DeclaredSet}
use Rattle.opl_optimum.specs.Optima.{is_better}

-- One of a list.
abbrev pub IsAmong : {A : Type 0} → A → List A → Type 0
IsAmong x [] = ⊥
IsAmong x (y ∷ ys) = (x ≡ y) ⊎ IsAmong x ys

-- An assignment stands before another in lexicographic order: at the first place where they differ it has the lesser number.
abbrev pub Precedes : List ℤ → List ℤ → Type 0
Precedes [] ys = ⊥
Precedes (x ∷ xs) [] = ⊥
Precedes (x ∷ xs) (y ∷ ys) = (x <ℤ y) ⊎ ((x ≡ y) × Precedes xs ys)

-- One number for each declared set, none below its low end or above its high end.
abbrev pub HasOneOfEach : List DeclaredSet → List ℤ → Type 0
HasOneOfEach [] [] = Unit {0}
HasOneOfEach [] (n ∷ ns) = ⊥
HasOneOfEach (set ∷ sets) [] = ⊥
HasOneOfEach (set ∷ sets) (n ∷ ns) = (set.low ≤ℤ n) × (n ≤ℤ set.high) × HasOneOfEach sets ns

-- The best of a list: one of it, none of it has a better value, and all others of the same value stand behind it in lexicographic order.
pub record IsBestOf (is_most : Bool) (value : List ℤ → Option ℤ) (list : List (List ℤ)) (ns : List ℤ) : Type 0 where
  pub member : IsAmong ns list
  pub best : (ms : List ℤ) → IsAmong ms list → is_better is_most (value ms) (value ns) ≡ false
  pub first : (ms : List ℤ) → IsAmong ms list → value ms ≡ value ns → (ms ≡ ns) ⊎ Precedes ns ms
