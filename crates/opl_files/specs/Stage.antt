-- The stages of a call, each of which gives a value or refuses.
use Rattle.std.specs.Prelude.{◌≡◌, ◌⊎◌, ⊤, ℕ, ◌+◌, List, [], ◌∷◌, Result, Ok, Err}
use Rattle.opl_outside.specs.Counts.{Rose}
use Rattle.opl_files.specs.declared.refusal.Refusal.{Refusal}
use Rattle.opl_files.specs.declared.stop.Stop.{Stop}
use Rattle.opl_files.specs.declared.stop.Stop.TheVariants.{Refused, Spent, ReadFault, WriteFault, OutOfMemory}

-- what a stage gives: a relation that holds of its outcome
abbrev pub Stage : Type 0 → Type 1
Stage A = Result A Refusal → Type 0

-- one stage, then another on what it gave: the first refusal is that of the whole
abbrev pub Then : {A B : Type 0} → Stage A → (A → Stage B) → Stage B
Then {A} P Q r = ((a : A) × P (Ok a) × Q a r) ⊎ ((e : Refusal) × P (Err e) × (r ≡ Err e))

-- a stage that gives this value
abbrev pub Only : {A : Type 0} → A → Stage A
Only a r = r ≡ Ok a

-- A stage for each of a list, in order and with its number, the first of which is `number`: what they give, or the first
-- refusal.
unfoldable pub Each : {A B : Type 0} → (ℕ → A → Stage B) → (number : ℕ) → List A → Stage (List B)
Each P number [] = Only []
Each P number (x ∷ xs) = Then (P number x) (λ y. Then (Each P (number + 1) xs) (λ ys. Only (y ∷ ys)))

-- a stage that neither reads nor prints: it gives what it should, or memory is wanting
abbrev pub Gives : {A : Type 0} → Stage A → Result A Stop → Type 0
Gives P (Ok a) = P (Ok a)
Gives P (Err (Refused e)) = P (Err e)
Gives P (Err Spent) = ⊥
Gives P (Err ReadFault) = ⊥
Gives P (Err WriteFault) = ⊥
Gives P (Err OutOfMemory) = ⊤

-- a stage that reads: it gives what it should, or a read failed or memory is wanting
abbrev pub GivesRead : {A : Type 0} → Stage A → Result A Stop → Type 0
GivesRead P (Ok a) = P (Ok a)
GivesRead P (Err (Refused e)) = P (Err e)
GivesRead P (Err Spent) = ⊥
GivesRead P (Err ReadFault) = ⊤
GivesRead P (Err WriteFault) = ⊥
GivesRead P (Err OutOfMemory) = ⊤

-- only a fault of reading is counted
abbrev pub CountsRead : {A : Type 0} → Result A Stop → ℕ → ℕ → Type 0
CountsRead (Ok a) before now = now ≡ before
CountsRead (Err (Refused e)) before now = now ≡ before
CountsRead (Err Spent) before now = ⊥
CountsRead (Err ReadFault) before now = Rose before now
CountsRead (Err WriteFault) before now = ⊥
CountsRead (Err OutOfMemory) before now = now ≡ before
