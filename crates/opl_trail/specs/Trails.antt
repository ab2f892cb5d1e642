-- How a trail gives back the words of each level: by what each word was, in the order of saving.
use Rattle.std.specs.Prelude.{◌≡◌, ℕ, zero, suc, ◌+◌, ◌<◌, ◌≤◌, ◌^◌, cond, nat_eq, nat_lt, List, [], ◌∷◌, length, take, drop, slice_index, slice_set}
use Rattle.std.specs.List.{All}
use Rattle.opl_trail.specs.declared.trail.Saved.{Saved}

-- a save keeps two numbers of a place: the word that stood there, and the place's stamp
abbrev pub word_of : Saved → ℕ
word_of e = e.word

abbrev pub at_of : Saved → ℕ
at_of e = e.at

-- what a list was before some saves, each with its old number; the last save is undone first
abbrev pub undo : (Saved → ℕ) → List Saved → List ℕ → List ℕ
undo old [] xs = xs
undo old (e ∷ es) xs = slice_set (undo old es xs) e.place (old e)

-- the words at the opening of each level, where `marks` tells how long the trail was then; the last level comes first
abbrev pub below : List ℕ → List Saved → List ℕ → List (List ℕ)
below [] trail words = []
below (m ∷ marks) trail words = let old = undo word_of (drop m trail) words in old ∷ below marks (take m trail) old

-- how often a place was saved
abbrev pub saves_of : ℕ → List Saved → ℕ
saves_of p [] = zero
saves_of p (e ∷ es) = cond (nat_eq p e.place) 1 0 + saves_of p es

-- how often the n places from k on were saved
abbrev pub saves_in : ℕ → ℕ → List Saved → ℕ
saves_in k zero es = zero
saves_in k (suc n) es = saves_of k es + saves_in (suc k) n es

-- no place's stamp lies behind the end of the trail
abbrev pub AreWithin : List ℕ → List Saved → Type 0
AreWithin ats trail = (p : ℕ) → slice_index ats p ≤ length trail

-- what holds of a level that was opened when the trail was m long: a place whose stamp lies behind m was saved once in
-- this level, any other was not; words are at least what they were, and greater where they were saved
pub record IsLevel (m : ℕ) (trail : List Saved) (ats words : List ℕ) : Type 0 where
  pub start : m ≤ length trail
  pub within : AreWithin ats trail
  pub once : (p : ℕ) → saves_of p (drop m trail) ≡ cond (nat_lt m (slice_index ats p)) 1 0
  pub grows : (p : ℕ) → slice_index (undo word_of (drop m trail) words) p ≤ slice_index words p
  pub more : (p : ℕ) → m < slice_index ats p → slice_index (undo word_of (drop m trail) words) p < slice_index words p

-- the same of all open levels, each over what the later ones leave when they are closed
abbrev pub AreLevels : List ℕ → List Saved → List ℕ → List ℕ → Type 0
AreLevels [] trail ats words = AreWithin ats trail
AreLevels (m ∷ marks) trail ats words = IsLevel m trail ats words × AreLevels marks (take m trail) (undo at_of (drop m trail) ats) (undo word_of (drop m trail) words)

-- the trail has room for each of n words once more than at the opening of the last level
abbrev pub HasRoom : List ℕ → ℕ → ℕ → Type 0
HasRoom [] n room = Unit {0}
HasRoom (m ∷ marks) n room = (m + n ≤ room) × (m + n < 2 ^ 32)

-- a trail: as many stamps as words, saves of these words, all levels in order, and room for what is still to be saved
pub record IsTrail (marks : List ℕ) (trail : List Saved) (ats words : List ℕ) (size : ℕ) : Type 0 where
  pub same : length ats ≡ length words
  pub few : length words < 2 ^ 32
  pub places : All (λ e. e.place < length words) trail
  pub levels : AreLevels marks trail ats words
  pub room : HasRoom marks (length words) size
