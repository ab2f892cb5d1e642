-- How families are kept in words. Word x has the ends of the set of variable x; behind the words of all ends, each
-- variable has a word for each block of its declared set, with a bit for each value, on where the value has gone. A set
-- has the values between its ends that have not gone; bits outside the ends mean nothing.
use Rattle.std.specs.Prelude.{◌≡◌, ℕ, zero, suc, ◌+◌, ◌-◌, ◌*◌, ◌/◌, ◌%◌, ◌^◌, ◌<◌, ◌≤◌, true, false, cond, List, [], ◌∷◌, length, ℤ, pos, ◌+ℤ◌, ◌≤ℤ◌, slice_index, slice_get, Some, map, ◌≢◌, ◌⊎◌}
use Rattle.opl_domain.specs.Family.{Family, most_values}
use Rattle.opl_trail.specs.Gone.{is_gone}
use Rattle.opl_trail.specs.Levels.{Levels}
use Rattle.opl_store.specs.declared.shape.Shape.{Shape}
use Rattle.opl_store.specs.Stacks.{Stack, size_between, blocks}

-- how many words the blocks of a variable take
abbrev pub blocks_of : Shape → ℕ
blocks_of s = (s.size + 63) / 64

-- the ends of the declared set
abbrev pub range_of : Shape → ℤ × ℤ
range_of s = (s.least, s.least +ℤ pos (s.size - 1))

-- where declared sets are kept, from a word on
abbrev pub shapes_from : ℕ → List (ℤ × ℤ) → List Shape
shapes_from first [] = []
shapes_from first (p ∷ ps) = record { least = p.0; size = size_between p; first = first } ∷ shapes_from (first + blocks p) ps

-- the word of the ends tells how many of the declared values have gone at the low end, and how many at the high end
unfoldable pub low_gone : ℕ → ℕ
low_gone ends = ends % 2 ^ 32

unfoldable pub high_gone : ℕ → ℕ
high_gone ends = ends / 2 ^ 32

-- how many declared values lie between the ends
abbrev pub between_ends : Shape → ℕ → ℕ
between_ends s ends = s.size - high_gone ends - low_gone ends

-- of n numbers rising from v those that are left, where their places begin at g
abbrev pub picked : List ℕ → ℕ → ℤ → ℕ → List ℤ
picked words g v zero = []
picked words g v (suc n) = cond (is_gone words g) (picked words (suc g) (v +ℤ pos 1) n) (v ∷ picked words (suc g) (v +ℤ pos 1) n)

-- the values of variable x
unfoldable pub set_in : List ℕ → ℕ → Shape → List ℤ
set_in words x s = picked words (s.first * 64 + low_gone (slice_index words x)) (s.least +ℤ pos (low_gone (slice_index words x))) (between_ends s (slice_index words x))

-- the sets of all variables from x on
abbrev pub family_from : List ℕ → ℕ → List Shape → Family
family_from words x [] = []
family_from words x (s ∷ shapes) = set_in words x s ∷ family_from words (suc x) shapes

unfoldable pub family_in : List Shape → List ℕ → Family
family_in shapes words = family_from words 0 shapes

-- the stack of families that a list of levels keeps
abbrev pub stack_in : List Shape → Levels → Stack
stack_in shapes levels = record {
  declared = map range_of shapes;
  top = family_in shapes levels.top;
  below = map (family_in shapes) levels.below;
}

-- a value and its place
abbrev pub PlaceOf : Shape → ℤ → ℕ → Type 0
PlaceOf s v g = (s.first * 64 ≤ g) × (pos g +ℤ s.least ≡ v +ℤ pos (s.first * 64))

-- the ends of the set of variable x are in order, and both are left; so the set isn't empty
pub record IsSet (words : List ℕ) (x : ℕ) (s : Shape) : Type 0 where
  pub order : low_gone (slice_index words x) + high_gone (slice_index words x) < s.size
  pub low : is_gone words (s.first * 64 + low_gone (slice_index words x)) ≡ false
  pub high : is_gone words (s.first * 64 + (s.size - 1 - high_gone (slice_index words x))) ≡ false

abbrev pub AreSets : List Shape → List ℕ → Type 0
AreSets shapes words = (x : ℕ) (s : Shape) → slice_get shapes x ≡ Some s → IsSet words x s

-- a declared set is not too large, and its values are numbers of 64 bits
pub record IsShape (s : Shape) : Type 0 where
  pub few : s.size ≤ most_values
  pub fits : (s.least +ℤ pos s.size) ≤ℤ pos (2 ^ 63)

-- the blocks stand one after another, from word k to the end of n words
abbrev pub FillsFrom : ℕ → ℕ → List Shape → Type 0
FillsFrom k n [] = k ≡ n
FillsFrom k n (s ∷ shapes) = (s.first ≡ k) × FillsFrom (k + blocks_of s) n shapes

-- n words are those of the ends and those of the blocks
pub record AreShapes (n : ℕ) (shapes : List Shape) : Type 0 where
  pub each : (x : ℕ) (s : Shape) → slice_get shapes x ≡ Some s → IsShape s
  pub fills : FillsFrom (length shapes) n shapes

-- the set of variable x can be read
pub record IsReady (words : List ℕ) (x : ℕ) (s : Shape) : Type 0 where
  pub small : length words < 2 ^ 32
  pub behind : x < s.first
  pub within : s.first * 64 + s.size ≤ 64 * length words
  pub few : s.size ≤ most_values
  pub fits : (s.least +ℤ pos s.size) ≤ℤ pos (2 ^ 63)
  pub set : IsSet words x s

-- no words have changed but those of variable x
pub record TouchesOnly (x : ℕ) (s : Shape) (old new : List ℕ) : Type 0 where
  pub same : length new ≡ length old
  pub words : (k : ℕ) → k ≢ x → (k < s.first) ⊎ (s.first + blocks_of s ≤ k) → slice_index new k ≡ slice_index old k

-- a value of block b was in the set of variable x, and has gone
pub record HasLost (x : ℕ) (s : Shape) (old new : List ℕ) (b : ℕ) : Type 0 where
  pub offset : ℕ
  pub block : offset / 64 ≡ b
  pub low : low_gone (slice_index old x) ≤ offset
  pub high : offset + high_gone (slice_index old x) < s.size
  pub was : is_gone old (s.first * 64 + offset) ≡ false
  pub gone : is_gone new (s.first * 64 + offset) ≡ true

-- the set of variable x has lost values: its ends have moved inwards, no bit was turned off, and the word of a block is
-- another only where a value of the block was lost
pub record Narrows (x : ℕ) (s : Shape) (old new : List ℕ) : Type 0 where
  pub low : low_gone (slice_index old x) ≤ low_gone (slice_index new x)
  pub high : high_gone (slice_index old x) ≤ high_gone (slice_index new x)
  pub gone : (k : ℕ) → k / 64 < blocks_of s → is_gone old (s.first * 64 + k) ≡ true → is_gone new (s.first * 64 + k) ≡ true
  pub blocks : (b : ℕ) → b < blocks_of s → (slice_index new (s.first + b) ≡ slice_index old (s.first + b)) ⊎ HasLost x s old new b

abbrev pub AllNarrow : List Shape → List ℕ → List ℕ → Type 0
AllNarrow shapes old new = (x : ℕ) (s : Shape) → slice_get shapes x ≡ Some s → Narrows x s old new

-- each level's words came from those of the level below by losing values
abbrev pub AreNarrower : List Shape → List ℕ → List (List ℕ) → Type 0
AreNarrower shapes words [] = Unit {0}
AreNarrower shapes words (old ∷ levels) = AllNarrow shapes old words × AreNarrower shapes old levels

-- all levels have as many words, and the sets of each are in order
abbrev pub AreAllSets : List Shape → ℕ → List (List ℕ) → Type 0
AreAllSets shapes n [] = Unit {0}
AreAllSets shapes n (words ∷ levels) = ((length words ≡ n) × AreSets shapes words) × AreAllSets shapes n levels

-- a store of n words
pub record IsStore (shapes : List Shape) (n : ℕ) (levels : Levels) : Type 0 where
  pub small : n < 2 ^ 32
  pub shapes_fit : AreShapes n shapes
  pub sets : AreAllSets shapes n (levels.top ∷ levels.below)
  pub narrower : AreNarrower shapes levels.top levels.below
