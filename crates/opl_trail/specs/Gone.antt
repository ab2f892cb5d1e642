-- Places, 64 in a word: a place has gone where its bit is on, and is left where its bit is off.
use Rattle.std.specs.Prelude.{◌≡◌, ◌⊎◌, ℕ, zero, suc, ◌+◌, ◌*◌, ◌/◌, ◌%◌, ◌<◌, ◌≤◌, ◌||◌, ◌&&◌, Bool, true, false, cond, nat_eq, nat_le, List, slice_index}
use Rattle.std.specs.Int.{bit_at}

-- place g has gone
unfoldable pub is_gone : List ℕ → ℕ → Bool
is_gone words g = nat_eq (bit_at (slice_index words (g / 64)) (g % 64)) 1

-- place r is the first from `from` on that is left
pub record IsFirstLeft (words : List ℕ) (from r : ℕ) : Type 0 where
  pub behind : from ≤ r
  pub is_left : is_gone words r ≡ false
  pub first : (g : ℕ) → from ≤ g → g < r → is_gone words g ≡ true

-- place r is the last up to `to` that is left
pub record IsLastLeft (words : List ℕ) (to r : ℕ) : Type 0 where
  pub before : r ≤ to
  pub is_left : is_gone words r ≡ false
  pub last : (g : ℕ) → r < g → g ≤ to → is_gone words g ≡ true

-- how many of the n places from g on are left
abbrev pub count_left : List ℕ → ℕ → ℕ → ℕ
count_left words g zero = zero
count_left words g (suc n) = cond (is_gone words g) 0 1 + count_left words (suc g) n

-- place g lies between a and b, these included
abbrev pub is_between : ℕ → ℕ → ℕ → Bool
is_between a b g = nat_le a g && nat_le g b

-- the places from a to b have gone, and the others are as before
abbrev pub GoBetween : List ℕ → List ℕ → ℕ → ℕ → Type 0
GoBetween old new a b = (g : ℕ) → is_gone new g ≡ (is_gone old g || is_between a b g)

-- one of the places from a to b that lie in word k is left
pub record HasLeft (words : List ℕ) (a b k : ℕ) : Type 0 where
  pub place : ℕ
  pub word : place / 64 ≡ k
  pub from : a ≤ place
  pub to : place ≤ b
  pub is_left : is_gone words place ≡ false

-- a word changes only where one of its places goes
abbrev pub ChangesWhereLeft : List ℕ → List ℕ → ℕ → ℕ → Type 0
ChangesWhereLeft old new a b = (k : ℕ) → (slice_index new k ≡ slice_index old k) ⊎ HasLeft old a b k

-- a mask has the bits of word k whose places lie from a to b
abbrev pub IsMask : ℕ → ℕ → ℕ → ℕ → Type 0
IsMask k a b mask = (i : ℕ) → i < 64 → nat_eq (bit_at mask i) 1 ≡ is_between a b (k * 64 + i)

-- a bit of the mask is off in the word
pub record HasOff (word mask : ℕ) : Type 0 where
  pub bit : ℕ
  pub small : bit < 64
  pub off : bit_at word bit ≡ 0
  pub on : bit_at mask bit ≡ 1
