-- The sorts of words, for the definition and for `clap`.
use Rattle.std.proofs.Common.{◌≡◌, ℕ, nat_eq, Bool, true, false, refl, sym, ap, subst, List, [], ◌∷◌, Some, None, codes, length, arith}
use Rattle.std.specs.Prelude.{slice_get, if◌then◌else◌}
use Rattle.std.specs.Bool.{◌==◌}
use Rattle.std.specs.Str.{IsUtf8, chars}
use Rattle.std.proofs.Math.Utf8.{encodes}
use Rattle.std.proofs.lemmas.Bool.Decides.{Decides-eqb}
use Rattle.std.proofs.lemmas.Str.{IsCharBoundary-after_ascii, IsUtf8-drop, encodes-chars}
use Rattle.clap.specs.Lexer.{long_of, short_of}
use Rattle.opl_words.specs.Requests.{Word, attached_to, is_attached, is_dashed, name_of}

same_byte : (a b : ℕ) → nat_eq a b ≡ true → a ≡ b
same_byte a b h = (Decides-eqb a b).0 h

-- `--`, an option by its name, another word that begins with `-`, or a file or a value
pub by_sort : (P : Word → Type 0) → P (codes "--") → ((x : ℕ) (xs : Word) → P (45 ∷ 45 ∷ x ∷ xs)) → ((x : ℕ) (xs : Word) → nat_eq x 45 ≡ false → P (45 ∷ x ∷ xs))
    → ((word : Word) → is_dashed word ≡ false → P word) → (word : Word) → P word
by_sort P ends named dashed plain [] = plain [] refl
by_sort P ends named dashed plain (b ∷ []) = plain (b ∷ []) refl
by_sort P ends named dashed plain (b ∷ x ∷ xs) = first (nat_eq b 45) refl
  where
    third : (ys : Word) → P (45 ∷ 45 ∷ ys)
    third [] = ends
    third (y ∷ ys) = named y ys

    second : (r : Bool) → nat_eq x 45 ≡ r → P (45 ∷ x ∷ xs)
    second true e = subst (λ y. P (45 ∷ y ∷ xs)) (sym (same_byte x 45 e)) (third xs)
    second false e = dashed x xs e

    first : (r : Bool) → nat_eq b 45 ≡ r → P (b ∷ x ∷ xs)
    first true e = subst (λ y. P (y ∷ x ∷ xs)) (sym (same_byte b 45 e)) (second (nat_eq x 45) refl)
    first false e = plain (b ∷ x ∷ xs) e

-- ---- what `clap` sees of them

pub attached_long : (x : ℕ) (xs : Word) → is_attached (45 ∷ 45 ∷ x ∷ xs) ≡ true
    → long_of (45 ∷ 45 ∷ x ∷ xs) ≡ Some (name_of (45 ∷ 45 ∷ x ∷ xs), Some (attached_to (45 ∷ 45 ∷ x ∷ xs)))
attached_long x xs h = ap (λ b. Some (name_of (45 ∷ 45 ∷ x ∷ xs), if b then Some (attached_to (45 ∷ 45 ∷ x ∷ xs)) else None)) h

pub bare_long : (x : ℕ) (xs : Word) → is_attached (45 ∷ 45 ∷ x ∷ xs) ≡ false → long_of (45 ∷ 45 ∷ x ∷ xs) ≡ Some (name_of (45 ∷ 45 ∷ x ∷ xs), None)
bare_long x xs h = ap (λ b. Some (name_of (45 ∷ 45 ∷ x ∷ xs), if b then Some (attached_to (45 ∷ 45 ∷ x ∷ xs)) else None)) h

pub plain_long : (word : Word) → is_dashed word ≡ false → long_of word ≡ None
plain_long [] h = refl
plain_long (b ∷ []) h = go (b == 45) refl
  where
    go : (r : Bool) → (b == 45) ≡ r → long_of (b ∷ []) ≡ None
    go true e = rw e refl
    go false e = rw e refl
plain_long (b ∷ x ∷ xs) h =
    let other : (b == 45) ≡ false = h in
    rw other refl

pub plain_short : (word : Word) → is_dashed word ≡ false → short_of word ≡ None
plain_short [] h = refl
plain_short (b ∷ []) h = go (b == 45) refl
  where
    go : (r : Bool) → (b == 45) ≡ r → short_of (b ∷ []) ≡ None
    go true e = rw e refl
    go false e = rw e refl
plain_short (b ∷ x ∷ xs) h =
    let other : (b == 45) ≡ false = h in
    rw other refl

pub dashed_long : (x : ℕ) (xs : Word) → nat_eq x 45 ≡ false → long_of (45 ∷ x ∷ xs) ≡ None
dashed_long x xs h =
    let other : (x == 45) ≡ false = h in
    rw other refl

pub dashed_short : (x : ℕ) (xs : Word) → nat_eq x 45 ≡ false → short_of (45 ∷ x ∷ xs) ≡ Some (x ∷ xs)
dashed_short x xs h =
    let other : (x == 45) ≡ false = h in
    rw other refl

-- a text with bytes has a first character
pub first_char : (x : ℕ) (xs : Word) → IsUtf8 (45 ∷ x ∷ xs) → (y : ℕ) × (slice_get (chars (x ∷ xs)) 0 ≡ Some y)
first_char x xs u = go (chars (x ∷ xs)) (encodes-chars (x ∷ xs) rest)
  where
    rest : IsUtf8 (x ∷ xs)
    rest = IsUtf8-drop (45 ∷ x ∷ xs) 1 u (IsCharBoundary-after_ascii (45 ∷ x ∷ xs) 0 u (omega arith) (omega arith))

    go : (cs : List ℕ) → encodes cs ≡ x ∷ xs → (y : ℕ) × (slice_get cs 0 ≡ Some y)
    go [] e =
        let none : 0 ≡ length (x ∷ xs) = ap length e in
        absurd (omega (arith, none))
    go (y ∷ ys) e = (y, refl)
