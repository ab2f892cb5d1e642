-- Which bytes begin which lexemes: no byte begins two kinds.
use Rattle.std.proofs.Common.{◌≡◌, ◌<◌, ℕ, Bool, true, false, ◌&&◌, ◌||◌, ◌==◌, List, [], ◌∷◌, ◌++◌, length, refl, arith}
use Rattle.std.proofs.lemmas.Bool.Decides.{nat_tests}
use Rattle.std.specs.Char.{is_ascii_digit}
use Rattle.opl_token.specs.Lexeme.{begins, is_blank, is_quote, is_text_byte, is_word_start, is_word_byte}

pub and_left : (a b : Bool) → (a && b) ≡ true → a ≡ true
and_left true b h = refl
and_left false b h = h

pub and_right : (a b : Bool) → (a && b) ≡ true → b ≡ true
and_right true b h = h
and_right false b h = cc

or_left : (a b : Bool) → (a || b) ≡ false → a ≡ false
or_left true b h = h
or_left false b h = refl

-- what begins no lexeme: a blank, or the `/` of a comment
abbrev pub is_gap : ℕ → Bool
is_gap b = is_blank b || b == 47

pub digit_no_start : (b : ℕ) → is_ascii_digit b ≡ true → is_word_start b ≡ false
digit_no_start b h = grind (arith, nat_tests)

pub quote_no_start : (b : ℕ) → is_quote b ≡ true → is_word_start b ≡ false
quote_no_start b h = grind (arith, nat_tests)

pub quote_no_digit : (b : ℕ) → is_quote b ≡ true → is_ascii_digit b ≡ false
quote_no_digit b h = grind (arith, nat_tests)

pub start_no_gap : (b : ℕ) → is_word_start b ≡ true → is_gap b ≡ false
start_no_gap b h = grind (arith, nat_tests)

pub digit_no_gap : (b : ℕ) → is_ascii_digit b ≡ true → is_gap b ≡ false
digit_no_gap b h = grind (arith, nat_tests)

pub quote_no_gap : (b : ℕ) → is_quote b ≡ true → is_gap b ≡ false
quote_no_gap b h = grind (arith, nat_tests)

pub quote_no_text : (b : ℕ) → is_quote b ≡ true → is_text_byte b ≡ false
quote_no_text b h = grind (arith, nat_tests)

pub start_is_byte : (b : ℕ) → is_word_start b ≡ true → is_word_byte b ≡ true
start_is_byte b h = grind (arith, nat_tests)

-- where the first byte passes one test, it passes another or not
pub begins_implies : (p q : ℕ → Bool) (c : Bool) (text : List ℕ) → ((b : ℕ) → p b ≡ true → q b ≡ c) → begins p text ≡ true → begins q text ≡ c
begins_implies p q c [] implies h = cc
begins_implies p q c (b ∷ bs) implies h = implies b h

-- what a list begins with, a longer one begins with
pub begins_front : (p q : ℕ → Bool) (text rest : List ℕ) → begins p text ≡ true → begins q (text ++ rest) ≡ begins q text
begins_front p q [] rest h = cc
begins_front p q (b ∷ bs) rest h = refl

pub begins_some : (p : ℕ → Bool) (text : List ℕ) → begins p text ≡ true → 0 < length text
begins_some p [] h = cc
begins_some p (b ∷ bs) h = omega arith

pub begins_some_front : (q : ℕ → Bool) (text rest : List ℕ) → 0 < length text → begins q (text ++ rest) ≡ begins q text
begins_some_front q [] rest h = absurd (omega arith)
begins_some_front q (b ∷ bs) rest h = refl

pub gap_no_blank : (bytes : List ℕ) → begins is_gap bytes ≡ false → begins is_blank bytes ≡ false
gap_no_blank [] h = refl
gap_no_blank (b ∷ bs) h = or_left (is_blank b) (b == 47) h
