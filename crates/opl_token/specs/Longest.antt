-- The comment and the longest lexeme that begin given bytes, as functions.
use Rattle.std.specs.Prelude.{ℕ, ℤ, pos, ◌+◌, ◌^◌, nat_lt, nat_eq, if◌then◌else◌, List, [], ◌∷◌, length, take, drop, find, codes, Option, Some, None, unwrap_or}
use Rattle.std.specs.List.{prefix_len, starts_with}
use Rattle.std.specs.Option.{option_map}
use Rattle.std.specs.Char.{is_ascii_digit}
use Rattle.opl_token.specs.declared.sign.Sign.{Sign}
use Rattle.opl_token.specs.declared.sign.TheConstants.{SIGNS}
use Rattle.opl_token.specs.declared.scanner.Lexeme.{Lexeme}
use Rattle.opl_token.specs.declared.token.Kind.TheVariants as kind
use Rattle.opl_token.specs.Comment.{is_in_line}
use Rattle.opl_token.specs.Lexeme.{begins, is_blank, is_quote, is_text_byte, is_word_start, is_word_byte, number, sign_text}

-- the word that `bytes` begin with, where the first byte begins a word
abbrev pub word_at : (bytes : List ℕ) → Lexeme
word_at bytes = let len = prefix_len is_word_byte bytes in record { kind = kind.Word (take len bytes); len = len }

-- the value of digits, unless it is greater than 2 ^ 127 - 1
abbrev pub small_number : (digits : List ℕ) → Option ℤ
small_number digits = if nat_lt (number digits) (2 ^ 127) then Some (pos (number digits)) else None

-- the number that `bytes` begin with: all digits there are one number, or none
abbrev pub number_at : (bytes : List ℕ) → Option Lexeme
number_at bytes = let len = prefix_len is_ascii_digit bytes in option_map (λ n. record { kind = kind.Number n; len = len }) (small_number (take len bytes))

-- the first sign of the table that `bytes` begin with
abbrev pub longest_sign : (bytes : List ℕ) → Option Sign
longest_sign bytes = find (λ s. starts_with nat_eq bytes (sign_text s)) SIGNS

-- that sign, as a lexeme
abbrev pub sign_at : (bytes : List ℕ) → Option Lexeme
sign_at bytes = option_map (λ s. record { kind = kind.Sign s; len = length (sign_text s) }) (longest_sign bytes)

-- the text whose first `"` stands before `bytes`
abbrev pub text_at : (bytes : List ℕ) → Option Lexeme
text_at bytes =
    let len = prefix_len is_text_byte bytes in
    if begins is_quote (drop len bytes) then Some (record { kind = kind.Text (take len bytes); len = len + 2 }) else None

-- the lexeme that `bytes` begin with
abbrev pub lexeme_at : (bytes : List ℕ) → Option Lexeme
lexeme_at bytes =
    if begins is_word_start bytes then Some (word_at bytes)
    else (if begins is_ascii_digit bytes then number_at bytes
    else (if begins is_quote bytes then text_at (drop 1 bytes)
    else sign_at bytes))

-- how many bytes there are up to the first `*/` and with it
abbrev pub block_len : (bytes : List ℕ) → Option ℕ
block_len [] = None
block_len (b ∷ bytes) = if starts_with nat_eq (b ∷ bytes) (codes "*/") then Some 2 else option_map (λ n. n + 1) (block_len bytes)

-- how many bytes the comment has that `bytes` begin with
abbrev pub comment_len : (bytes : List ℕ) → Option ℕ
comment_len bytes =
    if starts_with nat_eq bytes (codes "//") then Some (2 + prefix_len is_in_line (drop 2 bytes))
    else (if starts_with nat_eq bytes (codes "/*") then option_map (λ n. 2 + n) (block_len (drop 2 bytes))
    else None)

-- how many bytes the blank or the comment has that `bytes` begin with, or 0
abbrev pub gap_len : (bytes : List ℕ) → ℕ
gap_len bytes = if begins is_blank bytes then 1 else unwrap_or (comment_len bytes) 0
