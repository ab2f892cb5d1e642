-- The lexemes of the language: how words, numbers, texts and signs are written.
use Rattle.std.specs.Prelude.{◌≡◌, ◌<◌, ℕ, pos, ◌+◌, ◌-◌, ◌*◌, ◌^◌, Bool, true, false, not, ◌&&◌, ◌||◌, ◌==◌, nat_le, List, [], ◌∷◌, ◌++◌, fold, codes}
use Rattle.std.specs.List.{AllPass}
use Rattle.std.specs.Char.{is_ascii_digit, is_ascii_alphabetic, is_ascii_alphanumeric}
use Rattle.opl_token.specs.declared.sign.Sign.{Sign}
use Rattle.opl_token.specs.declared.sign.Sign.TheVariants as sign
use Rattle.opl_token.specs.declared.token.Kind.{Kind}
use Rattle.opl_token.specs.declared.token.Kind.TheVariants as kind

-- whether there is a first byte, and it passes the test
abbrev pub begins : (ℕ → Bool) → List ℕ → Bool
begins test [] = false
begins test (b ∷ bs) = test b

-- a space, a tab, a line feed or a carriage return
abbrev pub is_blank : ℕ → Bool
is_blank b = b == 32 || b == 9 || b == 10 || b == 13

-- what a word begins with: a letter or `_`
abbrev pub is_word_start : ℕ → Bool
is_word_start b = is_ascii_alphabetic b || b == 95

-- what a word is made of: letters, digits and `_`
abbrev pub is_word_byte : ℕ → Bool
is_word_byte b = is_ascii_alphanumeric b || b == 95

-- the byte `"`
abbrev pub is_quote : ℕ → Bool
is_quote b = b == 34

-- the value of decimal digits
abbrev pub number : List ℕ → ℕ
number digits = fold (λ n digit. 10 * n + (digit - 48)) 0 digits

-- the bytes of each sign
abbrev pub sign_text : Sign → List ℕ
sign_text sign.Equivalent = codes "<=>"
sign_text sign.Ellipsis = codes "..."
sign_text sign.Range = codes ".."
sign_text sign.Assign = codes ":="
sign_text sign.CloseAssociation = codes "]#"
sign_text sign.OpenAssociation = codes "#["
sign_text sign.LessOrEqual = codes "<="
sign_text sign.NotEqual = codes "<>"
sign_text sign.GreaterOrEqual = codes ">="
sign_text sign.Implies = codes "=>"
sign_text sign.Or = codes "\\/"
sign_text sign.Dot = codes "."
sign_text sign.Comma = codes ","
sign_text sign.Semicolon = codes ";"
sign_text sign.Colon = codes ":"
sign_text sign.OpenParenthesis = codes "("
sign_text sign.CloseParenthesis = codes ")"
sign_text sign.OpenBracket = codes "["
sign_text sign.CloseBracket = codes "]"
sign_text sign.OpenBrace = codes "{"
sign_text sign.CloseBrace = codes "}"
sign_text sign.Less = codes "<"
sign_text sign.Greater = codes ">"
sign_text sign.Equal = codes "="
sign_text sign.Plus = codes "+"
sign_text sign.Minus = codes "-"
sign_text sign.Times = codes "*"
sign_text sign.And = codes "&"
sign_text sign.Bar = codes "|"

-- a letter or `_`, then letters, digits and `_`
pub record IsWord (text : List ℕ) : Type 0 where
  pub start : begins is_word_start text ≡ true
  pub bytes : AllPass is_word_byte text

-- one or more digits, with no further digit in `rest` behind them, and with a value of at most 2 ^ 127 - 1
pub record IsNumber (text rest : List ℕ) : Type 0 where
  pub start : begins is_ascii_digit text ≡ true
  pub digits : AllPass is_ascii_digit text
  pub ends : begins is_ascii_digit rest ≡ false
  pub fits : number text < 2 ^ 127

-- what may stand between the two `"` of a text: bytes 32 to 126 other than `"`
abbrev pub is_text_byte : ℕ → Bool
is_text_byte b = nat_le 32 b && nat_le b 126 && not (is_quote b)

-- a text: `inner` between two `"`
pub record IsText (text inner : List ℕ) : Type 0 where
  pub spelt : text ≡ codes "\"" ++ (inner ++ codes "\"")
  pub bytes : AllPass is_text_byte inner

-- `text` is a lexeme of this kind where `rest` stands behind it
abbrev pub IsLexeme : Kind → (text rest : List ℕ) → Type 0
IsLexeme (kind.Word name) text rest = (text ≡ name) × IsWord text
IsLexeme (kind.Number n) text rest = (n ≡ pos (number text)) × IsNumber text rest
IsLexeme (kind.Text inner) text rest = IsText text inner
IsLexeme (kind.Sign s) text rest = text ≡ sign_text s
