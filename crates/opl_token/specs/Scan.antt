-- The token list of a text, and the place where a text has none.
use Rattle.std.specs.Prelude.{◌≡◌, ◌≢◌, ◌≤◌, ℕ, ◌+◌, true, nat_eq, if◌then◌else◌, List, [], ◌∷◌, ◌++◌, length, codes}
use Rattle.std.specs.Char.{is_ascii_digit}
use Rattle.std.specs.List.{starts_with}
use Rattle.opl_token.specs.declared.token.Kind.{Kind}
use Rattle.opl_token.specs.declared.token.Token.{Token}
use Rattle.opl_token.specs.declared.fault.ScanFault.{ScanFault}
use Rattle.opl_token.specs.declared.fault.ScanFault.TheVariants.{BadByte, OpenComment, OpenString, NumberTooLarge, OutOfMemory}
use Rattle.opl_token.specs.Comment.{IsComment}
use Rattle.opl_token.specs.Lexeme.{begins, is_blank, IsLexeme}

-- a piece of a text: a blank byte, or a comment or a lexeme with its bytes
pub data Piece : Type 0 where
  Blank : ℕ → Piece
  Comment : List ℕ → Piece
  Lexeme : Kind → List ℕ → Piece

-- the bytes of a piece
abbrev pub piece_text : Piece → List ℕ
piece_text (Blank b) = b ∷ []
piece_text (Comment text) = text
piece_text (Lexeme kind text) = text

-- the bytes of a row of pieces
abbrev pub texts : List Piece → List ℕ
texts [] = []
texts (p ∷ ps) = piece_text p ++ texts ps

-- a lexeme at whose place no longer one begins
pub record IsLongest (kind : Kind) (text rest : List ℕ) : Type 0 where
  pub lexeme : IsLexeme kind text rest
  pub longest : (other : Kind) (front back : List ℕ) → front ++ back ≡ text ++ rest → IsLexeme other front back → length front ≤ length text

-- a blank, a comment or a longest lexeme, where `rest` stands behind it
abbrev pub IsPiece : Piece → (rest : List ℕ) → Type 0
IsPiece (Blank b) rest = is_blank b ≡ true
IsPiece (Comment text) rest = IsComment text rest
IsPiece (Lexeme kind text) rest = IsLongest kind text rest

-- each is a piece where the further ones, and `rest`, stand behind it
abbrev pub IsRow : List Piece → (rest : List ℕ) → Type 0
IsRow [] rest = Unit {0}
IsRow (p ∷ ps) rest = IsPiece p (texts ps ++ rest) × IsRow ps rest

-- one token for each lexeme, with its place, where the first piece stands at `at`
abbrev pub tokens_of : (at : ℕ) → List Piece → List Token
tokens_of at [] = []
tokens_of at (Blank b ∷ ps) = tokens_of (at + 1) ps
tokens_of at (Comment text ∷ ps) = tokens_of (at + length text) ps
tokens_of at (Lexeme kind text ∷ ps) = record { kind = kind; at = at } ∷ tokens_of (at + length text) ps

-- the tokens of a text: it is a row of pieces, and they are its lexemes
pub record Scans (bytes : List ℕ) (tokens : List Token) : Type 0 where
  pub pieces : List Piece
  pub spelt : bytes ≡ texts pieces
  pub row : IsRow pieces []
  pub lexemes : tokens ≡ tokens_of 0 pieces

-- no piece begins `rest`
abbrev pub BeginsNone : (rest : List ℕ) → Type 0
BeginsNone rest = (p : Piece) (back : List ℕ) → piece_text p ++ back ≡ rest → IsPiece p back → ⊥

-- the fault of bytes at which no piece begins
abbrev pub fault_at : (at : ℕ) (rest : List ℕ) → ScanFault
fault_at at rest =
    if starts_with nat_eq rest (codes "/*") then OpenComment at
    else (if starts_with nat_eq rest (codes "\"") then OpenString at
    else (if begins is_ascii_digit rest then NumberTooLarge at
    else BadByte at))

-- pieces reach a place before the end at which none begins, and that place has this fault
pub record StopsAt (bytes : List ℕ) (fault : ScanFault) : Type 0 where
  pub pieces : List Piece
  pub rest : List ℕ
  pub spelt : bytes ≡ texts pieces ++ rest
  pub row : IsRow pieces rest
  pub left : rest ≢ []
  pub none : BeginsNone rest
  pub cause : fault ≡ fault_at (length (texts pieces)) rest

-- when a text is answered by this fault: at want of memory nothing is said of it
abbrev pub Faults : List ℕ → ScanFault → Type 0
Faults bytes OutOfMemory = Unit {0}
Faults bytes (BadByte at) = StopsAt bytes (BadByte at)
Faults bytes (OpenComment at) = StopsAt bytes (OpenComment at)
Faults bytes (OpenString at) = StopsAt bytes (OpenString at)
Faults bytes (NumberTooLarge at) = StopsAt bytes (NumberTooLarge at)
