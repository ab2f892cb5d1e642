-- The piece at a place: it is found where one begins, and there is one at most.
use Rattle.std.proofs.Common.{◌≡◌, ◌<◌, ℕ, true, false, if◌then◌else◌, List, [], ◌∷◌, ◌++◌, length, take, drop, get_or, Option, Some, None, refl, ap, sym, ◌∙◌, arith}
use Rattle.std.specs.Option.{option_map, option_or}
use Rattle.std.proofs.lemmas.List.{take-append-drop}
use Rattle.std.proofs.Math.Seq.{take-append_seam}
use Rattle.opl_token.specs.declared.scanner.Lexeme.{Lexeme}
use Rattle.opl_token.specs.Lexeme.{begins, is_blank}
use Rattle.opl_token.specs.Longest.{comment_len, lexeme_at}
use Rattle.opl_token.specs.Scan.{Piece, piece_text, IsPiece, BeginsNone}
use Rattle.opl_token.proofs.Bytes.{is_gap, begins_some_front, gap_no_blank}
use Rattle.opl_token.proofs.Comments.{comment_read, comment_again, comment_some, comment_no_blank, no_comment}
use Rattle.opl_token.proofs.Lexemes.{longest_at, found_again, lexeme_no_gap, lexeme_some}

-- the piece that `bytes` begin with
piece_at : (bytes : List ℕ) → Option Piece
piece_at bytes =
    if begins is_blank bytes then Some (Piece.Blank (get_or bytes 0 0))
    else option_or (option_map (λ len. Piece.Comment (take len bytes)) (comment_len bytes)) (option_map (λ l. Piece.Lexeme l.kind (take l.len bytes)) (lexeme_at bytes))

-- a piece stands at the front of the bytes
pub record Front (bytes : List ℕ) (piece : Piece) : Type 0 where
  pub rest : List ℕ
  pub spelt : bytes ≡ piece_text piece ++ rest
  pub is : IsPiece piece rest

pub blank_front : (bytes : List ℕ) → begins is_blank bytes ≡ true → Front bytes (Piece.Blank (get_or bytes 0 0))
blank_front [] blank = cc
blank_front (b ∷ bs) blank = record { rest = bs; spelt = refl; is = blank }

pub lexeme_front : (bytes : List ℕ) (l : Lexeme) → lexeme_at bytes ≡ Some l → Front bytes (Piece.Lexeme l.kind (take l.len bytes))
lexeme_front bytes l is = record { rest = drop l.len bytes; spelt = sym (take-append-drop l.len bytes); is = longest_at bytes l is }

pub comment_front : (bytes : List ℕ) (len : ℕ) → comment_len bytes ≡ Some len → Front bytes (Piece.Comment (take len bytes))
comment_front bytes len is = record { rest = drop len bytes; spelt = sym (take-append-drop len bytes); is = (comment_read bytes len is).is }

pub piece_some : (p : Piece) (rest : List ℕ) → IsPiece p rest → 0 < length (piece_text p)
piece_some (Piece.Blank b) rest is = omega arith
piece_some (Piece.Comment text) rest is = comment_some text rest is
piece_some (Piece.Lexeme k text) rest is = lexeme_some k text rest is.lexeme

piece_again : (p : Piece) (rest : List ℕ) → IsPiece p rest → piece_at (piece_text p ++ rest) ≡ Some p
unfolding piece_at
piece_again (Piece.Blank b) rest is = rw is refl
piece_again (Piece.Comment text) rest is =
    rw (comment_no_blank text rest is, comment_again text rest is, take-append_seam text rest) refl
piece_again (Piece.Lexeme k text) rest is =
    let some : 0 < length text = lexeme_some k text rest is.lexeme in
    let no_gap : begins is_gap (text ++ rest) ≡ false = begins_some_front is_gap text rest some ∙ lexeme_no_gap k text rest is.lexeme in
    rw (gap_no_blank (text ++ rest) no_gap, no_comment (text ++ rest) no_gap, found_again k text rest is, take-append_seam text rest) refl

-- where none is found, none begins
pub no_piece : (bytes : List ℕ) → begins is_blank bytes ≡ false → comment_len bytes ≡ None → lexeme_at bytes ≡ None → BeginsNone bytes
unfolding piece_at
no_piece bytes blank comment lexeme p back spelt is =
    let none : piece_at bytes ≡ None = rw (blank, comment, lexeme) refl in
    let some : piece_at bytes ≡ Some p = ap piece_at (sym spelt) ∙ piece_again p back is in
    let differ : None ≡ Some p = sym none ∙ some in cc

pub nothing_begins_none : BeginsNone []
nothing_begins_none = no_piece [] refl refl refl

-- two pieces at one place are one
pub one_piece : (p q : Piece) (rest back : List ℕ) → piece_text p ++ rest ≡ piece_text q ++ back → IsPiece p rest → IsPiece q back → p ≡ q
one_piece p q rest back spelt left right =
    let same : Some p ≡ Some q = sym (piece_again p rest left) ∙ ap piece_at spelt ∙ piece_again q back right in cc
