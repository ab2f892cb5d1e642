-- What a scan has read of a text, and how it ends.
use Rattle.std.proofs.Common.{◌≡◌, ◌≢◌, ◌<◌, ◌≤◌, ℕ, ◌+◌, Bool, true, false, cond, List, [], ◌∷◌, ◌++◌, length, take, drop, get_or, Option, Some, None, unwrap_or, refl, ap, sym, ◌∙◌, subst, arith, append_assoc, append-nil, length-append, length-drop}
use Rattle.std.proofs.lemmas.List.{drop-drop, drop_all, length-take-le}
use Rattle.std.proofs.Math.Seq.{drop-append_seam}
use Rattle.opl_token.specs.declared.scanner.Lexeme.{Lexeme}
use Rattle.opl_token.specs.declared.fault.ScanFault.{ScanFault}
use Rattle.opl_token.specs.declared.fault.ScanFault.TheVariants.{BadByte, OpenComment, OpenString, NumberTooLarge, OutOfMemory}
use Rattle.opl_token.specs.declared.token.Token.{Token}
use Rattle.opl_token.specs.Lexeme.{begins, is_blank}
use Rattle.opl_token.specs.Longest.{comment_len, gap_len, lexeme_at}
use Rattle.opl_token.specs.Scan.{Piece, piece_text, texts, IsRow, tokens_of, Scans, fault_at, StopsAt, Faults}
use Rattle.opl_token.proofs.Comments.{comment_read}
use Rattle.opl_token.proofs.Lexemes.{Reads, reads}
use Rattle.opl_token.proofs.Pieces.{Front, blank_front, comment_front, lexeme_front, no_piece}
use Rattle.opl_token.proofs.Rows.{texts_push, row_push, tokens_push}

-- the first `at` bytes are a row of pieces with these tokens, where the others stand behind it
pub record SoFar (bytes : List ℕ) (at : ℕ) (tokens : List Token) : Type 0 where
  pub pieces : List Piece
  pub spelt : bytes ≡ texts pieces ++ drop at bytes
  pub row : IsRow pieces (drop at bytes)
  pub place : at ≡ length (texts pieces)
  pub lexemes : tokens ≡ tokens_of 0 pieces
  pub within : at ≤ length bytes

pub nothing_read : (bytes : List ℕ) → SoFar bytes 0 []
nothing_read bytes = record { pieces = []; spelt = refl; row = tt; place = refl; lexemes = refl; within = omega arith }

pub piece_more : (bytes : List ℕ) (at : ℕ) (tokens : List Token) (p : Piece) → SoFar bytes at tokens → Front (drop at bytes) p → SoFar bytes (at + length (piece_text p)) (tokens ++ tokens_of at (p ∷ []))
piece_more bytes at tokens p so_far front =
    let ps : List Piece = so_far.pieces in
    let len : ℕ = length (piece_text p) in
    let behind : drop (at + len) bytes ≡ front.rest = sym (drop-drop len at bytes) ∙ ap (drop len) front.spelt ∙ drop-append_seam (piece_text p) front.rest in
    let whole : bytes ≡ (texts ps ++ piece_text p) ++ front.rest = so_far.spelt ∙ ap (λ t. texts ps ++ t) front.spelt ∙ sym (append_assoc (texts ps) (piece_text p) front.rest) in
    let place : at ≡ 0 + length (texts ps) = omega (arith, so_far.place) in
    record {
      pieces = ps ++ p ∷ [];
      spelt = whole ∙ ap (λ t. t ++ front.rest) (sym (texts_push ps p)) ∙ ap (λ r. texts (ps ++ p ∷ []) ++ r) (sym behind);
      row = subst (IsRow (ps ++ p ∷ [])) (sym behind) (row_push ps p front.rest (subst (IsRow ps) front.spelt so_far.row) front.is);
      place = omega (arith, so_far.place, ap length (texts_push ps p), length-append (texts ps) (piece_text p));
      lexemes = ap (λ ts. ts ++ tokens_of at (p ∷ [])) so_far.lexemes ∙ ap (λ n. tokens_of 0 ps ++ tokens_of n (p ∷ [])) place ∙ sym (tokens_push 0 ps p);
      within = omega (arith, so_far.within, ap length front.spelt, length-drop at bytes, length-append (piece_text p) front.rest);
    }

blank_more : (bytes : List ℕ) (at : ℕ) (tokens : List Token) → SoFar bytes at tokens → begins is_blank (drop at bytes) ≡ true → SoFar bytes (at + 1) tokens
blank_more bytes at tokens so_far blank =
    let more : SoFar bytes (at + 1) (tokens ++ []) = piece_more bytes at tokens (Piece.Blank (get_or (drop at bytes) 0 0)) so_far (blank_front (drop at bytes) blank) in
    subst (SoFar bytes (at + 1)) (append-nil tokens) more

comment_more : (bytes : List ℕ) (at : ℕ) (tokens : List Token) (len : ℕ) → SoFar bytes at tokens → comment_len (drop at bytes) ≡ Some len → SoFar bytes (at + len) tokens
comment_more bytes at tokens len so_far is =
    let text : List ℕ = take len (drop at bytes) in
    let lens : length text ≡ len = length-take-le len (drop at bytes) (comment_read (drop at bytes) len is).within in
    let more : SoFar bytes (at + length text) (tokens ++ []) = piece_more bytes at tokens (Piece.Comment text) so_far (comment_front (drop at bytes) len is) in
    subst (λ n. SoFar bytes (at + n) tokens) lens (subst (SoFar bytes (at + length text)) (append-nil tokens) more)

-- a blank or a comment is passed over
pub gap_more : (bytes : List ℕ) (at : ℕ) (tokens : List Token) → SoFar bytes at tokens → 0 < gap_len (drop at bytes) → SoFar bytes (at + gap_len (drop at bytes)) tokens
gap_more bytes at tokens so_far some = blank_or (begins is_blank (drop at bytes)) refl some
  where
    comment_or : (o : Option ℕ) → comment_len (drop at bytes) ≡ o → 0 < unwrap_or o 0 → SoFar bytes (at + unwrap_or o 0) tokens
    comment_or None e some = absurd (omega arith)
    comment_or (Some len) e some = comment_more bytes at tokens len so_far e

    blank_or : (b : Bool) → begins is_blank (drop at bytes) ≡ b → 0 < cond b 1 (unwrap_or (comment_len (drop at bytes)) 0) → SoFar bytes (at + cond b 1 (unwrap_or (comment_len (drop at bytes)) 0)) tokens
    blank_or true e some = blank_more bytes at tokens so_far e
    blank_or false e some = comment_or (comment_len (drop at bytes)) refl some

pub lexeme_more : (bytes : List ℕ) (at : ℕ) (tokens : List Token) (l : Lexeme) → SoFar bytes at tokens → lexeme_at (drop at bytes) ≡ Some l → SoFar bytes (at + l.len) (tokens ++ record { kind = l.kind; at = at } ∷ [])
lexeme_more bytes at tokens l so_far is =
    let text : List ℕ = take l.len (drop at bytes) in
    let here : Reads (drop at bytes) l = reads (drop at bytes) l is in
    let len : length text ≡ l.len = length-take-le l.len (drop at bytes) here.within in
    let more : SoFar bytes (at + length text) (tokens ++ record { kind = l.kind; at = at } ∷ []) = piece_more bytes at tokens (Piece.Lexeme l.kind text) so_far (lexeme_front (drop at bytes) l is) in
    subst (λ n. SoFar bytes (at + n) (tokens ++ record { kind = l.kind; at = at } ∷ [])) len more

-- at the end of the text its tokens are read
pub all_read : (bytes : List ℕ) (at : ℕ) (tokens : List Token) → SoFar bytes at tokens → length bytes ≤ at → Scans bytes tokens
all_read bytes at tokens so_far past =
    let none : drop at bytes ≡ [] = drop_all at bytes past in
    record {
      pieces = so_far.pieces;
      spelt = so_far.spelt ∙ ap (λ r. texts so_far.pieces ++ r) none ∙ append-nil (texts so_far.pieces);
      row = subst (IsRow so_far.pieces) none so_far.row;
      lexemes = so_far.lexemes;
    }

pub faults : (bytes : List ℕ) (fault : ScanFault) → StopsAt bytes fault → Faults bytes fault
faults bytes (BadByte at) stops = stops
faults bytes (OpenComment at) stops = stops
faults bytes (OpenString at) stops = stops
faults bytes (NumberTooLarge at) stops = stops
faults bytes OutOfMemory stops = tt

pub stops : (bytes : List ℕ) (fault : ScanFault) → Faults bytes fault → fault ≢ OutOfMemory → StopsAt bytes fault
stops bytes (BadByte at) fault other = fault
stops bytes (OpenComment at) fault other = fault
stops bytes (OpenString at) fault other = fault
stops bytes (NumberTooLarge at) fault other = fault
stops bytes OutOfMemory fault other = absurd (other refl)

no_gap : (bytes : List ℕ) → gap_len bytes ≡ 0 → (begins is_blank bytes ≡ false) × (comment_len bytes ≡ None)
no_gap bytes none = blank_or (begins is_blank bytes) (comment_len bytes) refl refl none
  where
    blank_or : (b : Bool) (o : Option ℕ) → begins is_blank bytes ≡ b → comment_len bytes ≡ o → cond b 1 (unwrap_or o 0) ≡ 0 → (begins is_blank bytes ≡ false) × (comment_len bytes ≡ None)
    blank_or true o e f none = absurd (omega arith)
    blank_or false None e f none = (e, f)
    blank_or false (Some len) e f none = let some : 2 ≤ len = (comment_read bytes len f).some in absurd (omega arith)

-- a place where no piece begins is the fault's
pub stop : (bytes : List ℕ) (at : ℕ) (tokens : List Token) → SoFar bytes at tokens → at < length bytes → gap_len (drop at bytes) ≡ 0 → lexeme_at (drop at bytes) ≡ None → StopsAt bytes (fault_at at (drop at bytes))
stop bytes at tokens so_far left gap lexeme = let none : (begins is_blank (drop at bytes) ≡ false) × (comment_len (drop at bytes) ≡ None) = no_gap (drop at bytes) gap in record {
  pieces = so_far.pieces;
  rest = drop at bytes;
  spelt = so_far.spelt;
  row = so_far.row;
  left = λ e. let none : length (drop at bytes) ≡ 0 = ap length e in absurd (omega (arith, length-drop at bytes));
  none = no_piece (drop at bytes) none.0 none.1 lexeme;
  cause = ap (λ n. fault_at n (drop at bytes)) so_far.place;
}
