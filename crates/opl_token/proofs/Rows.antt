-- Rows of pieces: a text has one at most, and it grows by a piece at its end.
use Rattle.std.proofs.Common.{◌≡◌, ℕ, suc, ◌+◌, List, [], ◌∷◌, ◌++◌, length, refl, ap, sym, ◌∙◌, subst, arith, append_assoc, append-nil, length-append}
use Rattle.std.proofs.lemmas.List.{append_cancel_left}
use Rattle.opl_token.specs.Scan.{Piece, piece_text, texts, IsPiece, IsRow, BeginsNone, tokens_of}
use Rattle.opl_token.proofs.Pieces.{one_piece}

-- ---- one row

-- two rows from one place, each up to where no piece begins, are one
pub one_row : (ps qs : List Piece) (r s : List ℕ) → texts ps ++ r ≡ texts qs ++ s → IsRow ps r → IsRow qs s → BeginsNone r → BeginsNone s → (ps ≡ qs) × (r ≡ s)
one_row [] [] r s spelt left right none_left none_right = (refl, spelt)
one_row [] (q ∷ qs) r s spelt left right none_left none_right =
    absurd (none_left q (texts qs ++ s) (sym (append_assoc (piece_text q) (texts qs) s) ∙ sym spelt) right.0)
one_row (p ∷ ps) [] r s spelt left right none_left none_right =
    absurd (none_right p (texts ps ++ r) (sym (append_assoc (piece_text p) (texts ps) r) ∙ spelt) left.0)
one_row (p ∷ ps) (q ∷ qs) r s spelt left right none_left none_right =
    let whole : piece_text p ++ (texts ps ++ r) ≡ piece_text q ++ (texts qs ++ s) = sym (append_assoc (piece_text p) (texts ps) r) ∙ spelt ∙ append_assoc (piece_text q) (texts qs) s in
    let first : p ≡ q = one_piece p q (texts ps ++ r) (texts qs ++ s) whole left.0 right.0 in
    let behind : texts ps ++ r ≡ texts qs ++ s = append_cancel_left (piece_text q) _ _ (ap (λ x. piece_text x ++ (texts ps ++ r)) (sym first) ∙ whole) in
    let more : (ps ≡ qs) × (r ≡ s) = one_row ps qs r s behind left.1 right.1 none_left none_right in
    (ap (λ x. x ∷ ps) first ∙ ap (λ xs. q ∷ xs) more.0, more.1)

-- ---- one more piece

pub texts_push : (ps : List Piece) (p : Piece) → texts (ps ++ p ∷ []) ≡ texts ps ++ piece_text p
texts_push [] p = append-nil (piece_text p)
texts_push (q ∷ ps) p = ap (λ t. piece_text q ++ t) (texts_push ps p) ∙ sym (append_assoc (piece_text q) (texts ps) (piece_text p))

pub row_push : (ps : List Piece) (p : Piece) (rest : List ℕ) → IsRow ps (piece_text p ++ rest) → IsPiece p rest → IsRow (ps ++ p ∷ []) rest
row_push [] p rest row is = (is, tt)
row_push (q ∷ ps) p rest row is =
    let behind : texts ps ++ (piece_text p ++ rest) ≡ texts (ps ++ p ∷ []) ++ rest = sym (append_assoc (texts ps) (piece_text p) rest) ∙ ap (λ t. t ++ rest) (sym (texts_push ps p)) in
    (subst (IsPiece q) behind row.0, row_push ps p rest row.1 is)

pub tokens_push : (at : ℕ) (ps : List Piece) (p : Piece) → tokens_of at (ps ++ p ∷ []) ≡ tokens_of at ps ++ tokens_of (at + length (texts ps)) (p ∷ [])
tokens_push at [] p = ap (λ n. tokens_of n (p ∷ [])) (let e : at ≡ at + 0 = omega arith in e)
tokens_push at (Piece.Blank b ∷ ps) p = tokens_push (at + 1) ps p ∙ ap (λ n. tokens_of (at + 1) ps ++ tokens_of n (p ∷ [])) (let e : at + 1 + length (texts ps) ≡ at + suc (length (texts ps)) = omega arith in e)
tokens_push at (Piece.Comment text ∷ ps) p =
    let e : at + length text + length (texts ps) ≡ at + length (text ++ texts ps) = omega (arith, length-append text (texts ps)) in
    tokens_push (at + length text) ps p ∙ ap (λ n. tokens_of (at + length text) ps ++ tokens_of n (p ∷ [])) e
tokens_push at (Piece.Lexeme k text ∷ ps) p =
    let e : at + length text + length (texts ps) ≡ at + length (text ++ texts ps) = omega (arith, length-append text (texts ps)) in
    ap (λ ts. record { kind = k; at = at } ∷ ts) (tokens_push (at + length text) ps p ∙ ap (λ n. tokens_of (at + length text) ps ++ tokens_of n (p ∷ [])) e)
