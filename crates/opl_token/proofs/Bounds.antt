-- How many tokens a text has, where they stand, and which numbers they hold.
use Rattle.std.proofs.Common.{◌≡◌, ◌<◌, ◌≤◌, ℕ, zero, suc, ◌+◌, List, [], ◌∷◌, ◌++◌, length, get_or, map, ap, sym, subst, arith, length-append}
use Rattle.std.specs.List.{All}
use Rattle.std.specs.List.Sorted.{IsStrictlyIncreasing}
use Rattle.std.proofs.lemmas.List.Elements.{All-nil, All-cons}
use Rattle.opl_token.specs.declared.token.Kind.{Kind}
use Rattle.opl_token.specs.declared.token.Kind.TheVariants as kind
use Rattle.opl_token.specs.declared.token.Token.{Token}
use Rattle.opl_token.specs.Lexeme.{number, IsLexeme}
use Rattle.opl_token.specs.Scan.{Piece, texts, IsRow, tokens_of}
use Rattle.opl_token.specs.Laws.{FewTokens, PlacesWithin, PlacesRise, NumberFits, NumbersFit}
use Rattle.opl_token.proofs.Lexemes.{lexeme_some}

tokens_few : (at : ℕ) (ps : List Piece) (rest : List ℕ) → IsRow ps rest → length (tokens_of at ps) ≤ length (texts ps)
tokens_few at [] rest row = omega arith
tokens_few at (Piece.Blank b ∷ ps) rest row =
    let more : length (tokens_of (at + 1) ps) ≤ length (texts ps) = tokens_few (at + 1) ps rest row.1 in omega arith
tokens_few at (Piece.Comment text ∷ ps) rest row =
    let more : length (tokens_of (at + length text) ps) ≤ length (texts ps) = tokens_few (at + length text) ps rest row.1 in
    omega (arith, length-append text (texts ps))
tokens_few at (Piece.Lexeme k text ∷ ps) rest row =
    let more : length (tokens_of (at + length text) ps) ≤ length (texts ps) = tokens_few (at + length text) ps rest row.1 in
    let some : 0 < length text = lexeme_some k text (texts ps ++ rest) row.0.lexeme in
    omega (arith, length-append text (texts ps))

pub few_tokens : FewTokens
few_tokens bytes tokens scan = omega (arith, ap length scan.spelt, ap length scan.lexemes, tokens_few 0 scan.pieces [] scan.row)

-- each token of a row stands from its start on, and before its end
tokens_between : (at end : ℕ) (ps : List Piece) (rest : List ℕ) → IsRow ps rest → at + length (texts ps) ≤ end → All (λ token. (at ≤ token.at) × (token.at < end)) (tokens_of at ps)
tokens_between at end [] rest row within = All-nil (λ (token : Token). (at ≤ token.at) × (token.at < end))
tokens_between at end (Piece.Blank b ∷ ps) rest row within =
    let more : All (λ token. (at + 1 ≤ token.at) × (token.at < end)) (tokens_of (at + 1) ps) = tokens_between (at + 1) end ps rest row.1 (omega arith) in
    λ k d h. let there : (at + 1 ≤ (get_or (tokens_of (at + 1) ps) k d).at) × ((get_or (tokens_of (at + 1) ps) k d).at < end) = more k d h in (omega arith, there.1)
tokens_between at end (Piece.Comment text ∷ ps) rest row within =
    let behind : at + length text + length (texts ps) ≤ end = omega (arith, length-append text (texts ps)) in
    let more : All (λ token. (at + length text ≤ token.at) × (token.at < end)) (tokens_of (at + length text) ps) = tokens_between (at + length text) end ps rest row.1 behind in
    λ k d h. let there : (at + length text ≤ (get_or (tokens_of (at + length text) ps) k d).at) × ((get_or (tokens_of (at + length text) ps) k d).at < end) = more k d h in (omega arith, there.1)
tokens_between at end (Piece.Lexeme k text ∷ ps) rest row within =
    let some : 0 < length text = lexeme_some k text (texts ps ++ rest) row.0.lexeme in
    let behind : at + length text + length (texts ps) ≤ end = omega (arith, length-append text (texts ps)) in
    let more : All (λ token. (at + length text ≤ token.at) × (token.at < end)) (tokens_of (at + length text) ps) = tokens_between (at + length text) end ps rest row.1 behind in
    let first : (at ≤ at) × (at < end) = (omega arith, omega arith) in
    All-cons (λ (token : Token). (at ≤ token.at) × (token.at < end)) (record { kind = k; at = at }) (tokens_of (at + length text) ps) first
    (λ j d h. let there : (at + length text ≤ (get_or (tokens_of (at + length text) ps) j d).at) × ((get_or (tokens_of (at + length text) ps) j d).at < end) = more j d h in (omega arith, there.1))

pub places_within : PlacesWithin
places_within bytes tokens scan =
    let between : All (λ token. (0 ≤ token.at) × (token.at < length bytes)) (tokens_of 0 scan.pieces) = tokens_between 0 (length bytes) scan.pieces [] scan.row (omega (arith, ap length scan.spelt)) in
    let P : List Token → Type 0 = λ ts. All (λ token. token.at < length bytes) ts in
    subst P (sym scan.lexemes) (λ k d h. (between k d h).1)

rise_cons : (x : ℕ) (xs : List ℕ) → (0 < length xs → x < get_or xs 0 0) → IsStrictlyIncreasing xs → IsStrictlyIncreasing (x ∷ xs)
rise_cons x xs first more zero h = first (omega arith)
rise_cons x xs first more (suc k) h = let next : suc k + 1 ≡ suc (k + 1) = omega arith in rw next (more k (omega arith))

first_behind : (at len end : ℕ) (tokens : List Token) → 0 < len → All (λ token. (at + len ≤ token.at) × (token.at < end)) tokens → 0 < length (map (λ (token : Token). token.at) tokens) → at < get_or (map (λ (token : Token). token.at) tokens) 0 0
first_behind at len end [] some between h = absurd (omega arith)
first_behind at len end (token ∷ tokens) some between h = let there : (at + len ≤ token.at) × (token.at < end) = between 0 token (omega arith) in omega arith

rises : (at : ℕ) (ps : List Piece) (rest : List ℕ) → IsRow ps rest → IsStrictlyIncreasing (map (λ (token : Token). token.at) (tokens_of at ps))
rises at [] rest row = λ k h. absurd (omega arith)
rises at (Piece.Blank b ∷ ps) rest row = rises (at + 1) ps rest row.1
rises at (Piece.Comment text ∷ ps) rest row = rises (at + length text) ps rest row.1
rises at (Piece.Lexeme kind text ∷ ps) rest row =
    let some : 0 < length text = lexeme_some kind text (texts ps ++ rest) row.0.lexeme in
    let end : ℕ = at + length text + length (texts ps) in
    let between : All (λ token. (at + length text ≤ token.at) × (token.at < end)) (tokens_of (at + length text) ps) = tokens_between (at + length text) end ps rest row.1 (omega arith) in
    rise_cons at (map (λ (token : Token). token.at) (tokens_of (at + length text) ps)) (first_behind at (length text) end (tokens_of (at + length text) ps) some between) (rises (at + length text) ps rest row.1)

pub places_rise : PlacesRise
places_rise bytes tokens scan =
    let P : List Token → Type 0 = λ ts. IsStrictlyIncreasing (map (λ (token : Token). token.at) ts) in
    subst P (sym scan.lexemes) (rises 0 scan.pieces [] scan.row)

kind_fits : (k : Kind) (text rest : List ℕ) → IsLexeme k text rest → NumberFits k
kind_fits (kind.Word name) text rest lexeme = tt
kind_fits (kind.Number n) text rest lexeme = (number text, lexeme.0, lexeme.1.fits)
kind_fits (kind.Text inner) text rest lexeme = tt
kind_fits (kind.Sign s) text rest lexeme = tt

tokens_fit : (at : ℕ) (ps : List Piece) (rest : List ℕ) → IsRow ps rest → All (λ (token : Token). NumberFits token.kind) (tokens_of at ps)
tokens_fit at [] rest row = All-nil (λ (token : Token). NumberFits token.kind)
tokens_fit at (Piece.Blank b ∷ ps) rest row = tokens_fit (at + 1) ps rest row.1
tokens_fit at (Piece.Comment text ∷ ps) rest row = tokens_fit (at + length text) ps rest row.1
tokens_fit at (Piece.Lexeme k text ∷ ps) rest row =
    All-cons (λ (token : Token). NumberFits token.kind) (record { kind = k; at = at }) (tokens_of (at + length text) ps) (kind_fits k text (texts ps ++ rest) row.0.lexeme) (tokens_fit (at + length text) ps rest row.1)

pub numbers_fit : NumbersFit
numbers_fit bytes tokens scan =
    let P : List Token → Type 0 = λ ts. All (λ (token : Token). NumberFits token.kind) ts in
    subst P (sym scan.lexemes) (tokens_fit 0 scan.pieces [] scan.row)
