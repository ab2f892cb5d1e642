-- A text has one token list or one fault, and not both.
use Rattle.std.proofs.Common.{◌≡◌, ◌≢◌, ◌<◌, ◌≤◌, ◌⊎◌, inl, inr, ℕ, zero, suc, ◌+◌, Bool, true, false, cond, nat_le, nat_eq, codes, List, [], ◌∷◌, ◌++◌, length, drop, Option, Some, None, refl, ap, sym, ◌∙◌, arith, append-nil}
use Rattle.std.specs.Char.{is_ascii_digit}
use Rattle.std.specs.List.{starts_with}
use Rattle.std.proofs.lemmas.Bool.{leb-true, leb-false}
use Rattle.opl_token.specs.declared.scanner.Lexeme.{Lexeme}
use Rattle.opl_token.specs.declared.fault.ScanFault.{ScanFault}
use Rattle.opl_token.specs.declared.fault.ScanFault.TheVariants.{BadByte, OpenComment, OpenString, NumberTooLarge, OutOfMemory}
use Rattle.opl_token.specs.declared.token.Token.{Token}
use Rattle.opl_token.specs.Lexeme.{begins}
use Rattle.opl_token.specs.Longest.{gap_len, lexeme_at}
use Rattle.opl_token.specs.Scan.{texts, tokens_of, Scans, fault_at, StopsAt, Faults}
use Rattle.opl_token.specs.Laws.{OneScan, NoFault, OneFault, Total}
use Rattle.opl_token.proofs.Lexemes.{found_within}
use Rattle.opl_token.proofs.Pieces.{nothing_begins_none}
use Rattle.opl_token.proofs.Rows.{one_row}
use Rattle.opl_token.proofs.Scanning.{SoFar, nothing_read, gap_more, lexeme_more, all_read, faults, stops, stop}

pub one_scan : OneScan
one_scan bytes tokens others scan other =
    let spelt : texts scan.pieces ++ [] ≡ texts other.pieces ++ [] = append-nil (texts scan.pieces) ∙ sym scan.spelt ∙ other.spelt ∙ sym (append-nil (texts other.pieces)) in
    let one : (scan.pieces ≡ other.pieces) × ([] ≡ []) = one_row scan.pieces other.pieces [] [] spelt scan.row other.row nothing_begins_none nothing_begins_none in
    scan.lexemes ∙ ap (λ ps. tokens_of 0 ps) one.0 ∙ sym other.lexemes

scan_no_stop : (bytes : List ℕ) (tokens : List Token) (fault : ScanFault) → Scans bytes tokens → StopsAt bytes fault → ⊥
scan_no_stop bytes tokens fault scan stop =
    let spelt : texts scan.pieces ++ [] ≡ texts stop.pieces ++ stop.rest = append-nil (texts scan.pieces) ∙ sym scan.spelt ∙ stop.spelt in
    let one : (scan.pieces ≡ stop.pieces) × ([] ≡ stop.rest) = one_row scan.pieces stop.pieces [] stop.rest spelt scan.row stop.row nothing_begins_none stop.none in
    stop.left (sym one.1)

pub no_fault : NoFault
no_fault bytes tokens (BadByte at) scan fault = absurd (scan_no_stop bytes tokens (BadByte at) scan fault)
no_fault bytes tokens (OpenComment at) scan fault = absurd (scan_no_stop bytes tokens (OpenComment at) scan fault)
no_fault bytes tokens (OpenString at) scan fault = absurd (scan_no_stop bytes tokens (OpenString at) scan fault)
no_fault bytes tokens (NumberTooLarge at) scan fault = absurd (scan_no_stop bytes tokens (NumberTooLarge at) scan fault)
no_fault bytes tokens OutOfMemory scan fault = refl

one_stop : (bytes : List ℕ) (fault other : ScanFault) → StopsAt bytes fault → StopsAt bytes other → fault ≡ other
one_stop bytes fault other here there =
    let one : (here.pieces ≡ there.pieces) × (here.rest ≡ there.rest) = one_row here.pieces there.pieces here.rest there.rest (sym here.spelt ∙ there.spelt) here.row there.row here.none there.none in
    here.cause ∙ ap (λ ps. fault_at (length (texts ps)) here.rest) one.0 ∙ ap (λ r. fault_at (length (texts there.pieces)) r) one.1 ∙ sym there.cause

pub one_fault : OneFault
one_fault bytes fault other here there known another = one_stop bytes fault other (stops bytes fault here known) (stops bytes other there another)

-- ---- a text has one of the two

fault_known : (at : ℕ) (rest : List ℕ) → fault_at at rest ≢ OutOfMemory
fault_known at rest = known (starts_with nat_eq rest (codes "/*")) (starts_with nat_eq rest (codes "\"")) (begins is_ascii_digit rest)
  where
    known : (comment text digit : Bool) → cond {A = ScanFault} comment (OpenComment at) (cond text (OpenString at) (cond digit (NumberTooLarge at) (BadByte at))) ≢ OutOfMemory
    known true text digit e = cc
    known false true digit e = cc
    known false false true e = cc
    known false false false e = cc

abbrev Ends : List ℕ → Type 0
Ends bytes = ((tokens : List Token) × Scans bytes tokens) ⊎ ((fault : ScanFault) × (fault ≢ OutOfMemory) × Faults bytes fault)

-- a scan that has read the first `at` bytes ends, where one that has read more of them does
step : (left : ℕ) (bytes : List ℕ) (at : ℕ) (tokens : List Token) → SoFar bytes at tokens → length bytes ≤ at + suc left → ((next : ℕ) (found : List Token) → SoFar bytes next found → length bytes ≤ next + left → Ends bytes) → Ends bytes
step left bytes at tokens so_far near more = end_or (nat_le (length bytes) at) refl
  where
    lexeme_or : at < length bytes → gap_len (drop at bytes) ≡ 0 → (o : Option Lexeme) → lexeme_at (drop at bytes) ≡ o → Ends bytes
    lexeme_or inside gap None e =
        let fault : ScanFault = fault_at at (drop at bytes) in
        inr (fault, fault_known at (drop at bytes), faults bytes fault (stop bytes at tokens so_far inside gap e))
    lexeme_or inside gap (Some l) e =
        let some : (0 < l.len) × (l.len ≤ length (drop at bytes)) = found_within (drop at bytes) l e in
        more (at + l.len) (tokens ++ record { kind = l.kind; at = at } ∷ []) (lexeme_more bytes at tokens l so_far e) (omega arith)

    gap_or : at < length bytes → (len : ℕ) → gap_len (drop at bytes) ≡ len → Ends bytes
    gap_or inside zero e = lexeme_or inside e (lexeme_at (drop at bytes)) refl
    gap_or inside (suc len) e =
        let some : 0 < gap_len (drop at bytes) = omega arith in
        more (at + gap_len (drop at bytes)) tokens (gap_more bytes at tokens so_far some) (omega arith)

    end_or : (b : Bool) → nat_le (length bytes) at ≡ b → Ends bytes
    end_or true e = inl (tokens, all_read bytes at tokens so_far (leb-true _ _ e))
    end_or false e = gap_or (leb-false _ _ e) (gap_len (drop at bytes)) refl

ends : (left : ℕ) (bytes : List ℕ) (at : ℕ) (tokens : List Token) → SoFar bytes at tokens → length bytes ≤ at + left → Ends bytes
ends zero bytes at tokens so_far past = inl (tokens, all_read bytes at tokens so_far (omega arith))
ends (suc left) bytes at tokens so_far near = step left bytes at tokens so_far near (ends left bytes)

pub total : Total
total bytes = ends (length bytes) bytes 0 [] (nothing_read bytes) (omega arith)
