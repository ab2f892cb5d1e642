-- The function that finds a lexeme finds the longest one, wherever one begins, and no other.
use Rattle.std.proofs.Common.{◌≡◌, ◌<◌, ◌≤◌, ℕ, ℤ, pos, ◌+◌, ◌-◌, ◌^◌, Bool, true, false, cond, if◌then◌else◌, nat_lt, nat_eq, codes, List, [], ◌∷◌, ◌++◌, length, take, drop, Option, Some, None, refl, ap, sym, ◌∙◌, subst, arith, append_assoc, length-append, length-take}
use Rattle.std.specs.List.{prefix_len, starts_with}
use Rattle.std.specs.Option.{option_map}
use Rattle.std.specs.Char.{is_ascii_digit}
use Rattle.std.proofs.lemmas.Bool.{ltb-true}
use Rattle.std.proofs.lemmas.Bool.Decides.{Decides-eqb}
use Rattle.std.proofs.lemmas.List.{take-append-drop, length-take-le}
use Rattle.std.proofs.lemmas.List.Sums.{prefix_len-le-length}
use Rattle.std.proofs.lemmas.Slice.Eq.{starts_is}
use Rattle.std.proofs.Math.Seq.{take-append_seam, drop-append_seam}
use Rattle.opl_token.specs.declared.scanner.Lexeme.{Lexeme}
use Rattle.opl_token.specs.declared.sign.Sign.{Sign}
use Rattle.opl_token.specs.declared.sign.TheConstants.{SIGNS}
use Rattle.opl_token.specs.declared.token.Kind.{Kind}
use Rattle.opl_token.specs.declared.token.Kind.TheVariants as kind
use Rattle.opl_token.specs.Lexeme.{begins, is_quote, is_text_byte, is_word_start, is_word_byte, number, sign_text, IsWord, IsNumber, IsText, IsLexeme}
use Rattle.opl_token.specs.Longest.{word_at, number_at, text_at, longest_sign, sign_at, lexeme_at}
use Rattle.opl_token.specs.Scan.{IsLongest}
use Rattle.opl_token.proofs.Bytes.{is_gap, digit_no_start, quote_no_start, quote_no_digit, digit_no_gap, start_no_gap, quote_no_gap, start_is_byte, begins_implies, begins_front, begins_some}
use Rattle.opl_token.proofs.Numbers.{small}
use Rattle.opl_token.proofs.Runs.{run_covers, run_is, run_passes, run_ends, run_begins}
use Rattle.opl_token.proofs.Signs.{find_passes, longest_found, none_found, sign_of, sign_of-text, sign_no_start, sign_no_digit, sign_no_quote, sign_no_gap, sign_front, sign_some}

-- ---- which function finds the lexeme

at_word : (bytes : List ℕ) → begins is_word_start bytes ≡ true → lexeme_at bytes ≡ Some (word_at bytes)
at_word bytes start = rw start refl

at_number : (bytes : List ℕ) → begins is_word_start bytes ≡ false → begins is_ascii_digit bytes ≡ true → lexeme_at bytes ≡ number_at bytes
at_number bytes word digit = rw (word, digit) refl

at_text : (bytes : List ℕ) → begins is_word_start bytes ≡ false → begins is_ascii_digit bytes ≡ false → begins is_quote bytes ≡ true → lexeme_at bytes ≡ text_at (drop 1 bytes)
at_text bytes word digit quote = rw (word, digit, quote) refl

at_sign : (bytes : List ℕ) → begins is_word_start bytes ≡ false → begins is_ascii_digit bytes ≡ false → begins is_quote bytes ≡ false → lexeme_at bytes ≡ sign_at bytes
at_sign bytes word digit quote = rw (word, digit, quote) refl

-- ---- a lexeme is found

-- a lexeme of at least so many bytes is found
pub record Found (bytes : List ℕ) (len : ℕ) : Type 0 where
  pub found : Lexeme
  pub is : lexeme_at bytes ≡ Some found
  pub covers : len ≤ found.len

word_found : (text rest : List ℕ) → IsWord text → Found (text ++ rest) (length text)
word_found text rest word =
    let start : begins is_word_start (text ++ rest) ≡ true = begins_front is_word_start is_word_start text rest word.start ∙ word.start in
    record { found = word_at (text ++ rest); is = at_word (text ++ rest) start; covers = run_covers is_word_byte text rest word.bytes }

number_found : (text rest : List ℕ) → IsNumber text rest → Found (text ++ rest) (length text)
number_found text rest num =
    let no_word : begins is_word_start (text ++ rest) ≡ false = begins_front is_ascii_digit is_word_start text rest num.start ∙ begins_implies is_ascii_digit is_word_start false text digit_no_start num.start in
    let digit : begins is_ascii_digit (text ++ rest) ≡ true = begins_front is_ascii_digit is_ascii_digit text rest num.start ∙ num.start in
    let run : prefix_len is_ascii_digit (text ++ rest) ≡ length text = run_is is_ascii_digit text rest num.digits num.ends in
    let is : number_at (text ++ rest) ≡ Some (record { kind = kind.Number (pos (number text)); len = length text }) = rw (run, take-append_seam text rest, small text num.fits) refl in
    record { found = record { kind = kind.Number (pos (number text)); len = length text }; is = at_number (text ++ rest) no_word digit ∙ is; covers = omega arith }

text_found : (text inner rest : List ℕ) → IsText text inner → Found (text ++ rest) (length text)
text_found text inner rest is =
    let found : Lexeme = record { kind = kind.Text inner; len = length inner + 2 } in
    let behind : (codes "\"" ++ (inner ++ codes "\"")) ++ rest ≡ codes "\"" ++ (inner ++ (34 ∷ rest)) = ap (λ t. 34 ∷ t) (append_assoc inner (codes "\"") rest) in
    let run : prefix_len is_text_byte (inner ++ (34 ∷ rest)) ≡ length inner = run_is is_text_byte inner (34 ∷ rest) is.bytes refl in
    let here : text_at (inner ++ (34 ∷ rest)) ≡ Some found = rw (run, drop-append_seam inner (34 ∷ rest), take-append_seam inner (34 ∷ rest)) refl in
    let whole : lexeme_at (text ++ rest) ≡ Some found = ap (λ t. lexeme_at (t ++ rest)) is.spelt ∙ ap lexeme_at behind ∙ here in
    record { found = found; is = whole; covers = omega (arith, ap length is.spelt, length-append inner (codes "\"")) }

sign_begins : (s : Sign) (rest : List ℕ) → starts_with nat_eq (sign_text s ++ rest) (sign_text s) ≡ true
sign_begins s rest = ((starts_is Decides-eqb (sign_text s ++ rest) (sign_text s) _ refl).1) rest refl

sign_found : (s : Sign) (rest : List ℕ) → Found (sign_text s ++ rest) (length (sign_text s))
sign_found s rest = cases (longest_sign (sign_text s ++ rest)) refl
  where
    no_word : begins is_word_start (sign_text s ++ rest) ≡ false
    no_word = sign_front s is_word_start rest ∙ sign_no_start s

    no_digit : begins is_ascii_digit (sign_text s ++ rest) ≡ false
    no_digit = sign_front s is_ascii_digit rest ∙ sign_no_digit s

    no_quote : begins is_quote (sign_text s ++ rest) ≡ false
    no_quote = sign_front s is_quote rest ∙ sign_no_quote s

    cases : (o : Option Sign) → longest_sign (sign_text s ++ rest) ≡ o → Found (sign_text s ++ rest) (length (sign_text s))
    cases None e =
        let fails : starts_with nat_eq (sign_text s ++ rest) (sign_text s) ≡ false = none_found (λ t. starts_with nat_eq (sign_text s ++ rest) (sign_text t)) s e in
        let passes : starts_with nat_eq (sign_text s ++ rest) (sign_text s) ≡ true = sign_begins s rest in
        absurd (let differ : true ≡ false = sym passes ∙ fails in cc)
    cases (Some t) e = record {
      found = record { kind = kind.Sign t; len = length (sign_text t) };
      is = at_sign (sign_text s ++ rest) no_word no_digit no_quote ∙ rw e refl;
      covers = longest_found (λ t. starts_with nat_eq (sign_text s ++ rest) (sign_text t)) t s e (sign_begins s rest);
    }

pub found : (k : Kind) (text rest : List ℕ) → IsLexeme k text rest → Found (text ++ rest) (length text)
found (kind.Word name) text rest lexeme = word_found text rest lexeme.1
found (kind.Number n) text rest lexeme = number_found text rest lexeme.1
found (kind.Text inner) text rest lexeme = text_found text inner rest lexeme
found (kind.Sign s) text rest lexeme = subst (λ (t : List ℕ). Found (t ++ rest) (length t)) (sym lexeme) (sign_found s rest)

-- ---- what is found is a lexeme

-- what is found is a lexeme at the front of the bytes
pub record Reads (bytes : List ℕ) (found : Lexeme) : Type 0 where
  pub within : found.len ≤ length bytes
  pub lexeme : IsLexeme found.kind (take found.len bytes) (drop found.len bytes)

word_read : (bytes : List ℕ) → begins is_word_start bytes ≡ true → Reads bytes (word_at bytes)
word_read bytes start = record {
  within = prefix_len-le-length is_word_byte bytes;
  lexeme = (refl, record { start = run_begins is_word_start is_word_byte bytes start_is_byte start; bytes = run_passes is_word_byte bytes });
}

number_read : (bytes : List ℕ) (found : Lexeme) → begins is_ascii_digit bytes ≡ true → number_at bytes ≡ Some found → Reads bytes found
number_read bytes found digit is = cases (nat_lt (number digits) (2 ^ 127)) refl is
  where
    len : ℕ
    len = prefix_len is_ascii_digit bytes

    digits : List ℕ
    digits = take len bytes

    cases : (b : Bool) → nat_lt (number digits) (2 ^ 127) ≡ b → option_map (λ n. record { kind = kind.Number n; len = len }) (cond {A = Option ℤ} b (Some (pos (number digits))) None) ≡ Some found → Reads bytes found
    cases false fits e = cc
    cases true fits e =
        let one : record { kind = kind.Number (pos (number digits)); len = len } ≡ found = cc in
        subst (Reads bytes) one (record {
          within = prefix_len-le-length is_ascii_digit bytes;
          lexeme = (refl, record { start = run_begins is_ascii_digit is_ascii_digit bytes (λ b h. h) digit; digits = run_passes is_ascii_digit bytes; ends = run_ends is_ascii_digit bytes; fits = ltb-true _ _ fits });
        })

quote_first : (bytes : List ℕ) → begins is_quote bytes ≡ true → bytes ≡ 34 ∷ drop 1 bytes
quote_first [] quote = cc
quote_first (b ∷ bs) quote = ap (λ x. x ∷ bs) ((Decides-eqb b 34).0 quote)

text_read : (bytes : List ℕ) (found : Lexeme) → begins is_quote bytes ≡ true → text_at (drop 1 bytes) ≡ Some found → Reads bytes found
text_read [] found quote is = cc
text_read (b ∷ bs) found quote is = cases (begins is_quote (drop len bs)) refl is
  where
    len : ℕ
    len = prefix_len is_text_byte bs

    back : List ℕ
    back = drop 1 (drop len bs)

    text : List ℕ
    text = codes "\"" ++ (take len bs ++ codes "\"")

    whole : begins is_quote (drop len bs) ≡ true → b ∷ bs ≡ text ++ back
    whole closed =
        let behind : bs ≡ take len bs ++ (34 ∷ back) = sym (take-append-drop len bs) ∙ ap (λ t. take len bs ++ t) (quote_first (drop len bs) closed) in
        quote_first (b ∷ bs) quote ∙ ap (λ t. 34 ∷ t) (behind ∙ sym (append_assoc (take len bs) (codes "\"") back))

    lens : length text ≡ len + 2
    lens = omega (arith, length-append (take len bs) (codes "\""), length-take-le len bs (prefix_len-le-length is_text_byte bs))

    cases : (closed : Bool) → begins is_quote (drop len bs) ≡ closed → cond {A = Option Lexeme} closed (Some (record { kind = kind.Text (take len bs); len = len + 2 })) None ≡ Some found → Reads (b ∷ bs) found
    cases false e same = cc
    cases true e same =
        let one : record { kind = kind.Text (take len bs); len = len + 2 } ≡ found = cc in
        subst (Reads (b ∷ bs)) one (record {
          within = omega (arith, lens, ap length (whole e), length-append text back);
          lexeme = record { spelt = ap (λ n. take n (b ∷ bs)) (sym lens) ∙ ap (take (length text)) (whole e) ∙ take-append_seam text back; bytes = run_passes is_text_byte bs };
        })

sign_read : (bytes : List ℕ) (found : Lexeme) → sign_at bytes ≡ Some found → Reads bytes found
sign_read bytes found is = cases (longest_sign bytes) refl is
  where
    cases : (o : Option Sign) → longest_sign bytes ≡ o → option_map (λ s. record { kind = kind.Sign s; len = length (sign_text s) }) o ≡ Some found → Reads bytes found
    cases None e same = cc
    cases (Some s) e same =
        let passes : starts_with nat_eq bytes (sign_text s) ≡ true = find_passes (λ s. starts_with nat_eq bytes (sign_text s)) SIGNS s e in
        let spelt : bytes ≡ sign_text s ++ drop (length (sign_text s)) bytes = (starts_is Decides-eqb bytes (sign_text s) _ refl).0 passes in
        let one : record { kind = kind.Sign s; len = length (sign_text s) } ≡ found = cc in
        subst (Reads bytes) one (record {
          within = omega (arith, ap length spelt, length-append (sign_text s) (drop (length (sign_text s)) bytes));
          lexeme = ap (take (length (sign_text s))) spelt ∙ take-append_seam (sign_text s) (drop (length (sign_text s)) bytes);
        })

pub reads : (bytes : List ℕ) (found : Lexeme) → lexeme_at bytes ≡ Some found → Reads bytes found
reads bytes found is = cases (begins is_word_start bytes) (begins is_ascii_digit bytes) (begins is_quote bytes) refl refl refl
  where
    cases : (word digit quote : Bool) → begins is_word_start bytes ≡ word → begins is_ascii_digit bytes ≡ digit → begins is_quote bytes ≡ quote → Reads bytes found
    cases true digit quote e f g = let one : word_at bytes ≡ found = cc (at_word bytes e) in subst (Reads bytes) one (word_read bytes e)
    cases false true quote e f g = number_read bytes found f (sym (at_number bytes e f) ∙ is)
    cases false false true e f g = text_read bytes found g (sym (at_text bytes e f g) ∙ is)
    cases false false false e f g = sign_read bytes found (sym (at_sign bytes e f g) ∙ is)

-- ---- one kind for each text

text_quote : (text inner : List ℕ) → IsText text inner → begins is_quote text ≡ true
text_quote text inner is = ap (λ t. begins is_quote t) is.spelt

pub lexeme_some : (k : Kind) (text rest : List ℕ) → IsLexeme k text rest → 0 < length text
lexeme_some (kind.Word name) text rest lexeme = begins_some is_word_start text lexeme.1.start
lexeme_some (kind.Number n) text rest lexeme = begins_some is_ascii_digit text lexeme.1.start
lexeme_some (kind.Text inner) text rest lexeme = begins_some is_quote text (text_quote text inner lexeme)
lexeme_some (kind.Sign s) text rest lexeme = rw lexeme (sign_some s)

pub lexeme_no_gap : (k : Kind) (text rest : List ℕ) → IsLexeme k text rest → begins is_gap text ≡ false
lexeme_no_gap (kind.Word name) text rest lexeme = begins_implies is_word_start is_gap false text start_no_gap lexeme.1.start
lexeme_no_gap (kind.Number n) text rest lexeme = begins_implies is_ascii_digit is_gap false text digit_no_gap lexeme.1.start
lexeme_no_gap (kind.Text inner) text rest lexeme = begins_implies is_quote is_gap false text quote_no_gap (text_quote text inner lexeme)
lexeme_no_gap (kind.Sign s) text rest lexeme = rw lexeme (sign_no_gap s)

-- the kind of a lexeme, by its bytes
kind_of : List ℕ → Option Kind
kind_of text =
    if begins is_word_start text then Some (kind.Word text)
    else (if begins is_ascii_digit text then Some (kind.Number (pos (number text)))
    else (if begins is_quote text then Some (kind.Text (take (length text - 2) (drop 1 text)))
    else option_map (λ s. kind.Sign s) (sign_of text)))

kind_is : (k : Kind) (text rest : List ℕ) → IsLexeme k text rest → kind_of text ≡ Some k
unfolding kind_of
kind_is (kind.Word name) text rest lexeme = rw lexeme.1.start (ap (λ t. Some (kind.Word t)) lexeme.0)
kind_is (kind.Number n) text rest lexeme =
    let no_word : begins is_word_start text ≡ false = begins_implies is_ascii_digit is_word_start false text digit_no_start lexeme.1.start in
    rw (no_word, lexeme.1.start) (ap (λ m. Some (kind.Number m)) (sym lexeme.0))
kind_is (kind.Text inner) text rest lexeme =
    let quote : begins is_quote text ≡ true = text_quote text inner lexeme in
    let no_word : begins is_word_start text ≡ false = begins_implies is_quote is_word_start false text quote_no_start quote in
    let no_digit : begins is_ascii_digit text ≡ false = begins_implies is_quote is_ascii_digit false text quote_no_digit quote in
    let len : length (codes "\"" ++ (inner ++ codes "\"")) - 2 ≡ length inner = omega (arith, length-append inner (codes "\"")) in
    let within : take (length text - 2) (drop 1 text) ≡ inner =
    ap (λ t. take (length t - 2) (drop 1 t)) lexeme.spelt ∙ ap (λ n. take n (inner ++ codes "\"")) len ∙ take-append_seam inner (codes "\"") in
    rw (no_word, no_digit, quote, within) refl
kind_is (kind.Sign s) text rest lexeme =
    rw (lexeme, sign_no_start s, sign_no_digit s, sign_no_quote s, sign_of-text s) refl

one_kind : (k j : Kind) (text rest back : List ℕ) → IsLexeme k text rest → IsLexeme j text back → k ≡ j
one_kind k j text rest back left right = let same : Some k ≡ Some j = sym (kind_is k text rest left) ∙ kind_is j text back right in cc

-- ---- what is found is the longest, and it is found again

pub none_found_none : (bytes : List ℕ) → lexeme_at bytes ≡ None → (k : Kind) (front back : List ℕ) → front ++ back ≡ bytes → IsLexeme k front back → ⊥
none_found_none bytes is k front back spelt lexeme =
    let f : Found (front ++ back) (length front) = found k front back lexeme in
    let differ : None ≡ Some f.found = sym is ∙ sym (ap lexeme_at spelt) ∙ f.is in cc

pub longest_at : (bytes : List ℕ) (l : Lexeme) → lexeme_at bytes ≡ Some l → IsLongest l.kind (take l.len bytes) (drop l.len bytes)
longest_at bytes l is =
    let here : Reads bytes l = reads bytes l is in
    record {
      lexeme = here.lexeme;
      longest = λ other front back spelt lexeme.
          let f : Found (front ++ back) (length front) = found other front back lexeme in
          let whole : front ++ back ≡ bytes = spelt ∙ take-append-drop l.len bytes in
          let same : Some f.found ≡ Some l = sym f.is ∙ ap lexeme_at whole ∙ is in
          let len : f.found.len ≡ l.len = let one : f.found ≡ l = cc in ap (λ (m : Lexeme). m.len) one in
          omega (arith, f.covers, here.within, length-take l.len bytes);
    }

same_lexeme : (l : Lexeme) (k : Kind) (n : ℕ) → l.kind ≡ k → l.len ≡ n → l ≡ record { kind = k; len = n }
same_lexeme l k n kinds lens =
    let first : l ≡ record { kind = k; len = l.len } = ap (λ (m : Kind). record { kind = m; len = l.len }) kinds in
    first ∙ ap (λ (m : ℕ). record { kind = k; len = m }) lens

pub found_again : (k : Kind) (text rest : List ℕ) → IsLongest k text rest → lexeme_at (text ++ rest) ≡ Some (record { kind = k; len = length text })
found_again k text rest longest =
    let f : Found (text ++ rest) (length text) = found k text rest longest.lexeme in
    let len : ℕ = f.found.len in
    let here : Reads (text ++ rest) f.found = reads (text ++ rest) f.found f.is in
    let no_longer : length (take len (text ++ rest)) ≤ length text = longest.longest f.found.kind (take len (text ++ rest)) (drop len (text ++ rest)) (take-append-drop len (text ++ rest)) here.lexeme in
    let lens : f.found.len ≡ length text = omega (arith, f.covers, here.within, length-take len (text ++ rest)) in
    let front : take len (text ++ rest) ≡ text = ap (λ n. take n (text ++ rest)) lens ∙ take-append_seam text rest in
    let kinds : f.found.kind ≡ k = one_kind f.found.kind k text (drop len (text ++ rest)) rest (rw front at here.lexeme) longest.lexeme in
    f.is ∙ ap Some (same_lexeme f.found k (length text) kinds lens)

-- it has a byte at least, and no more than there are
pub found_within : (bytes : List ℕ) (l : Lexeme) → lexeme_at bytes ≡ Some l → (0 < l.len) × (l.len ≤ length bytes)
found_within bytes l is =
    let here : Reads bytes l = reads bytes l is in
    let some : 0 < length (take l.len bytes) = lexeme_some l.kind (take l.len bytes) (drop l.len bytes) here.lexeme in
    (omega (arith, length-take l.len bytes), here.within)
