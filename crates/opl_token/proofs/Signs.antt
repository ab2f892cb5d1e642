-- What the table of signs has: each sign once, longer ones first, no two with one text, and none that begins as other lexemes do.
use Rattle.std.proofs.Common.{◌≡◌, ◌<◌, ◌≤◌, ℕ, zero, suc, Bool, true, false, cond, not, ◌&&◌, nat_le, List, [], ◌∷◌, ◌++◌, length, get_or, find, Option, Some, None, refl, ap, sym, ◌∙◌, arith}
use Rattle.std.specs.List.{list_all}
use Rattle.std.specs.Option.{option_map_or}
use Rattle.std.specs.Str.{bytes_eq}
use Rattle.std.specs.Char.{is_ascii_digit}
use Rattle.std.proofs.lemmas.Bool.{leb-true}
use Rattle.std.proofs.lemmas.Bool.Decides.{nat_tests}
use Rattle.std.proofs.lemmas.List.Sums.{AllPass-from_list_all}
use denote.Enum.Bare.{sameb, same_true}
use Rattle.opl_token.specs.contracts.sign.Sign.{the_type}
use Rattle.opl_token.specs.declared.sign.Sign.{Sign}
use Rattle.opl_token.specs.declared.sign.Sign.TheVariants as sign
use Rattle.opl_token.specs.declared.sign.TheConstants.{SIGNS}
use Rattle.opl_token.specs.Lexeme.{begins, is_quote, is_word_start, sign_text}
use Rattle.opl_token.proofs.Bytes.{is_gap, begins_implies, begins_front, begins_some, and_left, and_right}

-- the place of each sign in the table
pub sign_place : Sign → ℕ
sign_place sign.Equivalent = 0
sign_place sign.Ellipsis = 1
sign_place sign.Range = 2
sign_place sign.Assign = 3
sign_place sign.CloseAssociation = 4
sign_place sign.OpenAssociation = 5
sign_place sign.LessOrEqual = 6
sign_place sign.NotEqual = 7
sign_place sign.GreaterOrEqual = 8
sign_place sign.Implies = 9
sign_place sign.Or = 10
sign_place sign.Dot = 11
sign_place sign.Comma = 12
sign_place sign.Semicolon = 13
sign_place sign.Colon = 14
sign_place sign.OpenParenthesis = 15
sign_place sign.CloseParenthesis = 16
sign_place sign.OpenBracket = 17
sign_place sign.CloseBracket = 18
sign_place sign.OpenBrace = 19
sign_place sign.CloseBrace = 20
sign_place sign.Less = 21
sign_place sign.Greater = 22
sign_place sign.Equal = 23
sign_place sign.Plus = 24
sign_place sign.Minus = 25
sign_place sign.Times = 26
sign_place sign.And = 27
sign_place sign.Bar = 28

pub sign_at_place : (s : Sign) → get_or SIGNS (sign_place s) sign.Bar ≡ s
unfolding sign_place
sign_at_place sign.Equivalent = refl
sign_at_place sign.Ellipsis = refl
sign_at_place sign.Range = refl
sign_at_place sign.Assign = refl
sign_at_place sign.CloseAssociation = refl
sign_at_place sign.OpenAssociation = refl
sign_at_place sign.LessOrEqual = refl
sign_at_place sign.NotEqual = refl
sign_at_place sign.GreaterOrEqual = refl
sign_at_place sign.Implies = refl
sign_at_place sign.Or = refl
sign_at_place sign.Dot = refl
sign_at_place sign.Comma = refl
sign_at_place sign.Semicolon = refl
sign_at_place sign.Colon = refl
sign_at_place sign.OpenParenthesis = refl
sign_at_place sign.CloseParenthesis = refl
sign_at_place sign.OpenBracket = refl
sign_at_place sign.CloseBracket = refl
sign_at_place sign.OpenBrace = refl
sign_at_place sign.CloseBrace = refl
sign_at_place sign.Less = refl
sign_at_place sign.Greater = refl
sign_at_place sign.Equal = refl
sign_at_place sign.Plus = refl
sign_at_place sign.Minus = refl
sign_at_place sign.Times = refl
sign_at_place sign.And = refl
sign_at_place sign.Bar = refl

pub place_within : (s : Sign) → sign_place s < length SIGNS
unfolding sign_place
place_within sign.Equivalent = omega arith
place_within sign.Ellipsis = omega arith
place_within sign.Range = omega arith
place_within sign.Assign = omega arith
place_within sign.CloseAssociation = omega arith
place_within sign.OpenAssociation = omega arith
place_within sign.LessOrEqual = omega arith
place_within sign.NotEqual = omega arith
place_within sign.GreaterOrEqual = omega arith
place_within sign.Implies = omega arith
place_within sign.Or = omega arith
place_within sign.Dot = omega arith
place_within sign.Comma = omega arith
place_within sign.Semicolon = omega arith
place_within sign.Colon = omega arith
place_within sign.OpenParenthesis = omega arith
place_within sign.CloseParenthesis = omega arith
place_within sign.OpenBracket = omega arith
place_within sign.CloseBracket = omega arith
place_within sign.OpenBrace = omega arith
place_within sign.CloseBrace = omega arith
place_within sign.Less = omega arith
place_within sign.Greater = omega arith
place_within sign.Equal = omega arith
place_within sign.Plus = omega arith
place_within sign.Minus = omega arith
place_within sign.Times = omega arith
place_within sign.And = omega arith
place_within sign.Bar = omega arith

-- what holds of each sign of the table holds of every sign
pub each_sign : (p : Sign → Bool) → list_all p SIGNS ≡ true → (s : Sign) → p s ≡ true
each_sign p all s = ap p (sym (sign_at_place s)) ∙ AllPass-from_list_all p SIGNS all (sign_place s) sign.Bar (place_within s)

-- ---- what a search of a list finds

pub find_passes : {X : Type 0} (p : X → Bool) (xs : List X) (found : X) → find p xs ≡ Some found → p found ≡ true
find_passes p [] found is = cc
find_passes {X} p (x ∷ xs) found is = passes (p x) refl is (find_passes p xs found)
  where
    passes : (b : Bool) → p x ≡ b → cond {A = Option X} b (Some x) (find p xs) ≡ Some found → (find p xs ≡ Some found → p found ≡ true) → p found ≡ true
    passes true e same later = cc
    passes false e same later = later same

pub find_none : {X : Type 0} (p : X → Bool) (xs : List X) (k : ℕ) (d : X) → find p xs ≡ None → k < length xs → p (get_or xs k d) ≡ false
find_none p [] k d is h = absurd (omega arith)
find_none {X} p (x ∷ xs) k d is h = fails k (p x) refl is h (λ j. find_none p xs j d)
  where
    fails : (k : ℕ) (b : Bool) → p x ≡ b → cond {A = Option X} b (Some x) (find p xs) ≡ None → k < length (x ∷ xs) → ((j : ℕ) → find p xs ≡ None → j < length xs → p (get_or xs j d) ≡ false) → p (get_or (x ∷ xs) k d) ≡ false
    fails k true e same h later = cc
    fails zero false e same h later = e
    fails (suc k) false e same h later = later k same (omega arith)

-- ---- the first sign found is the longest

sign_len : Sign → ℕ
sign_len s = length (sign_text s)

none_longer : Sign → List Sign → Bool
none_longer x xs = list_all (λ y. nat_le (sign_len y) (sign_len x)) xs

falls : List Sign → Bool
falls [] = true
falls (x ∷ xs) = none_longer x xs && falls xs

first_longest : (p : Sign → Bool) (xs : List Sign) (d found : Sign) (k : ℕ) → falls xs ≡ true → find p xs ≡ Some found → k < length xs → p (get_or xs k d) ≡ true → sign_len (get_or xs k d) ≤ sign_len found
unfolding falls none_longer
first_longest p [] d found k fall is h pass = absurd (omega arith)
first_longest p (x ∷ xs) d found k fall is h pass =
    longest k (p x) refl is h pass (λ j. first_longest p xs d found j (and_right (none_longer x xs) (falls xs) fall))
  where
    longest : (k : ℕ) (b : Bool) → p x ≡ b → cond {A = Option Sign} b (Some x) (find p xs) ≡ Some found → k < length (x ∷ xs) → p (get_or (x ∷ xs) k d) ≡ true → ((j : ℕ) → find p xs ≡ Some found → j < length xs → p (get_or xs j d) ≡ true → sign_len (get_or xs j d) ≤ sign_len found) → sign_len (get_or (x ∷ xs) k d) ≤ sign_len found
    longest zero true e same h pass later = let one : x ≡ found = cc in rw one (omega arith)
    longest zero false e same h pass later = let no : true ≡ false = cc in cc
    longest (suc k) true e same h pass later =
        let one : x ≡ found = cc in
        let below : sign_len (get_or xs k d) ≤ sign_len x = leb-true _ _ (AllPass-from_list_all (λ y. nat_le (sign_len y) (sign_len x)) xs (and_left (none_longer x xs) (falls xs) fall) k d (omega arith)) in
        rw (← one) below
    longest (suc k) false e same h pass later = later k same (omega arith) pass

falls_signs : falls SIGNS ≡ true
unfolding falls none_longer sign_len
falls_signs = refl

pub longest_found : (p : Sign → Bool) (found other : Sign) → find p SIGNS ≡ Some found → p other ≡ true → length (sign_text other) ≤ length (sign_text found)
unfolding sign_len
longest_found p found other is pass =
    let here : get_or SIGNS (sign_place other) sign.Bar ≡ other = sign_at_place other in
    let longest : sign_len (get_or SIGNS (sign_place other) sign.Bar) ≤ sign_len found = first_longest p SIGNS sign.Bar found (sign_place other) falls_signs is (place_within other) (rw here pass) in
    rw here at longest

pub none_found : (p : Sign → Bool) (other : Sign) → find p SIGNS ≡ None → p other ≡ false
none_found p other is = ap p (sym (sign_at_place other)) ∙ find_none p SIGNS (sign_place other) sign.Bar is (place_within other)

-- ---- the sign of a text

pub sign_of : List ℕ → Option Sign
sign_of text = find (λ s. bytes_eq (sign_text s) text) SIGNS

finds_itself : Sign → Bool
finds_itself s = option_map_or (λ found. sameb the_type found s) (find (λ other. bytes_eq (sign_text other) (sign_text s)) SIGNS) false

all_find_themselves : list_all finds_itself SIGNS ≡ true
unfolding finds_itself
all_find_themselves = refl

pub sign_of-text : (s : Sign) → sign_of (sign_text s) ≡ Some s
unfolding sign_of finds_itself
sign_of-text s = itself (find (λ other. bytes_eq (sign_text other) (sign_text s)) SIGNS) (each_sign finds_itself all_find_themselves s)
  where
    itself : (found : Option Sign) → option_map_or (λ other. sameb the_type other s) found false ≡ true → found ≡ Some s
    itself None e = cc
    itself (Some other) e = ap Some (same_true the_type tt other s e)

-- ---- how signs begin

is_other : ℕ → Bool
is_other b = not (is_word_start b) && not (is_ascii_digit b) && not (is_quote b) && not (is_gap b)

begin_others : list_all (λ s. begins is_other (sign_text s)) SIGNS ≡ true
unfolding is_other
begin_others = refl

sign_begins_other : (s : Sign) → begins is_other (sign_text s) ≡ true
sign_begins_other s = each_sign (λ s. begins is_other (sign_text s)) begin_others s

pub sign_no_start : (s : Sign) → begins is_word_start (sign_text s) ≡ false
unfolding is_other
sign_no_start s = begins_implies is_other is_word_start false (sign_text s) (λ b h. grind (arith, nat_tests)) (sign_begins_other s)

pub sign_no_digit : (s : Sign) → begins is_ascii_digit (sign_text s) ≡ false
unfolding is_other
sign_no_digit s = begins_implies is_other is_ascii_digit false (sign_text s) (λ b h. grind (arith, nat_tests)) (sign_begins_other s)

pub sign_no_quote : (s : Sign) → begins is_quote (sign_text s) ≡ false
unfolding is_other
sign_no_quote s = begins_implies is_other is_quote false (sign_text s) (λ b h. grind (arith, nat_tests)) (sign_begins_other s)

pub sign_no_gap : (s : Sign) → begins is_gap (sign_text s) ≡ false
unfolding is_other
sign_no_gap s = begins_implies is_other is_gap false (sign_text s) (λ b h. grind (arith, nat_tests)) (sign_begins_other s)

pub sign_some : (s : Sign) → 0 < length (sign_text s)
sign_some s = begins_some is_other (sign_text s) (sign_begins_other s)

pub sign_front : (s : Sign) (test : ℕ → Bool) (rest : List ℕ) → begins test (sign_text s ++ rest) ≡ begins test (sign_text s)
sign_front s test rest = begins_front is_other test (sign_text s) rest (sign_begins_other s)
