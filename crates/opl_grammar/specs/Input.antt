-- What a parser reads from, and the steps that every rule is made of.
use Rattle.std.specs.Prelude.{◌≡◌, ℕ, zero, suc, ℤ, pos, negsuc, Bool, true, false, List, [], ◌∷◌, ◌++◌, length, drop, Option, Some, None, Result, Ok, Err, if◌then◌else◌}
use denote.Enum.Bare.{sameb}
use Rattle.opl_token.specs.Kinds.{same_sign}
use Rattle.opl_token.specs.declared.sign.Sign.{Sign}
use Rattle.opl_token.specs.declared.token.Kind.{Kind}
use Rattle.opl_token.specs.declared.token.Kind.TheVariants as kinds
use Rattle.opl_token.specs.declared.token.Token.{Token}
use Rattle.opl_tree.specs.Keywords.{keyword_of}
use Rattle.opl_tree.specs.Reading.{place_of}
use Rattle.opl_tree.specs.contracts.keyword.Keyword.{the_type}
use Rattle.opl_tree.specs.declared.keyword.Keyword.{Keyword}
use Rattle.opl_grammar.specs.declared.look.Look.{Look}
use Rattle.opl_grammar.specs.declared.look.Look.TheVariants as looks
use Rattle.opl_tree.specs.declared.fault.SyntaxFault.{SyntaxFault}
use Rattle.opl_tree.specs.declared.fault.SyntaxFault.TheVariants.{Syntax, TooDeep, OutOfMemory}

-- the tokens that are left, and the length of the text
pub record Input : Type 0 where
  pub tokens : List Token
  pub end : ℕ

-- ---- the next token

-- what the first of some tokens is
abbrev pub first_kind : List Token → Option Kind
first_kind [] = None
first_kind (t ∷ ts) = Some t.kind

-- what the next token is
abbrev pub kind : Input → Option Kind
kind i = first_kind i.tokens

-- where the next token stands, or the length of the text where none is left
abbrev pub place : Input → ℕ
place i = place_of i.tokens i.end

-- the input behind the next token
abbrev pub next : Input → Input
next i = record { tokens = drop 1 i.tokens; end = i.end }

-- how many tokens there are
abbrev pub left : Input → ℕ
left i = length i.tokens

-- ---- what a token may be read as

-- what a word is, by whether the language has it
abbrev pub look_of_word : Option Keyword → Look
look_of_word (Some w) = looks.Word w
look_of_word None = looks.Name

-- what the grammar sees in a token
abbrev pub look_of : Kind → Look
look_of (kinds.Word w) = look_of_word (keyword_of w)
look_of (kinds.Number (pos n)) = looks.Number
look_of (kinds.Number (negsuc n)) = looks.Other
look_of (kinds.Text t) = looks.Other
look_of (kinds.Sign s) = looks.Sign s

-- what the grammar sees in the next token
abbrev pub look : Option Kind → Look
look (Some k) = look_of k
look None = looks.Nothing

-- whether two words of the language are one
abbrev pub same_keyword : Keyword → Keyword → Bool
same_keyword = sameb the_type

-- whether this sign is seen
abbrev pub sees_sign : Sign → Look → Bool
sees_sign s (looks.Sign found) = same_sign found s
sees_sign s _ = false

-- whether this word of the language is seen
abbrev pub sees_word : Keyword → Look → Bool
sees_word w (looks.Word found) = same_keyword found w
sees_word w _ = false

-- whether a name is seen
abbrev pub sees_name : Look → Bool
sees_name looks.Name = true
sees_name _ = false

-- whether a number is seen
abbrev pub sees_number : Look → Bool
sees_number looks.Number = true
sees_number _ = false

-- the sign that is seen
abbrev pub sign_seen : Look → Option Sign
sign_seen (looks.Sign s) = Some s
sign_seen _ = None

-- the word of the language that is seen
abbrev pub word_seen : Look → Option Keyword
word_seen (looks.Word w) = Some w
word_seen _ = None

-- whether the token is this sign
abbrev pub is_sign : Sign → Option Kind → Bool
is_sign s k = sees_sign s (look k)

-- whether it is this word of the language
abbrev pub is_word : Keyword → Option Kind → Bool
is_word w k = sees_word w (look k)

-- whether it is a name
abbrev pub is_name : Option Kind → Bool
is_name k = sees_name (look k)

-- whether it is a number
abbrev pub is_number : Option Kind → Bool
is_number k = sees_number (look k)

-- nothing more is to be known of what passes a test
abbrev pub seen : Bool → Option (Unit {0})
seen b = if b then Some tt else None

-- a word is a name unless the language has it
abbrev pub name_unless : Option Keyword → List ℕ → Option (List ℕ)
name_unless (Some k) w = None
name_unless None w = Some w

-- the text of a name
abbrev pub name_in : Option Kind → Option (List ℕ)
name_in (Some (kinds.Word w)) = name_unless (keyword_of w) w
name_in _ = None

-- the text of a word of any kind
abbrev pub any_in : Option Kind → Option (List ℕ)
any_in (Some (kinds.Word w)) = Some w
any_in _ = None

-- a number that is not negative
abbrev pub number_in : Option Kind → Option ℤ
number_in (Some (kinds.Number (pos n))) = Some (pos n)
number_in _ = None

-- ---- parsers

-- why a token stops a parser: it does not fit, or it opens a level too many; with its place
pub data Stop : Type 0 where
  syntax : ℕ → Stop
  too_deep : ℕ → Stop

-- what was read and the input that is left, or what stopped it
abbrev pub Outcome : Type 0 → Type 0
Outcome A = Result (A × Input) Stop

-- a function that reads from the front of an input
abbrev pub Parser : Type 0 → Type 0
Parser A = Input → Outcome A

-- goes on behind what was read, unless something did not fit
abbrev pub and_then : {A B : Type 0} → Outcome A → (A → Parser B) → Outcome B
and_then (Ok p) f = f p.0 p.1
and_then (Err e) f = Err e

-- one parser behind another that depends on what the first read
infixl 10 ◌>>=◌
abbrev pub ◌>>=◌ : {A B : Type 0} → Parser A → (A → Parser B) → Parser B
p >>= f = λ i. and_then (p i) f

-- one parser behind another
infixl 10 ◌>>◌
abbrev pub ◌>>◌ : {A B : Type 0} → Parser A → Parser B → Parser B
p >> q = p >>= (λ _. q)

-- reads nothing
abbrev pub pure : {A : Type 0} → A → Parser A
pure a = λ i. Ok (a, i)

-- what was read, made into a tree
infixr 11 ◌<$>◌
abbrev pub ◌<$>◌ : {A B : Type 0} → (A → B) → Parser A → Parser B
f <$> p = p >>= (λ x. pure (f x))

-- the next token does not fit
abbrev pub refuse : {A : Type 0} → Parser A
refuse = λ i. Err (syntax (place i))

-- the token before, which stands at this place, opens a level too many
abbrev pub refuse_level : {A : Type 0} → ℕ → Parser A
refuse_level at = λ i. Err (too_deep at)

-- the place of the next token
abbrev pub here : Parser ℕ
here = λ i. Ok (place i, i)

-- takes the next token if the table has it
abbrev pub take_found : {A : Type 0} → Option A → Parser A
take_found (Some a) i = Ok (a, next i)
take_found None i = Err (syntax (place i))

-- one token, read by a table
abbrev pub one : {A : Type 0} → (Option Kind → Option A) → Parser A
one table = λ i. take_found (table (kind i)) i

-- this sign
abbrev pub sign : Sign → Parser (Unit {0})
sign s = one (λ k. seen (is_sign s k))

-- this word
abbrev pub word : Keyword → Parser (Unit {0})
word w = one (λ k. seen (is_word w k))

-- one phrase where the next token passes the test, and another where it does not
abbrev pub either : {A : Type 0} → (Option Kind → Bool) → Parser A → Parser A → Parser A
either test p q = λ i. if test (kind i) then p i else q i

-- a phrase where the next token passes the test, and nothing where it does not
abbrev pub maybe : {A : Type 0} → (Option Kind → Bool) → Parser A → Parser (Option A)
maybe test p = either test (Some <$> p) (pure None)

-- a sign or a word where it comes next, and whether it did
abbrev pub flag : (Option Kind → Bool) → Parser (Unit {0}) → Parser Bool
flag test p = either test (p >> pure true) (pure false)

-- ---- lists. The number bounds the turns; each turn takes a token, so one more than the tokens left is enough.

-- parts behind those found, as long as one begins
unfoldable pub many_from : {A : Type 0} → (Option Kind → Bool) → Parser A → ℕ → List A → Parser (List A)
many_from starts part zero found = refuse
many_from starts part (suc n) found = λ i.
    if starts (kind i)
    then (part >>= (λ x. many_from starts part n (found ++ x ∷ []))) i
    else Ok (found, i)

-- parts, as long as one begins
unfoldable pub many : {A : Type 0} → (Option Kind → Bool) → Parser A → Parser (List A)
many starts part = λ i. many_from starts part (suc (left i)) [] i

-- parts, each behind the sign
abbrev pub after_each : {A : Type 0} → Sign → Parser A → Parser (List A)
after_each s part = many (is_sign s) (sign s >> part)

-- parts behind those found, each behind the sign, and whether the sign stands once more behind them all
unfoldable pub behind_from : {A : Type 0} → Sign → (Option Kind → Bool) → Parser A → ℕ → List A → Parser (List A × Bool)
behind_from s starts part zero found = refuse
behind_from s starts part (suc n) found = λ i.
    if is_sign s (kind i)
    then (if starts (kind (next i))
    then (part >>= (λ x. behind_from s starts part n (found ++ x ∷ []))) (next i)
    else Ok ((found, true), next i))
    else Ok ((found, false), i)

-- parts, each behind the sign, and whether the sign stands once more behind them all
unfoldable pub behind : {A : Type 0} → Sign → (Option Kind → Bool) → Parser A → Parser (List A × Bool)
behind s starts part = λ i. behind_from s starts part (suc (left i)) [] i

-- ---- what a function that parses ensures: the parser's outcome, unless memory fails

abbrev pub Reads : {A : Type 0} → Outcome A → Result A SyntaxFault → Input → Type 0
Reads outcome (Ok a) new = outcome ≡ Ok (a, new)
Reads outcome (Err (Syntax at)) new = outcome ≡ Err (syntax at)
Reads outcome (Err (TooDeep at)) new = outcome ≡ Err (too_deep at)
Reads outcome (Err OutOfMemory) new = Unit {0}
