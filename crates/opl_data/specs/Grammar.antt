-- The rules of the grammar of data files, read from left to right by the next token alone.
use Rattle.std.specs.Prelude.{ℕ, zero, suc, ℤ, Bool, true, false, List, [], ◌∷◌, Option}
use Rattle.opl_token.specs.declared.sign.Sign.{Sign}
use Rattle.opl_token.specs.declared.sign.Sign.TheVariants as signs
use Rattle.opl_token.specs.declared.token.Kind.{Kind}
use Rattle.opl_tree.specs.declared.expression.NameTree.{NameTree}
use Rattle.opl_grammar.specs.declared.look.Look.{Look}
use Rattle.opl_grammar.specs.declared.look.Look.TheVariants as looks
use Rattle.opl_grammar.specs.Input.{Parser, look, ◌>>=◌, ◌>>◌, ◌<$>◌, pure, refuse_level, here, one, sign, either, many, after_each, is_sign, is_name, is_number, name_in, number_in}
use Rattle.opl_grammar.specs.Model.{finish}
use Rattle.opl_data.specs.declared.tree.DataTree.{DataTree}
use Rattle.opl_data.specs.declared.tree.DataItem.{DataItem}
use Rattle.opl_data.specs.declared.tree.DataPair.{DataPair, roll-DataPair}
use Rattle.opl_data.specs.declared.tree.DataValue.{DataValue}
use Rattle.opl_data.specs.declared.tree.DataValue.TheVariants as values_are
use Rattle.opl_tree.specs.Depth.{max_nesting}

-- whether a value begins with the sign
abbrev pub sign_begins : Sign → Bool
sign_begins signs.Minus = true
sign_begins signs.Less = true
sign_begins signs.OpenBrace = true
sign_begins signs.OpenBracket = true
sign_begins signs.OpenAssociation = true
sign_begins _ = false

-- whether a value begins with what is seen
abbrev pub value_begins : Look → Bool
value_begins looks.Name = true
value_begins looks.Number = true
value_begins (looks.Sign s) = sign_begins s
value_begins _ = false

-- whether a value begins with the token
abbrev pub starts_value : Option Kind → Bool
starts_value k = value_begins (look k)

-- The phrases that stand behind a token that opens a level, which has the place that they take.
pub record Rules : Type 0 where
  -- behind `-`
  pub number : ℕ → Parser ℤ
  -- behind `<`
  pub values : ℕ → Parser (DataValue × List DataValue)
  -- behind `{` and `[`
  pub listed : ℕ → Parser (List DataValue)
  -- behind `#[`
  pub keyed : ℕ → Parser (List DataPair)

-- NAME
unfoldable pub name : Parser NameTree
name = do
  at ← here
  text ← one name_in
  pure (record { at = at; text = text })

-- NUMBER
unfoldable pub number_value : Parser DataValue
number_value = do
  at ← here
  n ← one number_in
  pure (values_are.Number at false n)

-- A value, over what stands one level deeper.
module _ (below : Rules) where
  -- -NUMBER
  unfoldable pub negative_value : Parser DataValue
  negative_value = do
    at ← here
    sign signs.Minus
    n ← below.number at
    pure (values_are.Number at true n)

  -- <VALUE, VALUE, ..>
  unfoldable pub record_value : Parser DataValue
  record_value = do
    at ← here
    sign signs.Less
    parts ← below.values at
    sign signs.Greater
    pure (values_are.Record at parts.0 parts.1)

  -- {VALUE, VALUE, ..}
  unfoldable pub set_value : Parser DataValue
  set_value = do
    at ← here
    sign signs.OpenBrace
    parts ← below.listed at
    sign signs.CloseBrace
    pure (values_are.Set at parts)

  -- [VALUE, VALUE, ..]
  unfoldable pub array_value : Parser DataValue
  array_value = do
    at ← here
    sign signs.OpenBracket
    parts ← below.listed at
    sign signs.CloseBracket
    pure (values_are.Array at parts)

  -- #[VALUE:VALUE, VALUE:VALUE, ..]#
  unfoldable pub keyed_value : Parser DataValue
  keyed_value = do
    at ← here
    sign signs.OpenAssociation
    parts ← below.keyed at
    sign signs.CloseAssociation
    pure (values_are.KeyedArray at parts)

  -- a value that begins with a sign
  unfoldable pub sign_value : Parser DataValue
  sign_value =
      either (is_sign signs.Minus) negative_value
      (either (is_sign signs.Less) record_value
      (either (is_sign signs.OpenBrace) set_value
      (either (is_sign signs.OpenBracket) array_value keyed_value)))

  -- VALUE
  unfoldable pub value : Parser DataValue
  value = either is_name (values_are.Named <$> name) (either is_number number_value sign_value)

-- What is made of values, by the reader of one.
module _ (value : Parser DataValue) where
  -- VALUE, VALUE, ..
  unfoldable pub values : Parser (DataValue × List DataValue)
  values = do
    first ← value
    rest ← after_each signs.Comma value
    pure (first, rest)

  -- VALUE, VALUE, .. or nothing
  unfoldable pub listed : Parser (List DataValue)
  listed = either starts_value ((λ parts. parts.0 ∷ parts.1) <$> values) (pure [])

  -- VALUE:VALUE
  unfoldable pub pair : Parser DataPair
  pair = do
    at ← here
    key ← value
    sign signs.Colon
    t ← value
    pure (roll-DataPair (record { at = at; key = key; value = t }))

  -- VALUE:VALUE, VALUE:VALUE, ..
  unfoldable pub pairs : Parser (List DataPair)
  pairs = do
    first ← pair
    rest ← after_each signs.Comma pair
    pure (first ∷ rest)

  -- VALUE:VALUE, VALUE:VALUE, .. or nothing
  unfoldable pub keyed : Parser (List DataPair)
  keyed = either starts_value pairs (pure [])

  -- what is read behind an opening token, where a value is what is read one level deeper
  unfoldable pub level : Rules
  level = record {
    number = λ at. one number_in;
    values = λ at. values;
    listed = λ at. listed;
    keyed = λ at. keyed;
  }

  -- NAME = VALUE;
  unfoldable pub item : Parser DataItem
  item = do
    at ← here
    t ← name
    sign signs.Equal
    v ← value
    sign signs.Semicolon
    pure (record { at = at; name = t; value = v })

  -- the items of a file
  unfoldable pub file : Parser DataTree
  file = do
    at ← here
    items ← many is_name item
    pure (record { at = at; items = items })

-- no level is left
abbrev pub no_level : Rules
no_level = record {
  number = refuse_level;
  values = refuse_level;
  listed = refuse_level;
  keyed = refuse_level;
}

-- what is read behind an opening token, where so many levels may be opened
unfoldable pub rules : ℕ → Rules
rules zero = no_level
rules (suc n) = level (value (rules n))

-- a value, where so many levels may be opened
abbrev pub value_within : ℕ → Parser DataValue
value_within levels = value (rules levels)

-- a data file, and nothing behind it, where so many levels may be opened
unfoldable pub whole_within : ℕ → Parser DataTree
whole_within levels = do
  t ← file (value_within levels)
  finish
  pure t

-- a data file, and nothing behind it
abbrev pub whole : Parser DataTree
whole = whole_within max_nesting
