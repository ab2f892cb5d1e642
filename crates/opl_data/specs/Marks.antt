-- The marks of a data file's tree, and how it is spelt: what it writes, token by token, with the place of each node before
-- the node's first token. A level of nesting is opened by `-`, `<`, `{`, `[` and `#[`.
use Rattle.std.specs.Prelude.{ℤ, Bool, true, false, List, [], ◌∷◌, ◌++◌, map}
use Rattle.opl_token.specs.declared.sign.Sign.TheVariants as signs
use Rattle.opl_tree.specs.Marks.{sign, number, place, token, Marks, nested, joined, behind, several, marks_name}
use Rattle.opl_token.specs.declared.token.Kind.{Kind}
use Rattle.opl_tree.specs.Spelling.{kinds_of}
use Rattle.opl_data.specs.declared.tree.DataTree.{DataTree}
use Rattle.opl_data.specs.declared.tree.DataItem.{DataItem}
use Rattle.opl_data.specs.declared.tree.DataPair.{DataPair}
use Rattle.opl_data.specs.declared.tree.DataValue.{DataValue}
use Rattle.opl_data.specs.declared.tree.DataValue.TheOpen.{DataValue-F, DataPair-F}
use Rattle.opl_data.specs.declared.tree.DataValue.TheFolds.{fold-DataValue, fold-DataPair}

-- a number, behind its `-` if it has one
abbrev pub number_marks : Bool → ℤ → Marks
number_marks true n = nested (sign signs.Minus) (token (number n) ∷ [])
number_marks false n = token (number n) ∷ []

-- a value, each of its parts already as marks
abbrev pub value_marks : DataValue-F Marks Marks → Marks
value_marks (DataValue-F.Number at is_negative n) = place at ∷ number_marks is_negative n
value_marks (DataValue-F.Named named) = marks_name named
value_marks (DataValue-F.Record at head rest) = place at ∷ (nested (sign signs.Less) (head ++ behind signs.Comma rest) ++ token (sign signs.Greater) ∷ [])
value_marks (DataValue-F.Set at elements) = place at ∷ (nested (sign signs.OpenBrace) (several signs.Comma elements) ++ token (sign signs.CloseBrace) ∷ [])
value_marks (DataValue-F.Array at elements) = place at ∷ (nested (sign signs.OpenBracket) (several signs.Comma elements) ++ token (sign signs.CloseBracket) ∷ [])
value_marks (DataValue-F.KeyedArray at elements) = place at ∷ (nested (sign signs.OpenAssociation) (several signs.Comma elements) ++ token (sign signs.CloseAssociation) ∷ [])

-- `VALUE:VALUE`
abbrev pub pair_marks : DataPair-F Marks Marks → Marks
pair_marks t = place t.at ∷ (t.key ++ token (sign signs.Colon) ∷ t.value)

-- the marks of a value and of a pair
unfoldable pub marks_value : DataValue → Marks
marks_value = fold-DataValue Marks Marks value_marks pair_marks

unfoldable pub marks_pair : DataPair → Marks
marks_pair = fold-DataPair Marks Marks value_marks pair_marks

-- `NAME = VALUE;`
unfoldable pub marks_item : DataItem → Marks
marks_item t = place t.at ∷ (marks_name t.name ++ token (sign signs.Equal) ∷ (marks_value t.value ++ token (sign signs.Semicolon) ∷ []))

-- the items, one after another
unfoldable pub marks_file : DataTree → Marks
marks_file t = place t.at ∷ joined (map marks_item t.items)

-- the tokens of a data file's tree
abbrev pub spelling : DataTree → List Kind
spelling t = kinds_of (marks_file t)
