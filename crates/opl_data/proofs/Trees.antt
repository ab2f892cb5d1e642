-- What each tree writes, one layer at a time.
use Rattle.std.proofs.Common.{◌≡◌, ℕ, ℤ, Bool, List, [], ◌∷◌, ◌++◌, map, refl, ap, ◌∙◌, sym}
use Rattle.opl_token.specs.declared.sign.Sign.TheVariants as signs
use Rattle.opl_tree.specs.declared.expression.NameTree.{NameTree}
use Rattle.opl_tree.specs.Marks.{sign, place, token, nested, joined, behind, several, marks_name}
use Rattle.opl_data.specs.declared.tree.DataTree.{DataTree}
use Rattle.opl_data.specs.declared.tree.DataItem.{DataItem}
use Rattle.opl_data.specs.declared.tree.DataPair.{DataPair}
use Rattle.opl_data.specs.declared.tree.DataValue.{DataValue}
use Rattle.opl_data.specs.declared.tree.DataValue.TheVariants as values_are
use Rattle.opl_data.specs.declared.tree.DataValue.TheViews.{out-DataPair, roll-DataPair, roll-out-DataPair}
use Rattle.opl_data.specs.declared.tree.DataValue.TheFolds.{fold-roll-DataValue, fold-roll-DataPair}
use Rattle.opl_data.specs.Marks.{number_marks, marks_value, marks_pair, marks_item, marks_file}

pub marks_value-Number : (at : ℕ) (is_negative : Bool) (n : ℤ) → marks_value (values_are.Number at is_negative n) ≡ place at ∷ number_marks is_negative n
unfolding marks_value marks_pair
marks_value-Number at is_negative n = ap marks_value (sym (values_are.rolls-Number at is_negative n)) ∙ rw fold-roll-DataValue refl

pub marks_value-Named : (named : NameTree) → marks_value (values_are.Named named) ≡ marks_name named
unfolding marks_value marks_pair
marks_value-Named named = ap marks_value (sym (values_are.rolls-Named named)) ∙ rw fold-roll-DataValue refl

pub marks_value-Record : (at : ℕ) (head : DataValue) (rest : List DataValue) → marks_value (values_are.Record at head rest) ≡ place at ∷ (nested (sign signs.Less) (marks_value head ++ behind signs.Comma (map marks_value rest)) ++ token (sign signs.Greater) ∷ [])
unfolding marks_value marks_pair
marks_value-Record at head rest = ap marks_value (sym (values_are.rolls-Record at head rest)) ∙ rw fold-roll-DataValue refl

pub marks_value-Set : (at : ℕ) (elements : List DataValue) → marks_value (values_are.Set at elements) ≡ place at ∷ (nested (sign signs.OpenBrace) (several signs.Comma (map marks_value elements)) ++ token (sign signs.CloseBrace) ∷ [])
unfolding marks_value marks_pair
marks_value-Set at elements = ap marks_value (sym (values_are.rolls-Set at elements)) ∙ rw fold-roll-DataValue refl

pub marks_value-Array : (at : ℕ) (elements : List DataValue) → marks_value (values_are.Array at elements) ≡ place at ∷ (nested (sign signs.OpenBracket) (several signs.Comma (map marks_value elements)) ++ token (sign signs.CloseBracket) ∷ [])
unfolding marks_value marks_pair
marks_value-Array at elements = ap marks_value (sym (values_are.rolls-Array at elements)) ∙ rw fold-roll-DataValue refl

pub marks_value-KeyedArray : (at : ℕ) (elements : List DataPair) → marks_value (values_are.KeyedArray at elements) ≡ place at ∷ (nested (sign signs.OpenAssociation) (several signs.Comma (map marks_pair elements)) ++ token (sign signs.CloseAssociation) ∷ [])
unfolding marks_value marks_pair
marks_value-KeyedArray at elements = ap marks_value (sym (values_are.rolls-KeyedArray at elements)) ∙ rw fold-roll-DataValue refl

pub marks_pair-of : (at : ℕ) (key value : DataValue) → marks_pair (roll-DataPair (record { at = at; key = key; value = value })) ≡ place at ∷ (marks_value key ++ token (sign signs.Colon) ∷ marks_value value)
unfolding marks_pair marks_value
marks_pair-of at key value = rw fold-roll-DataPair refl

pub marks_pair-is : (t : DataPair) → marks_pair t ≡ place (out-DataPair t).at ∷ (marks_value (out-DataPair t).key ++ token (sign signs.Colon) ∷ marks_value (out-DataPair t).value)
marks_pair-is t = ap marks_pair (sym (roll-out-DataPair t)) ∙ marks_pair-of (out-DataPair t).at (out-DataPair t).key (out-DataPair t).value

pub marks_item-is : (t : DataItem) → marks_item t ≡ place t.at ∷ (marks_name t.name ++ token (sign signs.Equal) ∷ (marks_value t.value ++ token (sign signs.Semicolon) ∷ []))
unfolding marks_item
marks_item-is t = refl

pub marks_file-is : (t : DataTree) → marks_file t ≡ place t.at ∷ joined (map marks_item t.items)
unfolding marks_file
marks_file-is t = refl

pub ruleset value_marks = (marks_value-Number, marks_value-Named, marks_value-Record, marks_value-Set, marks_value-Array, marks_value-KeyedArray)

pub ruleset pair_marks = (marks_pair-is)

pub ruleset item_marks = (marks_item-is)

pub ruleset file_marks = (marks_file-is)
