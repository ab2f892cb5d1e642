-- The shape of each phrase of data files, and the laws of what stands behind an opening token.
use Rattle.std.proofs.Common.{◌≡◌, ℕ, ℤ, Bool, true, false, ◌⊎◌, List, map, Option}
use Rattle.opl_token.specs.declared.sign.Sign.TheVariants as signs
use Rattle.opl_token.specs.declared.token.Kind.{Kind}
use Rattle.opl_tree.specs.declared.expression.NameTree.{NameTree}
use Rattle.opl_tree.specs.Marks.{marks_name}
use Rattle.opl_tree.specs.Marks as mk
use Rattle.opl_grammar.specs.Input.{is_sign, is_name, is_number}
use Rattle.opl_data.specs.declared.tree.DataTree.{DataTree}
use Rattle.opl_data.specs.declared.tree.DataItem.{DataItem}
use Rattle.opl_data.specs.declared.tree.DataPair.{DataPair}
use Rattle.opl_data.specs.declared.tree.DataValue.{DataValue}
use Rattle.opl_data.specs.Grammar.{Rules, starts_value}
use Rattle.opl_data.specs.Marks.{marks_value, marks_pair, marks_item, marks_file}
use Rattle.opl_reader_laws.proofs.Forms.{plain}
use Rattle.opl_reader_laws.proofs.Led.{each_shape}
use Rattle.opl_reader_laws.proofs.Opened.{Entry}
use Rattle.opl_reader_laws.proofs.Phrases.{Shape, Any, one_shape, pair_shape}

-- it begins with a token that passes the test
abbrev pub First : (Option Kind → Bool) → (Option Kind → Type 0) → Option Kind → Type 0
First test F k = test k ≡ true

abbrev pub name_shape : Shape NameTree
name_shape = plain marks_name Any (First is_name)

abbrev pub number_shape : Shape ℤ
number_shape = one_shape mk.number (λ k. is_number k ≡ true)

abbrev pub value_shape : Shape DataValue
value_shape = plain marks_value Any (First starts_value)

abbrev pub values_shape : Shape (DataValue × List DataValue)
values_shape = pair_shape value_shape (each_shape signs.Comma value_shape)

-- several, or none
abbrev pub EndsList : Option Kind → Type 0
EndsList k = (Any k × (is_sign signs.Comma k ≡ false)) × (starts_value k ≡ false)

abbrev pub begins_list : (Option Kind → Type 0) → Option Kind → Type 0
begins_list F k = (starts_value k ≡ true) ⊎ F k

abbrev pub listed_shape : Shape (List DataValue)
listed_shape = plain (λ xs. mk.several signs.Comma (map marks_value xs)) EndsList begins_list

abbrev pub keyed_part_shape : Shape DataPair
keyed_part_shape = plain marks_pair Any (First starts_value)

abbrev pub keyed_shape : Shape (List DataPair)
keyed_shape = plain (λ xs. mk.several signs.Comma (map marks_pair xs)) EndsList begins_list

abbrev pub item_shape : Shape DataItem
item_shape = plain marks_item Any (First is_name)

abbrev pub file_shape : Shape DataTree
file_shape = plain marks_file (λ k. is_name k ≡ false) (λ F k. (is_name k ≡ true) ⊎ F k)

-- the laws of what stands behind an opening token, over so many levels and over more
pub record RulesLaw (n : ℕ) (r s : Rules) : Type 1 where
  pub number : Entry n r.number s.number number_shape
  pub values : Entry n r.values s.values values_shape
  pub listed : Entry n r.listed s.listed listed_shape
  pub keyed : Entry n r.keyed s.keyed keyed_shape
