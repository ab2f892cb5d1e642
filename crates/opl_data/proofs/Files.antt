-- Items, and whole data files.
use Rattle.std.proofs.Common.{◌≡◌, ℕ, true, ◌⊎◌, List, [], ◌∷◌, ◌++◌, Option, refl, sym, ap, ◌∙◌, subst}
use Rattle.opl_token.specs.declared.sign.Sign.TheVariants as signs
use Rattle.opl_token.specs.declared.token.Kind.{Kind}
use Rattle.opl_tree.specs.declared.expression.NameTree.{NameTree}
use Rattle.opl_tree.specs.Marks as mk
use Rattle.opl_tree.proofs.Marks.{marks_name-is}
use Rattle.opl_grammar.specs.Input.{Input, Parser, sign, is_name, many}
use Rattle.opl_data.specs.declared.tree.DataTree.{DataTree}
use Rattle.opl_data.specs.declared.tree.DataItem.{DataItem}
use Rattle.opl_data.specs.declared.tree.DataValue.{DataValue}
use Rattle.opl_data.specs.Grammar as g
use Rattle.opl_data.specs.Marks.{marks_value, marks_item, marks_file}
use Rattle.opl_reader_laws.proofs.Whole.{Grammar}
use Rattle.opl_reader_laws.proofs.Finish.{whole_of, whole_grammar}
use Rattle.opl_data.proofs.Closing.{rules_law}
use Rattle.opl_reader_laws.proofs.Forms.{placed, placed_law, mapped, plain_law}
use Rattle.opl_reader_laws.proofs.Many.{many_law}
use Rattle.opl_reader_laws.proofs.Outcomes.{steps}
use Rattle.opl_reader_laws.proofs.Phrases.{Law, pair, pair_law}
use Rattle.opl_data.proofs.Shapes.{value_shape, item_shape, file_shape}
use Rattle.opl_reader_laws.proofs.Takes.{Written}
use Rattle.opl_reader_laws.proofs.Tokens.{sign_law}
use Rattle.opl_data.proofs.Trees.{marks_item-is, marks_file-is}
use Rattle.opl_data.proofs.Values.{name_law, value_law}

-- ---- an item

abbrev ItemParts : Type 0
ItemParts = ℕ × (NameTree × (Unit {0} × (DataValue × Unit {0})))

abbrev item_to : ItemParts → DataItem
item_to c = record { at = c.0; name = c.1.0; value = c.1.1.1.0 }

item_is : (p : Parser DataValue) (i : Input) → g.item p i ≡ mapped item_to (placed (pair g.name (pair (sign signs.Equal) (pair p (sign signs.Semicolon))))) i
unfolding g.item
item_is p i = simp steps

pub item_law : {n : ℕ} {p q : Parser DataValue} → Law n p q value_shape → Law n (g.item p) (g.item q) item_shape
item_law {n} {p} {q} V = plain_law (placed_law (pair_law name_law (pair_law (sign_law signs.Equal) (pair_law V (sign_law signs.Semicolon) (λ x k h. tt)) (λ x k h. tt)) (λ x k h. tt))) item_to (record {
  made = λ t. record { of = (t.at, (t.name, (tt, (t.value, tt)))); is = refl };
  marks = λ c. marks_item-is (item_to c);
  view = λ x. tt;
  tag = λ c. refl;
  closes = λ k h. tt;
  begins = λ F k h. h;
}) (g.item p) (g.item q) (item_is p) (item_is q)

item_written : (t : DataItem) → Written (marks_item t)
item_written t = subst Written (sym (marks_item-is t ∙ ap (λ ms. mk.place t.at ∷ (ms ++ mk.token (mk.sign signs.Equal) ∷ (marks_value t.value ++ mk.token (mk.sign signs.Semicolon) ∷ []))) (marks_name-is t.name))) (record { first = mk.name t.name.text; is = refl })

-- ---- the items

abbrev file_to : ℕ × List DataItem → DataTree
file_to c = record { at = c.0; items = c.1 }

file_is : (p : Parser DataValue) (i : Input) → g.file p i ≡ mapped file_to (placed (many is_name (g.item p))) i
unfolding g.file
file_is p i = simp steps

pub file_law : {n : ℕ} {p q : Parser DataValue} → Law n p q value_shape → Law n (g.file p) (g.file q) file_shape
file_law {n} {p} {q} V = plain_law (placed_law (many_law is_name (item_law V) (record { passes = λ F k h. h; meets = λ k h. tt; written = item_written }))) file_to (record {
  made = λ t. record { of = (t.at, t.items); is = refl };
  marks = λ c. marks_file-is (file_to c);
  view = λ x. tt;
  tag = λ c. refl;
  closes = λ k h. (tt, h);
  begins = λ F k h. h;
}) (g.file p) (g.file q) (file_is p) (file_is q)

-- ---- a data file, and nothing behind it

whole_is : (n : ℕ) (i : Input) → g.whole_within n i ≡ whole_of (g.file (g.value_within n)) i
unfolding g.whole_within
whole_is n i = refl

-- with which a data file begins, by what may follow
abbrev pub starts_file : (Option Kind → Type 0) → Option Kind → Type 0
starts_file F k = (is_name k ≡ true) ⊎ F k

-- the grammar of data files, over so many levels
pub data_grammar : Grammar marks_file starts_file g.whole_within
data_grammar = whole_grammar (λ n. g.file (g.value_within n)) (λ n k h. file_law (value_law (rules_law n k h))) refl g.whole_within whole_is
