-- Names, numbers and values.
use Rattle.std.proofs.Common.{◌≡◌, ℕ, ℤ, true, false, cond, ◌⊎◌, inl, inr, List, refl, sym, subst}
use Rattle.opl_token.specs.declared.sign.Sign.TheVariants as signs
use Rattle.opl_tree.specs.declared.expression.NameTree.{NameTree}
use Rattle.opl_tree.proofs.Marks.{marks_name-is}
use Rattle.opl_tree.specs.Marks as mk
use Rattle.opl_grammar.specs.Input.{Input, Outcome, Parser, kind, one, sign, is_sign, is_name, is_number, name_in, number_in, sees_sign, sees_name, sees_number}
use Rattle.opl_data.specs.declared.tree.DataPair.{DataPair}
use Rattle.opl_data.specs.declared.tree.DataValue.{DataValue}
use Rattle.opl_data.specs.declared.tree.DataValue.TheOpen.{DataValue-F}
use Rattle.opl_data.specs.declared.tree.DataValue.TheVariants as values_are
use Rattle.opl_data.specs.declared.tree.DataValue.TheViews.{out-DataValue, roll-DataValue, roll-out-DataValue}
use Rattle.opl_data.specs.Grammar as g
use Rattle.opl_data.specs.Grammar.{Rules, value_begins}
use Rattle.opl_data.specs.Marks.{marks_value}
use Rattle.opl_reader_laws.proofs.Forms.{placed, placed_shape, placed_law, either, by_side, either_shape, either_law, mapped, Made, plain_law}
use Rattle.opl_reader_laws.proofs.Opened.{opened, opened_shape, opened_law}
use Rattle.opl_reader_laws.proofs.Outcomes.{steps}
use Rattle.opl_reader_laws.proofs.Phrases.{Shape, Law, one_law, pair, pair_shape, pair_law}
use Rattle.opl_data.proofs.Shapes.{name_shape, number_shape, value_shape, values_shape, listed_shape, keyed_shape, RulesLaw}
use Rattle.opl_reader_laws.proofs.Tokens.{from_sign, from_name, from_number, sign_table, sign_first, sign_reads, sign_shape, sign_law, name_reads, number_reads}
use Rattle.opl_data.proofs.Trees.{marks_value-Number, marks_value-Named, marks_value-Record, marks_value-Set, marks_value-Array, marks_value-KeyedArray}

-- ---- names

abbrev name_to : ℕ × List ℕ → NameTree
name_to c = record { at = c.0; text = c.1 }

name_is : (i : Input) → g.name i ≡ mapped name_to (placed (one name_in)) i
unfolding g.name
name_is i = simp steps

pub name_law : {n : ℕ} → Law n g.name g.name name_shape
name_law = plain_law (placed_law (one_law name_reads)) name_to (record {
  made = λ t. record { of = (t.at, t.text); is = refl };
  marks = λ c. marks_name-is (name_to c);
  view = λ x. tt;
  tag = λ c. refl;
  closes = λ k h. tt;
  begins = λ F k h. h;
}) g.name g.name name_is name_is

-- ---- the kinds of values

abbrev named_read : Rules → Parser NameTree
named_read r = g.name

abbrev named_parts : Shape NameTree
named_parts = name_shape

named_parts_law : {n : ℕ} {r s : Rules} → RulesLaw n r s → Law n (named_read r) (named_read s) named_parts
named_parts_law R = name_law

abbrev number_read : Rules → Parser (ℕ × ℤ)
number_read r = placed (one number_in)

abbrev number_parts : Shape (ℕ × ℤ)
number_parts = placed_shape number_shape

number_parts_law : {n : ℕ} {r s : Rules} → RulesLaw n r s → Law n (number_read r) (number_read s) number_parts
number_parts_law R = placed_law (one_law number_reads)

abbrev negative_read : Rules → Parser (ℕ × (Unit {0} × ℤ))
negative_read r = placed (opened (sign_table signs.Minus) r.number)

abbrev negative_parts : Shape (ℕ × (Unit {0} × ℤ))
negative_parts = placed_shape (opened_shape (λ u. mk.sign signs.Minus) (sign_first signs.Minus) number_shape)

negative_parts_law : {n : ℕ} {r s : Rules} → RulesLaw n r s → Law n (negative_read r) (negative_read s) negative_parts
negative_parts_law R = placed_law (opened_law (sign_reads signs.Minus) R.number)

abbrev record_read : Rules → Parser (ℕ × ((Unit {0} × (DataValue × List DataValue)) × Unit {0}))
record_read r = placed (pair (opened (sign_table signs.Less) r.values) (sign signs.Greater))

abbrev record_parts : Shape (ℕ × ((Unit {0} × (DataValue × List DataValue)) × Unit {0}))
record_parts = placed_shape (pair_shape (opened_shape (λ u. mk.sign signs.Less) (sign_first signs.Less) values_shape) (sign_shape signs.Greater))

record_parts_law : {n : ℕ} {r s : Rules} → RulesLaw n r s → Law n (record_read r) (record_read s) record_parts
record_parts_law R = placed_law (pair_law (opened_law (sign_reads signs.Less) R.values) (sign_law signs.Greater) (λ x k h. (tt, from_sign signs.Greater (λ l. sees_sign signs.Comma l ≡ false) k h refl)))

abbrev set_read : Rules → Parser (ℕ × ((Unit {0} × List DataValue) × Unit {0}))
set_read r = placed (pair (opened (sign_table signs.OpenBrace) r.listed) (sign signs.CloseBrace))

abbrev set_parts : Shape (ℕ × ((Unit {0} × List DataValue) × Unit {0}))
set_parts = placed_shape (pair_shape (opened_shape (λ u. mk.sign signs.OpenBrace) (sign_first signs.OpenBrace) listed_shape) (sign_shape signs.CloseBrace))

set_parts_law : {n : ℕ} {r s : Rules} → RulesLaw n r s → Law n (set_read r) (set_read s) set_parts
set_parts_law R = placed_law (pair_law (opened_law (sign_reads signs.OpenBrace) R.listed) (sign_law signs.CloseBrace) (λ x k h. ((tt, from_sign signs.CloseBrace (λ l. sees_sign signs.Comma l ≡ false) k h refl), from_sign signs.CloseBrace (λ l. value_begins l ≡ false) k h refl)))

abbrev array_read : Rules → Parser (ℕ × ((Unit {0} × List DataValue) × Unit {0}))
array_read r = placed (pair (opened (sign_table signs.OpenBracket) r.listed) (sign signs.CloseBracket))

abbrev array_parts : Shape (ℕ × ((Unit {0} × List DataValue) × Unit {0}))
array_parts = placed_shape (pair_shape (opened_shape (λ u. mk.sign signs.OpenBracket) (sign_first signs.OpenBracket) listed_shape) (sign_shape signs.CloseBracket))

array_parts_law : {n : ℕ} {r s : Rules} → RulesLaw n r s → Law n (array_read r) (array_read s) array_parts
array_parts_law R = placed_law (pair_law (opened_law (sign_reads signs.OpenBracket) R.listed) (sign_law signs.CloseBracket) (λ x k h. ((tt, from_sign signs.CloseBracket (λ l. sees_sign signs.Comma l ≡ false) k h refl), from_sign signs.CloseBracket (λ l. value_begins l ≡ false) k h refl)))

abbrev keyed_read : Rules → Parser (ℕ × ((Unit {0} × List DataPair) × Unit {0}))
keyed_read r = placed (pair (opened (sign_table signs.OpenAssociation) r.keyed) (sign signs.CloseAssociation))

abbrev keyed_parts : Shape (ℕ × ((Unit {0} × List DataPair) × Unit {0}))
keyed_parts = placed_shape (pair_shape (opened_shape (λ u. mk.sign signs.OpenAssociation) (sign_first signs.OpenAssociation) keyed_shape) (sign_shape signs.CloseAssociation))

keyed_parts_law : {n : ℕ} {r s : Rules} → RulesLaw n r s → Law n (keyed_read r) (keyed_read s) keyed_parts
keyed_parts_law R = placed_law (pair_law (opened_law (sign_reads signs.OpenAssociation) R.keyed) (sign_law signs.CloseAssociation) (λ x k h. ((tt, from_sign signs.CloseAssociation (λ l. sees_sign signs.Comma l ≡ false) k h refl), from_sign signs.CloseAssociation (λ l. value_begins l ≡ false) k h refl)))

-- ---- a value is one of them, by its first token

abbrev ValueParts : Type 0
ValueParts = NameTree ⊎ ((ℕ × ℤ) ⊎ ((ℕ × (Unit {0} × ℤ)) ⊎ ((ℕ × ((Unit {0} × (DataValue × List DataValue)) × Unit {0})) ⊎ ((ℕ × ((Unit {0} × List DataValue) × Unit {0})) ⊎ ((ℕ × ((Unit {0} × List DataValue) × Unit {0})) ⊎ (ℕ × ((Unit {0} × List DataPair) × Unit {0})))))))

abbrev value_read : Rules → Parser ValueParts
value_read r = either (is_name) (named_read r) (either (is_number) (number_read r) (either (is_sign signs.Minus) (negative_read r) (either (is_sign signs.Less) (record_read r) (either (is_sign signs.OpenBrace) (set_read r) (either (is_sign signs.OpenBracket) (array_read r) (keyed_read r))))))

abbrev value_parts : Shape ValueParts
value_parts = either_shape named_parts (either_shape number_parts (either_shape negative_parts (either_shape record_parts (either_shape set_parts (either_shape array_parts (keyed_parts))))))

value_parts_law : {n : ℕ} {r s : Rules} → RulesLaw n r s → Law n (value_read r) (value_read s) value_parts
value_parts_law R = either_law (is_name) (named_parts_law R) (either_law (is_number) (number_parts_law R) (either_law (is_sign signs.Minus) (negative_parts_law R) (either_law (is_sign signs.Less) (record_parts_law R) (either_law (is_sign signs.OpenBrace) (set_parts_law R) (either_law (is_sign signs.OpenBracket) (array_parts_law R) (keyed_parts_law R)
    (λ F k h. h) (λ F k h. from_sign signs.OpenAssociation (λ l. sees_sign signs.OpenBracket l ≡ false) k h refl))
    (λ F k h. h) (λ F k h. (by_side (λ a. from_sign signs.OpenBracket (λ l. sees_sign signs.OpenBrace l ≡ false) k a refl) (λ a. from_sign signs.OpenAssociation (λ l. sees_sign signs.OpenBrace l ≡ false) k a refl)) h))
    (λ F k h. h) (λ F k h. (by_side (λ a. from_sign signs.OpenBrace (λ l. sees_sign signs.Less l ≡ false) k a refl) (by_side (λ a. from_sign signs.OpenBracket (λ l. sees_sign signs.Less l ≡ false) k a refl) (λ a. from_sign signs.OpenAssociation (λ l. sees_sign signs.Less l ≡ false) k a refl))) h))
    (λ F k h. h) (λ F k h. (by_side (λ a. from_sign signs.Less (λ l. sees_sign signs.Minus l ≡ false) k a refl) (by_side (λ a. from_sign signs.OpenBrace (λ l. sees_sign signs.Minus l ≡ false) k a refl) (by_side (λ a. from_sign signs.OpenBracket (λ l. sees_sign signs.Minus l ≡ false) k a refl) (λ a. from_sign signs.OpenAssociation (λ l. sees_sign signs.Minus l ≡ false) k a refl)))) h))
    (λ F k h. h) (λ F k h. (by_side (λ a. from_sign signs.Minus (λ l. sees_number l ≡ false) k a refl) (by_side (λ a. from_sign signs.Less (λ l. sees_number l ≡ false) k a refl) (by_side (λ a. from_sign signs.OpenBrace (λ l. sees_number l ≡ false) k a refl) (by_side (λ a. from_sign signs.OpenBracket (λ l. sees_number l ≡ false) k a refl) (λ a. from_sign signs.OpenAssociation (λ l. sees_number l ≡ false) k a refl))))) h))
    (λ F k h. h) (λ F k h. (by_side (λ a. from_number (λ l. sees_name l ≡ false) k a refl) (by_side (λ a. from_sign signs.Minus (λ l. sees_name l ≡ false) k a refl) (by_side (λ a. from_sign signs.Less (λ l. sees_name l ≡ false) k a refl) (by_side (λ a. from_sign signs.OpenBrace (λ l. sees_name l ≡ false) k a refl) (by_side (λ a. from_sign signs.OpenBracket (λ l. sees_name l ≡ false) k a refl) (λ a. from_sign signs.OpenAssociation (λ l. sees_name l ≡ false) k a refl)))))) h)

abbrev value_to : ValueParts → DataValue
value_to (inl t) = values_are.Named t
value_to (inr (inl c)) = values_are.Number c.0 false c.1
value_to (inr (inr (inl c))) = values_are.Number c.0 true c.1.1
value_to (inr (inr (inr (inl c)))) = values_are.Record c.0 c.1.0.1.0 c.1.0.1.1
value_to (inr (inr (inr (inr (inl c))))) = values_are.Set c.0 c.1.0.1
value_to (inr (inr (inr (inr (inr (inl c)))))) = values_are.Array c.0 c.1.0.1
value_to (inr (inr (inr (inr (inr (inr c)))))) = values_are.KeyedArray c.0 c.1.0.1

number_is : (i : Input) → g.number_value i ≡ mapped (λ c. values_are.Number c.0 false c.1) (placed (one number_in)) i
unfolding g.number_value
number_is i = simp steps

negative_is : (r : Rules) (i : Input) → g.negative_value r i ≡ mapped (λ c. values_are.Number c.0 true c.1.1) (negative_read r) i
unfolding g.negative_value
negative_is r i = simp steps

record_is : (r : Rules) (i : Input) → g.record_value r i ≡ mapped (λ c. values_are.Record c.0 c.1.0.1.0 c.1.0.1.1) (record_read r) i
unfolding g.record_value
record_is r i = simp steps

set_is : (r : Rules) (i : Input) → g.set_value r i ≡ mapped (λ c. values_are.Set c.0 c.1.0.1) (set_read r) i
unfolding g.set_value
set_is r i = simp steps

array_is : (r : Rules) (i : Input) → g.array_value r i ≡ mapped (λ c. values_are.Array c.0 c.1.0.1) (array_read r) i
unfolding g.array_value
array_is r i = simp steps

keyed_is : (r : Rules) (i : Input) → g.keyed_value r i ≡ mapped (λ c. values_are.KeyedArray c.0 c.1.0.1) (keyed_read r) i
unfolding g.keyed_value
keyed_is r i = simp steps

sign_value_is : (r : Rules) (i : Input) → g.sign_value r i ≡ cond {A = Outcome DataValue} (is_sign signs.Minus (kind i)) (g.negative_value r i) (cond {A = Outcome DataValue} (is_sign signs.Less (kind i)) (g.record_value r i) (cond {A = Outcome DataValue} (is_sign signs.OpenBrace (kind i)) (g.set_value r i) (cond {A = Outcome DataValue} (is_sign signs.OpenBracket (kind i)) (g.array_value r i) (g.keyed_value r i))))
unfolding g.sign_value
sign_value_is r i = refl

value_is : (r : Rules) (i : Input) → g.value r i ≡ mapped value_to (value_read r) i
unfolding g.value
value_is r i = rw (sign_value_is r i, number_is i, negative_is r i, record_is r i, set_is r i, array_is r i, keyed_is r i) (simp steps)

value_layer_made : (x : DataValue-F DataValue DataPair) → Made value_to (roll-DataValue x)
value_layer_made (DataValue-F.Number at true n) = record { of = inr (inr (inl (at, (tt, n)))); is = sym (values_are.rolls-Number at true n) }
value_layer_made (DataValue-F.Number at false n) = record { of = inr (inl (at, n)); is = sym (values_are.rolls-Number at false n) }
value_layer_made (DataValue-F.Named t) = record { of = inl t; is = sym (values_are.rolls-Named t) }
value_layer_made (DataValue-F.Record at t ts) = record { of = inr (inr (inr (inl (at, ((tt, (t, ts)), tt))))); is = sym (values_are.rolls-Record at t ts) }
value_layer_made (DataValue-F.Set at ts) = record { of = inr (inr (inr (inr (inl (at, ((tt, ts), tt)))))); is = sym (values_are.rolls-Set at ts) }
value_layer_made (DataValue-F.Array at ts) = record { of = inr (inr (inr (inr (inr (inl (at, ((tt, ts), tt))))))); is = sym (values_are.rolls-Array at ts) }
value_layer_made (DataValue-F.KeyedArray at ts) = record { of = inr (inr (inr (inr (inr (inr ((at, ((tt, ts), tt)))))))); is = sym (values_are.rolls-KeyedArray at ts) }

value_made : (t : DataValue) → Made value_to t
value_made t = subst (Made value_to) (roll-out-DataValue t) (value_layer_made (out-DataValue t))

value_spelt : (c : ValueParts) → marks_value (value_to c) ≡ value_parts.marks c
value_spelt (inl t) = marks_value-Named t
value_spelt (inr (inl c)) = marks_value-Number c.0 false c.1
value_spelt (inr (inr (inl c))) = marks_value-Number c.0 true c.1.1
value_spelt (inr (inr (inr (inl c)))) = marks_value-Record c.0 c.1.0.1.0 c.1.0.1.1
value_spelt (inr (inr (inr (inr (inl c))))) = marks_value-Set c.0 c.1.0.1
value_spelt (inr (inr (inr (inr (inr (inl c)))))) = marks_value-Array c.0 c.1.0.1
value_spelt (inr (inr (inr (inr (inr (inr c)))))) = marks_value-KeyedArray c.0 c.1.0.1

pub value_law : {n : ℕ} {r s : Rules} → RulesLaw n r s → Law n (g.value r) (g.value s) value_shape
value_law {n} {r} {s} R = plain_law (value_parts_law R) value_to (record {
  made = value_made;
  marks = value_spelt;
  view = λ x. tt;
  tag = λ c. refl;
  closes = λ k h. (tt, (tt, (tt, (tt, (tt, (tt, tt))))));
  begins = λ F k h. (by_side (λ a. from_name (λ l. value_begins l ≡ true) k a refl) (by_side (λ a. from_number (λ l. value_begins l ≡ true) k a refl) (by_side (λ a. from_sign signs.Minus (λ l. value_begins l ≡ true) k a refl) (by_side (λ a. from_sign signs.Less (λ l. value_begins l ≡ true) k a refl) (by_side (λ a. from_sign signs.OpenBrace (λ l. value_begins l ≡ true) k a refl) (by_side (λ a. from_sign signs.OpenBracket (λ l. value_begins l ≡ true) k a refl) (λ a. from_sign signs.OpenAssociation (λ l. value_begins l ≡ true) k a refl))))))) h;
}) (g.value r) (g.value s) (value_is r) (value_is s)
