-- What is made of values, by the laws of one.
use Rattle.std.proofs.Common.{◌≡◌, ℕ, List, [], ◌∷◌, map, Option, Some, None, refl}
use Rattle.opl_token.specs.declared.sign.Sign.TheVariants as signs
use Rattle.opl_tree.specs.Marks as mk
use Rattle.opl_grammar.specs.Input.{Input, Parser, sign, after_each}
use Rattle.opl_data.specs.declared.tree.DataPair.{DataPair}
use Rattle.opl_data.specs.declared.tree.DataValue.{DataValue}
use Rattle.opl_data.specs.declared.tree.DataValue.TheViews.{out-DataPair, roll-DataPair, roll-out-DataPair}
use Rattle.opl_data.specs.Grammar as g
use Rattle.opl_data.specs.Grammar.{starts_value}
use Rattle.opl_data.specs.Marks.{marks_value, marks_pair}
use Rattle.opl_reader_laws.proofs.Forms.{placed, placed_law, maybe, maybe_marks, maybe_law, mapped, Made, plain_law}
use Rattle.opl_reader_laws.proofs.Led.{each_shape, each_law}
use Rattle.opl_reader_laws.proofs.Outcomes.{steps}
use Rattle.opl_reader_laws.proofs.Phrases.{Shape, Law, pair, pair_shape, pair_law}
use Rattle.opl_data.proofs.Shapes.{value_shape, values_shape, listed_shape, keyed_part_shape, keyed_shape}
use Rattle.opl_reader_laws.proofs.Tokens.{sign_law}
use Rattle.opl_data.proofs.Trees.{marks_pair-of}

module _ {n : ℕ} {p q : Parser DataValue} (V : Law n p q value_shape) where
  pub values_law : Law n (g.values p) (g.values q) values_shape
  unfolding g.values
  values_law = pair_law V (each_law signs.Comma V (λ k h. tt)) (λ x k h. tt)

abbrev all_of : {A : Type 0} → Option (A × List A) → List A
all_of None = []
all_of (Some c) = c.0 ∷ c.1

all_made : {A : Type 0} (xs : List A) → Made all_of xs
all_made [] = record { of = None; is = refl }
all_made (x ∷ xs) = record { of = Some (x, xs); is = refl }

listed_is : (p : Parser DataValue) (i : Input) → g.listed p i ≡ mapped all_of (maybe starts_value (g.values p)) i
unfolding g.listed
listed_is p i = simp steps

listed_spelt : (o : Option (DataValue × List DataValue)) → mk.several signs.Comma (map marks_value (all_of o)) ≡ maybe_marks values_shape o
listed_spelt None = refl
listed_spelt (Some c) = refl

pub listed_law : {n : ℕ} {p q : Parser DataValue} → Law n p q value_shape → Law n (g.listed p) (g.listed q) listed_shape
listed_law {n} {p} {q} V = plain_law (maybe_law starts_value (values_law V) (λ F k h. h)) all_of (record {
  made = all_made;
  marks = listed_spelt;
  view = λ x. tt;
  tag = λ c. refl;
  closes = λ k h. h;
  begins = λ F k h. h;
}) (g.listed p) (g.listed q) (listed_is p) (listed_is q)

-- ---- pairs

abbrev pair_to : ℕ × (DataValue × (Unit {0} × DataValue)) → DataPair
pair_to c = roll-DataPair (record { at = c.0; key = c.1.0; value = c.1.1.1 })

pair_is : (p : Parser DataValue) (i : Input) → g.pair p i ≡ mapped pair_to (placed (pair p (pair (sign signs.Colon) p))) i
unfolding g.pair
pair_is p i = simp steps

part_law : {n : ℕ} {p q : Parser DataValue} → Law n p q value_shape → Law n (g.pair p) (g.pair q) keyed_part_shape
part_law {n} {p} {q} V = plain_law (placed_law (pair_law V (pair_law (sign_law signs.Colon) V (λ x k h. tt)) (λ x k h. tt))) pair_to (record {
  made = λ t. record { of = ((out-DataPair t).at, ((out-DataPair t).key, (tt, (out-DataPair t).value))); is = roll-out-DataPair t };
  marks = λ c. marks_pair-of c.0 c.1.0 c.1.1.1;
  view = λ x. tt;
  tag = λ c. refl;
  closes = λ k h. h;
  begins = λ F k h. h;
}) (g.pair p) (g.pair q) (pair_is p) (pair_is q)

abbrev pairs_shape : Shape (DataPair × List DataPair)
pairs_shape = pair_shape keyed_part_shape (each_shape signs.Comma keyed_part_shape)

keyed_is : (p : Parser DataValue) (i : Input) → g.keyed p i ≡ mapped all_of (maybe starts_value (pair (g.pair p) (after_each signs.Comma (g.pair p)))) i
unfolding g.keyed g.pairs
keyed_is p i = simp steps

keyed_spelt : (o : Option (DataPair × List DataPair)) → mk.several signs.Comma (map marks_pair (all_of o)) ≡ maybe_marks pairs_shape o
keyed_spelt None = refl
keyed_spelt (Some c) = refl

pub keyed_law : {n : ℕ} {p q : Parser DataValue} → Law n p q value_shape → Law n (g.keyed p) (g.keyed q) keyed_shape
keyed_law {n} {p} {q} V = plain_law (maybe_law starts_value (pair_law (part_law V) (each_law signs.Comma (part_law V) (λ k h. tt)) (λ x k h. tt)) (λ F k h. h)) all_of (record {
  made = all_made;
  marks = keyed_spelt;
  view = λ x. tt;
  tag = λ c. refl;
  closes = λ k h. h;
  begins = λ F k h. h;
}) (g.keyed p) (g.keyed q) (keyed_is p) (keyed_is q)
