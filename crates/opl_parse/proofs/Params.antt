-- Parameters, and the lists that stand in brackets.
use Rattle.std.proofs.Common.{◌≡◌, ℕ, ◌<◌, Bool, true, false, ◌⊎◌, inl, inr, List, [], ◌∷◌, ◌++◌, map, Option, Some, None, refl, sym, ap, ◌∙◌, subst, arith}
use Rattle.std.specs.Prelude.{◌||◌, is_some}
use Rattle.opl_token.specs.declared.sign.Sign.TheVariants as signs
use Rattle.opl_token.specs.declared.token.Kind.{Kind}
use Rattle.opl_tree.specs.declared.expression.NameTree.{NameTree}
use Rattle.opl_tree.specs.declared.expression.ExprTree.{ExprTree}
use Rattle.opl_tree.specs.declared.expression.AddTree.{AddTree}
use Rattle.opl_tree.specs.declared.expression.KeyedTree.{KeyedTree}
use Rattle.opl_tree.specs.declared.expression.SetTree.{SetTree}
use Rattle.opl_tree.specs.declared.expression.ParamsTree.{ParamsTree}
use Rattle.opl_tree.specs.declared.expression.GroupStep.{GroupStep}
use Rattle.opl_tree.specs.declared.expression.GroupTree.{GroupTree}
use Rattle.opl_tree.specs.declared.expression.PatternTree.{PatternTree}
use Rattle.opl_tree.specs.declared.expression.GroupSeparator.{GroupSeparator}
use Rattle.opl_tree.specs.declared.search.OrderedParamsTree.{OrderedParamsTree}
use Rattle.opl_tree.specs.declared.search.OrderTree.{OrderTree}
use Rattle.opl_tree.specs.declared.expression.PatternTree.TheVariants as patterns
use Rattle.opl_tree.specs.declared.keyword.Keyword.TheVariants as words
use Rattle.opl_tree.specs.declared.expression.CompareTree.TheViews.{out-GroupStep, roll-GroupStep, roll-out-GroupStep, out-GroupTree, roll-GroupTree, roll-out-GroupTree, out-KeyedTree, roll-KeyedTree, roll-out-KeyedTree, out-ParamsTree, roll-ParamsTree, roll-out-ParamsTree}
use Rattle.opl_grammar.specs.declared.parts.Braced.{Braced}
use Rattle.opl_grammar.specs.declared.parts.Braced.TheVariants as braces
use Rattle.opl_tree.specs.Marks.{Part, joined, separator_sign, marks_name, marks_pattern, marks_add, marks_keyed, marks_params, marks_group_step, marks_group, marks_order}
use Rattle.opl_tree.specs.Marks as mk
use Rattle.opl_tree.proofs.Marks.{marks_pattern-Single, marks_pattern-Record, marks_group_step-of, marks_group_step-is, marks_group-of, marks_keyed-of, marks_params-of, marks_order-is, marks_ordered_params-is}
use Rattle.opl_grammar.specs.Input.{Input, Parser, one, sign, word, sees_sign, sees_word, is_sign, is_word, is_name, many, behind, after_each, sign_seen, flag}
use Rattle.opl_grammar.specs.Input as input
use Rattle.opl_grammar.specs.Tables.{through, separator_of, separator_in, direction_in, is_separator, starts_add}
use Rattle.opl_grammar.specs.Rules as g
use Rattle.opl_grammar.specs.Rules.{Rules}
use Rattle.opl_parse.proofs.Follow.{sign_binds, binds, Ends, sign_ends, word_ends}
use Rattle.opl_reader_laws.proofs.Forms.{placed, placed_shape, placed_law, maybe, maybe_marks, maybe_shape, maybe_law, either, by_side, either_shape, either_law, mapped, Made, stricter_law, plain, plain_law}
use Rattle.opl_reader_laws.proofs.Led.{led_shape, led_law, each_shape, each_law}
use Rattle.opl_reader_laws.proofs.Opened.{opened, opened_shape, opened_law}
use Rattle.opl_reader_laws.proofs.Many.{many_law}
use Rattle.opl_parse.proofs.Ops.{separator_part, separator_reads, from_separator, direction_reads}
use Rattle.opl_reader_laws.proofs.Options.{after_maybe, written_maybe, or_true_left, or_true_right}
use Rattle.opl_reader_laws.proofs.Otherwise.{otherwise_shape, otherwise_law}
use Rattle.opl_reader_laws.proofs.Outcomes.{and_then_assoc, steps}
use Rattle.opl_reader_laws.proofs.Phrases.{Shape, Law, one_shape, Reads, one_law, pair, pair_shape, pair_law}
use Rattle.opl_parse.proofs.Prims.{name_law}
use Rattle.opl_parse.proofs.Shapes.{First, name_shape, add_shape, expr_shape, starts_pattern, pattern_shape, group_shape, EndsParams, params_shape, ordered_shape, adds_shape, listed_shape, keyed_part_shape, keyed_shape, marks_braced, braced_shape, ends_shape, names_shape, chosen_shape, aggregated_shape, RulesLaw}
use Rattle.opl_parse.proofs.Sums.{mul_law, add_law, ends_law, set_law}
use Rattle.opl_reader_laws.proofs.Takes.{Written}
use Rattle.opl_reader_laws.proofs.Tokens.{from_sign, from_word, from_name, sign_table, sign_first, sign_reads, word_reads, sign_shape, sign_law, word_law}
use Rattle.opl_parse.proofs.Truths.{expr_law}
use Rattle.opl_tree.specs.declared.expression.GroupSeparator.TheVariants as separators

-- ---- a word or a sign that may be written, and whether it is

abbrev pub flag_shape : (Option Kind → Bool) → Part → Shape Bool
flag_shape test part = plain (λ b. mk.optional part b) (λ k. test k ≡ false) (λ F k. (test k ≡ true) ⊎ F k)

abbrev flagged : Option (Unit {0}) → Bool
flagged None = false
flagged (Some u) = true

flag_is : (test : Option Kind → Bool) (table : Option Kind → Option (Unit {0})) (i : Input) → input.flag test (one table) i ≡ mapped flagged (maybe test (one table)) i
flag_is test table i = simp steps

pub flag_law : {n : ℕ} {table : Option Kind → Option (Unit {0})} {part : Part} {first : Option Kind → Type 0} (test : Option Kind → Bool) → Reads table (λ u. part) first → ((k : Option Kind) → first k → test k ≡ true) → Law n (input.flag test (one table)) (input.flag test (one table)) (flag_shape test part)
flag_law {n} {table} {part} {first} test r passes = plain_law (maybe_law test (one_law r) (λ F k h. passes k h)) flagged (record {
  made = made;
  marks = marks;
  view = λ x. tt;
  tag = λ c. refl;
  closes = λ k h. (tt, h);
  begins = λ F k h. h;
}) (input.flag test (one table)) (input.flag test (one table)) (flag_is test table) (flag_is test table) where
  made : (b : Bool) → Made flagged b
  made true = record { of = Some tt; is = refl }
  made false = record { of = None; is = refl }

  marks : (o : Option (Unit {0})) → mk.optional part (flagged o) ≡ maybe_marks (one_shape (λ u. part) first) o
  marks None = refl
  marks (Some u) = refl

-- ---- names and patterns

pub names_law : {n : ℕ} → Law n g.names g.names names_shape
unfolding g.names
names_law = pair_law name_law (each_law signs.Comma name_law (λ k h. tt)) (λ x k h. tt)

abbrev PatternParts : Type 0
PatternParts = (ℕ × ((Unit {0} × (NameTree × List NameTree)) × Unit {0})) ⊎ NameTree

abbrev pattern_to : PatternParts → PatternTree
pattern_to (inl c) = patterns.Record c.0 c.1.0.1.0 c.1.0.1.1
pattern_to (inr t) = patterns.Single t

abbrev pattern_read : Rules → Parser PatternParts
pattern_read r = either (is_sign signs.Less) (placed (pair (opened (sign_table signs.Less) r.names) (sign signs.Greater))) g.name

abbrev pattern_parts : Shape PatternParts
pattern_parts = either_shape (placed_shape (pair_shape (opened_shape (λ u. mk.sign signs.Less) (sign_first signs.Less) names_shape) (sign_shape signs.Greater))) name_shape

pattern_is : (r : Rules) (i : Input) → g.pattern r i ≡ mapped pattern_to (pattern_read r) i
unfolding g.pattern g.record_pattern
pattern_is r i = simp steps

pattern_made : (t : PatternTree) → Made pattern_to t
pattern_made (patterns.Single t) = record { of = inr t; is = refl }
pattern_made (patterns.Record at t ts) = record { of = inl (at, ((tt, (t, ts)), tt)); is = refl }

pattern_spelt : (c : PatternParts) → marks_pattern (pattern_to c) ≡ pattern_parts.marks c
pattern_spelt (inl c) = marks_pattern-Record c.0 c.1.0.1.0 c.1.0.1.1
pattern_spelt (inr t) = marks_pattern-Single t

pub pattern_law : {n : ℕ} {r s : Rules} → RulesLaw n r s → Law n (g.pattern r) (g.pattern s) pattern_shape
pattern_law {n} {r} {s} R = plain_law
    (either_law (is_sign signs.Less) (placed_law (pair_law (opened_law (sign_reads signs.Less) R.names) (sign_law signs.Greater) (λ x k h. (tt, from_sign signs.Greater (λ l. sees_sign signs.Comma l ≡ false) k h refl)))) name_law
    (λ F k h. h) (λ F k h. from_name (λ l. sees_sign signs.Less l ≡ false) k h refl)) pattern_to (record {
      made = pattern_made;
      marks = pattern_spelt;
      view = λ x. tt;
      tag = λ c. refl;
      closes = λ k h. (tt, tt);
      begins = λ F k h. by_side (λ a. or_true_left (is_sign signs.Less k) (is_name k) a) (λ a. or_true_right (is_sign signs.Less k) (is_name k) a) h;
    }) (g.pattern r) (g.pattern s) (pattern_is r) (pattern_is s)

-- ---- groups

pattern_not_ordered : (a b : Bool) (k : Option Kind) → is_sign signs.Less k ≡ a → is_name k ≡ b → (a || b) ≡ true → is_word words.Ordered k ≡ false
pattern_not_ordered true b k e f h = from_sign signs.Less (λ l. sees_word words.Ordered l ≡ false) k e refl
pattern_not_ordered false b k e f h = from_name (λ l. sees_word words.Ordered l ≡ false) k (f ∙ h) refl

abbrev GroupParts : Type 0
GroupParts = ℕ × (Bool × (PatternTree × (List PatternTree × (Unit {0} × SetTree))))

abbrev group_to : GroupParts → GroupTree
group_to c = roll-GroupTree (record { at = c.0; is_ordered = c.1.0; first = c.1.1.0; rest = c.1.1.1.0; set = c.1.1.1.1.1 })

group_is : (r : Rules) (i : Input) → g.group r i ≡ mapped group_to (placed (pair (input.flag (is_word words.Ordered) (word words.Ordered)) (pair (g.pattern r) (pair (after_each signs.Comma (g.pattern r)) (pair (word words.In) (g.set r)))))) i
unfolding g.group
group_is r i = simp and_then_assoc

pub group_law : {n : ℕ} {r s : Rules} → RulesLaw n r s → Law n (g.group r) (g.group s) group_shape
group_law {n} {r} {s} R = plain_law
    (placed_law (pair_law (flag_law (is_word words.Ordered) (word_reads words.Ordered) (λ k h. h)) (pair_law (pattern_law R) (pair_law (each_law signs.Comma (pattern_law R) (λ k h. tt)) (pair_law (word_law words.In) (set_law R) (λ x k h. tt))
    (λ x k h. (tt, from_word words.In (λ l. sees_sign signs.Comma l ≡ false) k h refl))) (λ x k h. tt)) (λ x k h. pattern_not_ordered (is_sign signs.Less k) (is_name k) k refl refl h))) group_to (record {
      made = λ t. record { of = ((out-GroupTree t).at, ((out-GroupTree t).is_ordered, ((out-GroupTree t).first, ((out-GroupTree t).rest, (tt, (out-GroupTree t).set))))); is = roll-out-GroupTree t };
      marks = λ c. marks_group-of c.0 c.1.0 c.1.1.0 c.1.1.1.0 c.1.1.1.1.1;
      view = λ x. tt;
      tag = λ c. refl;
      closes = λ k h. h;
      begins = λ F k h. by_side (λ a. or_true_left (is_word words.Ordered k) (starts_pattern k) a) (λ a. or_true_right (is_word words.Ordered k) (starts_pattern k) a) h;
    }) (g.group r) (g.group s) (group_is r) (group_is s)

separator_loose : (a : GroupSeparator) → 4 < sign_binds (separator_sign a)
separator_loose separators.Comma = omega arith
separator_loose separators.Ampersand = omega arith

separator_ends : (k : Option Kind) → is_separator k ≡ true → Ends 4 k
separator_ends k h = from_separator (λ l. 4 < binds l) k h separator_loose

abbrev group_step_to : GroupSeparator × GroupTree → GroupStep
group_step_to c = roll-GroupStep (record { separator = c.0; group = c.1 })

group_step_is : (r : Rules) (i : Input) → g.group_step r i ≡ mapped group_step_to (pair (one separator_in) (g.group r)) i
unfolding g.group_step
group_step_is r i = simp steps

abbrev group_step_shape : Shape GroupStep
group_step_shape = plain marks_group_step (Ends 4) (First is_separator)

group_step_law : {n : ℕ} {r s : Rules} → RulesLaw n r s → Law n (g.group_step r) (g.group_step s) group_step_shape
group_step_law {n} {r} {s} R = plain_law (pair_law (one_law separator_reads) (group_law R) (λ x k h. tt)) group_step_to (record {
  made = λ t. record { of = ((out-GroupStep t).separator, (out-GroupStep t).group); is = roll-out-GroupStep t };
  marks = λ c. marks_group_step-of c.0 c.1;
  view = λ x. tt;
  tag = λ c. refl;
  closes = λ k h. h;
  begins = λ F k h. h;
}) (g.group_step r) (g.group_step s) (group_step_is r) (group_step_is s)

group_step_written : (t : GroupStep) → Written (marks_group_step t)
group_step_written t = subst Written (sym (marks_group_step-is t)) (record { first = separator_part (out-GroupStep t).separator; is = refl })

-- ---- parameters

abbrev condition_shape : Shape ExprTree
condition_shape = led_shape (mk.sign signs.Colon) (sign_first signs.Colon) expr_shape

condition_law : {n : ℕ} {r s : Rules} → RulesLaw n r s → Law n (g.condition r) (g.condition s) condition_shape
unfolding g.condition
condition_law {n} {r} {s} R = led_law (sign_reads signs.Colon) (expr_law R)

-- no group goes on
abbrev NoGroup : Option Kind → Type 0
NoGroup k = Ends 4 k × (is_separator k ≡ false)

abbrev ParamsParts : Type 0
ParamsParts = ℕ × (GroupTree × (List GroupStep × Option ExprTree))

abbrev params_to : ParamsParts → ParamsTree
params_to c = roll-ParamsTree (record { at = c.0; first = c.1.0; rest = c.1.1.0; condition = c.1.1.1 })

params_is : (r : Rules) (i : Input) → g.params r i ≡ mapped params_to (placed (pair (g.group r) (pair (many is_separator (g.group_step r)) (maybe (is_sign signs.Colon) (g.condition r))))) i
unfolding g.params
params_is r i = simp and_then_assoc

colon_no_group : (k : Option Kind) → is_sign signs.Colon k ≡ true → NoGroup k
colon_no_group k h = (sign_ends signs.Colon 4 (omega arith) k h, from_sign signs.Colon (λ l. is_some (through separator_of (sign_seen l)) ≡ false) k h refl)

steps_meet : {X : Type 0} (k : Option Kind) → (is_sign signs.Colon k ≡ true) ⊎ (X × NoGroup k) → NoGroup k
steps_meet k (inl h) = colon_no_group k h
steps_meet k (inr h) = h.1

group_meets : {X : Type 0} (k : Option Kind) → (is_separator k ≡ true) ⊎ ((is_sign signs.Colon k ≡ true) ⊎ (X × NoGroup k)) → Ends 4 k
group_meets k (inl h) = separator_ends k h
group_meets k (inr h) = (steps_meet k h).0

pub params_law : {n : ℕ} {r s : Rules} → RulesLaw n r s → Law n (g.params r) (g.params s) params_shape
params_law {n} {r} {s} R = plain_law
    (placed_law (pair_law (group_law R) (pair_law (many_law is_separator (group_step_law R) (record { passes = λ F k h. h; meets = separator_ends; written = group_step_written }))
    (stricter_law NoGroup (maybe_law (is_sign signs.Colon) (condition_law R) (λ F k h. h))) (λ x k h. steps_meet k h)) (λ x k h. group_meets k h))) params_to (record {
      made = λ t. record { of = ((out-ParamsTree t).at, ((out-ParamsTree t).first, ((out-ParamsTree t).rest, (out-ParamsTree t).condition))); is = roll-out-ParamsTree t };
      marks = λ c. marks_params-of c.0 c.1.0 c.1.1.0 c.1.1.1 ∙ ap (λ ms. mk.place c.0 ∷ (marks_group c.1.0 ++ (mk.joined (map marks_group_step c.1.1.0) ++ ms))) (after_maybe (mk.sign signs.Colon) (sign_first signs.Colon) expr_shape c.1.1.1);
      view = λ x. tt;
      tag = λ c. refl;
      closes = λ k h. let e = h.0 in ((h.0, h.1.1), (omega arith, h.1.0));
      begins = λ F k h. h;
    }) (g.params r) (g.params s) (params_is r) (params_is s)

chosen_is : (r : Rules) (i : Input) → g.chosen r i ≡ mapped (λ (c : (Unit {0} × ParamsTree) × Unit {0}). c.0.1) (pair (opened (sign_table signs.OpenParenthesis) r.params) (sign signs.CloseParenthesis)) i
unfolding g.chosen
chosen_is r i = simp steps

pub params_close : (k : Option Kind) → is_sign signs.CloseParenthesis k ≡ true → EndsParams k
params_close k h = (sign_ends signs.CloseParenthesis 9 (omega arith) k h, (from_sign signs.CloseParenthesis (λ l. is_some (through separator_of (sign_seen l)) ≡ false) k h refl, from_sign signs.CloseParenthesis (λ l. sees_sign signs.Colon l ≡ false) k h refl))

pub chosen_law : {n : ℕ} {r s : Rules} → RulesLaw n r s → Law n (g.chosen r) (g.chosen s) chosen_shape
chosen_law {n} {r} {s} R = plain_law (pair_law (opened_law (sign_reads signs.OpenParenthesis) R.params) (sign_law signs.CloseParenthesis) (λ x k h. params_close k h)) (λ c. c.0.1) (record {
  made = λ t. record { of = ((tt, t), tt); is = refl };
  marks = λ c. refl;
  view = λ x. tt;
  tag = λ c. refl;
  closes = λ k h. tt;
  begins = λ F k h. h;
}) (g.chosen r) (g.chosen s) (chosen_is r) (chosen_is s)

pub aggregated_law : {n : ℕ} {r s : Rules} → RulesLaw n r s → Law n (g.aggregated r) (g.aggregated s) aggregated_shape
unfolding g.aggregated
aggregated_law {n} {r} {s} R = pair_law (chosen_law R) (mul_law R) (λ x k h. tt)

-- ---- ordered parameters

abbrev OrderParts : Type 0
OrderParts = ℕ × (Unit {0} × (Unit {0} × (Bool × AddTree)))

abbrev order_to : OrderParts → OrderTree
order_to c = record { at = c.0; is_increasing = c.1.1.1.0; key = c.1.1.1.1 }

order_is : (r : Rules) (i : Input) → g.order r i ≡ mapped order_to (placed (pair (word words.Ordered) (pair (word words.By) (pair (one direction_in) (g.add r))))) i
unfolding g.order
order_is r i = simp steps

abbrev order_shape : Shape OrderTree
order_shape = plain marks_order (Ends 3) (First (is_word words.Ordered))

order_law : {n : ℕ} {r s : Rules} → RulesLaw n r s → Law n (g.order r) (g.order s) order_shape
order_law {n} {r} {s} R = plain_law (placed_law (pair_law (word_law words.Ordered) (pair_law (word_law words.By) (pair_law (one_law direction_reads) (add_law R) (λ x k h. tt)) (λ x k h. tt)) (λ x k h. tt))) order_to (record {
  made = λ t. record { of = (t.at, (tt, (tt, (t.is_increasing, t.key)))); is = refl };
  marks = λ c. marks_order-is (order_to c);
  view = λ x. tt;
  tag = λ c. refl;
  closes = λ k h. h;
  begins = λ F k h. h;
}) (g.order r) (g.order s) (order_is r) (order_is s)

abbrev ordered_to : ℕ × (ParamsTree × Option OrderTree) → OrderedParamsTree
ordered_to c = record { at = c.0; params = c.1.0; order = c.1.1 }

ordered_is : (r : Rules) (i : Input) → g.ordered_params r i ≡ mapped ordered_to (placed (pair (g.params r) (maybe (is_word words.Ordered) (g.order r)))) i
unfolding g.ordered_params
ordered_is r i = simp and_then_assoc

order_meets : {X : Type 0} (k : Option Kind) → (is_word words.Ordered k ≡ true) ⊎ (X × EndsParams k) → EndsParams k
order_meets k (inl h) = (word_ends words.Ordered 9 (omega arith) k h, (from_word words.Ordered (λ l. is_some (through separator_of (sign_seen l)) ≡ false) k h refl, from_word words.Ordered (λ l. sees_sign signs.Colon l ≡ false) k h refl))
order_meets k (inr h) = h.1

pub ordered_law : {n : ℕ} {r s : Rules} → RulesLaw n r s → Law n (g.ordered_params r) (g.ordered_params s) ordered_shape
ordered_law {n} {r} {s} R = plain_law (placed_law (pair_law (params_law R) (stricter_law EndsParams (maybe_law (is_word words.Ordered) (order_law R) (λ F k h. h))) (λ x k h. order_meets k h))) ordered_to (record {
  made = λ t. record { of = (t.at, (t.params, t.order)); is = refl };
  marks = λ c. marks_ordered_params-is (ordered_to c) ∙ ap (λ ms. mk.place c.0 ∷ (marks_params c.1.0 ++ ms)) (written_maybe order_shape c.1.1);
  view = λ x. tt;
  tag = λ c. refl;
  closes = λ k h. let e = h.0.0 in ((omega arith, h.1), h.0);
  begins = λ F k h. h;
}) (g.ordered_params r) (g.ordered_params s) (ordered_is r) (ordered_is s)

-- ---- lists of sums

pub comma_meets : {X : Type 0} (k : Option Kind) → (is_sign signs.Comma k ≡ true) ⊎ (Ends 3 k × X) → Ends 3 k
comma_meets k (inl h) = sign_ends signs.Comma 3 (omega arith) k h
comma_meets k (inr h) = h.0

pub adds_law : {n : ℕ} {r s : Rules} → RulesLaw n r s → Law n (g.adds r) (g.adds s) adds_shape
unfolding g.adds
adds_law {n} {r} {s} R = pair_law (add_law R) (each_law signs.Comma (add_law R) (sign_ends signs.Comma 3 (omega arith))) (λ x k h. comma_meets k h)

abbrev all_of : {A : Type 0} → Option (A × List A) → List A
all_of None = []
all_of (Some c) = c.0 ∷ c.1

all_made : {A : Type 0} (xs : List A) → Made all_of xs
all_made [] = record { of = None; is = refl }
all_made (x ∷ xs) = record { of = Some (x, xs); is = refl }

listed_is : (r : Rules) (i : Input) → g.listed r i ≡ mapped all_of (maybe starts_add (g.adds r)) i
unfolding g.listed
listed_is r i = simp steps

listed_spelt : (o : Option (AddTree × List AddTree)) → mk.several signs.Comma (map marks_add (all_of o)) ≡ maybe_marks adds_shape o
listed_spelt None = refl
listed_spelt (Some c) = refl

pub listed_law : {n : ℕ} {r s : Rules} → RulesLaw n r s → Law n (g.listed r) (g.listed s) listed_shape
listed_law {n} {r} {s} R = plain_law (maybe_law starts_add (adds_law R) (λ F k h. h)) all_of (record {
  made = all_made;
  marks = listed_spelt;
  view = λ x. tt;
  tag = λ c. refl;
  closes = λ k h. h;
  begins = λ F k h. h;
}) (g.listed r) (g.listed s) (listed_is r) (listed_is s)

-- ---- associations

abbrev keyed_to : AddTree × (Unit {0} × AddTree) → KeyedTree
keyed_to c = roll-KeyedTree (record { key = c.0; value = c.1.1 })

keyed_part_is : (r : Rules) (i : Input) → g.keyed_part r i ≡ mapped keyed_to (pair (g.add r) (pair (sign signs.Colon) (g.add r))) i
unfolding g.keyed_part
keyed_part_is r i = simp steps

keyed_part_law : {n : ℕ} {r s : Rules} → RulesLaw n r s → Law n (g.keyed_part r) (g.keyed_part s) keyed_part_shape
keyed_part_law {n} {r} {s} R = plain_law (pair_law (add_law R) (pair_law (sign_law signs.Colon) (add_law R) (λ x k h. tt)) (λ x k h. sign_ends signs.Colon 3 (omega arith) k h)) keyed_to (record {
  made = λ t. record { of = ((out-KeyedTree t).key, (tt, (out-KeyedTree t).value)); is = roll-out-KeyedTree t };
  marks = λ c. marks_keyed-of c.0 c.1.1;
  view = λ x. tt;
  tag = λ c. refl;
  closes = λ k h. h;
  begins = λ F k h. h;
}) (g.keyed_part r) (g.keyed_part s) (keyed_part_is r) (keyed_part_is s)

abbrev keyed_parts_shape : Shape (KeyedTree × List KeyedTree)
keyed_parts_shape = pair_shape keyed_part_shape (each_shape signs.Comma keyed_part_shape)

keyed_is : (r : Rules) (i : Input) → g.keyed r i ≡ mapped all_of (maybe starts_add (pair (g.keyed_part r) (after_each signs.Comma (g.keyed_part r)))) i
unfolding g.keyed g.keyed_parts
keyed_is r i = simp steps

keyed_spelt : (o : Option (KeyedTree × List KeyedTree)) → mk.several signs.Comma (map marks_keyed (all_of o)) ≡ maybe_marks keyed_parts_shape o
keyed_spelt None = refl
keyed_spelt (Some c) = refl

pub keyed_law : {n : ℕ} {r s : Rules} → RulesLaw n r s → Law n (g.keyed r) (g.keyed s) keyed_shape
keyed_law {n} {r} {s} R = plain_law
    (maybe_law starts_add (pair_law (keyed_part_law R) (each_law signs.Comma (keyed_part_law R) (sign_ends signs.Comma 3 (omega arith))) (λ x k h. comma_meets k h)) (λ F k h. h)) all_of (record {
      made = all_made;
      marks = keyed_spelt;
      view = λ x. tt;
      tag = λ c. refl;
      closes = λ k h. h;
      begins = λ F k h. h;
    }) (g.keyed r) (g.keyed s) (keyed_is r) (keyed_is s)

-- ---- what stands in the braces of a set

abbrev BraceTail : Type 0
BraceTail = (Unit {0} × ParamsTree) ⊎ List AddTree

abbrev BracedParts : Type 0
BracedParts = Option (AddTree × BraceTail)

abbrev braced_to : BracedParts → Braced
braced_to None = braces.Listed []
braced_to (Some c) = by_tail c.0 c.1 where
  by_tail : AddTree → BraceTail → Braced
  by_tail t (inl d) = braces.Described t d.1
  by_tail t (inr ts) = braces.Listed (t ∷ ts)

abbrev tail_read : Rules → Parser BraceTail
tail_read r = either (is_sign signs.Bar) (pair (sign signs.Bar) (g.params r)) (after_each signs.Comma (g.add r))

abbrev tail_shape : Shape BraceTail
tail_shape = otherwise_shape (is_sign signs.Bar) (pair_shape (sign_shape signs.Bar) params_shape) (each_shape signs.Comma add_shape)

abbrev braced_parts : Shape BracedParts
braced_parts = maybe_shape starts_add (pair_shape add_shape tail_shape)

braced_is : (r : Rules) (i : Input) → g.braced r i ≡ mapped braced_to (maybe starts_add (pair (g.add r) (tail_read r))) i
unfolding g.braced g.braced_parts g.described g.listed_behind
braced_is r i = simp steps

tail_meets : (x : tail_shape.Tag) (k : Option Kind) → (is_sign signs.Bar k ≡ true) ⊎ ((is_sign signs.Comma k ≡ true) ⊎ tail_shape.ends x k) → Ends 3 k
tail_meets x k (inl h) = sign_ends signs.Bar 3 (omega arith) k h
tail_meets x k (inr (inl h)) = sign_ends signs.Comma 3 (omega arith) k h
tail_meets (inl x) k (inr (inr h)) = let e = h.0 in omega arith
tail_meets (inr x) k (inr (inr h)) = h.0.0

comma_leaves : (F : Option Kind → Type 0) (k : Option Kind) → (is_sign signs.Comma k ≡ true) ⊎ F k → (is_sign signs.Bar k ≡ false) ⊎ F k
comma_leaves F k (inl h) = inl (from_sign signs.Comma (λ l. sees_sign signs.Bar l ≡ false) k h refl)
comma_leaves F k (inr h) = inr h

braced_made : (t : Braced) → Made braced_to t
braced_made (braces.Listed []) = record { of = None; is = refl }
braced_made (braces.Listed (x ∷ xs)) = record { of = Some (x, inr xs); is = refl }
braced_made (braces.Described t u) = record { of = Some (t, inl (tt, u)); is = refl }

braced_spelt : (c : BracedParts) → marks_braced (braced_to c) ≡ braced_parts.marks c
braced_spelt None = refl
braced_spelt (Some c) = by_tail c.0 c.1 where
  by_tail : (t : AddTree) (d : BraceTail) → marks_braced (braced_to (Some (t, d))) ≡ braced_parts.marks (Some (t, d))
  by_tail t (inl d) = refl
  by_tail t (inr ts) = refl

pub braced_law : {n : ℕ} {r s : Rules} → RulesLaw n r s → Law n (g.braced r) (g.braced s) braced_shape
braced_law {n} {r} {s} R = plain_law
    (maybe_law starts_add (pair_law (add_law R) (otherwise_law (is_sign signs.Bar) (pair_law (sign_law signs.Bar) (params_law R) (λ x k h. tt)) (each_law signs.Comma (add_law R) (sign_ends signs.Comma 3 (omega arith))) (λ F k h. h) comma_leaves) tail_meets) (λ F k h. h)) braced_to (record {
      made = braced_made;
      marks = braced_spelt;
      view = λ x. tt;
      tag = λ c. refl;
      closes = λ k h. let e = h.0.0.0 in ((h.0.0, ((omega arith, h.0.1), h.1.1)), h.1.0);
      begins = λ F k h. h;
    }) (g.braced r) (g.braced s) (braced_is r) (braced_is s)

-- ---- two ends

pub ends_rule : {n : ℕ} {r s : Rules} → RulesLaw n r s → Law n (g.ends r) (g.ends s) ends_shape
unfolding g.ends
ends_rule {n} {r} {s} R = ends_law R
