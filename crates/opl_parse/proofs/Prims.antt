-- What an expression begins with.
use Rattle.std.proofs.Common.{◌≡◌, ℕ, ℤ, Bool, true, false, cond, ◌⊎◌, inl, inr, List, [], ◌∷◌, ◌++◌, refl, sym, ap, ◌∙◌, subst, arith}
use Rattle.std.specs.Prelude.{is_some}
use Rattle.opl_token.specs.declared.sign.Sign.TheVariants as signs
use Rattle.opl_tree.specs.declared.expression.NameTree.{NameTree}
use Rattle.opl_tree.specs.declared.expression.ExprTree.{ExprTree}
use Rattle.opl_tree.specs.declared.expression.AddTree.{AddTree}
use Rattle.opl_tree.specs.declared.expression.PostTree.{PostTree}
use Rattle.opl_tree.specs.declared.expression.PrimTree.{PrimTree}
use Rattle.opl_tree.specs.declared.expression.KeyedTree.{KeyedTree}
use Rattle.opl_tree.specs.declared.expression.CallOp.{CallOp}
use Rattle.opl_tree.specs.declared.expression.QuestionOp.{QuestionOp}
use Rattle.opl_tree.specs.declared.expression.PrimTree.TheVariants as prims
use Rattle.opl_tree.specs.declared.keyword.Keyword.TheVariants as words
use Rattle.opl_tree.specs.declared.expression.CompareTree.TheViews.{out-PrimTree, roll-PrimTree, roll-out-PrimTree, out-roll-PrimTree}
use Rattle.opl_tree.specs.declared.expression.CompareTree.TheOpen.{PrimTree-F}
use Rattle.opl_grammar.specs.declared.parts.Braced.{Braced}
use Rattle.opl_grammar.specs.declared.parts.Braced.TheVariants as braces
use Rattle.opl_grammar.specs.declared.look.Look.TheVariants as looks
use Rattle.opl_tree.specs.Marks.{call_word, question_word, marks_add, marks_prim, marks_params}
use Rattle.opl_tree.specs.Marks as mk
use Rattle.opl_tree.proofs.Marks.{marks_name-is, marks_prim-Number, marks_prim-Named, marks_prim-Bracket, marks_prim-Record, marks_prim-Listed, marks_prim-Described, marks_prim-Array, marks_prim-KeyedArray, marks_prim-Call, marks_prim-AllDifferent, marks_prim-Question}
use Rattle.opl_grammar.specs.Input.{Input, Outcome, Parser, kind, one, sign, word, sees_sign, sees_word, sees_name, sees_number, is_sign, is_word, is_name, is_number, name_in, number_in, sign_seen, word_seen}
use Rattle.opl_grammar.specs.Tables.{through, call_of, call_in, question_in, separator_of, is_call, sign_starts, word_starts_add}
use Rattle.opl_grammar.specs.Just.{OnePrim, name_at_prim, name_of_prim}
use Rattle.opl_grammar.specs.Rules as g
use Rattle.opl_grammar.specs.Rules.{Rules}
use Rattle.opl_parse.proofs.Follow.{sign_ends}
use Rattle.opl_reader_laws.proofs.Forms.{placed, placed_shape, placed_law, either, by_side, either_shape, either_law, mapped, Made, plain_law}
use Rattle.opl_reader_laws.proofs.Opened.{opened, opened_shape, opened_law}
use Rattle.opl_parse.proofs.Ops.{call_part, call_first, call_reads, from_call, question_part, question_first, question_reads, from_question}
use Rattle.opl_reader_laws.proofs.Outcomes.{steps}
use Rattle.opl_reader_laws.proofs.Phrases.{Shape, Law, one_shape, one_law, pair, pair_shape, pair_law}
use Rattle.opl_parse.proofs.Shapes.{prim_sign, prim_word, name_shape, prim_shape, asked_shape, add_shape, expr_shape, adds_shape, listed_shape, keyed_shape, marks_braced, braced_shape, RulesLaw}
use Rattle.opl_reader_laws.proofs.Tokens.{from_sign, from_word, from_name, from_number, sign_table, sign_first, sign_reads, sign_shape, word_shape, sign_law, word_law, name_reads, number_reads}
use Rattle.opl_grammar.specs.Tables as tables
use Rattle.opl_grammar.specs.Just.{OnePrim}
use Rattle.opl_tree.specs.declared.expression.CallOp.TheVariants as call_ops
use Rattle.opl_tree.specs.declared.expression.QuestionOp.TheVariants as question_ops

-- ---- names

abbrev name_to : ℕ × List ℕ → NameTree
name_to c = record { at = c.0; text = c.1 }

name_is : (i : Input) → g.name i ≡ mapped name_to (placed (one name_in)) i
unfolding g.name
name_is i = simp steps

pub name_law : {n : ℕ} → Law n g.name g.name name_shape
name_law = plain_law (placed_law (one_law name_reads)) name_to (record {
  made = λ t. record { of = (t.at, t.text); is = refl };
  marks = λ c. marks_name-is (name_to c);
  view = λ x. tt;
  tag = λ c. refl;
  closes = λ k h. tt;
  begins = λ F k h. h;
}) g.name g.name name_is name_is

-- ---- (POST)

asked_is : (r : Rules) (i : Input) → g.asked r i ≡ mapped (λ (c : (Unit {0} × PostTree) × Unit {0}). c.0.1) (pair (opened (sign_table signs.OpenParenthesis) r.post) (sign signs.CloseParenthesis)) i
unfolding g.asked
asked_is r i = simp steps

pub asked_law : {n : ℕ} {r s : Rules} → RulesLaw n r s → Law n (g.asked r) (g.asked s) asked_shape
asked_law {n} {r} {s} R = plain_law (pair_law (opened_law (sign_reads signs.OpenParenthesis) R.post) (sign_law signs.CloseParenthesis) (λ x k h. sign_ends signs.CloseParenthesis 1 (omega arith) k h)) (λ c. c.0.1) (record {
  made = λ t. record { of = ((tt, t), tt); is = refl };
  marks = λ c. refl;
  view = λ x. tt;
  tag = λ c. refl;
  closes = λ k h. tt;
  begins = λ F k h. h;
}) (g.asked r) (g.asked s) (asked_is r) (asked_is s)

-- ---- what an expression begins with

abbrev named_read : Rules → Parser (NameTree)
named_read r = g.name

abbrev named_parts : Shape (NameTree)
named_parts = name_shape

named_parts_law : {n : ℕ} {r s : Rules} → RulesLaw n r s → Law n (named_read r) (named_read s) named_parts
named_parts_law R = name_law

abbrev number_read : Rules → Parser (ℕ × ℤ)
number_read r = placed (one number_in)

abbrev number_parts : Shape (ℕ × ℤ)
number_parts = placed_shape (one_shape mk.number (λ k. is_number k ≡ true))

number_parts_law : {n : ℕ} {r s : Rules} → RulesLaw n r s → Law n (number_read r) (number_read s) number_parts
number_parts_law R = placed_law (one_law number_reads)

abbrev bracket_read : Rules → Parser (ℕ × ((Unit {0} × ExprTree) × Unit {0}))
bracket_read r = placed (pair (opened (sign_table signs.OpenParenthesis) r.expr) (sign signs.CloseParenthesis))

abbrev bracket_parts : Shape (ℕ × ((Unit {0} × ExprTree) × Unit {0}))
bracket_parts = placed_shape (pair_shape (opened_shape (λ u. mk.sign signs.OpenParenthesis) (sign_first signs.OpenParenthesis) expr_shape) (sign_shape signs.CloseParenthesis))

bracket_parts_law : {n : ℕ} {r s : Rules} → RulesLaw n r s → Law n (bracket_read r) (bracket_read s) bracket_parts
bracket_parts_law R = placed_law (pair_law (opened_law (sign_reads signs.OpenParenthesis) R.expr) (sign_law signs.CloseParenthesis) (λ x k h. sign_ends signs.CloseParenthesis 9 (omega arith) k h))

abbrev record_read : Rules → Parser (ℕ × ((Unit {0} × (AddTree × List AddTree)) × Unit {0}))
record_read r = placed (pair (opened (sign_table signs.Less) r.adds) (sign signs.Greater))

abbrev record_parts : Shape (ℕ × ((Unit {0} × (AddTree × List AddTree)) × Unit {0}))
record_parts = placed_shape (pair_shape (opened_shape (λ u. mk.sign signs.Less) (sign_first signs.Less) adds_shape) (sign_shape signs.Greater))

record_parts_law : {n : ℕ} {r s : Rules} → RulesLaw n r s → Law n (record_read r) (record_read s) record_parts
record_parts_law R = placed_law (pair_law (opened_law (sign_reads signs.Less) R.adds) (sign_law signs.Greater) (λ x k h. (sign_ends signs.Greater 3 (omega arith) k h, from_sign signs.Greater (λ l. sees_sign signs.Comma l ≡ false) k h refl)))

abbrev braces_read : Rules → Parser (ℕ × ((Unit {0} × Braced) × Unit {0}))
braces_read r = placed (pair (opened (sign_table signs.OpenBrace) r.braced) (sign signs.CloseBrace))

abbrev braces_parts : Shape (ℕ × ((Unit {0} × Braced) × Unit {0}))
braces_parts = placed_shape (pair_shape (opened_shape (λ u. mk.sign signs.OpenBrace) (sign_first signs.OpenBrace) braced_shape) (sign_shape signs.CloseBrace))

braces_parts_law : {n : ℕ} {r s : Rules} → RulesLaw n r s → Law n (braces_read r) (braces_read s) braces_parts
braces_parts_law R = placed_law (pair_law (opened_law (sign_reads signs.OpenBrace) R.braced) (sign_law signs.CloseBrace) (λ x k h. (((sign_ends signs.CloseBrace 9 (omega arith) k h, (from_sign signs.CloseBrace (λ l. is_some (through separator_of (sign_seen l)) ≡ false) k h refl, from_sign signs.CloseBrace (λ l. sees_sign signs.Colon l ≡ false) k h refl)), from_sign signs.CloseBrace (λ l. sees_sign signs.Comma l ≡ false) k h refl), (from_sign signs.CloseBrace (λ l. tables.begins sign_starts word_starts_add l ≡ false) k h refl, from_sign signs.CloseBrace (λ l. sees_sign signs.Bar l ≡ false) k h refl))))

abbrev array_read : Rules → Parser (ℕ × ((Unit {0} × List AddTree) × Unit {0}))
array_read r = placed (pair (opened (sign_table signs.OpenBracket) r.listed) (sign signs.CloseBracket))

abbrev array_parts : Shape (ℕ × ((Unit {0} × List AddTree) × Unit {0}))
array_parts = placed_shape (pair_shape (opened_shape (λ u. mk.sign signs.OpenBracket) (sign_first signs.OpenBracket) listed_shape) (sign_shape signs.CloseBracket))

array_parts_law : {n : ℕ} {r s : Rules} → RulesLaw n r s → Law n (array_read r) (array_read s) array_parts
array_parts_law R = placed_law (pair_law (opened_law (sign_reads signs.OpenBracket) R.listed) (sign_law signs.CloseBracket) (λ x k h. ((sign_ends signs.CloseBracket 3 (omega arith) k h, from_sign signs.CloseBracket (λ l. sees_sign signs.Comma l ≡ false) k h refl), from_sign signs.CloseBracket (λ l. tables.begins sign_starts word_starts_add l ≡ false) k h refl)))

abbrev keyed_read : Rules → Parser (ℕ × ((Unit {0} × List KeyedTree) × Unit {0}))
keyed_read r = placed (pair (opened (sign_table signs.OpenAssociation) r.keyed) (sign signs.CloseAssociation))

abbrev keyed_parts : Shape (ℕ × ((Unit {0} × List KeyedTree) × Unit {0}))
keyed_parts = placed_shape (pair_shape (opened_shape (λ u. mk.sign signs.OpenAssociation) (sign_first signs.OpenAssociation) keyed_shape) (sign_shape signs.CloseAssociation))

keyed_parts_law : {n : ℕ} {r s : Rules} → RulesLaw n r s → Law n (keyed_read r) (keyed_read s) keyed_parts
keyed_parts_law R = placed_law (pair_law (opened_law (sign_reads signs.OpenAssociation) R.keyed) (sign_law signs.CloseAssociation) (λ x k h. ((sign_ends signs.CloseAssociation 3 (omega arith) k h, from_sign signs.CloseAssociation (λ l. sees_sign signs.Comma l ≡ false) k h refl), from_sign signs.CloseAssociation (λ l. tables.begins sign_starts word_starts_add l ≡ false) k h refl)))

abbrev different_read : Rules → Parser (ℕ × (Unit {0} × ((Unit {0} × AddTree) × Unit {0})))
different_read r = placed (pair (word words.AllDifferent) (pair (opened (sign_table signs.OpenParenthesis) r.add) (sign signs.CloseParenthesis)))

abbrev different_parts : Shape (ℕ × (Unit {0} × ((Unit {0} × AddTree) × Unit {0})))
different_parts = placed_shape (pair_shape (word_shape words.AllDifferent) (pair_shape (opened_shape (λ u. mk.sign signs.OpenParenthesis) (sign_first signs.OpenParenthesis) add_shape) (sign_shape signs.CloseParenthesis)))

different_parts_law : {n : ℕ} {r s : Rules} → RulesLaw n r s → Law n (different_read r) (different_read s) different_parts
different_parts_law R = placed_law (pair_law (word_law words.AllDifferent) (pair_law (opened_law (sign_reads signs.OpenParenthesis) R.add) (sign_law signs.CloseParenthesis) (λ x k h. sign_ends signs.CloseParenthesis 3 (omega arith) k h)) (λ x k h. tt))

abbrev call_read : Rules → Parser (ℕ × (CallOp × ((Unit {0} × ExprTree) × Unit {0})))
call_read r = placed (pair (one call_in) (pair (opened (sign_table signs.OpenParenthesis) r.expr) (sign signs.CloseParenthesis)))

abbrev call_parts : Shape (ℕ × (CallOp × ((Unit {0} × ExprTree) × Unit {0})))
call_parts = placed_shape (pair_shape (one_shape call_part call_first) (pair_shape (opened_shape (λ u. mk.sign signs.OpenParenthesis) (sign_first signs.OpenParenthesis) expr_shape) (sign_shape signs.CloseParenthesis)))

call_parts_law : {n : ℕ} {r s : Rules} → RulesLaw n r s → Law n (call_read r) (call_read s) call_parts
call_parts_law R = placed_law (pair_law (one_law call_reads) (pair_law (opened_law (sign_reads signs.OpenParenthesis) R.expr) (sign_law signs.CloseParenthesis) (λ x k h. sign_ends signs.CloseParenthesis 9 (omega arith) k h)) (λ x k h. tt))

abbrev question_read : Rules → Parser (ℕ × (QuestionOp × PostTree))
question_read r = placed (pair (one question_in) (g.asked r))

abbrev question_parts : Shape (ℕ × (QuestionOp × PostTree))
question_parts = placed_shape (pair_shape (one_shape question_part question_first) asked_shape)

question_parts_law : {n : ℕ} {r s : Rules} → RulesLaw n r s → Law n (question_read r) (question_read s) question_parts
question_parts_law R = placed_law (pair_law (one_law question_reads) (asked_law R) (λ x k h. tt))

call_not_different : (a : CallOp) → sees_word words.AllDifferent (looks.Word (call_word a)) ≡ false
call_not_different call_ops.Absolute = refl
call_not_different call_ops.Cardinality = refl

question_not_different : (a : QuestionOp) → sees_word words.AllDifferent (looks.Word (question_word a)) ≡ false
question_not_different question_ops.Size = refl
question_not_different question_ops.Least = refl
question_not_different question_ops.Greatest = refl
question_not_different question_ops.Bound = refl

question_not_call : (a : QuestionOp) → is_some (call_of (question_word a)) ≡ false
question_not_call question_ops.Size = refl
question_not_call question_ops.Least = refl
question_not_call question_ops.Greatest = refl
question_not_call question_ops.Bound = refl

call_starts : (a : CallOp) → prim_word (call_word a) ≡ true
call_starts call_ops.Absolute = refl
call_starts call_ops.Cardinality = refl

question_starts : (a : QuestionOp) → prim_word (question_word a) ≡ true
question_starts question_ops.Size = refl
question_starts question_ops.Least = refl
question_starts question_ops.Greatest = refl
question_starts question_ops.Bound = refl

abbrev PrimParts : Type 0
PrimParts = (NameTree) ⊎ ((ℕ × ℤ) ⊎ ((ℕ × ((Unit {0} × ExprTree) × Unit {0})) ⊎ ((ℕ × ((Unit {0} × (AddTree × List AddTree)) × Unit {0})) ⊎ ((ℕ × ((Unit {0} × Braced) × Unit {0})) ⊎ ((ℕ × ((Unit {0} × List AddTree) × Unit {0})) ⊎ ((ℕ × ((Unit {0} × List KeyedTree) × Unit {0})) ⊎ ((ℕ × (Unit {0} × ((Unit {0} × AddTree) × Unit {0}))) ⊎ ((ℕ × (CallOp × ((Unit {0} × ExprTree) × Unit {0}))) ⊎ (ℕ × (QuestionOp × PostTree))))))))))

abbrev prim_read : Rules → Parser PrimParts
prim_read r = (either is_name (named_read r) (either is_number (number_read r) (either (is_sign signs.OpenParenthesis) (bracket_read r) (either (is_sign signs.Less) (record_read r) (either (is_sign signs.OpenBrace) (braces_read r) (either (is_sign signs.OpenBracket) (array_read r) (either (is_sign signs.OpenAssociation) (keyed_read r) (either (is_word words.AllDifferent) (different_read r) (either is_call (call_read r) (question_read r))))))))))

abbrev prim_parts : Shape PrimParts
prim_parts = (either_shape named_parts (either_shape number_parts (either_shape bracket_parts (either_shape record_parts (either_shape braces_parts (either_shape array_parts (either_shape keyed_parts (either_shape different_parts (either_shape call_parts question_parts)))))))))

prim_parts_law : {n : ℕ} {r s : Rules} → RulesLaw n r s → Law n (prim_read r) (prim_read s) prim_parts
prim_parts_law R = (either_law is_name (named_parts_law R) (either_law is_number (number_parts_law R) (either_law (is_sign signs.OpenParenthesis) (bracket_parts_law R) (either_law (is_sign signs.Less) (record_parts_law R) (either_law (is_sign signs.OpenBrace) (braces_parts_law R) (either_law (is_sign signs.OpenBracket) (array_parts_law R) (either_law (is_sign signs.OpenAssociation) (keyed_parts_law R) (either_law (is_word words.AllDifferent) (different_parts_law R) (either_law is_call (call_parts_law R) (question_parts_law R)
    (λ F k h. h) (λ F k h. from_question (λ l. is_some (through call_of (word_seen l)) ≡ false) k h (λ a. question_not_call a)))
    (λ F k h. h) (λ F k h. (by_side (λ a. from_call (λ l. sees_word words.AllDifferent l ≡ false) k a (λ a. call_not_different a)) (λ a. from_question (λ l. sees_word words.AllDifferent l ≡ false) k a (λ a. question_not_different a))) h))
    (λ F k h. h) (λ F k h. (by_side (λ a. from_word words.AllDifferent (λ l. sees_sign signs.OpenAssociation l ≡ false) k a refl) (by_side (λ a. from_call (λ l. sees_sign signs.OpenAssociation l ≡ false) k a (λ a. refl)) (λ a. from_question (λ l. sees_sign signs.OpenAssociation l ≡ false) k a (λ a. refl)))) h))
    (λ F k h. h) (λ F k h. (by_side (λ a. from_sign signs.OpenAssociation (λ l. sees_sign signs.OpenBracket l ≡ false) k a refl) (by_side (λ a. from_word words.AllDifferent (λ l. sees_sign signs.OpenBracket l ≡ false) k a refl) (by_side (λ a. from_call (λ l. sees_sign signs.OpenBracket l ≡ false) k a (λ a. refl)) (λ a. from_question (λ l. sees_sign signs.OpenBracket l ≡ false) k a (λ a. refl))))) h))
    (λ F k h. h) (λ F k h. (by_side (λ a. from_sign signs.OpenBracket (λ l. sees_sign signs.OpenBrace l ≡ false) k a refl) (by_side (λ a. from_sign signs.OpenAssociation (λ l. sees_sign signs.OpenBrace l ≡ false) k a refl) (by_side (λ a. from_word words.AllDifferent (λ l. sees_sign signs.OpenBrace l ≡ false) k a refl) (by_side (λ a. from_call (λ l. sees_sign signs.OpenBrace l ≡ false) k a (λ a. refl)) (λ a. from_question (λ l. sees_sign signs.OpenBrace l ≡ false) k a (λ a. refl)))))) h))
    (λ F k h. h) (λ F k h. (by_side (λ a. from_sign signs.OpenBrace (λ l. sees_sign signs.Less l ≡ false) k a refl) (by_side (λ a. from_sign signs.OpenBracket (λ l. sees_sign signs.Less l ≡ false) k a refl) (by_side (λ a. from_sign signs.OpenAssociation (λ l. sees_sign signs.Less l ≡ false) k a refl) (by_side (λ a. from_word words.AllDifferent (λ l. sees_sign signs.Less l ≡ false) k a refl) (by_side (λ a. from_call (λ l. sees_sign signs.Less l ≡ false) k a (λ a. refl)) (λ a. from_question (λ l. sees_sign signs.Less l ≡ false) k a (λ a. refl))))))) h))
    (λ F k h. h) (λ F k h. (by_side (λ a. from_sign signs.Less (λ l. sees_sign signs.OpenParenthesis l ≡ false) k a refl) (by_side (λ a. from_sign signs.OpenBrace (λ l. sees_sign signs.OpenParenthesis l ≡ false) k a refl) (by_side (λ a. from_sign signs.OpenBracket (λ l. sees_sign signs.OpenParenthesis l ≡ false) k a refl) (by_side (λ a. from_sign signs.OpenAssociation (λ l. sees_sign signs.OpenParenthesis l ≡ false) k a refl) (by_side (λ a. from_word words.AllDifferent (λ l. sees_sign signs.OpenParenthesis l ≡ false) k a refl) (by_side (λ a. from_call (λ l. sees_sign signs.OpenParenthesis l ≡ false) k a (λ a. refl)) (λ a. from_question (λ l. sees_sign signs.OpenParenthesis l ≡ false) k a (λ a. refl)))))))) h))
    (λ F k h. h) (λ F k h. (by_side (λ a. from_sign signs.OpenParenthesis (λ l. sees_number l ≡ false) k a refl) (by_side (λ a. from_sign signs.Less (λ l. sees_number l ≡ false) k a refl) (by_side (λ a. from_sign signs.OpenBrace (λ l. sees_number l ≡ false) k a refl) (by_side (λ a. from_sign signs.OpenBracket (λ l. sees_number l ≡ false) k a refl) (by_side (λ a. from_sign signs.OpenAssociation (λ l. sees_number l ≡ false) k a refl) (by_side (λ a. from_word words.AllDifferent (λ l. sees_number l ≡ false) k a refl) (by_side (λ a. from_call (λ l. sees_number l ≡ false) k a (λ a. refl)) (λ a. from_question (λ l. sees_number l ≡ false) k a (λ a. refl))))))))) h))
    (λ F k h. h) (λ F k h. (by_side (λ a. from_number (λ l. sees_name l ≡ false) k a refl) (by_side (λ a. from_sign signs.OpenParenthesis (λ l. sees_name l ≡ false) k a refl) (by_side (λ a. from_sign signs.Less (λ l. sees_name l ≡ false) k a refl) (by_side (λ a. from_sign signs.OpenBrace (λ l. sees_name l ≡ false) k a refl) (by_side (λ a. from_sign signs.OpenBracket (λ l. sees_name l ≡ false) k a refl) (by_side (λ a. from_sign signs.OpenAssociation (λ l. sees_name l ≡ false) k a refl) (by_side (λ a. from_word words.AllDifferent (λ l. sees_name l ≡ false) k a refl) (by_side (λ a. from_call (λ l. sees_name l ≡ false) k a (λ a. refl)) (λ a. from_question (λ l. sees_name l ≡ false) k a (λ a. refl)))))))))) h))

abbrev prim_to : PrimParts → PrimTree
prim_to (inl t) = prims.Named t
prim_to (inr (inl c)) = prims.Number c.0 c.1
prim_to (inr (inr (inl c))) = prims.Bracket c.0 c.1.0.1
prim_to (inr (inr (inr (inl c)))) = prims.Record c.0 c.1.0.1.0 c.1.0.1.1
prim_to (inr (inr (inr (inr (inl c))))) = g.set_prim_at c.0 c.1.0.1
prim_to (inr (inr (inr (inr (inr (inl c)))))) = prims.Array c.0 c.1.0.1
prim_to (inr (inr (inr (inr (inr (inr (inl c))))))) = prims.KeyedArray c.0 c.1.0.1
prim_to (inr (inr (inr (inr (inr (inr (inr (inl c)))))))) = prims.AllDifferent c.0 c.1.1.0.1
prim_to (inr (inr (inr (inr (inr (inr (inr (inr (inl c))))))))) = prims.Call c.0 c.1.0 c.1.1.0.1
prim_to (inr (inr (inr (inr (inr (inr (inr (inr (inr c))))))))) = prims.Question c.0 c.1.0 c.1.1

bracket_is : (r : Rules) (i : Input) → g.bracket r i ≡ mapped (λ c. prims.Bracket c.0 c.1.0.1) (bracket_read r) i
unfolding g.bracket
bracket_is r i = simp steps

record_is : (r : Rules) (i : Input) → g.record_prim r i ≡ mapped (λ c. prims.Record c.0 c.1.0.1.0 c.1.0.1.1) (record_read r) i
unfolding g.record_prim
record_is r i = simp steps

braces_is : (r : Rules) (i : Input) → g.braces_prim r i ≡ mapped (λ c. g.set_prim_at c.0 c.1.0.1) (braces_read r) i
unfolding g.braces_prim
braces_is r i = simp steps

array_is : (r : Rules) (i : Input) → g.array r i ≡ mapped (λ c. prims.Array c.0 c.1.0.1) (array_read r) i
unfolding g.array
array_is r i = simp steps

keyed_is : (r : Rules) (i : Input) → g.keyed_array r i ≡ mapped (λ c. prims.KeyedArray c.0 c.1.0.1) (keyed_read r) i
unfolding g.keyed_array
keyed_is r i = simp steps

different_is : (r : Rules) (i : Input) → g.all_different r i ≡ mapped (λ c. prims.AllDifferent c.0 c.1.1.0.1) (different_read r) i
unfolding g.all_different
different_is r i = simp steps

call_is : (r : Rules) (i : Input) → g.call r i ≡ mapped (λ c. prims.Call c.0 c.1.0 c.1.1.0.1) (call_read r) i
unfolding g.call
call_is r i = simp steps

question_is : (r : Rules) (i : Input) → g.question r i ≡ mapped (λ c. prims.Question c.0 c.1.0 c.1.1) (question_read r) i
unfolding g.question
question_is r i = simp steps

number_is : (r : Rules) (i : Input) → g.number r i ≡ mapped (λ c. prims.Number c.0 c.1) (number_read r) i
unfolding g.number
number_is r i = simp steps

word_prim_is : (r : Rules) (i : Input) → g.word_prim r i ≡ cond {A = Outcome PrimTree} (is_word words.AllDifferent (kind i)) (g.all_different r i) (cond {A = Outcome PrimTree} (is_call (kind i)) (g.call r i) (g.question r i))
unfolding g.word_prim
word_prim_is r i = refl

sign_prim_is : (r : Rules) (i : Input) → g.sign_prim r i ≡ cond {A = Outcome PrimTree} (is_sign signs.OpenParenthesis (kind i)) (g.bracket r i) (cond {A = Outcome PrimTree} (is_sign signs.Less (kind i)) (g.record_prim r i)
    (cond {A = Outcome PrimTree} (is_sign signs.OpenBrace (kind i)) (g.braces_prim r i) (cond {A = Outcome PrimTree} (is_sign signs.OpenBracket (kind i)) (g.array r i) (cond {A = Outcome PrimTree} (is_sign signs.OpenAssociation (kind i)) (g.keyed_array r i) (g.word_prim r i)))))
unfolding g.sign_prim
sign_prim_is r i = refl

prim_is : (r : Rules) (i : Input) → g.prim r i ≡ mapped prim_to (prim_read r) i
unfolding g.prim
prim_is r i = rw (sign_prim_is r i, word_prim_is r i, number_is r i, bracket_is r i, record_is r i, braces_is r i, array_is r i, keyed_is r i, different_is r i, call_is r i, question_is r i) (simp steps)

prim_layer_made : (x : OnePrim) → Made prim_to (roll-PrimTree x)
prim_layer_made (PrimTree-F.Named t) = record { of = inl t; is = sym (prims.rolls-Named t) }
prim_layer_made (PrimTree-F.Number at v) = record { of = inr (inl (at, v)); is = sym (prims.rolls-Number at v) }
prim_layer_made (PrimTree-F.Bracket at t) = record { of = inr (inr (inl (at, ((tt, t), tt)))); is = sym (prims.rolls-Bracket at t) }
prim_layer_made (PrimTree-F.Record at t ts) = record { of = inr (inr (inr (inl (at, ((tt, (t, ts)), tt))))); is = sym (prims.rolls-Record at t ts) }
prim_layer_made (PrimTree-F.Listed at ts) = record { of = inr (inr (inr (inr (inl (at, ((tt, braces.Listed ts), tt)))))); is = sym (prims.rolls-Listed at ts) }
prim_layer_made (PrimTree-F.Described at t u) = record { of = inr (inr (inr (inr (inl (at, ((tt, braces.Described t u), tt)))))); is = sym (prims.rolls-Described at t u) }
prim_layer_made (PrimTree-F.Array at ts) = record { of = inr (inr (inr (inr (inr (inl (at, ((tt, ts), tt))))))); is = sym (prims.rolls-Array at ts) }
prim_layer_made (PrimTree-F.KeyedArray at ts) = record { of = inr (inr (inr (inr (inr (inr (inl (at, ((tt, ts), tt)))))))); is = sym (prims.rolls-KeyedArray at ts) }
prim_layer_made (PrimTree-F.AllDifferent at t) = record { of = inr (inr (inr (inr (inr (inr (inr (inl (at, (tt, ((tt, t), tt)))))))))); is = sym (prims.rolls-AllDifferent at t) }
prim_layer_made (PrimTree-F.Call at op t) = record { of = inr (inr (inr (inr (inr (inr (inr (inr (inl (at, (op, ((tt, t), tt))))))))))); is = sym (prims.rolls-Call at op t) }
prim_layer_made (PrimTree-F.Question at op t) = record { of = inr (inr (inr (inr (inr (inr (inr (inr (inr ((at, (op, t))))))))))); is = sym (prims.rolls-Question at op t) }

prim_made : (t : PrimTree) → Made prim_to t
prim_made t = subst (Made prim_to) (roll-out-PrimTree t) (prim_layer_made (out-PrimTree t))

braces_marks : (at : ℕ) (b : Braced) → marks_prim (g.set_prim_at at b) ≡ mk.place at ∷ (mk.nested (mk.sign signs.OpenBrace) (marks_braced b) ++ mk.token (mk.sign signs.CloseBrace) ∷ [])
braces_marks at (braces.Listed ts) = marks_prim-Listed at ts
braces_marks at (braces.Described t u) = marks_prim-Described at t u

prim_spelt : (c : PrimParts) → marks_prim (prim_to c) ≡ prim_parts.marks c
prim_spelt (inl t) = marks_prim-Named t
prim_spelt (inr (inl c)) = marks_prim-Number c.0 c.1
prim_spelt (inr (inr (inl c))) = marks_prim-Bracket c.0 c.1.0.1
prim_spelt (inr (inr (inr (inl c)))) = marks_prim-Record c.0 c.1.0.1.0 c.1.0.1.1
prim_spelt (inr (inr (inr (inr (inl c))))) = braces_marks c.0 c.1.0.1
prim_spelt (inr (inr (inr (inr (inr (inl c)))))) = marks_prim-Array c.0 c.1.0.1
prim_spelt (inr (inr (inr (inr (inr (inr (inl c))))))) = marks_prim-KeyedArray c.0 c.1.0.1
prim_spelt (inr (inr (inr (inr (inr (inr (inr (inl c)))))))) = marks_prim-AllDifferent c.0 c.1.1.0.1
prim_spelt (inr (inr (inr (inr (inr (inr (inr (inr (inl c))))))))) = marks_prim-Call c.0 c.1.0 c.1.1.0.1
prim_spelt (inr (inr (inr (inr (inr (inr (inr (inr (inr c))))))))) = marks_prim-Question c.0 c.1.0 c.1.1

-- the name of a prim, by its layer
name_layer : (x : OnePrim) → name_of_prim (roll-PrimTree x) ≡ name_at_prim x
unfolding name_of_prim
name_layer x = rw out-roll-PrimTree refl

braces_name : (at : ℕ) (b : Braced) → is_some (name_of_prim (g.set_prim_at at b)) ≡ false
braces_name at (braces.Listed ts) = ap (λ x. is_some (name_of_prim x)) (sym (prims.rolls-Listed at ts)) ∙ ap is_some (name_layer (PrimTree-F.Listed at ts))
braces_name at (braces.Described t u) = ap (λ x. is_some (name_of_prim x)) (sym (prims.rolls-Described at t u)) ∙ ap is_some (name_layer (PrimTree-F.Described at t u))

abbrev prim_view : prim_parts.Tag → Bool
prim_view (inl x) = true
prim_view (inr x) = false

prim_tag : (c : PrimParts) → is_some (name_of_prim (prim_to c)) ≡ prim_view (prim_parts.tag c)
prim_tag (inl t) = ap (λ x. is_some (name_of_prim x)) (sym (prims.rolls-Named t)) ∙ ap is_some (name_layer (PrimTree-F.Named t))
prim_tag (inr (inl c)) = ap (λ x. is_some (name_of_prim x)) (sym (prims.rolls-Number c.0 c.1)) ∙ ap is_some (name_layer (PrimTree-F.Number c.0 c.1))
prim_tag (inr (inr (inl c))) = ap (λ x. is_some (name_of_prim x)) (sym (prims.rolls-Bracket c.0 c.1.0.1)) ∙ ap is_some (name_layer (PrimTree-F.Bracket c.0 c.1.0.1))
prim_tag (inr (inr (inr (inl c)))) = ap (λ x. is_some (name_of_prim x)) (sym (prims.rolls-Record c.0 c.1.0.1.0 c.1.0.1.1)) ∙ ap is_some (name_layer (PrimTree-F.Record c.0 c.1.0.1.0 c.1.0.1.1))
prim_tag (inr (inr (inr (inr (inl c))))) = braces_name c.0 c.1.0.1
prim_tag (inr (inr (inr (inr (inr (inl c)))))) = ap (λ x. is_some (name_of_prim x)) (sym (prims.rolls-Array c.0 c.1.0.1)) ∙ ap is_some (name_layer (PrimTree-F.Array c.0 c.1.0.1))
prim_tag (inr (inr (inr (inr (inr (inr (inl c))))))) = ap (λ x. is_some (name_of_prim x)) (sym (prims.rolls-KeyedArray c.0 c.1.0.1)) ∙ ap is_some (name_layer (PrimTree-F.KeyedArray c.0 c.1.0.1))
prim_tag (inr (inr (inr (inr (inr (inr (inr (inl c)))))))) = ap (λ x. is_some (name_of_prim x)) (sym (prims.rolls-AllDifferent c.0 c.1.1.0.1)) ∙ ap is_some (name_layer (PrimTree-F.AllDifferent c.0 c.1.1.0.1))
prim_tag (inr (inr (inr (inr (inr (inr (inr (inr (inl c))))))))) = ap (λ x. is_some (name_of_prim x)) (sym (prims.rolls-Call c.0 c.1.0 c.1.1.0.1)) ∙ ap is_some (name_layer (PrimTree-F.Call c.0 c.1.0 c.1.1.0.1))
prim_tag (inr (inr (inr (inr (inr (inr (inr (inr (inr c))))))))) = ap (λ x. is_some (name_of_prim x)) (sym (prims.rolls-Question c.0 c.1.0 c.1.1)) ∙ ap is_some (name_layer (PrimTree-F.Question c.0 c.1.0 c.1.1))

pub prim_law : {n : ℕ} {r s : Rules} → RulesLaw n r s → Law n (g.prim r) (g.prim s) prim_shape
prim_law {n} {r} {s} R = plain_law (prim_parts_law R) prim_to (record {
  made = prim_made;
  marks = prim_spelt;
  view = prim_view;
  tag = prim_tag;
  closes = λ k h. (tt, (tt, (tt, (tt, (tt, (tt, (tt, (tt, (tt, tt)))))))));
  begins = λ F k h. (by_side (λ a. from_name (λ l. tables.begins prim_sign prim_word l ≡ true) k a refl) (by_side (λ a. from_number (λ l. tables.begins prim_sign prim_word l ≡ true) k a refl) (by_side (λ a. from_sign signs.OpenParenthesis (λ l. tables.begins prim_sign prim_word l ≡ true) k a refl) (by_side (λ a. from_sign signs.Less (λ l. tables.begins prim_sign prim_word l ≡ true) k a refl) (by_side (λ a. from_sign signs.OpenBrace (λ l. tables.begins prim_sign prim_word l ≡ true) k a refl) (by_side (λ a. from_sign signs.OpenBracket (λ l. tables.begins prim_sign prim_word l ≡ true) k a refl) (by_side (λ a. from_sign signs.OpenAssociation (λ l. tables.begins prim_sign prim_word l ≡ true) k a refl) (by_side (λ a. from_word words.AllDifferent (λ l. tables.begins prim_sign prim_word l ≡ true) k a refl) (by_side (λ a. from_call (λ l. tables.begins prim_sign prim_word l ≡ true) k a (λ a. call_starts a)) (λ a. from_question (λ l. tables.begins prim_sign prim_word l ≡ true) k a (λ a. question_starts a))))))))))) h;
}) (g.prim r) (g.prim s) (prim_is r) (prim_is s)
