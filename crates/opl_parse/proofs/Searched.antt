-- The search section and its statements.
use Rattle.std.proofs.Common.{◌≡◌, ℕ, zero, suc, ◌<◌, ◌≤◌, true, false, cond, ◌⊎◌, inl, inr, List, [], ◌∷◌, ◌++◌, map, Option, Some, None, Ok, refl, sym, ap, ◌∙◌, subst, arith, append_assoc, pos}
use Rattle.std.specs.Prelude.{is_some}
use Rattle.std.specs.Option.{option_map}
use Rattle.opl_token.specs.declared.sign.Sign.TheVariants as signs
use Rattle.opl_token.specs.declared.token.Kind.{Kind}
use Rattle.opl_tree.specs.declared.expression.ExprTree.{ExprTree}
use Rattle.opl_tree.specs.declared.expression.PostTree.{PostTree}
use Rattle.opl_tree.specs.declared.keyword.Keyword.{Keyword}
use Rattle.opl_tree.specs.declared.search.SearchTree.{SearchTree}
use Rattle.opl_tree.specs.declared.search.SearchBlockTree.{SearchBlockTree}
use Rattle.opl_tree.specs.declared.search.StatementsTree.{StatementsTree}
use Rattle.opl_tree.specs.declared.search.StatementTree.{StatementTree}
use Rattle.opl_tree.specs.declared.search.BranchOp.{BranchOp}
use Rattle.opl_tree.specs.declared.search.LabelOp.{LabelOp}
use Rattle.opl_tree.specs.declared.search.OrderedParamsTree.{OrderedParamsTree}
use Rattle.opl_tree.specs.declared.search.StatementTree.TheVariants as statements_are
use Rattle.opl_tree.specs.declared.search.StatementsTree.TheVariants as statement_lists
use Rattle.opl_tree.specs.declared.keyword.Keyword.TheVariants as words
use Rattle.opl_tree.specs.declared.search.StatementTree.TheViews.{out-StatementTree, roll-StatementTree, roll-out-StatementTree, out-StatementsTree, roll-StatementsTree, roll-out-StatementsTree, out-SearchBlockTree, roll-SearchBlockTree, roll-out-SearchBlockTree}
use Rattle.opl_tree.specs.declared.search.StatementTree.TheOpen.{StatementTree-F, StatementsTree-F}
use Rattle.opl_grammar.specs.declared.look.Look.{Look}
use Rattle.opl_grammar.specs.declared.look.Look.TheVariants as looks
use Rattle.opl_tree.specs.Marks.{branch_word, label_word, marks_expr, marks_post, marks_ordered_params, marks_statement, marks_statements, marks_search_block, marks_search}
use Rattle.opl_tree.specs.Marks as mk
use Rattle.opl_tree.proofs.Marks.{marks_statement-Block, marks_statement-Try, marks_statement-Branch, marks_statement-Once, marks_statement-While, marks_statement-If, marks_statement-Label, marks_statement-Precedes, marks_statement-Constraint, marks_statements-Empty, marks_statements-Several, marks_search_block-of, marks_search-is}
use Rattle.opl_grammar.specs.Input.{Input, Outcome, Parser, kind, and_then, pure, one, sign, word, look, sees_sign, sees_word, is_sign, is_word, behind, after_each, word_seen}
use Rattle.opl_grammar.specs.Input.{place as place_at}
use Rattle.opl_grammar.specs.Tables.{through, branch_of, branch_in, label_of, label_in, is_branch, is_label, sign_starts, word_starts_expr, word_starts_statement, starts_statement}
use Rattle.opl_grammar.specs.Just.{post_of}
use Rattle.opl_grammar.specs.Rules as g
use Rattle.opl_grammar.specs.Search as gs
use Rattle.opl_grammar.specs.Rules.{Rules}
use Rattle.opl_grammar.specs.Search.{StatementRules}
use Rattle.opl_reader_laws.proofs.Behind.{Tail, tail_shape, behind_law}
use Rattle.opl_parse.proofs.Closing.{rules_law}
use Rattle.opl_parse.proofs.Examples.{pair_samples, one_post, zeros_take, one_expr_is, expr_sample, ordered_sample}
use Rattle.opl_parse.proofs.Follow.{word_binds, Ends, no_word, sign_ends, word_ends}
use Rattle.opl_reader_laws.proofs.Forms.{placed, placed_shape, placed_law, maybe, maybe_shape, maybe_law, either, by_side, either_shape, either_law, mapped, Made, plain, plain_law}
use Rattle.opl_reader_laws.proofs.Guarded.{guarded, guarded_shape, Bare, guarded_law}
use Rattle.opl_reader_laws.proofs.Led.{led_shape, led_law, each_law}
use Rattle.opl_reader_laws.proofs.Opened.{Entry, opened, opened_shape, opened_law}
use Rattle.opl_reader_laws.proofs.Looked.{by_view, look_at, looked, looked_shape, looked_law}
use Rattle.opl_parse.proofs.Narrow.{wide_expr, post_narrows}
use Rattle.opl_parse.proofs.Ops.{branch_part, branch_first, branch_reads, from_branch, label_part, label_first, label_reads, from_label}
use Rattle.opl_reader_laws.proofs.Options.{after_maybe, then_same}
use Rattle.opl_reader_laws.proofs.Outcomes.{and_then_assoc, steps}
use Rattle.opl_parse.proofs.Params.{params_close}
use Rattle.opl_reader_laws.proofs.Phrases.{Shape, Samples, Law, Any, one_shape, one_law, pair, pair_shape, pair_law}
use Rattle.opl_parse.proofs.Posts.{post_law}
use Rattle.opl_parse.proofs.Prims.{asked_law}
use Rattle.opl_parse.proofs.Shapes.{starts_expr, First, asked_shape, expr_shape, RulesLaw}
use Rattle.opl_reader_laws.proofs.Sided.{with_place, sided, sided_shape, sided_law}
use Rattle.opl_parse.proofs.Stated.{Later, later_read, later_shape, no_first, unguarded, guard_passes, later_same}
use Rattle.opl_reader_laws.proofs.Takes.{Takes, takes_join}
use Rattle.opl_reader_laws.proofs.Tokens.{from_sign, from_word, is_word_same, sign_table, word_table, sign_first, word_first, sign_reads, word_reads, sign_law, word_law}
use Rattle.opl_parse.proofs.Truths.{expr_law}
use Rattle.opl_grammar.specs.Tables as tables
use Rattle.opl_tree.specs.Marks.{Mark}
use Rattle.opl_reader_laws.proofs.Levels.{takes_raised}
use Rattle.opl_reader_laws.proofs.Takes.{before as before_part}
use Rattle.opl_tree.specs.declared.search.BranchOp.TheVariants as branch_ops
use Rattle.opl_tree.specs.declared.search.LabelOp.TheVariants as label_ops

-- ---- statements that begin with an expression

abbrev Posted : Type 0
Posted = ExprTree ⊎ (ℕ × (PostTree × Later))

abbrev posted_to : Posted → StatementTree
posted_to (inl t) = statements_are.Constraint t
posted_to (inr c) = statements_are.Precedes c.0 c.1.0 c.1.1.1

abbrev posted_read : Rules → Parser Posted
posted_read r = sided (looked (g.expr r) (is_word words.Precedes) post_of (later_read r))

abbrev posted_shape : Shape Posted
posted_shape = sided_shape (looked_shape (is_word words.Precedes) expr_shape marks_post later_shape (First starts_expr Any))

posted_by : (r : Rules) (u : StatementRules) (at : ℕ) (t : ExprTree) (o : Option PostTree) (j : Input) →
    cond {A = Outcome StatementTree} (is_word words.Precedes (kind j)) (gs.posted_precedes r u at o j) (Ok (statements_are.Constraint t, j))
    ≡ and_then (cond {A = Outcome (ExprTree ⊎ (PostTree × Later))} (is_word words.Precedes (kind j)) (by_view (later_read r) o j) (Ok (inl t, j))) (λ c. pure (posted_to (with_place at c)))
posted_by r u at t None j = simp steps
posted_by r u at t (Some p) j = simp steps

posted_of_is : (r : Rules) (u : StatementRules) (at : ℕ) (t : ExprTree) (j : Input) → gs.posted_of r u at t j ≡ and_then (look_at (is_word words.Precedes) post_of (later_read r) t j) (λ c. pure (posted_to (with_place at c)))
unfolding gs.posted_of
posted_of_is r u at t j = posted_by r u at t (post_of t) j

posted_is : (r : Rules) (u : StatementRules) (i : Input) → gs.posted r u i ≡ mapped posted_to (posted_read r) i
unfolding gs.posted
posted_is r u i = then_same (g.expr r i) (λ t. gs.posted_of r u (place_at i) t) (λ t j. and_then (look_at (is_word words.Precedes) post_of (later_read r) t j) (λ c. pure (posted_to (with_place (place_at i) c)))) (posted_of_is r u (place_at i)) ∙ simp and_then_assoc

bare_posted : (tail : Input) → posted_shape.closes (kind tail) → Bare posted_shape tail
bare_posted tail h = record {
  sample = record { whole = before_part (mk.number (pos 0)) tail; value = inl (wide_expr 0 one_post); takes = subst (λ ms. Takes ms (before_part (mk.number (pos 0)) tail) tail) (sym one_expr_is) (zeros_take 7 tail); starts = λ F k. refl };
  bare = refl;
}

posted_law : {n : ℕ} {r s : Rules} → RulesLaw n r s → Law n (guarded (posted_read r)) (guarded (posted_read s)) (guarded_shape posted_shape)
posted_law R = guarded_law (sided_law (looked_law (is_word words.Precedes) (expr_law R) (pair_law (word_law words.Precedes) (post_law R) (λ x k h. tt)) post_narrows (λ F k h. h) (λ y k h. word_ends words.Precedes 9 (omega arith) k h) (λ F k h. h))) no_first bare_posted

posted_closes : (k : Option Kind) → Ends 10 k → posted_shape.closes k
posted_closes k h = (omega arith, (omega arith, no_word words.Precedes 10 (λ e. omega (arith, e)) k h))

-- ---- the shapes of statements

abbrev pub statement_shape : Shape StatementTree
statement_shape = plain marks_statement (Ends 10) (First starts_statement)

abbrev pub EndsStatements : Option Kind → Type 0
EndsStatements k = Ends 10 k × ((starts_statement k ≡ false) × (is_sign signs.Semicolon k ≡ false))

abbrev pub statements_shape : Shape StatementsTree
statements_shape = plain marks_statements EndsStatements (λ F k. (starts_statement k ≡ true) ⊎ F k)

abbrev pub Alternatives : Type 0
Alternatives = StatementsTree × StatementsTree × List StatementsTree

abbrev pub alternatives_shape : Shape Alternatives
alternatives_shape = plain (λ c. marks_statements c.0 ++ mk.token (mk.sign signs.Bar) ∷ (marks_statements c.1 ++ (mk.behind signs.Bar (map marks_statements c.2) ++ mk.token (mk.word words.EndTry) ∷ []))) Any (λ F k. (starts_statement k ≡ true) ⊎ (is_sign signs.Bar k ≡ true))

abbrev pub ordered_chosen_shape : Shape OrderedParamsTree
ordered_chosen_shape = plain (λ t. mk.nested (mk.sign signs.OpenParenthesis) (marks_ordered_params t) ++ mk.token (mk.sign signs.CloseParenthesis) ∷ []) Any (First (is_sign signs.OpenParenthesis))

abbrev pub branch_shape : Shape (OrderedParamsTree × StatementTree)
branch_shape = pair_shape ordered_chosen_shape statement_shape

abbrev pub repeated_shape : Shape (ExprTree × StatementTree)
repeated_shape = plain (λ c. marks_expr c.0 ++ mk.token (mk.word words.Do) ∷ marks_statement c.1) (Ends 10) (First starts_expr)

abbrev pub Choice : Type 0
Choice = ExprTree × StatementsTree × Option StatementsTree

abbrev pub choice_shape : Shape Choice
choice_shape = plain (λ c. marks_expr c.0 ++ mk.token (mk.word words.Then) ∷ (marks_statements c.1 ++ (mk.after (mk.word words.Else) (option_map marks_statements c.2) ++ mk.token (mk.word words.EndIf) ∷ []))) Any (First starts_expr)

pub record StatementLaws (n : ℕ) (u v : StatementRules) : Type 1 where
  pub statements : Entry n u.statements v.statements statements_shape
  pub alternatives : Entry n u.alternatives v.alternatives alternatives_shape
  pub branch : Entry n u.branch v.branch branch_shape
  pub statement : Entry n u.statement v.statement statement_shape
  pub repeated : Entry n u.repeated v.repeated repeated_shape
  pub choice : Entry n u.choice v.choice choice_shape

-- ---- blocks

abbrev pub search_block_shape : Shape SearchBlockTree
search_block_shape = plain marks_search_block Any (First (is_sign signs.OpenBrace))

abbrev search_block_to : ℕ × ((Unit {0} × StatementsTree) × Unit {0}) → SearchBlockTree
search_block_to c = roll-SearchBlockTree (record { at = c.0; statements = c.1.0.1 })

search_block_is : (r : Rules) (u : StatementRules) (i : Input) → gs.search_block r u i ≡ mapped search_block_to (placed (pair (opened (sign_table signs.OpenBrace) u.statements) (sign signs.CloseBrace))) i
unfolding gs.search_block
search_block_is r u i = simp steps

brace_ends : (k : Option Kind) → is_sign signs.CloseBrace k ≡ true → EndsStatements k
brace_ends k h = (sign_ends signs.CloseBrace 10 (omega arith) k h, (from_sign signs.CloseBrace (λ l. tables.begins sign_starts word_starts_statement l ≡ false) k h refl, from_sign signs.CloseBrace (λ l. sees_sign signs.Semicolon l ≡ false) k h refl))

search_block_law : {n : ℕ} (r s : Rules) {u v : StatementRules} → StatementLaws n u v → Law n (gs.search_block r u) (gs.search_block s v) search_block_shape
search_block_law {n} r s {u} {v} L = plain_law (placed_law (pair_law (opened_law (sign_reads signs.OpenBrace) L.statements) (sign_law signs.CloseBrace) (λ x k h. brace_ends k h))) search_block_to (record {
  made = λ t. record { of = ((out-SearchBlockTree t).at, ((tt, (out-SearchBlockTree t).statements), tt)); is = roll-out-SearchBlockTree t };
  marks = λ c. marks_search_block-of c.0 c.1.0.1;
  view = λ x. tt;
  tag = λ c. refl;
  closes = λ k h. tt;
  begins = λ F k h. h;
}) (gs.search_block r u) (gs.search_block s v) (search_block_is r u) (search_block_is s v)

-- ---- first tokens of statements

branch_no_Try : (a : BranchOp) → sees_word words.Try (looks.Word (branch_word a)) ≡ false
branch_no_Try branch_ops.TryAll = refl
branch_no_Try branch_ops.ForAll = refl
branch_no_Try branch_ops.Select = refl

label_no_branch : (a : LabelOp) → is_some (branch_of (label_word a)) ≡ false
label_no_branch label_ops.Generate = refl
label_no_branch label_ops.Rank = refl

label_no_If : (a : LabelOp) → sees_word words.If (looks.Word (label_word a)) ≡ false
label_no_If label_ops.Generate = refl
label_no_If label_ops.Rank = refl

label_no_Once : (a : LabelOp) → sees_word words.Once (looks.Word (label_word a)) ≡ false
label_no_Once label_ops.Generate = refl
label_no_Once label_ops.Rank = refl

label_no_Try : (a : LabelOp) → sees_word words.Try (looks.Word (label_word a)) ≡ false
label_no_Try label_ops.Generate = refl
label_no_Try label_ops.Rank = refl

label_no_While : (a : LabelOp) → sees_word words.While (looks.Word (label_word a)) ≡ false
label_no_While label_ops.Generate = refl
label_no_While label_ops.Rank = refl

expr_word_no_branch : (w : Keyword) → word_starts_expr w ≡ true → is_some (branch_of w) ≡ false
expr_word_no_branch words.TryAll h = cc
expr_word_no_branch words.ForAll h = cc
expr_word_no_branch words.Select h = cc
expr_word_no_branch w h = refl

expr_without_branch : (l : Look) → tables.begins sign_starts word_starts_expr l ≡ true → is_some (through branch_of (word_seen l)) ≡ false
expr_without_branch (looks.Word w) h = expr_word_no_branch w h
expr_without_branch (looks.Sign s) h = refl
expr_without_branch looks.Name h = refl
expr_without_branch looks.Number h = refl
expr_without_branch looks.Nothing h = refl
expr_without_branch looks.Other h = refl

expr_word_no_label : (w : Keyword) → word_starts_expr w ≡ true → is_some (label_of w) ≡ false
expr_word_no_label words.Generate h = cc
expr_word_no_label words.Rank h = cc
expr_word_no_label w h = refl

expr_without_label : (l : Look) → tables.begins sign_starts word_starts_expr l ≡ true → is_some (through label_of (word_seen l)) ≡ false
expr_without_label (looks.Word w) h = expr_word_no_label w h
expr_without_label (looks.Sign s) h = refl
expr_without_label looks.Name h = refl
expr_without_label looks.Number h = refl
expr_without_label looks.Nothing h = refl
expr_without_label looks.Other h = refl

expr_word_no_If : (w : Keyword) → word_starts_expr w ≡ true → sees_word words.If (looks.Word w) ≡ false
expr_word_no_If words.If h = cc
expr_word_no_If w h = refl

expr_without_If : (l : Look) → tables.begins sign_starts word_starts_expr l ≡ true → sees_word words.If l ≡ false
expr_without_If (looks.Word w) h = expr_word_no_If w h
expr_without_If (looks.Sign s) h = refl
expr_without_If looks.Name h = refl
expr_without_If looks.Number h = refl
expr_without_If looks.Nothing h = refl
expr_without_If looks.Other h = refl

expr_word_no_Once : (w : Keyword) → word_starts_expr w ≡ true → sees_word words.Once (looks.Word w) ≡ false
expr_word_no_Once words.Once h = cc
expr_word_no_Once w h = refl

expr_without_Once : (l : Look) → tables.begins sign_starts word_starts_expr l ≡ true → sees_word words.Once l ≡ false
expr_without_Once (looks.Word w) h = expr_word_no_Once w h
expr_without_Once (looks.Sign s) h = refl
expr_without_Once looks.Name h = refl
expr_without_Once looks.Number h = refl
expr_without_Once looks.Nothing h = refl
expr_without_Once looks.Other h = refl

expr_word_no_Try : (w : Keyword) → word_starts_expr w ≡ true → sees_word words.Try (looks.Word w) ≡ false
expr_word_no_Try words.Try h = cc
expr_word_no_Try w h = refl

expr_without_Try : (l : Look) → tables.begins sign_starts word_starts_expr l ≡ true → sees_word words.Try l ≡ false
expr_without_Try (looks.Word w) h = expr_word_no_Try w h
expr_without_Try (looks.Sign s) h = refl
expr_without_Try looks.Name h = refl
expr_without_Try looks.Number h = refl
expr_without_Try looks.Nothing h = refl
expr_without_Try looks.Other h = refl

expr_word_no_While : (w : Keyword) → word_starts_expr w ≡ true → sees_word words.While (looks.Word w) ≡ false
expr_word_no_While words.While h = cc
expr_word_no_While w h = refl

expr_without_While : (l : Look) → tables.begins sign_starts word_starts_expr l ≡ true → sees_word words.While l ≡ false
expr_without_While (looks.Word w) h = expr_word_no_While w h
expr_without_While (looks.Sign s) h = refl
expr_without_While looks.Name h = refl
expr_without_While looks.Number h = refl
expr_without_While looks.Nothing h = refl
expr_without_While looks.Other h = refl

branch_starts : (a : BranchOp) → word_starts_statement (branch_word a) ≡ true
branch_starts branch_ops.TryAll = refl
branch_starts branch_ops.ForAll = refl
branch_starts branch_ops.Select = refl

label_starts : (a : LabelOp) → word_starts_statement (label_word a) ≡ true
label_starts label_ops.Generate = refl
label_starts label_ops.Rank = refl

expr_word_statement : (w : Keyword) → word_starts_expr w ≡ true → word_starts_statement w ≡ true
expr_word_statement words.Try h = refl
expr_word_statement words.TryAll h = refl
expr_word_statement words.ForAll h = refl
expr_word_statement words.Select h = refl
expr_word_statement words.Once h = refl
expr_word_statement words.While h = refl
expr_word_statement words.If h = refl
expr_word_statement words.Generate h = refl
expr_word_statement words.Rank h = refl
expr_word_statement w h = h

expr_seen_statement : (l : Look) → tables.begins sign_starts word_starts_expr l ≡ true → tables.begins sign_starts word_starts_statement l ≡ true
expr_seen_statement (looks.Word w) h = expr_word_statement w h
expr_seen_statement (looks.Sign s) h = h
expr_seen_statement looks.Name h = refl
expr_seen_statement looks.Number h = refl
expr_seen_statement looks.Nothing h = h
expr_seen_statement looks.Other h = h

-- ---- statements

abbrev StatementParts : Type 0
StatementParts = (SearchBlockTree) ⊎ ((ℕ × (Unit {0} × Alternatives)) ⊎ ((ℕ × (BranchOp × (OrderedParamsTree × StatementTree))) ⊎ ((ℕ × (Unit {0} × StatementTree)) ⊎ ((ℕ × (Unit {0} × (ExprTree × StatementTree))) ⊎ ((ℕ × (Unit {0} × Choice)) ⊎ ((ℕ × (LabelOp × PostTree)) ⊎ (Posted)))))))

abbrev statement_to : StatementParts → StatementTree
statement_to (inl t) = statements_are.Block t
statement_to (inr (inl c)) = statements_are.Try c.0 c.1.1.0 c.1.1.1 c.1.1.2
statement_to (inr (inr (inl c))) = statements_are.Branch c.0 c.1.0 c.1.1.0 c.1.1.1
statement_to (inr (inr (inr (inl c)))) = statements_are.Once c.0 c.1.1
statement_to (inr (inr (inr (inr (inl c))))) = statements_are.While c.0 c.1.1.0 c.1.1.1
statement_to (inr (inr (inr (inr (inr (inl c)))))) = statements_are.If c.0 c.1.1.0 c.1.1.1 c.1.1.2
statement_to (inr (inr (inr (inr (inr (inr (inl c))))))) = statements_are.Label c.0 c.1.0 c.1.1
statement_to (inr (inr (inr (inr (inr (inr (inr c))))))) = posted_to c

abbrev statement_over : Rules → StatementRules → Parser Posted → Parser StatementParts
statement_over r u p = (either (is_sign signs.OpenBrace) (gs.search_block r u) (either (is_word words.Try) (placed (opened (word_table words.Try) u.alternatives)) (either is_branch (placed (opened branch_in u.branch)) (either (is_word words.Once) (placed (opened (word_table words.Once) u.statement)) (either (is_word words.While) (placed (opened (word_table words.While) u.repeated)) (either (is_word words.If) (placed (opened (word_table words.If) u.choice)) (either is_label (placed (pair (one label_in) (g.asked r))) p)))))))

abbrev statement_parts : Shape StatementParts
statement_parts = (either_shape search_block_shape (either_shape (placed_shape (opened_shape (λ u. mk.word words.Try) (word_first words.Try) alternatives_shape)) (either_shape (placed_shape (opened_shape branch_part branch_first branch_shape)) (either_shape (placed_shape (opened_shape (λ u. mk.word words.Once) (word_first words.Once) statement_shape)) (either_shape (placed_shape (opened_shape (λ u. mk.word words.While) (word_first words.While) repeated_shape)) (either_shape (placed_shape (opened_shape (λ u. mk.word words.If) (word_first words.If) choice_shape)) (either_shape (placed_shape (pair_shape (one_shape label_part label_first) asked_shape)) (guarded_shape posted_shape))))))))

try_is : (r : Rules) (u : StatementRules) (i : Input) → gs.try_statement r u i ≡ mapped (λ (c : ℕ × (Unit {0} × Alternatives)). statements_are.Try c.0 c.1.1.0 c.1.1.1 c.1.1.2) (placed (opened (word_table words.Try) u.alternatives)) i
unfolding gs.try_statement
try_is r u i = simp steps

branched_is : (r : Rules) (u : StatementRules) (i : Input) → gs.branch_statement r u i ≡ mapped (λ (c : ℕ × (BranchOp × (OrderedParamsTree × StatementTree))). statements_are.Branch c.0 c.1.0 c.1.1.0 c.1.1.1) (placed (opened branch_in u.branch)) i
unfolding gs.branch_statement
branched_is r u i = simp steps

once_is : (r : Rules) (u : StatementRules) (i : Input) → gs.once_statement r u i ≡ mapped (λ (c : ℕ × (Unit {0} × StatementTree)). statements_are.Once c.0 c.1.1) (placed (opened (word_table words.Once) u.statement)) i
unfolding gs.once_statement
once_is r u i = simp steps

while_is : (r : Rules) (u : StatementRules) (i : Input) → gs.while_statement r u i ≡ mapped (λ (c : ℕ × (Unit {0} × (ExprTree × StatementTree))). statements_are.While c.0 c.1.1.0 c.1.1.1) (placed (opened (word_table words.While) u.repeated)) i
unfolding gs.while_statement
while_is r u i = simp steps

if_is : (r : Rules) (u : StatementRules) (i : Input) → gs.if_statement r u i ≡ mapped (λ (c : ℕ × (Unit {0} × Choice)). statements_are.If c.0 c.1.1.0 c.1.1.1 c.1.1.2) (placed (opened (word_table words.If) u.choice)) i
unfolding gs.if_statement
if_is r u i = simp steps

label_is : (r : Rules) (u : StatementRules) (i : Input) → gs.label r u i ≡ mapped (λ (c : ℕ × (LabelOp × PostTree)). statements_are.Label c.0 c.1.0 c.1.1) (placed (pair (one label_in) (g.asked r))) i
unfolding gs.label
label_is r u i = simp steps

word_statement_is : (r : Rules) (u : StatementRules) (i : Input) → gs.word_statement r u i ≡ cond {A = Outcome StatementTree} (is_word words.Once (kind i)) (gs.once_statement r u i) (cond {A = Outcome StatementTree} (is_word words.While (kind i)) (gs.while_statement r u i) (cond {A = Outcome StatementTree} (is_word words.If (kind i)) (gs.if_statement r u i) (cond {A = Outcome StatementTree} (is_label (kind i)) (gs.label r u i) (gs.posted r u i))))
unfolding gs.word_statement
word_statement_is r u i = refl

statement_over_is : (r : Rules) (u : StatementRules) (i : Input) → gs.statement r u i ≡ mapped statement_to (statement_over r u (posted_read r)) i
unfolding gs.statement
statement_over_is r u i = rw (word_statement_is r u i, try_is r u i, branched_is r u i, once_is r u i, while_is r u i, if_is r u i, label_is r u i, posted_is r u i) (simp steps)

statement_is : (r : Rules) (u : StatementRules) (i : Input) → gs.statement r u i ≡ mapped statement_to (statement_over r u (guarded (posted_read r))) i
statement_is r u i = statement_over_is r u i ∙ ap (λ (o : Outcome StatementParts). and_then o (λ c. pure (statement_to c)))
    (unguarded (gs.search_block r u) (either (is_word words.Try) (placed (opened (word_table words.Try) u.alternatives)) (either is_branch (placed (opened branch_in u.branch)) (either (is_word words.Once) (placed (opened (word_table words.Once) u.statement)) (either (is_word words.While) (placed (opened (word_table words.While) u.repeated)) (either (is_word words.If) (placed (opened (word_table words.If) u.choice)) (either is_label (placed (pair (one label_in) (g.asked r))) (posted_read r))))))) (either (is_word words.Try) (placed (opened (word_table words.Try) u.alternatives)) (either is_branch (placed (opened branch_in u.branch)) (either (is_word words.Once) (placed (opened (word_table words.Once) u.statement)) (either (is_word words.While) (placed (opened (word_table words.While) u.repeated)) (either (is_word words.If) (placed (opened (word_table words.If) u.choice)) (either is_label (placed (pair (one label_in) (g.asked r))) (guarded (posted_read r)))))))) i (λ h. (later_same (is_word words.Try) (placed (opened (word_table words.Try) u.alternatives)) (either is_branch (placed (opened branch_in u.branch)) (either (is_word words.Once) (placed (opened (word_table words.Once) u.statement)) (either (is_word words.While) (placed (opened (word_table words.While) u.repeated)) (either (is_word words.If) (placed (opened (word_table words.If) u.choice)) (either is_label (placed (pair (one label_in) (g.asked r))) (posted_read r)))))) (either is_branch (placed (opened branch_in u.branch)) (either (is_word words.Once) (placed (opened (word_table words.Once) u.statement)) (either (is_word words.While) (placed (opened (word_table words.While) u.repeated)) (either (is_word words.If) (placed (opened (word_table words.If) u.choice)) (either is_label (placed (pair (one label_in) (g.asked r))) (guarded (posted_read r))))))) i
    (later_same is_branch (placed (opened branch_in u.branch)) (either (is_word words.Once) (placed (opened (word_table words.Once) u.statement)) (either (is_word words.While) (placed (opened (word_table words.While) u.repeated)) (either (is_word words.If) (placed (opened (word_table words.If) u.choice)) (either is_label (placed (pair (one label_in) (g.asked r))) (posted_read r))))) (either (is_word words.Once) (placed (opened (word_table words.Once) u.statement)) (either (is_word words.While) (placed (opened (word_table words.While) u.repeated)) (either (is_word words.If) (placed (opened (word_table words.If) u.choice)) (either is_label (placed (pair (one label_in) (g.asked r))) (guarded (posted_read r)))))) i
    (later_same (is_word words.Once) (placed (opened (word_table words.Once) u.statement)) (either (is_word words.While) (placed (opened (word_table words.While) u.repeated)) (either (is_word words.If) (placed (opened (word_table words.If) u.choice)) (either is_label (placed (pair (one label_in) (g.asked r))) (posted_read r)))) (either (is_word words.While) (placed (opened (word_table words.While) u.repeated)) (either (is_word words.If) (placed (opened (word_table words.If) u.choice)) (either is_label (placed (pair (one label_in) (g.asked r))) (guarded (posted_read r))))) i
    (later_same (is_word words.While) (placed (opened (word_table words.While) u.repeated)) (either (is_word words.If) (placed (opened (word_table words.If) u.choice)) (either is_label (placed (pair (one label_in) (g.asked r))) (posted_read r))) (either (is_word words.If) (placed (opened (word_table words.If) u.choice)) (either is_label (placed (pair (one label_in) (g.asked r))) (guarded (posted_read r)))) i
    (later_same (is_word words.If) (placed (opened (word_table words.If) u.choice)) (either is_label (placed (pair (one label_in) (g.asked r))) (posted_read r)) (either is_label (placed (pair (one label_in) (g.asked r))) (guarded (posted_read r))) i
    (later_same is_label (placed (pair (one label_in) (g.asked r))) (posted_read r) (guarded (posted_read r)) i
    (guard_passes (posted_read r) i h)))))))))

abbrev OneStatement : Type 0
OneStatement = StatementTree-F StatementTree StatementsTree SearchBlockTree

statement_layer_made : (x : OneStatement) → Made statement_to (roll-StatementTree x)
statement_layer_made (StatementTree-F.Block t) = record { of = inl t; is = sym (statements_are.rolls-Block t) }
statement_layer_made (StatementTree-F.Try at t u ts) = record { of = inr (inl (at, (tt, (t, u, ts)))); is = sym (statements_are.rolls-Try at t u ts) }
statement_layer_made (StatementTree-F.Branch at op t u) = record { of = inr (inr (inl (at, (op, (t, u))))); is = sym (statements_are.rolls-Branch at op t u) }
statement_layer_made (StatementTree-F.Once at t) = record { of = inr (inr (inr (inl (at, (tt, t))))); is = sym (statements_are.rolls-Once at t) }
statement_layer_made (StatementTree-F.While at t u) = record { of = inr (inr (inr (inr (inl (at, (tt, (t, u))))))); is = sym (statements_are.rolls-While at t u) }
statement_layer_made (StatementTree-F.If at t u o) = record { of = inr (inr (inr (inr (inr (inl (at, (tt, (t, u, o)))))))); is = sym (statements_are.rolls-If at t u o) }
statement_layer_made (StatementTree-F.Label at op t) = record { of = inr (inr (inr (inr (inr (inr (inl (at, (op, t)))))))); is = sym (statements_are.rolls-Label at op t) }
statement_layer_made (StatementTree-F.Precedes at p q) = record { of = inr (inr (inr (inr (inr (inr (inr ((inr (at, (p, (tt, q))))))))))); is = sym (statements_are.rolls-Precedes at p q) }
statement_layer_made (StatementTree-F.Constraint t) = record { of = inr (inr (inr (inr (inr (inr (inr ((inl t)))))))); is = sym (statements_are.rolls-Constraint t) }

statement_made : (t : StatementTree) → Made statement_to t
statement_made t = subst (Made statement_to) (roll-out-StatementTree t) (statement_layer_made (out-StatementTree t))

posted_spelt : (c : Posted) → marks_statement (posted_to c) ≡ mk.unbraced ∷ posted_shape.marks c
posted_spelt (inl t) = marks_statement-Constraint t
posted_spelt (inr c) = marks_statement-Precedes c.0 c.1.0 c.1.1.1

try_spelt : (at : ℕ) (c : Alternatives) → marks_statement (statements_are.Try at c.0 c.1 c.2) ≡ mk.place at ∷ mk.nested (mk.word words.Try) (alternatives_shape.marks c)
try_spelt at c = marks_statement-Try at c.0 c.1 c.2

statement_spelt : (c : StatementParts) → marks_statement (statement_to c) ≡ statement_parts.marks c
statement_spelt (inl t) = marks_statement-Block t
statement_spelt (inr (inl c)) = try_spelt c.0 c.1.1
statement_spelt (inr (inr (inl c))) = marks_statement-Branch c.0 c.1.0 c.1.1.0 c.1.1.1
    ∙ ap (λ ms. mk.place c.0 ∷ mk.nested (branch_part c.1.0) ms) (sym (append_assoc (mk.nested (mk.sign signs.OpenParenthesis) (marks_ordered_params c.1.1.0)) (mk.token (mk.sign signs.CloseParenthesis) ∷ []) (marks_statement c.1.1.1)))
statement_spelt (inr (inr (inr (inl c)))) = marks_statement-Once c.0 c.1.1
statement_spelt (inr (inr (inr (inr (inl c))))) = marks_statement-While c.0 c.1.1.0 c.1.1.1
statement_spelt (inr (inr (inr (inr (inr (inl c)))))) = marks_statement-If c.0 c.1.1.0 c.1.1.1 c.1.1.2
statement_spelt (inr (inr (inr (inr (inr (inr (inl c))))))) = marks_statement-Label c.0 c.1.0 c.1.1
statement_spelt (inr (inr (inr (inr (inr (inr (inr c))))))) = posted_spelt c

pub statement_law : {n : ℕ} {r s : Rules} {u v : StatementRules} → RulesLaw n r s → StatementLaws n u v → Law n (gs.statement r u) (gs.statement s v) statement_shape
statement_law {n} {r} {s} {u} {v} R L = plain_law (either_law (is_sign signs.OpenBrace) (search_block_law r s L) (either_law (is_word words.Try) (placed_law (opened_law (word_reads words.Try) L.alternatives)) (either_law is_branch (placed_law (opened_law branch_reads L.branch)) (either_law (is_word words.Once) (placed_law (opened_law (word_reads words.Once) L.statement)) (either_law (is_word words.While) (placed_law (opened_law (word_reads words.While) L.repeated)) (either_law (is_word words.If) (placed_law (opened_law (word_reads words.If) L.choice)) (either_law is_label (placed_law (pair_law (one_law label_reads) (asked_law R) (λ x k h. tt))) (posted_law R)
    (λ F k h. h) (λ F k h. expr_without_label (look k) h.0))
    (λ F k h. h) (λ F k h. (by_side (λ a. from_label (λ l. sees_word words.If l ≡ false) k a label_no_If) (λ a. expr_without_If (look k) a.0)) h))
    (λ F k h. h) (λ F k h. (by_side (λ a. from_word words.If (λ l. sees_word words.While l ≡ false) k a refl) (by_side (λ a. from_label (λ l. sees_word words.While l ≡ false) k a label_no_While) (λ a. expr_without_While (look k) a.0))) h))
    (λ F k h. h) (λ F k h. (by_side (λ a. from_word words.While (λ l. sees_word words.Once l ≡ false) k a refl) (by_side (λ a. from_word words.If (λ l. sees_word words.Once l ≡ false) k a refl) (by_side (λ a. from_label (λ l. sees_word words.Once l ≡ false) k a label_no_Once) (λ a. expr_without_Once (look k) a.0)))) h))
    (λ F k h. h) (λ F k h. (by_side (λ a. from_word words.Once (λ l. is_some (through branch_of (word_seen l)) ≡ false) k a refl) (by_side (λ a. from_word words.While (λ l. is_some (through branch_of (word_seen l)) ≡ false) k a refl) (by_side (λ a. from_word words.If (λ l. is_some (through branch_of (word_seen l)) ≡ false) k a refl) (by_side (λ a. from_label (λ l. is_some (through branch_of (word_seen l)) ≡ false) k a label_no_branch) (λ a. expr_without_branch (look k) a.0))))) h))
    (λ F k h. h) (λ F k h. (by_side (λ a. from_branch (λ l. sees_word words.Try l ≡ false) k a branch_no_Try) (by_side (λ a. from_word words.Once (λ l. sees_word words.Try l ≡ false) k a refl) (by_side (λ a. from_word words.While (λ l. sees_word words.Try l ≡ false) k a refl) (by_side (λ a. from_word words.If (λ l. sees_word words.Try l ≡ false) k a refl) (by_side (λ a. from_label (λ l. sees_word words.Try l ≡ false) k a label_no_Try) (λ a. expr_without_Try (look k) a.0)))))) h))
    (λ F k h. h) (λ F k h. (by_side (λ a. from_word words.Try (λ l. sees_sign signs.OpenBrace l ≡ false) k a refl) (by_side (λ a. from_branch (λ l. sees_sign signs.OpenBrace l ≡ false) k a (λ a. refl)) (by_side (λ a. from_word words.Once (λ l. sees_sign signs.OpenBrace l ≡ false) k a refl) (by_side (λ a. from_word words.While (λ l. sees_sign signs.OpenBrace l ≡ false) k a refl) (by_side (λ a. from_word words.If (λ l. sees_sign signs.OpenBrace l ≡ false) k a refl) (by_side (λ a. from_label (λ l. sees_sign signs.OpenBrace l ≡ false) k a (λ a. refl)) (λ a. a.1))))))) h)) statement_to (record {
      made = statement_made;
      marks = statement_spelt;
      view = λ x. tt;
      tag = λ c. refl;
      closes = λ k h. (tt, (tt, (h, (h, (h, (tt, (tt, posted_closes k h)))))));
      begins = λ F k h. (by_side (λ a. from_sign signs.OpenBrace (λ l. tables.begins sign_starts word_starts_statement l ≡ true) k a refl) (by_side (λ a. from_word words.Try (λ l. tables.begins sign_starts word_starts_statement l ≡ true) k a refl) (by_side (λ a. from_branch (λ l. tables.begins sign_starts word_starts_statement l ≡ true) k a branch_starts) (by_side (λ a. from_word words.Once (λ l. tables.begins sign_starts word_starts_statement l ≡ true) k a refl) (by_side (λ a. from_word words.While (λ l. tables.begins sign_starts word_starts_statement l ≡ true) k a refl) (by_side (λ a. from_word words.If (λ l. tables.begins sign_starts word_starts_statement l ≡ true) k a refl) (by_side (λ a. from_label (λ l. tables.begins sign_starts word_starts_statement l ≡ true) k a label_starts) (λ a. expr_seen_statement (look k) a.0)))))))) h;
    }) (gs.statement r u) (gs.statement s v) (statement_is r u) (statement_is s v)

-- ---- lists of statements

abbrev StatementsParts : Type 0
StatementsParts = ℕ × Option (StatementTree × Tail StatementTree)

abbrev statements_at : ℕ → Option (StatementTree × Tail StatementTree) → StatementsTree
statements_at at None = statement_lists.Empty at
statements_at at (Some c) = statement_lists.Several at c.0 c.1.0 c.1.1

abbrev statements_to : StatementsParts → StatementsTree
statements_to c = statements_at c.0 c.1

abbrev statements_read : Rules → StatementRules → Parser StatementsParts
statements_read r u = placed (maybe starts_statement (pair (gs.statement r u) (behind signs.Semicolon starts_statement (gs.statement r u))))

several_is : (r : Rules) (u : StatementRules) (i : Input) → gs.several_statements r u i ≡ mapped (λ (c : StatementTree × Tail StatementTree). statement_lists.Several (place_at i) c.0 c.1.0 c.1.1) (pair (gs.statement r u) (behind signs.Semicolon starts_statement (gs.statement r u))) i
unfolding gs.several_statements
several_is r u i = simp and_then_assoc

statements_is : (r : Rules) (u : StatementRules) (i : Input) → gs.statements r u i ≡ mapped statements_to (statements_read r u) i
unfolding gs.statements
statements_is r u i = rw (several_is r u i) (simp steps)

abbrev statements_parts : Shape StatementsParts
statements_parts = placed_shape (maybe_shape starts_statement (pair_shape statement_shape (tail_shape signs.Semicolon starts_statement statement_shape)))

statements_layer_made : (x : StatementsTree-F StatementTree StatementsTree SearchBlockTree) → Made statements_to (roll-StatementsTree x)
statements_layer_made (StatementsTree-F.Empty at) = record { of = (at, None); is = sym (statement_lists.rolls-Empty at) }
statements_layer_made (StatementsTree-F.Several at t ts b) = record { of = (at, Some (t, (ts, b))); is = sym (statement_lists.rolls-Several at t ts b) }

statements_made : (t : StatementsTree) → Made statements_to t
statements_made t = subst (Made statements_to) (roll-out-StatementsTree t) (statements_layer_made (out-StatementsTree t))

statements_spelt : (at : ℕ) (o : Option (StatementTree × Tail StatementTree)) → marks_statements (statements_at at o) ≡ statements_parts.marks (at, o)
statements_spelt at None = marks_statements-Empty at
statements_spelt at (Some c) = marks_statements-Several at c.0 c.1.0 c.1.1

semicolon_ends : (k : Option Kind) → is_sign signs.Semicolon k ≡ true → Ends 10 k
semicolon_ends k h = sign_ends signs.Semicolon 10 (omega arith) k h

statements_meet : (k : Option Kind) → (is_sign signs.Semicolon k ≡ true) ⊎ EndsStatements k → Ends 10 k
statements_meet k (inl h) = semicolon_ends k h
statements_meet k (inr h) = h.0

pub statements_law : {n : ℕ} {r s : Rules} {u v : StatementRules} → RulesLaw n r s → StatementLaws n u v → Law n (gs.statements r u) (gs.statements s v) statements_shape
statements_law {n} {r} {s} {u} {v} R L = plain_law
    (placed_law (maybe_law starts_statement (pair_law (statement_law R L) (behind_law signs.Semicolon starts_statement (statement_law R L) (record { passes = λ F k h. h; meets = semicolon_ends })) (λ x k h. statements_meet k h)) (λ F k h. h))) statements_to (record {
      made = statements_made;
      marks = λ c. statements_spelt c.0 c.1;
      view = λ x. tt;
      tag = λ c. refl;
      closes = λ k h. (h, h.1.0);
      begins = λ F k h. h;
    }) (gs.statements r u) (gs.statements s v) (statements_is r u) (statements_is s v)

-- ---- behind `try`

bar_ends : (k : Option Kind) → is_sign signs.Bar k ≡ true → EndsStatements k
bar_ends k h = (sign_ends signs.Bar 10 (omega arith) k h, (from_sign signs.Bar (λ l. tables.begins sign_starts word_starts_statement l ≡ false) k h refl, from_sign signs.Bar (λ l. sees_sign signs.Semicolon l ≡ false) k h refl))

word_ends_statements : (w : Keyword) → 10 < word_binds w → word_starts_statement w ≡ false → (k : Option Kind) → is_word w k ≡ true → EndsStatements k
word_ends_statements w loose other k h = (word_ends w 10 loose k h, (from_word w (λ l. tables.begins sign_starts word_starts_statement l ≡ false) k h other, from_word w (λ l. sees_sign signs.Semicolon l ≡ false) k h refl))

abbrev alternative_shape : Shape StatementsTree
alternative_shape = led_shape (mk.sign signs.Bar) (sign_first signs.Bar) statements_shape

alternative_law : {n : ℕ} {r s : Rules} {u v : StatementRules} → RulesLaw n r s → StatementLaws n u v → Law n (gs.alternative r u) (gs.alternative s v) alternative_shape
unfolding gs.alternative
alternative_law R L = led_law (sign_reads signs.Bar) (statements_law R L)

abbrev AlternativeParts : Type 0
AlternativeParts = StatementsTree × (StatementsTree × (List StatementsTree × Unit {0}))

abbrev alternatives_to : AlternativeParts → Alternatives
alternatives_to c = (c.0, c.1.0, c.1.1.0)

alternatives_is : (r : Rules) (u : StatementRules) (i : Input) → gs.alternatives r u i ≡ mapped alternatives_to (pair (gs.statements r u) (pair (gs.alternative r u) (pair (after_each signs.Bar (gs.statements r u)) (word words.EndTry)))) i
unfolding gs.alternatives
alternatives_is r u i = simp and_then_assoc

try_ends : (k : Option Kind) → (is_sign signs.Bar k ≡ true) ⊎ (is_word words.EndTry k ≡ true) → EndsStatements k
try_ends k (inl h) = bar_ends k h
try_ends k (inr h) = word_ends_statements words.EndTry (omega arith) refl k h

pub alternatives_law : {n : ℕ} {r s : Rules} {u v : StatementRules} → RulesLaw n r s → StatementLaws n u v → Law n (gs.alternatives r u) (gs.alternatives s v) alternatives_shape
alternatives_law {n} {r} {s} {u} {v} R L = plain_law
    (pair_law (statements_law R L) (pair_law (alternative_law R L) (pair_law (each_law signs.Bar (statements_law R L) bar_ends) (word_law words.EndTry) (λ x k h. (try_ends k (inr h), from_word words.EndTry (λ l. sees_sign signs.Bar l ≡ false) k h refl))) (λ x k h. try_ends k h)) (λ x k h. bar_ends k h)) alternatives_to (record {
      made = λ t. record { of = (t.0, (t.1, (t.2, tt))); is = refl };
      marks = λ c. refl;
      view = λ x. tt;
      tag = λ c. refl;
      closes = λ k h. tt;
      begins = λ F k h. h;
    }) (gs.alternatives r u) (gs.alternatives s v) (alternatives_is r u) (alternatives_is s v)

-- ---- behind the words of branches and loops

ordered_chosen_is : (r : Rules) (u : StatementRules) (i : Input) → gs.ordered_chosen r u i ≡ mapped (λ (c : (Unit {0} × OrderedParamsTree) × Unit {0}). c.0.1) (pair (opened (sign_table signs.OpenParenthesis) r.ordered) (sign signs.CloseParenthesis)) i
unfolding gs.ordered_chosen
ordered_chosen_is r u i = simp steps

ordered_chosen_law : {n : ℕ} {r s : Rules} (u v : StatementRules) → RulesLaw n r s → Law n (gs.ordered_chosen r u) (gs.ordered_chosen s v) ordered_chosen_shape
ordered_chosen_law {n} {r} {s} u v R = plain_law (pair_law (opened_law (sign_reads signs.OpenParenthesis) R.ordered) (sign_law signs.CloseParenthesis) (λ x k h. (params_close k h, from_sign signs.CloseParenthesis (λ l. sees_word words.Ordered l ≡ false) k h refl))) (λ c. c.0.1) (record {
  made = λ t. record { of = ((tt, t), tt); is = refl };
  marks = λ c. refl;
  view = λ x. tt;
  tag = λ c. refl;
  closes = λ k h. tt;
  begins = λ F k h. h;
}) (gs.ordered_chosen r u) (gs.ordered_chosen s v) (ordered_chosen_is r u) (ordered_chosen_is s v)

pub branch_law : {n : ℕ} {r s : Rules} {u v : StatementRules} → RulesLaw n r s → StatementLaws n u v → Law n (gs.branch r u) (gs.branch s v) branch_shape
unfolding gs.branch
branch_law {n} {r} {s} {u} {v} R L = pair_law (ordered_chosen_law u v R) (statement_law R L) (λ x k h. tt)

repeated_is : (r : Rules) (u : StatementRules) (i : Input) → gs.repeated r u i ≡ mapped (λ (c : ExprTree × (Unit {0} × StatementTree)). (c.0, c.1.1)) (pair (g.expr r) (pair (word words.Do) (gs.statement r u))) i
unfolding gs.repeated
repeated_is r u i = simp steps

pub repeated_law : {n : ℕ} {r s : Rules} {u v : StatementRules} → RulesLaw n r s → StatementLaws n u v → Law n (gs.repeated r u) (gs.repeated s v) repeated_shape
repeated_law {n} {r} {s} {u} {v} R L = plain_law (pair_law (expr_law R) (pair_law (word_law words.Do) (statement_law R L) (λ x k h. tt)) (λ x k h. word_ends words.Do 9 (omega arith) k h)) (λ c. (c.0, c.1.1)) (record {
  made = λ t. record { of = (t.0, (tt, t.1)); is = refl };
  marks = λ c. refl;
  view = λ x. tt;
  tag = λ c. refl;
  closes = λ k h. h;
  begins = λ F k h. h;
}) (gs.repeated r u) (gs.repeated s v) (repeated_is r u) (repeated_is s v)

-- ---- behind `if`

abbrev otherwise_statements : Shape StatementsTree
otherwise_statements = led_shape (mk.word words.Else) (word_first words.Else) statements_shape

otherwise_statements_law : {n : ℕ} {r s : Rules} {u v : StatementRules} → RulesLaw n r s → StatementLaws n u v → Law n (gs.otherwise r u) (gs.otherwise s v) otherwise_statements
unfolding gs.otherwise
otherwise_statements_law R L = led_law (word_reads words.Else) (statements_law R L)

abbrev ChoiceParts : Type 0
ChoiceParts = ExprTree × (Unit {0} × (StatementsTree × (Option StatementsTree × Unit {0})))

abbrev choice_to : ChoiceParts → Choice
choice_to c = (c.0, c.1.1.0, c.1.1.1.0)

choice_is : (r : Rules) (u : StatementRules) (i : Input) → gs.choice r u i ≡ mapped choice_to (pair (g.expr r) (pair (word words.Then) (pair (gs.statements r u) (pair (maybe (is_word words.Else) (gs.otherwise r u)) (word words.EndIf))))) i
unfolding gs.choice
choice_is r u i = simp and_then_assoc

else_ends : (k : Option Kind) → (is_word words.Else k ≡ true) ⊎ (is_word words.EndIf k ≡ true) → EndsStatements k
else_ends k (inl h) = word_ends_statements words.Else (omega arith) refl k h
else_ends k (inr h) = word_ends_statements words.EndIf (omega arith) refl k h

pub choice_law : {n : ℕ} {r s : Rules} {u v : StatementRules} → RulesLaw n r s → StatementLaws n u v → Law n (gs.choice r u) (gs.choice s v) choice_shape
choice_law {n} {r} {s} {u} {v} R L = plain_law
    (pair_law (expr_law R) (pair_law (word_law words.Then) (pair_law (statements_law R L) (pair_law (maybe_law (is_word words.Else) (otherwise_statements_law R L) (λ F k h. h)) (word_law words.EndIf)
    (λ x k h. (else_ends k (inr h), from_word words.EndIf (λ l. sees_word words.Else l ≡ false) k h refl))) (λ x k h. else_ends k h)) (λ x k h. tt)) (λ x k h. word_ends words.Then 9 (omega arith) k h)) choice_to (record {
      made = λ t. record { of = (t.0, (tt, (t.1, (t.2, tt)))); is = refl };
      marks = λ c. ap (λ ms. marks_expr c.0 ++ mk.token (mk.word words.Then) ∷ (marks_statements c.1.1.0 ++ (ms ++ mk.token (mk.word words.EndIf) ∷ []))) (after_maybe (mk.word words.Else) (word_first words.Else) statements_shape c.1.1.1.0);
      view = λ x. tt;
      tag = λ c. refl;
      closes = λ k h. tt;
      begins = λ F k h. h;
    }) (gs.choice r u) (gs.choice s v) (choice_is r u) (choice_is s v)

-- ---- a phrase of each kind

empty_takes : (i : Input) → Takes (marks_statements (statement_lists.Empty (place_at i))) i i
empty_takes i = subst (λ ms. Takes ms i i) (sym (marks_statements-Empty (place_at i))) (refl, refl)

statements_sample : Samples statements_shape
statements_sample tail h = record { whole = tail; value = statement_lists.Empty (place_at tail); takes = empty_takes tail; starts = λ F k. inr k }

statement_sample : Samples statement_shape
statement_sample tail h = record {
  whole = before_part (mk.number (pos 0)) tail;
  value = statements_are.Constraint (wide_expr 0 one_post);
  takes = subst (λ ms. Takes ms (before_part (mk.number (pos 0)) tail) tail) (sym (marks_statement-Constraint (wide_expr 0 one_post) ∙ ap (λ ms. mk.unbraced ∷ ms) one_expr_is)) (refl, zeros_take 7 tail);
  starts = λ F k. refl;
}

ordered_chosen_sample : Samples ordered_chosen_shape
ordered_chosen_sample tail h =
    let closed = before_part (mk.sign signs.CloseParenthesis) tail in
    let a = ordered_sample closed (params_close (kind closed) refl, refl) in
    record {
      whole = before_part (mk.sign signs.OpenParenthesis) a.whole;
      value = a.value;
      takes = ((refl, tt), takes_join (mk.raised (marks_ordered_params a.value)) (mk.token (mk.sign signs.CloseParenthesis) ∷ []) a.whole closed tail (takes_raised (marks_ordered_params a.value) a.whole closed a.takes) ((refl, tt), refl));
      starts = λ F k. refl;
    }

branch_sample : Samples branch_shape
branch_sample = pair_samples (λ x k h. tt) (λ x k h. h) ordered_chosen_sample statement_sample

repeated_sample : Samples repeated_shape
repeated_sample tail h =
    let s = statement_sample tail h in
    let mid = before_part (mk.word words.Do) s.whole in
    let e = expr_sample mid (word_ends words.Do 9 (omega arith) (kind mid) (is_word_same words.Do)) in
    record {
      whole = e.whole;
      value = (e.value, s.value);
      takes = takes_join (marks_expr e.value) (mk.token (mk.word words.Do) ∷ marks_statement s.value) e.whole mid tail e.takes ((refl, tt), s.takes);
      starts = λ F k. e.starts Any tt;
    }

choice_sample : Samples choice_shape
choice_sample tail h =
    let last = before_part (mk.word words.EndIf) tail in
    let mid = before_part (mk.word words.Then) last in
    let e = expr_sample mid (word_ends words.Then 9 (omega arith) (kind mid) (is_word_same words.Then)) in
    record {
      whole = e.whole;
      value = (e.value, statement_lists.Empty (place_at last), None);
      takes = takes_join (marks_expr e.value) (mk.token (mk.word words.Then) ∷ (marks_statements (statement_lists.Empty (place_at last)) ++ mk.token (mk.word words.EndIf) ∷ [])) e.whole mid tail e.takes
          ((refl, tt), takes_join (marks_statements (statement_lists.Empty (place_at last))) (mk.token (mk.word words.EndIf) ∷ []) last last tail (empty_takes last) ((refl, tt), refl));
      starts = λ F k. e.starts Any tt;
    }

alternatives_sample : Samples alternatives_shape
alternatives_sample tail h =
    let last = before_part (mk.word words.EndTry) tail in
    let first = before_part (mk.sign signs.Bar) last in
    record {
      whole = first;
      value = (statement_lists.Empty (place_at first), statement_lists.Empty (place_at last), []);
      takes = takes_join (marks_statements (statement_lists.Empty (place_at first))) (mk.token (mk.sign signs.Bar) ∷ (marks_statements (statement_lists.Empty (place_at last)) ++ mk.token (mk.word words.EndTry) ∷ [])) first first tail (empty_takes first)
          ((refl, tt), takes_join (marks_statements (statement_lists.Empty (place_at last))) (mk.token (mk.word words.EndTry) ∷ []) last last tail (empty_takes last) ((refl, tt), refl));
      starts = λ F k. inr refl;
    }

-- ---- closed over the levels

statements_zero : (k : ℕ) → StatementLaws 0 (gs.statement_rules 0) (gs.statement_rules k)
unfolding gs.statement_rules
statements_zero k = record {
  statements = record { levels = record { is = λ at i. refl; sample = statements_sample; closing = λ x k h. h; fit = λ c. tt } };
  alternatives = record { levels = record { is = λ at i. refl; sample = alternatives_sample; closing = λ x k h. h; fit = λ c. tt } };
  branch = record { levels = record { is = λ at i. refl; sample = branch_sample; closing = λ x k h. h; fit = λ c. (tt, tt) } };
  statement = record { levels = record { is = λ at i. refl; sample = statement_sample; closing = λ x k h. h; fit = λ c. tt } };
  repeated = record { levels = record { is = λ at i. refl; sample = repeated_sample; closing = λ x k h. h; fit = λ c. tt } };
  choice = record { levels = record { is = λ at i. refl; sample = choice_sample; closing = λ x k h. h; fit = λ c. tt } };
}

statements_next : (n k : ℕ) → RulesLaw n (g.rules n) (g.rules k) → StatementLaws n (gs.statement_rules n) (gs.statement_rules k) → StatementLaws (suc n) (gs.statement_rules (suc n)) (gs.statement_rules (suc k))
unfolding gs.statement_rules gs.statement_level
statements_next n k R L = record {
  statements = record { levels = record { read = gs.statements (g.rules n) (gs.statement_rules n); more = gs.statements (g.rules k) (gs.statement_rules k); is = λ at i. refl; are = λ at i. refl; law = statements_law R L } };
  alternatives = record { levels = record { read = gs.alternatives (g.rules n) (gs.statement_rules n); more = gs.alternatives (g.rules k) (gs.statement_rules k); is = λ at i. refl; are = λ at i. refl; law = alternatives_law R L } };
  branch = record { levels = record { read = gs.branch (g.rules n) (gs.statement_rules n); more = gs.branch (g.rules k) (gs.statement_rules k); is = λ at i. refl; are = λ at i. refl; law = branch_law R L } };
  statement = record { levels = record { read = gs.statement (g.rules n) (gs.statement_rules n); more = gs.statement (g.rules k) (gs.statement_rules k); is = λ at i. refl; are = λ at i. refl; law = statement_law R L } };
  repeated = record { levels = record { read = gs.repeated (g.rules n) (gs.statement_rules n); more = gs.repeated (g.rules k) (gs.statement_rules k); is = λ at i. refl; are = λ at i. refl; law = repeated_law R L } };
  choice = record { levels = record { read = gs.choice (g.rules n) (gs.statement_rules n); more = gs.choice (g.rules k) (gs.statement_rules k); is = λ at i. refl; are = λ at i. refl; law = choice_law R L } };
}

-- all that stands behind an opening token of statements, over so many levels and over more
pub statement_laws : (n k : ℕ) → n ≤ k → StatementLaws n (gs.statement_rules n) (gs.statement_rules k)
statement_laws zero k h = statements_zero k
statement_laws (suc n) zero h = absurd (omega arith)
statement_laws (suc n) (suc k) h = statements_next n k (rules_law n k (omega arith)) (statement_laws n k (omega arith))

-- ---- the section

abbrev pub search_shape : Shape SearchTree
search_shape = plain marks_search Any (First (is_word words.Search))

abbrev search_to : ℕ × (Unit {0} × (SearchBlockTree × Unit {0})) → SearchTree
search_to c = record { at = c.0; block = c.1.1.0 }

search_is : (r : Rules) (u : StatementRules) (i : Input) → gs.search_section r u i ≡ mapped search_to (placed (pair (word words.Search) (pair (gs.search_block r u) (sign signs.Semicolon)))) i
unfolding gs.search_section
search_is r u i = simp steps

pub search_law : {n : ℕ} (r s : Rules) {u v : StatementRules} → StatementLaws n u v → Law n (gs.search_section r u) (gs.search_section s v) search_shape
search_law {n} r s {u} {v} L = plain_law (placed_law (pair_law (word_law words.Search) (pair_law (search_block_law r s L) (sign_law signs.Semicolon) (λ x k h. tt)) (λ x k h. tt))) search_to (record {
  made = λ t. record { of = (t.at, (tt, (t.block, tt))); is = refl };
  marks = λ c. marks_search-is (search_to c);
  view = λ x. tt;
  tag = λ c. refl;
  closes = λ k h. tt;
  begins = λ F k h. h;
}) (gs.search_section r u) (gs.search_section s v) (search_is r u) (search_is s v)
