-- Items of a block.
use Rattle.std.proofs.Common.{◌≡◌, ℕ, zero, suc, ◌≤◌, Bool, true, false, cond, ◌⊎◌, inl, inr, List, [], ◌∷◌, ◌++◌, Option, Some, None, Ok, refl, sym, ap, ◌∙◌, subst, arith, append_assoc, pos}
use Rattle.std.specs.Prelude.{◌||◌}
use Rattle.std.specs.Option.{option_map}
use Rattle.opl_token.specs.declared.sign.Sign.TheVariants as signs
use Rattle.opl_token.specs.declared.token.Kind.{Kind}
use Rattle.opl_tree.specs.declared.expression.NameTree.{NameTree}
use Rattle.opl_tree.specs.declared.expression.ExprTree.{ExprTree}
use Rattle.opl_tree.specs.declared.expression.AddTree.{AddTree}
use Rattle.opl_tree.specs.declared.expression.PostTree.{PostTree}
use Rattle.opl_tree.specs.declared.expression.SubscriptsTree.{SubscriptsTree}
use Rattle.opl_tree.specs.declared.expression.ParamsTree.{ParamsTree}
use Rattle.opl_tree.specs.declared.instruction.InstrTree.{InstrTree}
use Rattle.opl_tree.specs.declared.instruction.Optimum.{Optimum}
use Rattle.opl_tree.specs.declared.instruction.BlockTree.{BlockTree}
use Rattle.opl_tree.specs.declared.instruction.ItemsTree.{ItemsTree}
use Rattle.opl_tree.specs.declared.instruction.ItemTree.{ItemTree}
use Rattle.opl_tree.specs.declared.instruction.RequiresTree.{RequiresTree}
use Rattle.opl_tree.specs.declared.keyword.Keyword.{Keyword}
use Rattle.opl_tree.specs.declared.instruction.InstrTree.TheVariants as instrs
use Rattle.opl_tree.specs.declared.instruction.ItemTree.TheVariants as items_are
use Rattle.opl_tree.specs.declared.instruction.ItemsTree.TheVariants as lists
use Rattle.opl_tree.specs.declared.keyword.Keyword.TheVariants as words
use Rattle.opl_tree.specs.declared.instruction.ItemTree.TheViews.{out-ItemTree, roll-ItemTree, roll-out-ItemTree, out-ItemsTree, roll-ItemsTree, roll-out-ItemsTree, out-BlockTree, roll-BlockTree, roll-out-BlockTree}
use Rattle.opl_tree.specs.declared.instruction.ItemTree.TheOpen.{ItemTree-F, ItemsTree-F}
use Rattle.opl_grammar.specs.declared.look.Look.{Look}
use Rattle.opl_grammar.specs.declared.look.Look.TheVariants as looks
use Rattle.opl_tree.specs.Marks.{Mark, optimum_word, marks_name, marks_expr, marks_add, marks_post, marks_subscripts, marks_params, marks_item, marks_items, marks_block, marks_instr}
use Rattle.opl_tree.specs.Marks as mk
use Rattle.opl_tree.proofs.Marks.{marks_requires-is, marks_item-Block, marks_item-ForAll, marks_item-If, marks_item-Precedes, marks_item-Requires, marks_item-Constraint, marks_items-Empty, marks_items-Several, marks_block-of, marks_instr-Solve, marks_instr-Optimize}
use Rattle.opl_grammar.specs.Input.{Input, Outcome, Parser, kind, and_then, ◌>>=◌, pure, one, sign, word, look, sees_sign, sees_word, is_sign, is_word, behind}
use Rattle.opl_grammar.specs.Input.{place as place_at}
use Rattle.opl_grammar.specs.Tables.{optimum_in, sign_starts, word_starts_expr, word_starts_item, starts_item}
use Rattle.opl_grammar.specs.Just.{post_of}
use Rattle.opl_grammar.specs.Rules as g
use Rattle.opl_grammar.specs.Items as gi
use Rattle.opl_grammar.specs.Rules.{Rules}
use Rattle.opl_grammar.specs.Items.{ItemRules}
use Rattle.opl_reader_laws.proofs.Behind.{Tail, tail_shape, behind_law}
use Rattle.opl_parse.proofs.Closing.{rules_law}
use Rattle.opl_parse.proofs.Examples.{pair_samples, one_post, zeros_take, one_expr_is, expr_sample, chosen_sample}
use Rattle.opl_parse.proofs.Follow.{Ends, no_sign, no_word, sign_ends, word_ends}
use Rattle.opl_reader_laws.proofs.Forms.{placed, placed_shape, placed_law, maybe, maybe_shape, maybe_law, either, by_side, either_shape, either_law, mapped, Made, plain, plain_law}
use Rattle.opl_reader_laws.proofs.Guarded.{guarded, guarded_shape, Bare, guarded_law}
use Rattle.opl_reader_laws.proofs.Led.{led_shape, led_law}
use Rattle.opl_reader_laws.proofs.Opened.{Entry, opened, opened_shape, opened_law}
use Rattle.opl_reader_laws.proofs.Looked.{by_view, look_at, looked, looked_shape, looked_law}
use Rattle.opl_parse.proofs.Narrow.{wide_expr, post_narrows}
use Rattle.opl_parse.proofs.Ops.{optimum_part, optimum_first, optimum_reads, from_optimum}
use Rattle.opl_reader_laws.proofs.Options.{after_maybe, written_maybe, then_same, any_of, or_true_left, or_true_right, or_false}
use Rattle.opl_reader_laws.proofs.Outcomes.{and_then_assoc, steps}
use Rattle.opl_parse.proofs.Params.{chosen_law}
use Rattle.opl_reader_laws.proofs.Phrases.{Shape, Samples, Law, Any, one_shape, one_law, pair, pair_shape, pair_law}
use Rattle.opl_parse.proofs.Posts.{subscripts_law, post_law}
use Rattle.opl_parse.proofs.Prims.{name_law}
use Rattle.opl_parse.proofs.Shapes.{starts_expr, First, name_shape, post_shape, subscripts_shape, expr_shape, chosen_shape, RulesLaw}
use Rattle.opl_reader_laws.proofs.Sided.{with_place, sided, sided_shape, sided_law}
use Rattle.opl_reader_laws.proofs.Takes.{Takes, takes_join}
use Rattle.opl_reader_laws.proofs.Tokens.{from_sign, from_word, from_name, is_word_same, sign_table, word_table, word_first, sign_reads, word_reads, sign_shape, word_shape, sign_law, word_law}
use Rattle.opl_parse.proofs.Truths.{expr_law}
use Rattle.opl_grammar.specs.Tables as tables
use Rattle.opl_tree.specs.Marks.{Mark}
use Rattle.opl_reader_laws.proofs.Takes.{before as before_part}
use Rattle.opl_tree.specs.declared.instruction.Optimum.TheVariants as optima

-- ---- what an item that begins with an expression goes on with

abbrev pub demand_shape : Shape AddTree
demand_shape = plain (λ t. mk.nested (mk.sign signs.OpenParenthesis) (marks_add t) ++ mk.token (mk.sign signs.CloseParenthesis) ∷ []) Any (First (is_sign signs.OpenParenthesis))

demand_is : (r : Rules) (u : ItemRules) (i : Input) → gi.demand r u i ≡ mapped (λ (c : (Unit {0} × AddTree) × Unit {0}). c.0.1) (pair (opened (sign_table signs.OpenParenthesis) r.add) (sign signs.CloseParenthesis)) i
unfolding gi.demand
demand_is r u i = simp steps

demand_law : {n : ℕ} {r s : Rules} (u v : ItemRules) → RulesLaw n r s → Law n (gi.demand r u) (gi.demand s v) demand_shape
demand_law {n} {r} {s} u v R = plain_law (pair_law (opened_law (sign_reads signs.OpenParenthesis) R.add) (sign_law signs.CloseParenthesis) (λ x k h. sign_ends signs.CloseParenthesis 3 (omega arith) k h)) (λ c. c.0.1) (record {
  made = λ t. record { of = ((tt, t), tt); is = refl };
  marks = λ c. refl;
  view = λ x. tt;
  tag = λ c. refl;
  closes = λ k h. tt;
  begins = λ F k h. h;
}) (gi.demand r u) (gi.demand s v) (demand_is r u) (demand_is s v)

abbrev pub Later : Type 0
Later = Unit {0} × PostTree

abbrev Demanded : Type 0
Demanded = Unit {0} × (Option AddTree × (NameTree × Option SubscriptsTree))

abbrev pub later_read : Rules → Parser Later
later_read r = pair (word words.Precedes) (g.post r)

abbrev demanded_read : Rules → ItemRules → Parser Demanded
demanded_read r u = pair (word words.Requires) (pair (maybe (is_sign signs.OpenParenthesis) (gi.demand r u)) (pair g.name (maybe (is_sign signs.OpenBracket) (g.subscripts r))))

abbrev pub later_shape : Shape Later
later_shape = pair_shape (word_shape words.Precedes) post_shape

abbrev optional_subscripts : Shape (Option SubscriptsTree)
optional_subscripts = maybe_shape (is_sign signs.OpenBracket) subscripts_shape

abbrev optional_demand : Shape (Option AddTree)
optional_demand = maybe_shape (is_sign signs.OpenParenthesis) demand_shape

abbrev demanded_shape : Shape Demanded
demanded_shape = pair_shape (word_shape words.Requires) (pair_shape optional_demand (pair_shape name_shape optional_subscripts))

abbrev goes_on : Option Kind → Bool
goes_on = any_of (is_word words.Precedes) (is_word words.Requires)

abbrev rest_read : Rules → ItemRules → Parser (Later ⊎ Demanded)
rest_read r u = either (is_word words.Precedes) (later_read r) (demanded_read r u)

abbrev rest_shape : Shape (Later ⊎ Demanded)
rest_shape = either_shape later_shape demanded_shape

rest_law : {n : ℕ} {r s : Rules} (u v : ItemRules) → RulesLaw n r s → Law n (rest_read r u) (rest_read s v) rest_shape
rest_law u v R = either_law (is_word words.Precedes) (pair_law (word_law words.Precedes) (post_law R) (λ x k h. tt))
    (pair_law (word_law words.Requires) (pair_law (maybe_law (is_sign signs.OpenParenthesis) (demand_law u v R) (λ F k h. h)) (pair_law name_law (maybe_law (is_sign signs.OpenBracket) (subscripts_law R) (λ F k h. h)) (λ x k h. tt))
    (λ x k h. (tt, from_name (λ l. sees_sign signs.OpenParenthesis l ≡ false) k h refl))) (λ x k h. tt))
    (λ F k h. h) (λ F k h. from_word words.Requires (λ l. sees_word words.Precedes l ≡ false) k h refl)

-- ---- items that begin with an expression

abbrev Stated : Type 0
Stated = ExprTree ⊎ (ℕ × (PostTree × (Later ⊎ Demanded)))

abbrev requires_to : ℕ → PostTree → Demanded → RequiresTree
requires_to at p d = record { at = at; activity = p; demand = d.1.0; resource = d.1.1.0; subscripts = d.1.1.1 }

abbrev stated_to : Stated → ItemTree
stated_to (inl t) = items_are.Constraint t
stated_to (inr c) = by_rest c.0 c.1.0 c.1.1 where
  by_rest : ℕ → PostTree → Later ⊎ Demanded → ItemTree
  by_rest at p (inl q) = items_are.Precedes at p q.1
  by_rest at p (inr d) = items_are.Requires (requires_to at p d)

abbrev looked_read : Rules → ItemRules → Parser (ExprTree ⊎ (PostTree × (Later ⊎ Demanded)))
looked_read r u = looked (g.expr r) goes_on post_of (rest_read r u)

abbrev stated_read : Rules → ItemRules → Parser Stated
stated_read r u = sided (looked_read r u)

abbrev stated_shape : Shape Stated
stated_shape = sided_shape (looked_shape goes_on expr_shape marks_post rest_shape (First starts_expr Any))

requires_is : (r : Rules) (u : ItemRules) (at : ℕ) (p : PostTree) (j : Input) → gi.requires_tree r u at p j ≡ and_then (demanded_read r u j) (λ d. pure (requires_to at p d))
unfolding gi.requires_tree
requires_is r u at p j = simp and_then_assoc

stated_by : (r : Rules) (u : ItemRules) (at : ℕ) (t : ExprTree) (o : Option PostTree) (j : Input) (a b : Bool) → is_word words.Precedes (kind j) ≡ a → is_word words.Requires (kind j) ≡ b →
    cond {A = Outcome ItemTree} a (gi.precedes r u at o j) (cond {A = Outcome ItemTree} b (gi.required r u at o j) (Ok (items_are.Constraint t, j)))
    ≡ and_then (cond {A = Outcome (ExprTree ⊎ (PostTree × (Later ⊎ Demanded)))} (a || b) (by_view (rest_read r u) o j) (Ok (inl t, j))) (λ c. pure (stated_to (with_place at c)))
stated_by r u at t None j true b e f = refl
stated_by r u at t None j false true e f = refl
stated_by r u at t None j false false e f = refl
stated_by r u at t (Some p) j true b e f = rw e (simp steps)
stated_by r u at t (Some p) j false true e f = rw (e, requires_is r u at p j) (simp and_then_assoc)
stated_by r u at t (Some p) j false false e f = refl

stated_of_is : (r : Rules) (u : ItemRules) (at : ℕ) (t : ExprTree) (j : Input) → gi.stated_of r u at t j ≡ and_then (look_at goes_on post_of (rest_read r u) t j) (λ c. pure (stated_to (with_place at c)))
unfolding gi.stated_of
stated_of_is r u at t j = stated_by r u at t (post_of t) j (is_word words.Precedes (kind j)) (is_word words.Requires (kind j)) refl refl

stated_is : (r : Rules) (u : ItemRules) (i : Input) → gi.stated r u i ≡ mapped stated_to (stated_read r u) i
unfolding gi.stated
stated_is r u i = then_same (g.expr r i) (λ t. gi.stated_of r u (place_at i) t) (λ t j. and_then (look_at goes_on post_of (rest_read r u) t j) (λ c. pure (stated_to (with_place (place_at i) c)))) (stated_of_is r u (place_at i)) ∙ simp and_then_assoc

rest_ends_expr : (y : rest_shape.Tag) (k : Option Kind) → rest_shape.begins (rest_shape.ends y) k → Ends 9 k
rest_ends_expr y k (inl h) = word_ends words.Precedes 9 (omega arith) k h
rest_ends_expr y k (inr h) = word_ends words.Requires 9 (omega arith) k h

rest_goes_on : (F : Option Kind → Type 0) (k : Option Kind) → rest_shape.begins F k → goes_on k ≡ true
rest_goes_on F k (inl h) = or_true_left (is_word words.Precedes k) (is_word words.Requires k) h
rest_goes_on F k (inr h) = or_true_right (is_word words.Precedes k) (is_word words.Requires k) h

bare_stated : (tail : Input) → stated_shape.closes (kind tail) → Bare stated_shape tail
bare_stated tail h = record {
  sample = record { whole = before_part (mk.number (pos 0)) tail; value = inl (wide_expr 0 one_post); takes = subst (λ ms. Takes ms (before_part (mk.number (pos 0)) tail) tail) (sym one_expr_is) (zeros_take 7 tail); starts = λ F k. refl };
  bare = refl;
}

pub no_first : starts_expr None ≡ true → ⊥
no_first h = cc

stated_law : {n : ℕ} {r s : Rules} (u v : ItemRules) → RulesLaw n r s → Law n (guarded (stated_read r u)) (guarded (stated_read s v)) (guarded_shape stated_shape)
stated_law u v R = guarded_law (sided_law (looked_law goes_on (expr_law R) (rest_law u v R) post_narrows rest_goes_on rest_ends_expr (λ F k h. h))) no_first bare_stated

stated_closes : (k : Option Kind) → Ends 10 k → stated_shape.closes k
stated_closes k h = (omega arith, ((omega arith, (tt, no_sign signs.OpenBracket 10 (λ e. omega (arith, e)) k h)), or_false (is_word words.Precedes k) (is_word words.Requires k) (no_word words.Precedes 10 (λ e. omega (arith, e)) k h) (no_word words.Requires 10 (λ e. omega (arith, e)) k h)))

-- ---- the shapes of items

abbrev pub item_shape : Shape ItemTree
item_shape = plain marks_item (Ends 10) (First starts_item)

abbrev pub EndsItems : Option Kind → Type 0
EndsItems k = Ends 10 k × ((starts_item k ≡ false) × (is_sign signs.Semicolon k ≡ false))

abbrev pub items_shape : Shape ItemsTree
items_shape = plain marks_items EndsItems (λ F k. (starts_item k ≡ true) ⊎ F k)

abbrev pub for_all_shape : Shape (ParamsTree × ItemTree)
for_all_shape = pair_shape chosen_shape item_shape

abbrev pub Branches : Type 0
Branches = ExprTree × ItemsTree × Option ItemsTree

abbrev pub branches_marks : Branches → List Mark
branches_marks c = marks_expr c.0 ++ mk.token (mk.word words.Then) ∷ (marks_items c.1 ++ (mk.after (mk.word words.Else) (option_map marks_items c.2) ++ mk.token (mk.word words.EndIf) ∷ []))

abbrev pub branches_shape : Shape Branches
branches_shape = plain branches_marks Any (First starts_expr)

pub record ItemLaws (n : ℕ) (u v : ItemRules) : Type 1 where
  pub items : Entry n u.items v.items items_shape
  pub for_all : Entry n u.for_all v.for_all for_all_shape
  pub branches : Entry n u.branches v.branches branches_shape

-- ---- blocks

abbrev pub block_shape : Shape BlockTree
block_shape = plain marks_block Any (First (is_sign signs.OpenBrace))

abbrev block_to : ℕ × ((Unit {0} × ItemsTree) × Unit {0}) → BlockTree
block_to c = roll-BlockTree (record { at = c.0; items = c.1.0.1 })

block_is : (r : Rules) (u : ItemRules) (i : Input) → gi.block r u i ≡ mapped block_to (placed (pair (opened (sign_table signs.OpenBrace) u.items) (sign signs.CloseBrace))) i
unfolding gi.block
block_is r u i = simp steps

brace_ends_items : (k : Option Kind) → is_sign signs.CloseBrace k ≡ true → EndsItems k
brace_ends_items k h = (sign_ends signs.CloseBrace 10 (omega arith) k h, (from_sign signs.CloseBrace (λ l. tables.begins sign_starts word_starts_item l ≡ false) k h refl, from_sign signs.CloseBrace (λ l. sees_sign signs.Semicolon l ≡ false) k h refl))

pub block_law : {n : ℕ} (r s : Rules) {u v : ItemRules} → ItemLaws n u v → Law n (gi.block r u) (gi.block s v) block_shape
block_law {n} r s {u} {v} L = plain_law (placed_law (pair_law (opened_law (sign_reads signs.OpenBrace) L.items) (sign_law signs.CloseBrace) (λ x k h. brace_ends_items k h))) block_to (record {
  made = λ t. record { of = ((out-BlockTree t).at, ((tt, (out-BlockTree t).items), tt)); is = roll-out-BlockTree t };
  marks = λ c. marks_block-of c.0 c.1.0.1;
  view = λ x. tt;
  tag = λ c. refl;
  closes = λ k h. tt;
  begins = λ F k h. h;
}) (gi.block r u) (gi.block s v) (block_is r u) (block_is s v)

-- ---- items

abbrev ForAllParts : Type 0
ForAllParts = ℕ × (Unit {0} × (ParamsTree × ItemTree))

abbrev IfParts : Type 0
IfParts = ℕ × (Unit {0} × Branches)

abbrev ItemParts : Type 0
ItemParts = BlockTree ⊎ (ForAllParts ⊎ (IfParts ⊎ Stated))

abbrev item_to : ItemParts → ItemTree
item_to (inl t) = items_are.Block t
item_to (inr (inl c)) = items_are.ForAll c.0 c.1.1.0 c.1.1.1
item_to (inr (inr (inl c))) = items_are.If c.0 c.1.1.0 c.1.1.1 c.1.1.2
item_to (inr (inr (inr c))) = stated_to c

abbrev item_over : Rules → ItemRules → Parser Stated → Parser ItemParts
item_over r u p = either (is_sign signs.OpenBrace) (gi.block r u) (either (is_word words.ForAll) (placed (opened (word_table words.ForAll) u.for_all)) (either (is_word words.If) (placed (opened (word_table words.If) u.branches)) p))

abbrev item_read : Rules → ItemRules → Parser ItemParts
item_read r u = item_over r u (guarded (stated_read r u))

abbrev item_parts : Shape ItemParts
item_parts = either_shape block_shape (either_shape (placed_shape (opened_shape (λ u. mk.word words.ForAll) (word_first words.ForAll) for_all_shape)) (either_shape (placed_shape (opened_shape (λ u. mk.word words.If) (word_first words.If) branches_shape)) (guarded_shape stated_shape)))

for_all_is : (r : Rules) (u : ItemRules) (i : Input) → gi.for_all r u i ≡ mapped (λ (c : ForAllParts). items_are.ForAll c.0 c.1.1.0 c.1.1.1) (placed (opened (word_table words.ForAll) u.for_all)) i
unfolding gi.for_all
for_all_is r u i = simp steps

if_item_is : (r : Rules) (u : ItemRules) (i : Input) → gi.if_item r u i ≡ mapped (λ (c : IfParts). items_are.If c.0 c.1.1.0 c.1.1.1 c.1.1.2) (placed (opened (word_table words.If) u.branches)) i
unfolding gi.if_item
if_item_is r u i = simp steps

item_over_is : (r : Rules) (u : ItemRules) (i : Input) → gi.item r u i ≡ mapped item_to (item_over r u (stated_read r u)) i
unfolding gi.item
item_over_is r u i = rw (for_all_is r u i, if_item_is r u i, stated_is r u i) (simp steps)

-- behind the test on the brace, the guard changes nothing
pub unguarded : {A B : Type 0} (p : Parser A) (q q' : Parser B) (i : Input) → (is_sign signs.OpenBrace (kind i) ≡ false → q i ≡ q' i) → either (is_sign signs.OpenBrace) p q i ≡ either (is_sign signs.OpenBrace) p q' i
unguarded {A} {B} p q q' i h = by_test (is_sign signs.OpenBrace (kind i)) refl where
  by_test : (b : Bool) → is_sign signs.OpenBrace (kind i) ≡ b → cond {A = Outcome (A ⊎ B)} b ((p >>= (λ a. pure (inl a))) i) ((q >>= (λ a. pure (inr a))) i) ≡ cond {A = Outcome (A ⊎ B)} b ((p >>= (λ a. pure (inl a))) i) ((q' >>= (λ a. pure (inr a))) i)
  by_test true e = refl
  by_test false e = let k = h e in rw k refl

pub guard_passes : {A : Type 0} (p : Parser A) (i : Input) → is_sign signs.OpenBrace (kind i) ≡ false → p i ≡ guarded p i
guard_passes p i h = rw h refl

pub later_same : {A B : Type 0} (test : Option Kind → Bool) (p : Parser A) (q q' : Parser B) (i : Input) → q i ≡ q' i → either test p q i ≡ either test p q' i
later_same test p q q' i e = rw e refl

item_is : (r : Rules) (u : ItemRules) (i : Input) → gi.item r u i ≡ mapped item_to (item_read r u) i
item_is r u i = item_over_is r u i ∙ ap (λ (o : Outcome ItemParts). and_then o (λ c. pure (item_to c)))
    (unguarded (gi.block r u) (either (is_word words.ForAll) (placed (opened (word_table words.ForAll) u.for_all)) (either (is_word words.If) (placed (opened (word_table words.If) u.branches)) (stated_read r u)))
    (either (is_word words.ForAll) (placed (opened (word_table words.ForAll) u.for_all)) (either (is_word words.If) (placed (opened (word_table words.If) u.branches)) (guarded (stated_read r u)))) i
    (λ h. later_same (is_word words.ForAll) (placed (opened (word_table words.ForAll) u.for_all)) (either (is_word words.If) (placed (opened (word_table words.If) u.branches)) (stated_read r u)) (either (is_word words.If) (placed (opened (word_table words.If) u.branches)) (guarded (stated_read r u))) i
    (later_same (is_word words.If) (placed (opened (word_table words.If) u.branches)) (stated_read r u) (guarded (stated_read r u)) i (guard_passes (stated_read r u) i h))))

abbrev OneItem : Type 0
OneItem = ItemTree-F ItemTree ItemsTree BlockTree

item_layer_made : (x : OneItem) → Made item_to (roll-ItemTree x)
item_layer_made (ItemTree-F.Block t) = record { of = inl t; is = sym (items_are.rolls-Block t) }
item_layer_made (ItemTree-F.ForAll at t u) = record { of = inr (inl (at, (tt, (t, u)))); is = sym (items_are.rolls-ForAll at t u) }
item_layer_made (ItemTree-F.If at t u o) = record { of = inr (inr (inl (at, (tt, (t, u, o))))); is = sym (items_are.rolls-If at t u o) }
item_layer_made (ItemTree-F.Precedes at p q) = record { of = inr (inr (inr (inr (at, (p, inl (tt, q)))))); is = sym (items_are.rolls-Precedes at p q) }
item_layer_made (ItemTree-F.Requires t) = record { of = inr (inr (inr (inr (t.at, (t.activity, inr (tt, (t.demand, (t.resource, t.subscripts)))))))); is = sym (items_are.rolls-Requires t) }
item_layer_made (ItemTree-F.Constraint t) = record { of = inr (inr (inr (inl t))); is = sym (items_are.rolls-Constraint t) }

item_made : (t : ItemTree) → Made item_to t
item_made t = subst (Made item_to) (roll-out-ItemTree t) (item_layer_made (out-ItemTree t))

demand_marks : (o : Option AddTree) → mk.enclosed signs.OpenParenthesis signs.CloseParenthesis (option_map marks_add o) ≡ optional_demand.marks o
demand_marks None = refl
demand_marks (Some t) = refl

stated_spelt : (c : Stated) → marks_item (stated_to c) ≡ mk.unbraced ∷ stated_shape.marks c
stated_spelt (inl t) = marks_item-Constraint t
stated_spelt (inr c) = by_rest c.0 c.1.0 c.1.1 where
  by_rest : (at : ℕ) (p : PostTree) (d : Later ⊎ Demanded) → marks_item (stated_to (inr (at, (p, d)))) ≡ mk.unbraced ∷ stated_shape.marks (inr (at, (p, d)))
  by_rest at p (inl q) = marks_item-Precedes at p q.1
  by_rest at p (inr d) = marks_item-Requires (requires_to at p d) ∙ ap (λ ms. mk.unbraced ∷ ms) (marks_requires-is (requires_to at p d)
      ∙ (ap (λ ms. mk.place at ∷ (marks_post p ++ mk.token (mk.word words.Requires) ∷ (ms ++ (marks_name d.1.1.0 ++ mk.written (option_map marks_subscripts d.1.1.1))))) (demand_marks d.1.0)
      ∙ ap (λ ms. mk.place at ∷ (marks_post p ++ mk.token (mk.word words.Requires) ∷ (optional_demand.marks d.1.0 ++ (marks_name d.1.1.0 ++ ms)))) (written_maybe subscripts_shape d.1.1.1)))

item_spelt : (c : ItemParts) → marks_item (item_to c) ≡ item_parts.marks c
item_spelt (inl t) = marks_item-Block t
item_spelt (inr (inl c)) = marks_item-ForAll c.0 c.1.1.0 c.1.1.1
    ∙ ap (λ ms. mk.place c.0 ∷ mk.nested (mk.word words.ForAll) ms) (sym (append_assoc (mk.nested (mk.sign signs.OpenParenthesis) (marks_params c.1.1.0)) (mk.token (mk.sign signs.CloseParenthesis) ∷ []) (marks_item c.1.1.1)))
item_spelt (inr (inr (inl c))) = marks_item-If c.0 c.1.1.0 c.1.1.1 c.1.1.2
item_spelt (inr (inr (inr c))) = stated_spelt c

-- ---- first tokens of items

expr_word_item : (w : Keyword) → word_starts_expr w ≡ true → word_starts_item w ≡ true
expr_word_item words.ForAll h = refl
expr_word_item words.If h = refl
expr_word_item w h = h

expr_seen_item : (l : Look) → tables.begins sign_starts word_starts_expr l ≡ true → tables.begins sign_starts word_starts_item l ≡ true
expr_seen_item (looks.Word w) h = expr_word_item w h
expr_seen_item (looks.Sign s) h = h
expr_seen_item looks.Name h = refl
expr_seen_item looks.Number h = refl
expr_seen_item looks.Nothing h = h
expr_seen_item looks.Other h = h

expr_no_forall : (w : Keyword) → word_starts_expr w ≡ true → sees_word words.ForAll (looks.Word w) ≡ false
expr_no_forall words.ForAll h = cc
expr_no_forall w h = refl

expr_no_if : (w : Keyword) → word_starts_expr w ≡ true → sees_word words.If (looks.Word w) ≡ false
expr_no_if words.If h = cc
expr_no_if w h = refl

forall_unseen : (l : Look) → tables.begins sign_starts word_starts_expr l ≡ true → sees_word words.ForAll l ≡ false
forall_unseen (looks.Word w) h = expr_no_forall w h
forall_unseen (looks.Sign s) h = refl
forall_unseen looks.Name h = refl
forall_unseen looks.Number h = refl
forall_unseen looks.Nothing h = refl
forall_unseen looks.Other h = refl

if_unseen : (l : Look) → tables.begins sign_starts word_starts_expr l ≡ true → sees_word words.If l ≡ false
if_unseen (looks.Word w) h = expr_no_if w h
if_unseen (looks.Sign s) h = refl
if_unseen looks.Name h = refl
if_unseen looks.Number h = refl
if_unseen looks.Nothing h = refl
if_unseen looks.Other h = refl

pub item_law : {n : ℕ} {r s : Rules} {u v : ItemRules} → RulesLaw n r s → ItemLaws n u v → Law n (gi.item r u) (gi.item s v) item_shape
item_law {n} {r} {s} {u} {v} R L = plain_law
    (either_law (is_sign signs.OpenBrace) (block_law r s L)
    (either_law (is_word words.ForAll) (placed_law (opened_law (word_reads words.ForAll) L.for_all))
    (either_law (is_word words.If) (placed_law (opened_law (word_reads words.If) L.branches)) (stated_law u v R) (λ F k h. h) (λ F k h. if_unseen (look k) h.0))
    (λ F k h. h) (λ F k h. by_side (λ a. from_word words.If (λ l. sees_word words.ForAll l ≡ false) k a refl) (λ a. forall_unseen (look k) a.0) h))
    (λ F k h. h) (λ F k h. by_side (λ a. from_word words.ForAll (λ l. sees_sign signs.OpenBrace l ≡ false) k a refl) (λ a. by_side (λ b. from_word words.If (λ l. sees_sign signs.OpenBrace l ≡ false) k b refl) (λ b. b.1) a) h))
    item_to (record {
      made = item_made;
      marks = item_spelt;
      view = λ x. tt;
      tag = λ c. refl;
      closes = λ k h. (tt, (h, (tt, stated_closes k h)));
      begins = λ F k h. by_side (λ a. from_sign signs.OpenBrace (λ l. tables.begins sign_starts word_starts_item l ≡ true) k a refl) (λ a. by_side (λ b. from_word words.ForAll (λ l. tables.begins sign_starts word_starts_item l ≡ true) k b refl) (λ b. by_side (λ d. from_word words.If (λ l. tables.begins sign_starts word_starts_item l ≡ true) k d refl) (λ d. expr_seen_item (look k) d.0) b) a) h;
    }) (gi.item r u) (gi.item s v) (item_is r u) (item_is s v)

-- ---- lists of items

abbrev ItemsParts : Type 0
ItemsParts = ℕ × Option (ItemTree × Tail ItemTree)

abbrev items_at : ℕ → Option (ItemTree × Tail ItemTree) → ItemsTree
items_at at None = lists.Empty at
items_at at (Some c) = lists.Several at c.0 c.1.0 c.1.1

abbrev items_to : ItemsParts → ItemsTree
items_to c = items_at c.0 c.1

abbrev items_read : Rules → ItemRules → Parser ItemsParts
items_read r u = placed (maybe starts_item (pair (gi.item r u) (behind signs.Semicolon starts_item (gi.item r u))))

several_is : (r : Rules) (u : ItemRules) (i : Input) → gi.several_items r u i ≡ mapped (λ (c : ItemTree × Tail ItemTree). lists.Several (place_at i) c.0 c.1.0 c.1.1) (pair (gi.item r u) (behind signs.Semicolon starts_item (gi.item r u))) i
unfolding gi.several_items
several_is r u i = simp and_then_assoc

items_is : (r : Rules) (u : ItemRules) (i : Input) → gi.items r u i ≡ mapped items_to (items_read r u) i
unfolding gi.items
items_is r u i = rw (several_is r u i) (simp steps)

abbrev items_parts : Shape ItemsParts
items_parts = placed_shape (maybe_shape starts_item (pair_shape item_shape (tail_shape signs.Semicolon starts_item item_shape)))

items_layer_made : (x : ItemsTree-F ItemTree ItemsTree BlockTree) → Made items_to (roll-ItemsTree x)
items_layer_made (ItemsTree-F.Empty at) = record { of = (at, None); is = sym (lists.rolls-Empty at) }
items_layer_made (ItemsTree-F.Several at t ts b) = record { of = (at, Some (t, (ts, b))); is = sym (lists.rolls-Several at t ts b) }

items_made : (t : ItemsTree) → Made items_to t
items_made t = subst (Made items_to) (roll-out-ItemsTree t) (items_layer_made (out-ItemsTree t))

items_spelt : (at : ℕ) (o : Option (ItemTree × Tail ItemTree)) → marks_items (items_at at o) ≡ items_parts.marks (at, o)
items_spelt at None = marks_items-Empty at
items_spelt at (Some c) = marks_items-Several at c.0 c.1.0 c.1.1

semicolon_ends_item : (k : Option Kind) → is_sign signs.Semicolon k ≡ true → Ends 10 k
semicolon_ends_item k h = sign_ends signs.Semicolon 10 (omega arith) k h

items_meet : (k : Option Kind) → (is_sign signs.Semicolon k ≡ true) ⊎ EndsItems k → Ends 10 k
items_meet k (inl h) = semicolon_ends_item k h
items_meet k (inr h) = h.0

pub items_law : {n : ℕ} {r s : Rules} {u v : ItemRules} → RulesLaw n r s → ItemLaws n u v → Law n (gi.items r u) (gi.items s v) items_shape
items_law {n} {r} {s} {u} {v} R L = plain_law
    (placed_law (maybe_law starts_item (pair_law (item_law R L) (behind_law signs.Semicolon starts_item (item_law R L) (record { passes = λ F k h. h; meets = semicolon_ends_item })) (λ x k h. items_meet k h)) (λ F k h. h))) items_to (record {
      made = items_made;
      marks = λ c. items_spelt c.0 c.1;
      view = λ x. tt;
      tag = λ c. refl;
      closes = λ k h. (h, h.1.0);
      begins = λ F k h. h;
    }) (gi.items r u) (gi.items s v) (items_is r u) (items_is s v)

-- ---- behind `forall` and `if`

pub quantified_law : {n : ℕ} {r s : Rules} {u v : ItemRules} → RulesLaw n r s → ItemLaws n u v → Law n (gi.quantified r u) (gi.quantified s v) for_all_shape
unfolding gi.quantified
quantified_law R L = pair_law (chosen_law R) (item_law R L) (λ x k h. tt)

abbrev otherwise_items : Shape ItemsTree
otherwise_items = led_shape (mk.word words.Else) (word_first words.Else) items_shape

otherwise_items_law : {n : ℕ} {r s : Rules} {u v : ItemRules} → RulesLaw n r s → ItemLaws n u v → Law n (gi.otherwise r u) (gi.otherwise s v) otherwise_items
unfolding gi.otherwise
otherwise_items_law R L = led_law (word_reads words.Else) (items_law R L)

abbrev BranchParts : Type 0
BranchParts = ExprTree × (Unit {0} × (ItemsTree × (Option ItemsTree × Unit {0})))

abbrev branches_to : BranchParts → Branches
branches_to c = (c.0, c.1.1.0, c.1.1.1.0)

branches_is : (r : Rules) (u : ItemRules) (i : Input) → gi.branches r u i ≡ mapped branches_to (pair (g.expr r) (pair (word words.Then) (pair (gi.items r u) (pair (maybe (is_word words.Else) (gi.otherwise r u)) (word words.EndIf))))) i
unfolding gi.branches
branches_is r u i = simp and_then_assoc

else_ends : (k : Option Kind) → (is_word words.Else k ≡ true) ⊎ (is_word words.EndIf k ≡ true) → EndsItems k
else_ends k (inl h) = (word_ends words.Else 10 (omega arith) k h, (from_word words.Else (λ l. tables.begins sign_starts word_starts_item l ≡ false) k h refl, from_word words.Else (λ l. sees_sign signs.Semicolon l ≡ false) k h refl))
else_ends k (inr h) = (word_ends words.EndIf 10 (omega arith) k h, (from_word words.EndIf (λ l. tables.begins sign_starts word_starts_item l ≡ false) k h refl, from_word words.EndIf (λ l. sees_sign signs.Semicolon l ≡ false) k h refl))

pub branches_law : {n : ℕ} {r s : Rules} {u v : ItemRules} → RulesLaw n r s → ItemLaws n u v → Law n (gi.branches r u) (gi.branches s v) branches_shape
branches_law {n} {r} {s} {u} {v} R L = plain_law
    (pair_law (expr_law R) (pair_law (word_law words.Then) (pair_law (items_law R L) (pair_law (maybe_law (is_word words.Else) (otherwise_items_law R L) (λ F k h. h)) (word_law words.EndIf)
    (λ x k h. (else_ends k (inr h), from_word words.EndIf (λ l. sees_word words.Else l ≡ false) k h refl))) (λ x k h. else_ends k h)) (λ x k h. tt)) (λ x k h. word_ends words.Then 9 (omega arith) k h)) branches_to (record {
      made = λ t. record { of = (t.0, (tt, (t.1, (t.2, tt)))); is = refl };
      marks = λ c. ap (λ ms. marks_expr c.0 ++ mk.token (mk.word words.Then) ∷ (marks_items c.1.1.0 ++ (ms ++ mk.token (mk.word words.EndIf) ∷ []))) (after_maybe (mk.word words.Else) (word_first words.Else) items_shape c.1.1.1.0);
      view = λ x. tt;
      tag = λ c. refl;
      closes = λ k h. tt;
      begins = λ F k h. h;
    }) (gi.branches r u) (gi.branches s v) (branches_is r u) (branches_is s v)

-- ---- closed over the levels

empty_takes : (i : Input) → Takes (marks_items (lists.Empty (place_at i))) i i
empty_takes i = subst (λ ms. Takes ms i i) (sym (marks_items-Empty (place_at i))) (refl, refl)

items_sample : Samples items_shape
items_sample tail h = record { whole = tail; value = lists.Empty (place_at tail); takes = empty_takes tail; starts = λ F k. inr k }

item_sample : Samples item_shape
item_sample tail h = record {
  whole = before_part (mk.number (pos 0)) tail;
  value = items_are.Constraint (wide_expr 0 one_post);
  takes = subst (λ ms. Takes ms (before_part (mk.number (pos 0)) tail) tail) (sym (marks_item-Constraint (wide_expr 0 one_post) ∙ ap (λ ms. mk.unbraced ∷ ms) one_expr_is)) (refl, zeros_take 7 tail);
  starts = λ F k. refl;
}

for_all_sample : Samples for_all_shape
for_all_sample = pair_samples (λ x k h. tt) (λ x k h. h) chosen_sample item_sample

branches_sample : Samples branches_shape
branches_sample tail h =
    let last = before_part (mk.word words.EndIf) tail in
    let mid = before_part (mk.word words.Then) last in
    let e = expr_sample mid (word_ends words.Then 9 (omega arith) (kind mid) (is_word_same words.Then)) in
    record {
      whole = e.whole;
      value = (e.value, lists.Empty (place_at last), None);
      takes = takes_join (marks_expr e.value) (mk.token (mk.word words.Then) ∷ (marks_items (lists.Empty (place_at last)) ++ mk.token (mk.word words.EndIf) ∷ [])) e.whole mid tail e.takes
          ((refl, tt), takes_join (marks_items (lists.Empty (place_at last))) (mk.token (mk.word words.EndIf) ∷ []) last last tail (empty_takes last) ((refl, tt), refl));
      starts = λ F k. e.starts Any tt;
    }

items_zero : (k : ℕ) → ItemLaws 0 (gi.item_rules 0) (gi.item_rules k)
unfolding gi.item_rules
items_zero k = record {
  items = record { levels = record { is = λ at i. refl; sample = items_sample; closing = λ x k h. h; fit = λ c. tt } };
  for_all = record { levels = record { is = λ at i. refl; sample = for_all_sample; closing = λ x k h. h; fit = λ c. (tt, tt) } };
  branches = record { levels = record { is = λ at i. refl; sample = branches_sample; closing = λ x k h. h; fit = λ c. tt } };
}

items_next : (n k : ℕ) → RulesLaw n (g.rules n) (g.rules k) → ItemLaws n (gi.item_rules n) (gi.item_rules k) → ItemLaws (suc n) (gi.item_rules (suc n)) (gi.item_rules (suc k))
unfolding gi.item_rules gi.item_level
items_next n k R L = record {
  items = record { levels = record { read = gi.items (g.rules n) (gi.item_rules n); more = gi.items (g.rules k) (gi.item_rules k); is = λ at i. refl; are = λ at i. refl; law = items_law R L } };
  for_all = record { levels = record { read = gi.quantified (g.rules n) (gi.item_rules n); more = gi.quantified (g.rules k) (gi.item_rules k); is = λ at i. refl; are = λ at i. refl; law = quantified_law R L } };
  branches = record { levels = record { read = gi.branches (g.rules n) (gi.item_rules n); more = gi.branches (g.rules k) (gi.item_rules k); is = λ at i. refl; are = λ at i. refl; law = branches_law R L } };
}

-- all that stands behind an opening token of items, over so many levels and over more
pub item_laws : (n k : ℕ) → n ≤ k → ItemLaws n (gi.item_rules n) (gi.item_rules k)
item_laws zero k h = items_zero k
item_laws (suc n) zero h = absurd (omega arith)
item_laws (suc n) (suc k) h = items_next n k (rules_law n k (omega arith)) (item_laws n k (omega arith))

-- ---- the instruction

abbrev InstrParts : Type 0
InstrParts = (ℕ × (Unit {0} × (BlockTree × Unit {0}))) ⊎ (ℕ × (Optimum × (ExprTree × (Unit {0} × (Unit {0} × (BlockTree × Unit {0}))))))

abbrev instr_to : InstrParts → InstrTree
instr_to (inl c) = instrs.Solve c.0 c.1.1.0
instr_to (inr c) = instrs.Optimize c.0 c.1.0 c.1.1.0 c.1.1.1.1.1.0

abbrev instr_read : Rules → ItemRules → Parser InstrParts
instr_read r u = either (is_word words.Solve) (placed (pair (word words.Solve) (pair (gi.block r u) (sign signs.Semicolon)))) (placed (pair (one optimum_in) (pair (g.expr r) (pair (word words.Subject) (pair (word words.To) (pair (gi.block r u) (sign signs.Semicolon)))))))

abbrev instr_parts : Shape InstrParts
instr_parts = either_shape (placed_shape (pair_shape (word_shape words.Solve) (pair_shape block_shape (sign_shape signs.Semicolon)))) (placed_shape (pair_shape (one_shape optimum_part optimum_first) (pair_shape expr_shape (pair_shape (word_shape words.Subject) (pair_shape (word_shape words.To) (pair_shape block_shape (sign_shape signs.Semicolon)))))))

instr_is : (r : Rules) (u : ItemRules) (i : Input) → gi.instr r u i ≡ mapped instr_to (instr_read r u) i
unfolding gi.instr gi.solve gi.optimize
instr_is r u i = simp steps

instr_made : (t : InstrTree) → Made instr_to t
instr_made (instrs.Solve at t) = record { of = inl (at, (tt, (t, tt))); is = refl }
instr_made (instrs.Optimize at op e t) = record { of = inr (at, (op, (e, (tt, (tt, (t, tt)))))); is = refl }

instr_spelt : (c : InstrParts) → marks_instr (instr_to c) ≡ instr_parts.marks c
instr_spelt (inl c) = marks_instr-Solve c.0 c.1.1.0
instr_spelt (inr c) = marks_instr-Optimize c.0 c.1.0 c.1.1.0 c.1.1.1.1.1.0

abbrev pub starts_instr : Option Kind → Type 0
starts_instr k = (is_word words.Solve k ≡ true) ⊎ optimum_first k

abbrev pub instr_shape : Shape InstrTree
instr_shape = plain marks_instr Any (λ F. starts_instr)

optimum_not_solve : (a : Optimum) → sees_word words.Solve (looks.Word (optimum_word a)) ≡ false
optimum_not_solve optima.Least = refl
optimum_not_solve optima.Greatest = refl

pub instr_law : {n : ℕ} {r s : Rules} {u v : ItemRules} → RulesLaw n r s → ItemLaws n u v → Law n (gi.instr r u) (gi.instr s v) instr_shape
instr_law {n} {r} {s} {u} {v} R L = plain_law
    (either_law (is_word words.Solve) (placed_law (pair_law (word_law words.Solve) (pair_law (block_law r s L) (sign_law signs.Semicolon) (λ x k h. tt)) (λ x k h. tt)))
    (placed_law (pair_law (one_law optimum_reads) (pair_law (expr_law R) (pair_law (word_law words.Subject) (pair_law (word_law words.To) (pair_law (block_law r s L) (sign_law signs.Semicolon) (λ x k h. tt)) (λ x k h. tt)) (λ x k h. tt)) (λ x k h. word_ends words.Subject 9 (omega arith) k h)) (λ x k h. tt)))
    (λ F k h. h) (λ F k h. from_optimum (λ l. sees_word words.Solve l ≡ false) k h optimum_not_solve)) instr_to (record {
      made = instr_made;
      marks = instr_spelt;
      view = λ x. tt;
      tag = λ c. refl;
      closes = λ k h. (tt, tt);
      begins = λ F k h. h;
    }) (gi.instr r u) (gi.instr s v) (instr_is r u) (instr_is s v)
