-- Comparisons and what joins them.
use Rattle.std.proofs.Common.{◌≡◌, ℕ, Bool, true, false, ◌⊎◌, inl, inr, List, ◌∷◌, ◌++◌, Option, Some, None, refl, sym, ap, ◌∙◌, subst, arith, append-nil}
use Rattle.std.specs.Prelude.{◌||◌, is_some}
use Rattle.std.specs.Option.{option_map}
use Rattle.opl_token.specs.declared.sign.Sign.TheVariants as signs
use Rattle.opl_token.specs.declared.token.Kind.{Kind}
use Rattle.opl_tree.specs.declared.expression.ExprTree.{ExprTree}
use Rattle.opl_tree.specs.declared.expression.ImpTree.{ImpTree}
use Rattle.opl_tree.specs.declared.expression.OrTree.{OrTree}
use Rattle.opl_tree.specs.declared.expression.AndTree.{AndTree}
use Rattle.opl_tree.specs.declared.expression.NegTree.{NegTree}
use Rattle.opl_tree.specs.declared.expression.CompareTree.{CompareTree}
use Rattle.opl_tree.specs.declared.expression.AddTree.{AddTree}
use Rattle.opl_tree.specs.declared.expression.PostTree.{PostTree}
use Rattle.opl_tree.specs.declared.expression.SetTree.{SetTree}
use Rattle.opl_tree.specs.declared.expression.Relation.{Relation}
use Rattle.opl_tree.specs.declared.expression.CompareTree.TheVariants as compares
use Rattle.opl_tree.specs.declared.expression.NegTree.TheVariants as negs
use Rattle.opl_tree.specs.declared.keyword.Keyword.TheVariants as words
use Rattle.opl_tree.specs.declared.expression.CompareTree.TheViews.{out-AndTree, roll-AndTree, roll-out-AndTree, out-roll-AndTree, out-ExprTree, roll-ExprTree, roll-out-ExprTree, out-roll-ExprTree, out-ImpTree, roll-ImpTree, roll-out-ImpTree, out-roll-ImpTree, out-OrTree, roll-OrTree, roll-out-OrTree, out-roll-OrTree, out-CompareTree, roll-CompareTree, roll-out-CompareTree, out-roll-CompareTree, out-NegTree, roll-NegTree, roll-out-NegTree, out-roll-NegTree}
use Rattle.opl_tree.specs.declared.expression.CompareTree.TheOpen.{CompareTree-F, NegTree-F}
use Rattle.opl_tree.specs.Marks.{marks_imp, marks_or, marks_neg, marks_compare, marks_add}
use Rattle.opl_tree.specs.Marks as mk
use Rattle.opl_tree.proofs.Marks.{marks_compare-Single, marks_compare-Related, marks_compare-Member, marks_neg-Not, marks_neg-Compare, marks_and-of, marks_expr-of, marks_imp-of, marks_or-of}
use Rattle.opl_grammar.specs.Input.{Input, Parser, and_then, pure, one, word, is_sign, is_word, after_each, sign_seen}
use Rattle.opl_grammar.specs.Input.{place as place_at}
use Rattle.opl_grammar.specs.Tables.{through, relation_of, relation_in, is_relation, sign_starts, word_starts_expr}
use Rattle.opl_grammar.specs.Just.{alone, without, OneCompare, OneNeg, post_of_add, post_at_compare, post_of_compare, post_at_neg, post_of_neg, post_of_and, post_of_or, post_of_imp, post_of}
use Rattle.opl_grammar.specs.Rules as g
use Rattle.opl_grammar.specs.Rules.{Rules}
use Rattle.opl_parse.proofs.Firsts.{add_starts_expr, add_not}
use Rattle.opl_parse.proofs.Follow.{Ends, no_relation, relation_ends, no_sign, no_word, sign_ends, word_ends}
use Rattle.opl_reader_laws.proofs.Forms.{placed, placed_shape, placed_law, maybe, maybe_shape, maybe_law, either, by_side, either_shape, either_law, mapped, Made, stricter, stricter_law, plain, plain_law}
use Rattle.opl_reader_laws.proofs.Led.{each_law}
use Rattle.opl_reader_laws.proofs.Opened.{opened, opened_shape, opened_law}
use Rattle.opl_parse.proofs.Ops.{relation_part, relation_first, relation_reads}
use Rattle.opl_reader_laws.proofs.Options.{then_same, options, any_of, or_false, options_shape, options_law}
use Rattle.opl_reader_laws.proofs.Outcomes.{and_then_assoc, and_then_pure, steps}
use Rattle.opl_reader_laws.proofs.Phrases.{Shape, Law, one_shape, one_law, pair, pair_shape, pair_law}
use Rattle.opl_parse.proofs.Posts.{alone_kind, alone_some}
use Rattle.opl_parse.proofs.Shapes.{post_kind, First, add_shape, set_shape, compare_shape, neg_shape, and_shape, or_shape, imp_shape, expr_shape, RulesLaw}
use Rattle.opl_parse.proofs.Sums.{add_law, set_law}
use Rattle.opl_reader_laws.proofs.Tokens.{from_word, sign_table, word_table, word_first, sign_reads, word_reads, word_shape, word_law}
use Rattle.opl_grammar.specs.Tables as tables

-- ---- comparisons

abbrev CompareParts : Type 0
CompareParts = ℕ × (AddTree × Option ((Relation × AddTree) ⊎ (Unit {0} × SetTree)))

abbrev compare_at : ℕ → AddTree → Option ((Relation × AddTree) ⊎ (Unit {0} × SetTree)) → CompareTree
compare_at at t None = compares.Single at t
compare_at at t (Some (inl c)) = compares.Related at t c.0 c.1
compare_at at t (Some (inr c)) = compares.Member at t c.1

abbrev compare_to : CompareParts → CompareTree
compare_to c = compare_at c.0 c.1.0 c.1.1

abbrev compared : Rules → Parser (Option ((Relation × AddTree) ⊎ (Unit {0} × SetTree)))
compared r = options is_relation (pair (one relation_in) (g.add r)) (is_word words.In) (pair (word words.In) (g.set r))

abbrev compared_shape : Shape (Option ((Relation × AddTree) ⊎ (Unit {0} × SetTree)))
compared_shape = stricter (Ends 3) (options_shape is_relation (pair_shape (one_shape relation_part relation_first) add_shape) (is_word words.In) (pair_shape (word_shape words.In) set_shape))

compare_of_is : (r : Rules) (at : ℕ) (t : AddTree) (j : Input) → g.compare_of r at t j ≡ and_then (compared r j) (λ o. pure (compare_at at t o))
unfolding g.compare_of g.related g.member
compare_of_is r at t j = simp steps

compare_is : (r : Rules) (i : Input) → g.compare r i ≡ mapped compare_to (placed (pair (g.add r) (compared r))) i
unfolding g.compare
compare_is r i = then_same (g.add r i) (λ t. g.compare_of r (place_at i) t) (λ t j. and_then (compared r j) (λ o. pure (compare_at (place_at i) t o))) (compare_of_is r (place_at i)) ∙ simp and_then_assoc

compare_layer_made : (x : OneCompare) → Made compare_to (roll-CompareTree x)
compare_layer_made (CompareTree-F.Single at t) = record { of = (at, (t, None)); is = sym (compares.rolls-Single at t) }
compare_layer_made (CompareTree-F.Related at t op u) = record { of = (at, (t, Some (inl (op, u)))); is = sym (compares.rolls-Related at t op u) }
compare_layer_made (CompareTree-F.Member at t u) = record { of = (at, (t, Some (inr (tt, u)))); is = sym (compares.rolls-Member at t u) }

compare_made : (t : CompareTree) → Made compare_to t
compare_made t = subst (Made compare_to) (roll-out-CompareTree t) (compare_layer_made (out-CompareTree t))

compare_spelt : (at : ℕ) (t : AddTree) (o : Option ((Relation × AddTree) ⊎ (Unit {0} × SetTree))) → marks_compare (compare_at at t o) ≡ mk.place at ∷ (marks_add t ++ compared_shape.marks o)
compare_spelt at t None = marks_compare-Single at t ∙ ap (λ ms. mk.place at ∷ ms) (sym (append-nil (marks_add t)))
compare_spelt at t (Some (inl c)) = marks_compare-Related at t c.0 c.1
compare_spelt at t (Some (inr c)) = marks_compare-Member at t c.1

post_of_compare_layer : (x : OneCompare) → post_of_compare (roll-CompareTree x) ≡ post_at_compare x
unfolding post_of_compare
post_of_compare_layer x = ap post_at_compare (out-roll-CompareTree x)

abbrev compare_view : {X : Type 0} → Option Bool → Option X → Bool
compare_view x None = is_some x
compare_view x (Some y) = false

post_kind_some : (o : Option PostTree) → is_some o ≡ is_some (post_kind o)
post_kind_some None = refl
post_kind_some (Some t) = refl

compare_tag : (at : ℕ) (t : AddTree) (o : Option ((Relation × AddTree) ⊎ (Unit {0} × SetTree))) → is_some (post_of_compare (compare_at at t o)) ≡ compare_view (post_kind (post_of_add t)) (compared_shape.tag o)
compare_tag at t None = ap (λ x. is_some (post_of_compare x)) (sym (compares.rolls-Single at t)) ∙ (ap is_some (post_of_compare_layer (CompareTree-F.Single at t)) ∙ post_kind_some (post_of_add t))
compare_tag at t (Some (inl c)) = ap (λ x. is_some (post_of_compare x)) (sym (compares.rolls-Related at t c.0 c.1)) ∙ ap is_some (post_of_compare_layer (CompareTree-F.Related at t c.0 c.1))
compare_tag at t (Some (inr c)) = ap (λ x. is_some (post_of_compare x)) (sym (compares.rolls-Member at t c.1)) ∙ ap is_some (post_of_compare_layer (CompareTree-F.Member at t c.1))

compared_begins : (a b : Bool) → (a || b) ≡ true → (a ≡ true) ⊎ (b ≡ true)
compared_begins true b h = inl refl
compared_begins false b h = inr h

compare_meets_either : (k : Option Kind) → (is_relation k ≡ true) ⊎ (is_word words.In k ≡ true) → Ends 3 k
compare_meets_either k (inl h) = let e = relation_ends k h in omega arith
compare_meets_either k (inr h) = word_ends words.In 3 (omega arith) k h

compare_meets : {X : Type 0} (k : Option Kind) → (any_of is_relation (is_word words.In) k ≡ true) ⊎ (X × Ends 3 k) → Ends 3 k
compare_meets k (inl h) = compare_meets_either k (compared_begins (is_relation k) (is_word words.In k) h)
compare_meets k (inr h) = h.1

compared_law : {n : ℕ} {r s : Rules} → RulesLaw n r s → Law n (compared r) (compared s) compared_shape
compared_law R = stricter_law (Ends 3) (options_law is_relation (is_word words.In) (pair_law (one_law relation_reads) (add_law R) (λ x k h. tt)) (pair_law (word_law words.In) (set_law R) (λ x k h. tt))
    (λ F k h. h) (λ F k h. h) (λ F k h. from_word words.In (λ l. is_some (through relation_of (sign_seen l)) ≡ false) k h refl))

compare_closes : (k : Option Kind) → Ends 5 k → compared_shape.closes k
compare_closes k h = (((omega arith, omega arith), or_false (is_relation k) (is_word words.In k) (no_relation k h) (no_word words.In 5 (λ e. omega (arith, e)) k h)), omega arith)

pub compare_law : {n : ℕ} {r s : Rules} → RulesLaw n r s → Law n (g.compare r) (g.compare s) compare_shape
compare_law {n} {r} {s} R = plain_law (placed_law (pair_law (add_law R) (compared_law R) (λ x k h. compare_meets k h))) compare_to (record {
  made = compare_made;
  marks = λ c. compare_spelt c.0 c.1.0 c.1.1;
  view = λ x. compare_view x.0 x.1;
  tag = λ c. compare_tag c.0 c.1.0 c.1.1;
  closes = compare_closes;
  begins = λ F k h. h;
}) (g.compare r) (g.compare s) (compare_is r) (compare_is s)

-- ---- not NEG

abbrev NegParts : Type 0
NegParts = (ℕ × (Unit {0} × NegTree)) ⊎ CompareTree

abbrev neg_to : NegParts → NegTree
neg_to (inl c) = negs.Not c.0 c.1.1
neg_to (inr t) = negs.Compare t

abbrev neg_read : Rules → Parser NegParts
neg_read r = either (is_word words.Not) (placed (opened (word_table words.Not) r.neg)) (g.compare r)

abbrev neg_parts : Shape NegParts
neg_parts = either_shape (placed_shape (opened_shape (λ u. mk.word words.Not) (word_first words.Not) neg_shape)) compare_shape

neg_is : (r : Rules) (i : Input) → g.neg r i ≡ mapped neg_to (neg_read r) i
unfolding g.neg g.negation
neg_is r i = simp steps

neg_layer_made : (x : OneNeg) → Made neg_to (roll-NegTree x)
neg_layer_made (NegTree-F.Not at t) = record { of = inl (at, (tt, t)); is = sym (negs.rolls-Not at t) }
neg_layer_made (NegTree-F.Compare t) = record { of = inr t; is = sym (negs.rolls-Compare t) }

neg_made : (t : NegTree) → Made neg_to t
neg_made t = subst (Made neg_to) (roll-out-NegTree t) (neg_layer_made (out-NegTree t))

neg_spelt : (c : NegParts) → marks_neg (neg_to c) ≡ neg_parts.marks c
neg_spelt (inl c) = marks_neg-Not c.0 c.1.1
neg_spelt (inr t) = marks_neg-Compare t

post_of_neg_layer : (x : OneNeg) → post_of_neg (roll-NegTree x) ≡ post_at_neg x
unfolding post_of_neg
post_of_neg_layer x = ap post_at_neg (out-roll-NegTree x)

abbrev neg_view : neg_parts.Tag → Bool
neg_view (inl x) = false
neg_view (inr b) = b

neg_tag : (c : NegParts) → is_some (post_of_neg (neg_to c)) ≡ neg_view (neg_parts.tag c)
neg_tag (inl c) = ap (λ x. is_some (post_of_neg x)) (sym (negs.rolls-Not c.0 c.1.1)) ∙ ap is_some (post_of_neg_layer (NegTree-F.Not c.0 c.1.1))
neg_tag (inr t) = ap (λ x. is_some (post_of_neg x)) (sym (negs.rolls-Compare t)) ∙ ap is_some (post_of_neg_layer (NegTree-F.Compare t))

pub neg_law : {n : ℕ} {r s : Rules} → RulesLaw n r s → Law n (g.neg r) (g.neg s) neg_shape
neg_law {n} {r} {s} R = plain_law
    (either_law (is_word words.Not) (placed_law (opened_law (word_reads words.Not) R.neg)) (compare_law R) (λ F k h. h) (λ F k h. add_not k h)) neg_to (record {
      made = neg_made;
      marks = neg_spelt;
      view = neg_view;
      tag = neg_tag;
      closes = λ k h. (h, h);
      begins = λ F k h. by_side (λ a. from_word words.Not (λ l. tables.begins sign_starts word_starts_expr l ≡ true) k a refl) (λ a. add_starts_expr k a) h;
    }) (g.neg r) (g.neg s) (neg_is r) (neg_is s)

-- ---- `&`, `\/`, `=>` and `<=>`

abbrev and_to : ℕ × (NegTree × List NegTree) → AndTree
and_to c = roll-AndTree (record { at = c.0; first = c.1.0; rest = c.1.1 })

and_is : (r : Rules) (i : Input) → g.and r i ≡ mapped and_to (placed (pair (g.neg r) (after_each signs.And (g.neg r)))) i
unfolding g.and
and_is r i = simp steps

post_of_and_is : (at : ℕ) (t : NegTree) (ts : List NegTree) → post_of_and (and_to (at, (t, ts))) ≡ alone ts (post_of_neg t)
unfolding post_of_and
post_of_and_is at t ts = ap (λ v. alone v.rest (post_of_neg v.first)) (out-roll-AndTree (record { at = at; first = t; rest = ts }))

and_meets : (k : Option Kind) → (is_sign signs.And k ≡ true) ⊎ (Ends 5 k × (is_sign signs.And k ≡ false)) → Ends 5 k
and_meets k (inl h) = sign_ends signs.And 5 (omega arith) k h
and_meets k (inr h) = h.0

pub and_law : {n : ℕ} {r s : Rules} → RulesLaw n r s → Law n (g.and r) (g.and s) and_shape
and_law {n} {r} {s} R = plain_law
    (placed_law (pair_law (neg_law R) (each_law signs.And (neg_law R) (sign_ends signs.And 5 (omega arith))) (λ x k h. and_meets k h)))
    and_to (record {
      made = λ t. record { of = ((out-AndTree t).at, ((out-AndTree t).first, (out-AndTree t).rest)); is = roll-out-AndTree t };
      marks = λ c. marks_and-of c.0 c.1.0 c.1.1;
      view = λ x. alone_kind x.1 x.0;
      tag = λ c. ap is_some (post_of_and_is c.0 c.1.0 c.1.1) ∙ alone_some (λ (t : NegTree). is_some (post_of_neg t)) c.1.1 (post_of_neg c.1.0);
      closes = λ k h. (omega arith, no_sign signs.And 6 (λ e. omega (arith, e)) k h);
      begins = λ F k h. h;
    }) (g.and r) (g.and s) (and_is r) (and_is s)

abbrev or_to : ℕ × (AndTree × List AndTree) → OrTree
or_to c = roll-OrTree (record { at = c.0; first = c.1.0; rest = c.1.1 })

or_is : (r : Rules) (i : Input) → g.or r i ≡ mapped or_to (placed (pair (g.and r) (after_each signs.Or (g.and r)))) i
unfolding g.or
or_is r i = simp steps

post_of_or_is : (at : ℕ) (t : AndTree) (ts : List AndTree) → post_of_or (or_to (at, (t, ts))) ≡ alone ts (post_of_and t)
unfolding post_of_or
post_of_or_is at t ts = ap (λ v. alone v.rest (post_of_and v.first)) (out-roll-OrTree (record { at = at; first = t; rest = ts }))

or_meets : (k : Option Kind) → (is_sign signs.Or k ≡ true) ⊎ (Ends 6 k × (is_sign signs.Or k ≡ false)) → Ends 6 k
or_meets k (inl h) = sign_ends signs.Or 6 (omega arith) k h
or_meets k (inr h) = h.0

pub or_law : {n : ℕ} {r s : Rules} → RulesLaw n r s → Law n (g.or r) (g.or s) or_shape
or_law {n} {r} {s} R = plain_law
    (placed_law (pair_law (and_law R) (each_law signs.Or (and_law R) (sign_ends signs.Or 6 (omega arith))) (λ x k h. or_meets k h)))
    or_to (record {
      made = λ t. record { of = ((out-OrTree t).at, ((out-OrTree t).first, (out-OrTree t).rest)); is = roll-out-OrTree t };
      marks = λ c. marks_or-of c.0 c.1.0 c.1.1;
      view = λ x. alone_kind x.1 x.0;
      tag = λ c. ap is_some (post_of_or_is c.0 c.1.0 c.1.1) ∙ alone_some (λ (t : AndTree). is_some (post_of_and t)) c.1.1 (post_of_and c.1.0);
      closes = λ k h. (omega arith, no_sign signs.Or 7 (λ e. omega (arith, e)) k h);
      begins = λ F k h. h;
    }) (g.or r) (g.or s) (or_is r) (or_is s)

abbrev conclusion_shape : Shape ImpTree
conclusion_shape = plain (λ t. mk.nested (mk.sign signs.Implies) (marks_imp t)) (Ends 8) (First (is_sign signs.Implies))

conclusion_is : (r : Rules) (i : Input) → g.conclusion r i ≡ mapped (λ (c : Unit {0} × ImpTree). c.1) (opened (sign_table signs.Implies) r.imp) i
unfolding g.conclusion
conclusion_is r i = simp (and_then_assoc, and_then_pure)

conclusion_law : {n : ℕ} {r s : Rules} → RulesLaw n r s → Law n (g.conclusion r) (g.conclusion s) conclusion_shape
conclusion_law {n} {r} {s} R = plain_law (opened_law (sign_reads signs.Implies) R.imp) (λ c. c.1) (record {
  made = λ t. record { of = (tt, t); is = refl };
  marks = λ c. refl;
  view = λ x. tt;
  tag = λ c. refl;
  closes = λ k h. h;
  begins = λ F k h. h;
}) (g.conclusion r) (g.conclusion s) (conclusion_is r) (conclusion_is s)

abbrev concluded : Shape (Option ImpTree)
concluded = stricter (Ends 7) (maybe_shape (is_sign signs.Implies) conclusion_shape)

abbrev imp_to : ℕ × (OrTree × Option ImpTree) → ImpTree
imp_to c = roll-ImpTree (record { at = c.0; premise = c.1.0; conclusion = c.1.1 })

imp_is : (r : Rules) (i : Input) → g.imp r i ≡ mapped imp_to (placed (pair (g.or r) (maybe (is_sign signs.Implies) (g.conclusion r)))) i
unfolding g.imp
imp_is r i = simp and_then_assoc

imp_meets : {X : Type 0} (k : Option Kind) → (is_sign signs.Implies k ≡ true) ⊎ (X × Ends 7 k) → Ends 7 k
imp_meets k (inl h) = sign_ends signs.Implies 7 (omega arith) k h
imp_meets k (inr h) = h.1

imp_spelt : (o : Option ImpTree) → mk.after_level (mk.sign signs.Implies) (option_map marks_imp o) ≡ concluded.marks o
imp_spelt None = refl
imp_spelt (Some t) = refl

post_of_imp_is : (at : ℕ) (t : OrTree) (o : Option ImpTree) → post_of_imp (imp_to (at, (t, o))) ≡ without o (post_of_or t)
unfolding post_of_imp
post_of_imp_is at t o = ap (λ v. without v.conclusion (post_of_or v.premise)) (out-roll-ImpTree (record { at = at; premise = t; conclusion = o }))

abbrev imp_view : {X : Type 0} → Bool → Option X → Bool
imp_view b None = b
imp_view b (Some y) = false

without_some : (o : Option ImpTree) (p : Option PostTree) → is_some (without o p) ≡ imp_view (is_some p) (concluded.tag o)
without_some None p = refl
without_some (Some t) p = refl

pub imp_law : {n : ℕ} {r s : Rules} → RulesLaw n r s → Law n (g.imp r) (g.imp s) imp_shape
imp_law {n} {r} {s} R = plain_law
    (placed_law (pair_law (or_law R) (stricter_law (Ends 7) (maybe_law (is_sign signs.Implies) (conclusion_law R) (λ F k h. h))) (λ x k h. imp_meets k h))) imp_to (record {
      made = λ t. record { of = ((out-ImpTree t).at, ((out-ImpTree t).premise, (out-ImpTree t).conclusion)); is = roll-out-ImpTree t };
      marks = λ c. marks_imp-of c.0 c.1.0 c.1.1 ∙ ap (λ ms. mk.place c.0 ∷ (marks_or c.1.0 ++ ms)) (imp_spelt c.1.1);
      view = λ x. imp_view x.0 x.1;
      tag = λ c. ap is_some (post_of_imp_is c.0 c.1.0 c.1.1) ∙ without_some c.1.1 (post_of_or c.1.0);
      closes = λ k h. ((h, no_sign signs.Implies 8 (λ e. omega (arith, e)) k h), omega arith);
      begins = λ F k h. h;
    }) (g.imp r) (g.imp s) (imp_is r) (imp_is s)

abbrev expr_to : ℕ × (ImpTree × List ImpTree) → ExprTree
expr_to c = roll-ExprTree (record { at = c.0; first = c.1.0; rest = c.1.1 })

expr_is : (r : Rules) (i : Input) → g.expr r i ≡ mapped expr_to (placed (pair (g.imp r) (after_each signs.Equivalent (g.imp r)))) i
unfolding g.expr
expr_is r i = simp steps

post_of_expr_is : (at : ℕ) (t : ImpTree) (ts : List ImpTree) → post_of (expr_to (at, (t, ts))) ≡ alone ts (post_of_imp t)
unfolding post_of
post_of_expr_is at t ts = ap (λ v. alone v.rest (post_of_imp v.first)) (out-roll-ExprTree (record { at = at; first = t; rest = ts }))

expr_meets : (k : Option Kind) → (is_sign signs.Equivalent k ≡ true) ⊎ (Ends 8 k × (is_sign signs.Equivalent k ≡ false)) → Ends 8 k
expr_meets k (inl h) = sign_ends signs.Equivalent 8 (omega arith) k h
expr_meets k (inr h) = h.0

pub expr_law : {n : ℕ} {r s : Rules} → RulesLaw n r s → Law n (g.expr r) (g.expr s) expr_shape
expr_law {n} {r} {s} R = plain_law
    (placed_law (pair_law (imp_law R) (each_law signs.Equivalent (imp_law R) (sign_ends signs.Equivalent 8 (omega arith))) (λ x k h. expr_meets k h)))
    expr_to (record {
      made = λ t. record { of = ((out-ExprTree t).at, ((out-ExprTree t).first, (out-ExprTree t).rest)); is = roll-out-ExprTree t };
      marks = λ c. marks_expr-of c.0 c.1.0 c.1.1;
      view = λ x. alone_kind x.1 x.0;
      tag = λ c. ap is_some (post_of_expr_is c.0 c.1.0 c.1.1) ∙ alone_some (λ (t : ImpTree). is_some (post_of_imp t)) c.1.1 (post_of_imp c.1.0);
      closes = λ k h. (omega arith, no_sign signs.Equivalent 9 (λ e. omega (arith, e)) k h);
      begins = λ F k h. h;
    }) (g.expr r) (g.expr s) (expr_is r) (expr_is s)
