-- Forms that are made are sound, and within the limits of depth and nodes.
use Rattle.std.proofs.Common.{◌≡◌, ℕ, zero, suc, ◌+◌, ◌*◌, ◌^◌, ◌<◌, ◌≤◌, max, ℤ, pos, ◌-ℤ◌, ◌*ℤ◌, neg_ℤ, Bool, true, false, cond, not, ◌&&◌, ◌||◌, nat_lt, nat_le, int_div, length, slice_get, unsigned_abs, List, [], ◌∷◌, ◌++◌, map, Option, None, Some, Ok, Err, refl, sym, ap, subst, ◌∙◌, arith}
use Rattle.std.specs.List.{list_all, list_any}
use Rattle.std.specs.Ordering.{int_eq}
use Rattle.std.proofs.lemmas.Bool.{and_parts}
use Rattle.opl_tree.specs.declared.expression.AggregateOp.{AggregateOp}
use Rattle.opl_tree.specs.declared.expression.AggregateOp.TheVariants.{Sum, Product, Min, Max}
use Rattle.opl_tree.specs.declared.expression.Relation.{Relation}
use Rattle.opl_value.specs.declared.value.Value.{Value}
use Rattle.opl_value.specs.declared.value.Value.TheVariants as values
use Rattle.opl_value.specs.Places.{place_of, value_at}
use Rattle.opl_eval.specs.declared.fault.EvalFault.TheVariants.{DivByZero, OutOfIndex}
use Rattle.opl_eval.specs.Arithmetic as arithmetic
use Rattle.opl_eval.specs.Arithmetic.{applied, run, then}
use Rattle.opl_eval.specs.Compare as compare
use Rattle.opl_eval.specs.Compare.{number_layer, rank, rank_layer}
use Rattle.opl_eval.specs.Evaluation as evaluation
use Rattle.opl_eval.specs.Evaluation.{Found, integer, is_true}
use Rattle.opl_meaning.specs.declared.variable.Kind.{Kind}
use Rattle.opl_meaning.specs.declared.variable.Kind.TheVariants.{Number, Enumeration}
use Rattle.opl_draft.specs.Drafts.{Cells, Draft, Drafts, Leaves, Sign, Steps}
use Rattle.opl_draft.specs.Drafts.Drafts.{no_drafts, more_drafts}
use Rattle.opl_draft.specs.Drafts.Leaves.{listed, numbered}
use Rattle.opl_draft.specs.Drafts.Sign.{plus, minus, times, quotient, remainder}
use Rattle.opl_draft.specs.Drafts.Steps.{no_steps, more_steps}
use Rattle.opl_expr.specs.declared.forms.Cons.{Cons}
use Rattle.opl_expr.specs.declared.forms.Cons.TheVariants as C
use Rattle.opl_expr.specs.declared.forms.Expr.{Expr}
use Rattle.opl_expr.specs.declared.forms.Expr.TheVariants as E
use Rattle.opl_expr.specs.declared.forms.Op.{Op}
use Rattle.opl_expr.specs.declared.forms.Op.TheVariants.{Eq, Ne, Lt, Le, Gt, Ge}
use Rattle.opl_expr.specs.Forms as forms
use Rattle.opl_expr.specs.Forms.{Term, Terms, Fact, Facts, constant_value, product_by, term, fact, terms_of, facts_of}
use Rattle.opl_expr.specs.Forms.Relation.{equal}
use Rattle.opl_expr.specs.Options.{lift1}
use Rattle.opl_expr.specs.Sound.{AreSoundFacts, FitDimensions, IsSmall, IsSoundFact, IsSoundTable, IsSoundTerm, greatest_abs, is_there, table_magnitude, term_magnitude}
use Rattle.opl_expr.proofs.Plain.{term_Abs, term_At, term_Const, term_Div, term_Max, term_Min, term_Mul, term_Neg, term_Rem, term_Sum, term_Var, fact_AllDifferent, fact_And, fact_Iff, fact_Imp, fact_Not, fact_Or}
use Rattle.opl_form.specs.Parts.{Form, Sort, all_known, are_indices, as_condition, as_number, indices_of, leaves, nothing, number_cells, of_kind, ranked, subscripts_fit, table_of, tables, variables, with_value}
use Rattle.opl_form.specs.Parts as parts
use Rattle.opl_form.specs.Parts.Form.{known, number, name, condition, truth}
use Rattle.opl_form.specs.Parts.Sort.{whole, named, other}
use Rattle.opl_form.specs.Measures.{depth, depth_of, greatest, nodes, nodes_of, part_depth, part_nodes}
use Rattle.opl_form.specs.Nodes as making
use Rattle.opl_form.specs.Nodes.{Made, Parts, absolute, aggregated, all_differ, are_alike, as_operand, by_kind, by_sign, chain_of, chained, compared, condition_node, counted, different, divided, element_at, element_node, element_sort, evaluated, folded, greatest_of, implied, indexed, is_zero, known_node, least, left_over, looked_up, multiplied, negated, next, number_node, number_part, op_of, operand, opposite, parts_nodes, placed, product, product_from, size, sized, stepped, summed, truth_part, two_greatest, unless_zero, value_node, variable_sort, variable_sorts, with_indices}
use Rattle.opl_form.specs.Made.{array_of, made, made_all, made_first, made_operands, made_same, made_steps, place, places}
use Rattle.opl_form.specs.Worth.{plain, plain_fact}
use Rattle.opl_form.proofs.Nodes.{next-made, ok-same, sized-made}
use Rattle.opl_form.proofs.Nodes as proved
use Rattle.opl_form.proofs.SoundParts.{AreSound, IsSoundPart, all-sound, as_condition-sound, as_number-sound, cmp-sound, conditions-sound, differ-sound, known-small, nothing-cmp, numbers-sound, ranked-sound, ranks-sound}
use Rattle.opl_form.proofs.SoundValues.{AreSmallValues, IsSmallValue, SmallFound, bool-small, chain-result, divided-result, greatest-result, integer-small, le-out, least-result, lt-out, max-small, one-small, sized-result, small-Bool, small-Int, small-rank, sum-result}
use Rattle.opl_form.proofs.Tables.{get-map}

-- what a test lets through
counted-within : (item n d more : ℕ) (g h : Form) → counted item n d more g ≡ Ok h → (g ≡ h) × (d ≤ 2048) × (n + more ≤ 4194304)
counted-within item n d more g h e = by (nat_le d 2048) (nat_le (n + more) 4194304) refl refl e
  where
    by : (b c : Bool) → nat_le d 2048 ≡ b → nat_le (n + more) 4194304 ≡ c → cond b (cond c (Ok g) (Err (making.Fault.many item))) (Err (making.Fault.deep item)) ≡ Ok h → (g ≡ h) × (d ≤ 2048) × (n + more ≤ 4194304)
    by true true p q e = (ok-same g h e, le-out d 2048 p, le-out (n + more) 4194304 q)
    by true false p q e = absurd (cc)
    by false c p q e = absurd (cc)

-- a part behind n nodes is within the limits
abbrev pub IsWithin : ℕ → Form → Type 0
IsWithin n g = (part_depth g ≤ 2048) × (n + part_nodes g ≤ 4194304)

module _ (sets : List (ℤ × ℤ)) (arrays : List Cells) (item : ℕ) where
  -- a sound part behind n nodes
  abbrev pub IsFine : ℕ → Form → Type 0
  IsFine n g = IsSoundPart sets arrays g × IsWithin n g

  -- ---- nodes

  known-fine : (n : ℕ) (v : Value) (g : Form) → IsSmallValue v → known_node item n v ≡ Ok g → IsFine n g
  known-fine n v g s e = let p = counted-within item n 1 1 (known v) g e in subst (IsFine n) p.0 (s, (p.1, p.2))

  folded-fine : (n : ℕ) (gs : List Form) (come : List Value → Found Value) (node : Made Form) (g : Form) → AreSound sets arrays gs → folded item n (all_known gs) come node ≡ Ok g →
      ((vs : List Value) → AreSmallValues vs → SmallFound (come vs)) → (node ≡ Ok g → IsFine n g) → IsFine n g
  folded-fine n gs come node g s e k m = by (all_known gs) refl e
    where
      found : (vs : List Value) (r : Found Value) → all_known gs ≡ Some vs → come vs ≡ r → evaluated item n r ≡ Ok g → IsFine n g
      found vs (Ok v) a q h = known-fine n v g (k vs (known-small sets arrays gs vs s a) v q) h
      found vs (Err fault) a q h = absurd (cc)

      by : (o : Option (List Value)) → all_known gs ≡ o → folded item n o come node ≡ Ok g → IsFine n g
      by None a h = m h
      by (Some vs) a h = found vs (come vs) a refl h

  number-fine : (at n : ℕ) (e : Expr) (g : Form) → number_node sets arrays item at n e ≡ Ok g → (IsSmall (size sets arrays e) → IsSoundTerm sets (plain arrays e)) → IsFine n g
  number-fine at n e g h k =
      let p = sized-made at (size sets arrays e) (counted item n (depth e) (nodes e) (number e)) g h in
      let q = counted-within item n (depth e) (nodes e) (number e) g p.1 in
      subst (IsFine n) q.0 (k (lt-out (size sets arrays e) (2 ^ 127) p.0), (q.1, q.2))

  -- a node whose plain form is this
  node-fine : (at n : ℕ) (e : Expr) (t : Term) (g : Form) → plain arrays e ≡ t → (IsSmall (term_magnitude sets t) → IsSoundTerm sets t) → number_node sets arrays item at n e ≡ Ok g → IsFine n g
  node-fine at n e t g p k h = number-fine at n e g h (λ m. subst (IsSoundTerm sets) (sym p) (k (subst (λ t. IsSmall (term_magnitude sets t)) p m)))

  condition-fine : (n : ℕ) (c : Cons) (g : Form) → condition_node item n c ≡ Ok g → IsSoundFact sets (plain_fact arrays c) → IsFine n g
  condition-fine n c g h k = let q = counted-within item n (depth_of c) (nodes_of c) (condition c) g h in subst (IsFine n) q.0 (k, (q.1, q.2))

  -- a node whose plain form is this
  fact-fine : (n : ℕ) (c : Cons) (f : Fact) (g : Form) → plain_fact arrays c ≡ f → IsSoundFact sets f → condition_node item n c ≡ Ok g → IsFine n g
  fact-fine n c f g p k h = condition-fine n c g h (subst (IsSoundFact sets) (sym p) k)

  -- ---- truths

  bools-small : (test : List Value → Bool) (vs : List Value) → AreSmallValues vs → SmallFound (Ok (values.Bool (test vs)))
  bools-small test vs s = bool-small (test vs)

  one_holds-fine : (n : ℕ) (gs : List Form) (k : Form) → AreSound sets arrays gs → making.one_holds item n gs ≡ Ok k → IsFine n k
  one_holds-fine n gs k a e =
      folded-fine n gs (λ vs. Ok (values.Bool (list_any is_true vs))) (condition_node item n (C.Or (map as_condition gs))) k a e (bools-small (list_any is_true))
      (fact-fine n (C.Or (map as_condition gs)) (Fact.or (facts_of (map (plain_fact arrays) (map as_condition gs)))) k (fact_Or (tables arrays) [] (map as_condition gs)) (conditions-sound sets arrays gs a))

  all_hold-fine : (n : ℕ) (gs : List Form) (k : Form) → AreSound sets arrays gs → making.all_hold item n gs ≡ Ok k → IsFine n k
  all_hold-fine n gs k a e =
      folded-fine n gs (λ vs. Ok (values.Bool (list_all is_true vs))) (condition_node item n (C.And (map as_condition gs))) k a e (bools-small (list_all is_true))
      (fact-fine n (C.And (map as_condition gs)) (Fact.and (facts_of (map (plain_fact arrays) (map as_condition gs)))) k (fact_And (tables arrays) [] (map as_condition gs)) (conditions-sound sets arrays gs a))

  implied-fine : (n : ℕ) (g h k : Form) → IsSoundPart sets arrays g → IsSoundPart sets arrays h → implied item n g h ≡ Ok k → IsFine n k
  implied-fine n g h k a b e =
      let test : List Value → Bool = λ vs. not (is_true (value_at vs 0)) || is_true (value_at vs 1) in
      folded-fine n (g ∷ h ∷ []) (λ vs. Ok (values.Bool (test vs))) (condition_node item n (C.Imp (as_condition g) (as_condition h))) k (a, (b, tt)) e (bools-small test)
      (λ m. condition-fine n (C.Imp (as_condition g) (as_condition h)) k m (subst (IsSoundFact sets) (sym (fact_Imp (tables arrays) [] (as_condition g) (as_condition h))) (as_condition-sound sets arrays g a, (as_condition-sound sets arrays h b, tt))))

  same-fine : (n : ℕ) (g h k : Form) → IsSoundPart sets arrays g → IsSoundPart sets arrays h → making.same item n g h ≡ Ok k → IsFine n k
  same-fine n g h k a b e =
      let test : List Value → Bool = λ vs. evaluation.same (is_true (value_at vs 0)) (is_true (value_at vs 1)) in
      folded-fine n (g ∷ h ∷ []) (λ vs. Ok (values.Bool (test vs))) (condition_node item n (C.Iff (as_condition g) (as_condition h))) k (a, (b, tt)) e (bools-small test)
      (λ m. condition-fine n (C.Iff (as_condition g) (as_condition h)) k m (subst (IsSoundFact sets) (sym (fact_Iff (tables arrays) [] (as_condition g) (as_condition h))) (as_condition-sound sets arrays g a, as_condition-sound sets arrays h b)))

  opposite-fine : (n : ℕ) (g k : Form) → IsSoundPart sets arrays g → opposite item n g ≡ Ok k → IsFine n k
  opposite-fine n g k a e =
      let test : List Value → Bool = λ vs. not (is_true (value_at vs 0)) in
      folded-fine n (g ∷ []) (λ vs. Ok (values.Bool (test vs))) (condition_node item n (C.Not (as_condition g))) k (a, tt) e (bools-small test)
      (λ m. condition-fine n (C.Not (as_condition g)) k m (subst (IsSoundFact sets) (sym (fact_Not (tables arrays) [] (as_condition g))) (as_condition-sound sets arrays g a)))

  pub truth_part-fine : (n : ℕ) (g k : Form) → IsFine n g → truth_part item n g ≡ Ok k → IsFine n k
  truth_part-fine n (known v) k f e = subst (IsFine n) (ok-same (known (values.Bool (is_true v))) k e) (small-Bool (is_true v), f.1)
  truth_part-fine n (condition c) k f e = subst (IsFine n) (ok-same (condition c) k e) f
  truth_part-fine n (number x) k f e = condition-fine n (as_condition (number x)) k e (as_condition-sound sets arrays (number x) f.0)
  truth_part-fine n (name d x) k f e = condition-fine n (as_condition (name d x)) k e (as_condition-sound sets arrays (name d x) f.0)
  truth_part-fine n (truth c) k f e = condition-fine n (as_condition (truth c)) k e (as_condition-sound sets arrays (truth c) f.0)

  operand-fine : (at n : ℕ) (g k : Form) → IsFine n g → operand item at n g ≡ Ok k → IsFine n k
  operand-fine at n (known v) k f e = subst (IsFine n) (ok-same (known v) k e) f
  operand-fine at n (number x) k f e = subst (IsFine n) (ok-same (number x) k e) f
  operand-fine at n (name d x) k f e = subst (IsFine n) (ok-same (name d x) k e) f
  operand-fine at n (truth c) k f e = subst (IsFine n) (ok-same (truth c) k e) f
  operand-fine at n (condition c) k f e =
      let p = sized-made at 1 (counted item n (suc (depth_of c)) (suc (nodes_of c)) (truth c)) k e in
      let q = counted-within item n (suc (depth_of c)) (suc (nodes_of c)) (truth c) k p.1 in
      subst (IsFine n) q.0 (f.0, (q.1, q.2))

  value-fine : (at n : ℕ) (v : Value) (g : Form) → value_node item at n v ≡ Ok g → IsFine n g
  value-fine at n v g e =
      let p = sized-made at (unsigned_abs (rank v)) (known_node item n v) g e in
      known-fine n v g (small-rank v (lt-out (unsigned_abs (rank v)) (2 ^ 127) p.0)) p.1

  -- ---- numbers

  number_part-fine : (at n : ℕ) (g k : Form) → IsFine n g → number_part sets arrays item at n g ≡ Ok k → IsFine n k
  number_part-fine at n (known v) k f e = subst (IsFine n) (ok-same (known (values.Int (compare.number v))) k e) (small-Int (compare.number v) f.0.0, f.1)
  number_part-fine at n (number x) k f e = subst (IsFine n) (ok-same (number x) k e) f
  number_part-fine at n (name d x) k f e = number-fine at n (as_number (name d x)) k e (λ m. as_number-sound sets arrays (name d x) f.0)
  number_part-fine at n (condition c) k f e = number-fine at n (as_number (condition c)) k e (λ m. as_number-sound sets arrays (condition c) f.0)
  number_part-fine at n (truth c) k f e = number-fine at n (as_number (truth c)) k e (λ m. as_number-sound sets arrays (truth c) f.0)

  sum-fine : (at n : ℕ) (gs : List Form) (come : List Value → Found Value) (k : Form) → AreSound sets arrays gs → ((vs : List Value) → AreSmallValues vs → SmallFound (come vs)) →
      folded item n (all_known gs) come (number_node sets arrays item at n (E.Sum (map as_number gs))) ≡ Ok k → IsFine n k
  sum-fine at n gs come k a small e =
      folded-fine n gs come (number_node sets arrays item at n (E.Sum (map as_number gs))) k a e small
      (node-fine at n (E.Sum (map as_number gs)) (Term.sum (terms_of (map (plain arrays) (map as_number gs)))) k (term_Sum (tables arrays) [] (map as_number gs)) (λ m. (m, numbers-sound sets arrays gs a)))

  summed-fine : (at n : ℕ) (gs : List Form) (k : Form) → AreSound sets arrays gs → summed sets arrays item at n gs ≡ Ok k → IsFine n k
  summed-fine at n gs k a e = sum-fine at n gs (λ vs. integer (arithmetic.sum at (map compare.number vs))) k a (λ vs s. sum-result at vs) e

  chained-fine : (at n : ℕ) (g : Form) (hs : List Form) (k : Form) → IsFine n g → AreSound sets arrays hs → chained sets arrays item at n g hs ≡ Ok k → IsFine n k
  chained-fine at n g [] k f a e = number_part-fine at n g k f e
  chained-fine at n g (h ∷ hs) k f a e = sum-fine at n (g ∷ h ∷ hs) (chain_of at) k (f.0, a) (λ vs s. chain-result at vs s) e

  negated-fine : (at n : ℕ) (g k : Form) → IsSoundPart sets arrays g → negated sets arrays item at n g ≡ Ok k → IsFine n k
  negated-fine at n g k a e =
      folded-fine n (g ∷ []) (λ vs. integer (arithmetic.negative at (compare.number (value_at vs 0)))) (number_node sets arrays item at n (E.Neg (as_number g))) k (a, tt) e
      (λ vs s. integer-small (arithmetic.negative at (compare.number (value_at vs 0))) (sized-result at (neg_ℤ (compare.number (value_at vs 0)))))
      (node-fine at n (E.Neg (as_number g)) (Term.neg (plain arrays (as_number g))) k (term_Neg (tables arrays) [] (as_number g)) (λ m. (m, as_number-sound sets arrays g a)))

  absolute-fine : (at n : ℕ) (g k : Form) → IsSoundPart sets arrays g → absolute sets arrays item at n g ≡ Ok k → IsFine n k
  absolute-fine at n g k a e =
      folded-fine n (g ∷ []) (λ vs. integer (arithmetic.absolute at (compare.number (value_at vs 0)))) (number_node sets arrays item at n (E.Abs (as_number g))) k (a, tt) e
      (λ vs s. integer-small (arithmetic.absolute at (compare.number (value_at vs 0))) (sized-result at (pos (unsigned_abs (compare.number (value_at vs 0))))))
      (node-fine at n (E.Abs (as_number g)) (Term.abs (plain arrays (as_number g))) k (term_Abs (tables arrays) [] (as_number g)) (λ m. as_number-sound sets arrays g a))

  product-sound : (c d : Option ℤ) (s t : Term) → ((k : ℤ) → c ≡ Some k → s ≡ Term.const k) → ((k : ℤ) → d ≡ Some k → t ≡ Term.const k) → IsSmall (term_magnitude sets (product_by c d s t)) → IsSoundTerm sets s → IsSoundTerm sets t → IsSoundTerm sets (product_by c d s t)
  product-sound (Some k) d s t h i small a b = (small, subst (IsSoundTerm sets) (h k refl) a, b)
  product-sound None (Some k) s t h i small a b = (small, subst (IsSoundTerm sets) (i k refl) b, a)
  product-sound None None s t h i small a b = (max-small (term_magnitude sets s * term_magnitude sets t) small, a, b)

  is-constant : (t : Term) (k : ℤ) → constant_value t ≡ Some k → t ≡ Term.const k
  is-constant (Term.const j) k h = ap (λ k. Term.const k) (proved.some-same j k h)
  is-constant t k h = absurd (cc)

  multiplied-fine : (at n : ℕ) (g h k : Form) → IsSoundPart sets arrays g → IsSoundPart sets arrays h → multiplied sets arrays item at n g h ≡ Ok k → IsFine n k
  multiplied-fine at n g h k a b e =
      let s : Term = plain arrays (as_number g) in
      let t : Term = plain arrays (as_number h) in
      folded-fine n (g ∷ h ∷ []) (λ vs. integer (arithmetic.times at (compare.number (value_at vs 0)) (compare.number (value_at vs 1)))) (number_node sets arrays item at n (E.Mul (as_number g) (as_number h))) k (a, (b, tt)) e
      (λ vs small. integer-small (arithmetic.times at (compare.number (value_at vs 0)) (compare.number (value_at vs 1))) (sized-result at (compare.number (value_at vs 0) *ℤ compare.number (value_at vs 1))))
      (node-fine at n (E.Mul (as_number g) (as_number h)) (forms.product s t) k (term_Mul (tables arrays) [] (as_number g) (as_number h))
      (λ m. product-sound (constant_value s) (constant_value t) s t (is-constant s) (is-constant t) m (as_number-sound sets arrays g a) (as_number-sound sets arrays h b)))

  -- not zero, so it was folded or made
  past-zero : (at : ℕ) (g : Form) (q : Made Form) (k : Form) → unless_zero at g q ≡ Ok k → q ≡ Ok k
  past-zero at g q k = by (is_zero g)
    where
      by : (b : Bool) → cond b (Err (making.Fault.eval (DivByZero at))) q ≡ Ok k → q ≡ Ok k
      by true h = absurd (cc)
      by false h = h

  divided-fine : (at n : ℕ) (g h k : Form) → IsSoundPart sets arrays g → IsSoundPart sets arrays h → divided sets arrays item at n g h ≡ Ok k → IsFine n k
  divided-fine at n g h k a b e =
      let come : List Value → Found Value = λ vs. integer (arithmetic.quotient at (compare.number (value_at vs 0)) (compare.number (value_at vs 1))) in
      let node : Made Form = number_node sets arrays item at n (E.Div (as_number g) (as_number h)) in
      folded-fine n (g ∷ h ∷ []) come node k (a, (b, tt)) (past-zero at h (folded item n (all_known (g ∷ h ∷ [])) come node) k e)
      (λ vs small. integer-small (arithmetic.quotient at (compare.number (value_at vs 0)) (compare.number (value_at vs 1)))
      (divided-result (int_eq (compare.number (value_at vs 1)) (pos 0)) at (arithmetic.sized at (int_div (compare.number (value_at vs 0)) (compare.number (value_at vs 1)))) (sized-result at (int_div (compare.number (value_at vs 0)) (compare.number (value_at vs 1))))))
      (node-fine at n (E.Div (as_number g) (as_number h)) (Term.div (plain arrays (as_number g)) (plain arrays (as_number h))) k (term_Div (tables arrays) [] (as_number g) (as_number h))
      (λ m. (as_number-sound sets arrays g a, as_number-sound sets arrays h b)))

  left_over-fine : (at n : ℕ) (g h k : Form) → IsSoundPart sets arrays g → IsSoundPart sets arrays h → left_over sets arrays item at n g h ≡ Ok k → IsFine n k
  left_over-fine at n g h k a b e =
      let come : List Value → Found Value = λ vs. integer (arithmetic.remainder at (compare.number (value_at vs 0)) (compare.number (value_at vs 1))) in
      let node : Made Form = number_node sets arrays item at n (E.Rem (as_number g) (as_number h)) in
      folded-fine n (g ∷ h ∷ []) come node k (a, (b, tt)) (past-zero at h (folded item n (all_known (g ∷ h ∷ [])) come node) k e)
      (λ vs small.
      let x : ℤ = compare.number (value_at vs 0) in
      let y : ℤ = compare.number (value_at vs 1) in
      integer-small (arithmetic.remainder at x y) (divided-result (int_eq y (pos 0)) at (arithmetic.sized at (x -ℤ y *ℤ int_div x y)) (sized-result at (x -ℤ y *ℤ int_div x y))))
      (node-fine at n (E.Rem (as_number g) (as_number h)) (Term.rem (plain arrays (as_number g)) (plain arrays (as_number h))) k (term_Rem (tables arrays) [] (as_number g) (as_number h))
      (λ m. (as_number-sound sets arrays g a, as_number-sound sets arrays h b)))

  -- the first part is fine, the others are sound
  abbrev pub AreFine : ℕ → List Form → Type 0
  AreFine n [] = Unit {0}
  AreFine n (g ∷ gs) = IsFine n g × AreSound sets arrays gs

  pub fine-sound : (n : ℕ) (gs : List Form) → AreFine n gs → AreSound sets arrays gs
  fine-sound n [] f = tt
  fine-sound n (g ∷ gs) f = (f.0.0, f.1)

  from-fine : (at n : ℕ) (g : Form) (hs : List Form) (k : Form) → IsFine n g → AreSound sets arrays hs → product_from sets arrays item at n g hs ≡ Ok k → IsFine n k
  from-fine at n g [] k f a e = number_part-fine at n g k f e
  from-fine at n g (h ∷ hs) k f a e =
      let p = next-made (multiplied sets arrays item at n g h) (λ m. product_from sets arrays item at n m hs) k e in
      from-fine at n p.0 hs k (multiplied-fine at n g h p.0 f.0 a.0 p.1) a.1 p.2

  product-fine : (at n : ℕ) (gs : List Form) (k : Form) → AreFine n gs → product sets arrays item at n gs ≡ Ok k → IsFine n k
  product-fine at n [] k f e = known-fine n (values.Int (pos 1)) k (small-Int (pos 1) one-small) e
  product-fine at n (g ∷ gs) k f e = from-fine at n g gs k f.0 f.1 e

  least-fine : (at n : ℕ) (gs : List Form) (k : Form) → AreSound sets arrays gs → least sets arrays item at n gs ≡ Ok k → IsFine n k
  least-fine at n [] k a e = absurd (cc)
  least-fine at n (g ∷ gs) k a e =
      folded-fine n (g ∷ gs) (λ vs. integer (arithmetic.least at (map compare.number vs))) (number_node sets arrays item at n (E.Min (map as_number (g ∷ gs)))) k a e (λ vs s. least-result at vs s)
      (node-fine at n (E.Min (map as_number (g ∷ gs))) (Term.least (terms_of (map (plain arrays) (map as_number (g ∷ gs))))) k (term_Min (tables arrays) [] (map as_number (g ∷ gs))) (λ m. (tt, numbers-sound sets arrays (g ∷ gs) a)))

  greatest-fine : (at n : ℕ) (gs : List Form) (k : Form) → AreSound sets arrays gs → greatest_of sets arrays item at n gs ≡ Ok k → IsFine n k
  greatest-fine at n [] k a e = absurd (cc)
  greatest-fine at n (g ∷ gs) k a e =
      folded-fine n (g ∷ gs) (λ vs. integer (arithmetic.greatest at (map compare.number vs))) (number_node sets arrays item at n (E.Max (map as_number (g ∷ gs)))) k a e (λ vs s. greatest-result at vs s)
      (node-fine at n (E.Max (map as_number (g ∷ gs))) (Term.greatest (terms_of (map (plain arrays) (map as_number (g ∷ gs))))) k (term_Max (tables arrays) [] (map as_number (g ∷ gs))) (λ m. (tt, numbers-sound sets arrays (g ∷ gs) a)))

  aggregated-fine : (op : AggregateOp) (at n : ℕ) (gs : List Form) (k : Form) → AreFine n gs → aggregated sets arrays item op at n gs ≡ Ok k → IsFine n k
  aggregated-fine Sum at n gs k f e = summed-fine at n gs k (fine-sound n gs f) e
  aggregated-fine Product at n gs k f e = product-fine at n gs k f e
  aggregated-fine Min at n gs k f e = least-fine at n gs k (fine-sound n gs f) e
  aggregated-fine Max at n gs k f e = greatest-fine at n gs k (fine-sound n gs f) e

  -- ---- steps of chains

  sound-last : (hs : List Form) (g : Form) → AreSound sets arrays hs → IsSoundPart sets arrays g → AreSound sets arrays (hs ++ g ∷ [])
  sound-last [] g a b = (b, tt)
  sound-last (h ∷ hs) g a b = (a.0, sound-last hs g a.1 b)

  abbrev FineParts : ℕ → Form × List Form → Type 0
  FineParts n ps = IsFine n ps.0 × AreSound sets arrays ps.1

  by_sign-fine : (sign : Sign) (at n : ℕ) (g h k : Form) → IsSoundPart sets arrays g → IsSoundPart sets arrays h → by_sign sets arrays item sign at n g h ≡ Ok k → IsFine n k
  by_sign-fine quotient at n g h k a b e = divided-fine at n g h k a b e
  by_sign-fine remainder at n g h k a b e = left_over-fine at n g h k a b e
  by_sign-fine plus at n g h k a b e = multiplied-fine at n g h k a b e
  by_sign-fine minus at n g h k a b e = multiplied-fine at n g h k a b e
  by_sign-fine times at n g h k a b e = multiplied-fine at n g h k a b e

  other-fine : (sign : Sign) (at n : ℕ) (ps qs : Form × List Form) (g : Form) → FineParts n ps → IsSoundPart sets arrays g →
      next (chained sets arrays item at n ps.0 ps.1) (λ a. next (by_sign sets arrays item sign at n a g) (λ h. Ok (h, []))) ≡ Ok qs → FineParts n qs
  other-fine sign at n ps qs g f s e =
      let c = next-made (chained sets arrays item at n ps.0 ps.1) (λ a. next (by_sign sets arrays item sign at n a g) (λ h. Ok (h, []))) qs e in
      let d = next-made (by_sign sets arrays item sign at n c.0 g) (λ h. Ok (h, [])) qs c.2 in
      subst (FineParts n) (ok-same (d.0, []) qs d.2) (by_sign-fine sign at n c.0 g d.0 (chained-fine at n ps.0 ps.1 c.0 f.0 f.1 c.1).0 s d.1, tt)

  stepped-fine : (sign : Sign) (at own n : ℕ) (ps qs : Form × List Form) (g : Form) → FineParts n ps → IsSoundPart sets arrays g → stepped sets arrays item sign at own n ps g ≡ Ok qs → FineParts n qs
  stepped-fine plus at own n ps qs g f s e = subst (FineParts n) (ok-same (ps.0, ps.1 ++ g ∷ []) qs e) (f.0, sound-last ps.1 g f.1 s)
  stepped-fine minus at own n ps qs g f s e =
      let m : ℕ = n + parts_nodes ps in
      let c = next-made (negated sets arrays item own m g) (λ h. Ok (ps.0, ps.1 ++ h ∷ [])) qs e in
      subst (FineParts n) (ok-same (ps.0, ps.1 ++ c.0 ∷ []) qs c.2) (f.0, sound-last ps.1 c.0 f.1 (negated-fine own m g c.0 s c.1).0)
  stepped-fine times at own n ps qs g f s e = other-fine times at n ps qs g f s e
  stepped-fine quotient at own n ps qs g f s e = other-fine quotient at n ps qs g f s e
  stepped-fine remainder at own n ps qs g f s e = other-fine remainder at n ps qs g f s e

  -- ---- comparisons

  and-sound : (cs : List Cons) → AreSoundFacts sets (facts_of (map (plain_fact arrays) cs)) → IsSoundFact sets (plain_fact arrays (C.And cs))
  and-sound cs h = subst (IsSoundFact sets) (sym (fact_And (tables arrays) [] cs)) h

  by_kind-sound : (b : Bool) (op : Op) (e f : Expr) → IsSmall (size sets arrays e + size sets arrays f) → IsSoundTerm sets (plain arrays e) → IsSoundTerm sets (plain arrays f) → IsSoundFact sets (plain_fact arrays (by_kind b op e f))
  by_kind-sound true op e f h a b = cmp-sound sets arrays op e f h a b
  by_kind-sound false Eq e f h a b = and-sound (C.Cmp Ne (nothing e) (nothing e) ∷ C.Cmp Ne (nothing f) (nothing f) ∷ []) (nothing-cmp sets arrays Ne e a, (nothing-cmp sets arrays Ne f b, tt))
  by_kind-sound false Ne e f h a b = and-sound (C.Cmp Eq (nothing e) (nothing e) ∷ C.Cmp Eq (nothing f) (nothing f) ∷ []) (nothing-cmp sets arrays Eq e a, (nothing-cmp sets arrays Eq f b, tt))
  by_kind-sound false Lt e f h a b = cmp-sound sets arrays Lt e f h a b
  by_kind-sound false Le e f h a b = cmp-sound sets arrays Le e f h a b
  by_kind-sound false Gt e f h a b = cmp-sound sets arrays Gt e f h a b
  by_kind-sound false Ge e f h a b = cmp-sound sets arrays Ge e f h a b

  compared-fine : (at n : ℕ) (r : Relation) (g h k : Form) → IsSoundPart sets arrays g → IsSoundPart sets arrays h → compared sets arrays item at n r g h ≡ Ok k → IsFine n k
  compared-fine at n r g h k a b e =
      let m : ℕ = size sets arrays (ranked g) + size sets arrays (ranked h) in
      let c : Cons = by_kind (parts.alike (parts.sort_of g) (parts.sort_of h)) (op_of r) (ranked g) (ranked h) in
      let test : List Value → Bool = λ vs. compare.relates r (value_at vs 0) (value_at vs 1) in
      folded-fine n (g ∷ h ∷ []) (λ vs. Ok (values.Bool (test vs))) (sized at m (condition_node item n c)) k (a, (b, tt)) e (bools-small test)
      (λ j. let p = sized-made at m (condition_node item n c) k j in
      condition-fine n c k p.1 (by_kind-sound (parts.alike (parts.sort_of g) (parts.sort_of h)) (op_of r) (ranked g) (ranked h) (lt-out m (2 ^ 127) p.0) (ranked-sound sets arrays g a) (ranked-sound sets arrays h b)))

  -- ---- variables

  element-fine : (s : Sort) (at n : ℕ) (e : Expr) (g : Form) → element_node sets arrays item s at n e ≡ Ok g → (IsSmall (size sets arrays e) → IsSoundTerm sets (plain arrays e)) → IsFine n g
  element-fine whole at n e g h k = number-fine at n e g h k
  element-fine (named d) at n e g h k =
      let p = sized-made at (size sets arrays e) (counted item n (depth e) (nodes e) (name d e)) g h in
      let q = counted-within item n (depth e) (nodes e) (name d e) g p.1 in
      subst (IsFine n) q.0 (k (lt-out (size sets arrays e) (2 ^ 127) p.0), (q.1, q.2))
  element-fine other at n e g h k = absurd (cc)

  var-sound : (x : ℕ) → x < length sets → IsSmall (size sets arrays (E.Var x)) → IsSoundTerm sets (plain arrays (E.Var x))
  var-sound x l h = subst (IsSoundTerm sets) (sym (term_Var (tables arrays) [] x)) (subst (λ t. IsSmall (term_magnitude sets t)) (term_Var (tables arrays) [] x) h, l)

  variable-fine : (s : Sort) (at n x : ℕ) (g : Form) → x < length sets → element_node sets arrays item s at n (E.Var x) ≡ Ok g → IsFine n g
  variable-fine s at n x g l h = element-fine s at n (E.Var x) g h (var-sound x l)

  -- ---- arrays

  abbrev AllSmall : List ℕ → Type 0
  AllSmall [] = Unit {0}
  AllSmall (m ∷ ms) = IsSmall m × AllSmall ms

  each-small : (ms : List ℕ) → two_greatest ms < 2 ^ 127 → AllSmall ms
  each-small [] h = tt
  each-small (m ∷ []) h = (h, tt)
  each-small (m ∷ n ∷ ms) h = (first m (greatest (n ∷ ms)) (two_greatest (n ∷ ms)) h, each-small (n ∷ ms) (rest (m + greatest (n ∷ ms)) (two_greatest (n ∷ ms)) h))
    where
      first : (m k j : ℕ) → max (m + k) j < 2 ^ 127 → m < 2 ^ 127
      first m k j h = omega (arith, h)

      rest : (m n : ℕ) → max m n < 2 ^ 127 → n < 2 ^ 127
      rest m n h = omega (arith, h)

  abbrev sizes : List Form → List ℕ
  sizes gs = map (λ g. size sets arrays (ranked g)) gs

  sizes-are : (gs : List Form) → sizes gs ≡ map (term_magnitude sets) (map (plain arrays) (map ranked gs))
  sizes-are [] = refl
  sizes-are (g ∷ gs) = ap (λ ms. size sets arrays (ranked g) ∷ ms) (sizes-are gs)

  variable-part : (kind : Kind) (x : ℕ) → x < length sets → IsSmall (size sets arrays (ranked (of_kind kind (E.Var x)))) → IsSoundPart sets arrays (of_kind kind (E.Var x))
  variable-part Number x l h = var-sound x l h
  variable-part (Enumeration d) x l h = var-sound x l h

  variables-sound : (kind : Kind) (x n : ℕ) → x + n ≤ length sets → AllSmall (sizes (variables kind x n)) → AreSound sets arrays (variables kind x n)
  variables-sound kind x zero l h = tt
  variables-sound kind x (suc n) l h = (variable-part kind x (omega (arith, l)) h.0, variables-sound kind (suc x) n (omega (arith, l)) h.1)

  differ-fine : (at n : ℕ) (gs : List Form) (o : Option (List Value)) (k : Form) → (AllSmall (sizes gs) → AreSound sets arrays gs) →
      folded item n o (λ vs. Ok (values.Bool (compare.all_different vs))) (sized at (two_greatest (sizes gs)) (condition_node item n (C.AllDifferent (map ranked gs)))) ≡ Ok k → IsFine n k
  differ-fine at n gs (Some vs) k s e = known-fine n (values.Bool (compare.all_different vs)) k (small-Bool (compare.all_different vs)) e
  differ-fine at n gs None k s e =
      let p = sized-made at (two_greatest (sizes gs)) (condition_node item n (C.AllDifferent (map ranked gs))) k e in
      let l : two_greatest (sizes gs) < 2 ^ 127 = lt-out (two_greatest (sizes gs)) (2 ^ 127) p.0 in
      let ts : List Term = map (plain arrays) (map ranked gs) in
      condition-fine n (C.AllDifferent (map ranked gs)) k p.1
      (subst (IsSoundFact sets) (sym (fact_AllDifferent (tables arrays) [] (map ranked gs)))
      (differ-sound sets ts (all-sound sets arrays gs (s (each-small (sizes gs) l))) (subst (λ ms. two_greatest ms < 2 ^ 127) (sizes-are gs) l)))

  different-fine : (at n : ℕ) (a : Option Cells) (k : Form) → different sets arrays item at n a ≡ Ok k → IsFine n k
  different-fine at n None k e = known-fine n (values.Bool true) k (small-Bool true) e
  different-fine at n (Some a) k e = by a.leaves e
    where
      by : (ls : Leaves) → cond (are_alike sets ls) (all_differ sets arrays item at n (leaves ls)) (Err (making.Fault.eval (OutOfIndex at))) ≡ Ok k → IsFine n k
      by (listed vs) e =
          differ-fine at n (map known vs) (Some vs) k (λ s. ranks-small vs s)
          (subst (λ o. folded item n o (λ vs. Ok (values.Bool (compare.all_different vs))) (sized at (two_greatest (sizes (map known vs))) (condition_node item n (C.AllDifferent (map ranked (map known vs))))) ≡ Ok k) (proved.known-values vs) e)
        where
          ranks-small : (vs : List Value) → AllSmall (sizes (map known vs)) → AreSound sets arrays (map known vs)
          ranks-small [] s = tt
          ranks-small (v ∷ vs) s = (small-rank v (subst (λ t. IsSmall (term_magnitude sets t)) (term_Const (tables arrays) [] (rank v)) s.0), ranks-small vs s.1)
      by (numbered kind x m) e = tested (nat_le (x + m) (length sets)) (variable_sorts sets (variable_sort sets kind x) kind x m) refl e
        where
          tested : (a b : Bool) → nat_le (x + m) (length sets) ≡ a → cond (a && b) (all_differ sets arrays item at n (variables kind x m)) (Err (making.Fault.eval (OutOfIndex at))) ≡ Ok k → IsFine n k
          tested true true h e = differ-fine at n (variables kind x m) (all_known (variables kind x m)) k (λ s. variables-sound kind x m (le-out (x + m) (length sets) h) s) e
          tested true false h e = absurd (cc)
          tested false b h e = absurd (cc)

  indices-fit : (ds : List (List Value)) (ats : List ℕ) (gs : List Form) (r : Made Form) (g : Form) → length ats ≡ length gs → subscripts_fit ds gs ≡ true → with_indices sets arrays item ds ats gs r ≡ Ok g →
      FitDimensions sets (map indices_of ds) (terms_of (map (plain arrays) (map ranked gs))) × (r ≡ Ok g)
  indices-fit [] ats [] r g l h e = (tt, e)
  indices-fit [] ats (b ∷ gs) r g l h e = absurd (cc)
  indices-fit (d ∷ ds) ats [] r g l h e = absurd (cc)
  indices-fit (d ∷ ds) [] (b ∷ gs) r g l h e = absurd (omega (arith, l))
  indices-fit (d ∷ ds) (at ∷ ats) (b ∷ gs) r g l h e =
      let m : ℕ = size sets arrays (ranked b) + greatest_abs (indices_of d) in
      let p = sized-made at m (with_indices sets arrays item ds ats gs r) g e in
      let q = indices-fit ds ats gs r g (omega (arith, l)) (and_parts (parts.all_alike (parts.key_sort b) d) (subscripts_fit ds gs) h).1 p.1 in
      ((lt-out m (2 ^ 127) p.0, q.0), q.1)

  cell-there : (kind : Kind) (x n p m : ℕ) → p < n → list_all (is_there m) (number_cells kind x n) ≡ true → x + p < m
  cell-there kind x zero p m l h = absurd (omega (arith, l))
  cell-there kind x (suc n) zero m l h =
      let q : x < m = lt-out x m (and_parts (nat_lt x m) (list_all (is_there m) (number_cells kind (suc x) n)) h).0 in omega (arith, q)
  cell-there kind x (suc n) (suc p) m l h =
      let q : suc x + p < m = cell-there kind (suc x) n p m (omega (arith, l)) (and_parts (nat_lt x m) (list_all (is_there m) (number_cells kind (suc x) n)) h).1 in omega (arith, q)

  module _ (sound : (k : ℕ) (a : Cells) → slice_get arrays k ≡ Some a → IsSoundTable sets (Some (table_of a))) where
    at-sound : (k : ℕ) (a : Cells) (gs : List Form) → slice_get arrays k ≡ Some a → AreSound sets arrays gs → FitDimensions sets (map indices_of a.dims) (terms_of (map (plain arrays) (map ranked gs))) → IsSmall (size sets arrays (E.At k (map ranked gs))) →
        IsSoundTerm sets (plain arrays (E.At k (map ranked gs)))
    at-sound k a gs h s f small =
        let ts : Terms = terms_of (map (plain arrays) (map ranked gs)) in
        let is : plain arrays (E.At k (map ranked gs)) ≡ Term.at (Some (table_of a)) ts = term_At (tables arrays) [] k (map ranked gs) ∙ ap (λ t. Term.at t ts) (get-map table_of arrays k ∙ ap (lift1 table_of) h) in
        subst (IsSoundTerm sets) (sym is) (max-small (table_magnitude sets (Some (table_of a))) (subst (λ t. IsSmall (term_magnitude sets t)) is small), sound k a h, f, ranks-sound sets arrays gs s)

    element_at-fine : (k at n : ℕ) (a : Cells) (p : ℕ) (g : Form) → slice_get arrays k ≡ Some a → element_at sets arrays item at n a.leaves p ≡ Ok g → IsFine n g
    element_at-fine k at n a p g h e = by a.leaves (sound k a h).2 e
      where
        by : (ls : Leaves) → list_all (is_there (length sets)) (parts.cells_of ls) ≡ true → element_at sets arrays item at n ls p ≡ Ok g → IsFine n g
        by (listed vs) t e = value-fine at n (value_at vs p) g e
        by (numbered kind x count) t e = tested (nat_lt p count) refl e
          where
            tested : (b : Bool) → nat_lt p count ≡ b → cond b (element_node sets arrays item (variable_sort sets kind (x + p)) at n (E.Var (x + p))) (Err (making.Fault.eval (OutOfIndex at))) ≡ Ok g → IsFine n g
            tested true h f = variable-fine (variable_sort sets kind (x + p)) at n (x + p) g (cell-there kind x count p (length sets) (lt-out p count h) t) f
            tested false h f = absurd (cc)

    indexed-fine : (at n : ℕ) (k : Option ℕ) (ats : List ℕ) (gs : List Form) (g : Form) → AreSound sets arrays gs → length ats ≡ length gs → indexed sets arrays item at n k (array_of arrays k) ats gs ≡ Ok g → IsFine n g
    indexed-fine at n None ats gs g s l e = absurd (cc)
    indexed-fine at n (Some k) ats gs g s l e = by (slice_get arrays k) refl e
      where
        at-key : (a : Cells) (p : Option ℕ) → slice_get arrays k ≡ Some a → placed sets arrays item at n a.leaves p ≡ Ok g → IsFine n g
        at-key a None h f = absurd (cc)
        at-key a (Some p) h f = element_at-fine k at n a p g h f

        when : (a : Cells) (o : Option (List Value)) → slice_get arrays k ≡ Some a → looked_up sets arrays item at n o k a ats gs ≡ Ok g → IsFine n g
        when a (Some key) h f = at-key a (place_of a.dims key) h f
        when a None h f = fits (are_indices a.dims gs) (subscripts_fit a.dims gs) refl f
          where
            node : Made Form
            node = element_node sets arrays item (element_sort sets a.leaves) at n (E.At k (map ranked gs))

            fits : (b c : Bool) → subscripts_fit a.dims gs ≡ c → cond (b && c) (with_indices sets arrays item a.dims ats gs node) (Err (making.Fault.eval (OutOfIndex at))) ≡ Ok g → IsFine n g
            fits true true c f =
                let p = indices-fit a.dims ats gs node g l c f in
                element-fine (element_sort sets a.leaves) at n (E.At k (map ranked gs)) g p.1 (λ m. at-sound k a gs h s p.0 m)
            fits true false c f = absurd (cc)
            fits false b c f = absurd (cc)

        by : (o : Option Cells) → slice_get arrays k ≡ o → indexed sets arrays item at n (Some k) o ats gs ≡ Ok g → IsFine n g
        by None h f = absurd (cc)
        by (Some a) h f = when a (all_known gs) h f

    -- ---- whole drafts

    operand-made : (at n : ℕ) (q : Made Form) (g : Form) → ((h : Form) → q ≡ Ok h → IsFine n h) → as_operand item at n q ≡ Ok g → IsFine n g
    operand-made at n q g f e = let p = next-made q (λ g. operand item at n g) g e in operand-fine at n p.0 g (f p.0 p.1) p.2

    mutual
      pub made-fine : (d : Draft) (n : ℕ) (g : Form) → made sets arrays item n d ≡ Ok g → IsFine n g
      made-fine (Draft.known at v) n g e = value-fine at n v g e
      made-fine (Draft.broken fault) n g e = absurd (cc)
      made-fine (Draft.variable at x kind) n g e = tested (nat_lt x (length sets)) refl e
        where
          tested : (b : Bool) → nat_lt x (length sets) ≡ b → cond b (element_node sets arrays item (variable_sort sets kind x) at n (E.Var x)) (Err (making.Fault.eval (OutOfIndex at))) ≡ Ok g → IsFine n g
          tested true h f = variable-fine (variable_sort sets kind x) at n x g (lt-out x (length sets) h) f
          tested false h f = absurd (cc)
      made-fine (Draft.negated at d) n g e =
          let p = next-made (as_operand item (place d) n (made sets arrays item n d)) (λ g. negated sets arrays item at n g) g e in
          negated-fine at n p.0 g (operand-made (place d) n (made sets arrays item n d) p.0 (λ h f. made-fine d n h f) p.1).0 p.2
      made-fine (Draft.chain at d ss) n g e =
          let p = next-made (as_operand item (place d) n (made sets arrays item n d)) (λ g. next (made_steps sets arrays item at n (g, []) ss) (λ ps. chained sets arrays item at n ps.0 ps.1)) g e in
          let q = next-made (made_steps sets arrays item at n (p.0, []) ss) (λ ps. chained sets arrays item at n ps.0 ps.1) g p.2 in
          let f = steps-fine ss at n (p.0, []) q.0 (operand-made (place d) n (made sets arrays item n d) p.0 (λ h f. made-fine d n h f) p.1, tt) q.1 in
          chained-fine at n q.0.0 q.0.1 g f.0 f.1 q.2
      made-fine (Draft.related at r d e) n g h =
          let p = next-made (as_operand item (place d) n (made sets arrays item n d)) (λ a. next (as_operand item (place e) (n + part_nodes a) (made sets arrays item (n + part_nodes a) e)) (λ b. compared sets arrays item at n r a b)) g h in
          let q = next-made (as_operand item (place e) (n + part_nodes p.0) (made sets arrays item (n + part_nodes p.0) e)) (λ b. compared sets arrays item at n r p.0 b) g p.2 in
          compared-fine at n r p.0 q.0 g (operand-made (place d) n (made sets arrays item n d) p.0 (λ h f. made-fine d n h f) p.1).0 (operand-made (place e) (n + part_nodes p.0) (made sets arrays item (n + part_nodes p.0) e) q.0 (λ h f. made-fine e (n + part_nodes p.0) h f) q.1).0 q.2
      made-fine (Draft.equivalent at ds) n g e = first-fine ds n g e
      made-fine (Draft.implied at d e) n g h =
          let p = next-made (made sets arrays item n d) (λ a. next (made sets arrays item (n + part_nodes a) e) (λ b. implied item n a b)) g h in
          let q = next-made (made sets arrays item (n + part_nodes p.0) e) (λ b. implied item n p.0 b) g p.2 in
          implied-fine n p.0 q.0 g (made-fine d n p.0 p.1).0 (made-fine e (n + part_nodes p.0) q.0 q.1).0 q.2
      made-fine (Draft.one_of at ds) n g e =
          let p = next-made (made_all sets arrays item n ds) (λ gs. making.one_holds item n gs) g e in
          one_holds-fine n p.0 g (all-fine ds n p.0 p.1).0 p.2
      made-fine (Draft.all_of at ds) n g e =
          let p = next-made (made_all sets arrays item n ds) (λ gs. making.all_hold item n gs) g e in
          all_hold-fine n p.0 g (all-fine ds n p.0 p.1).0 p.2
      made-fine (Draft.opposite at d) n g e =
          let p = next-made (made sets arrays item n d) (λ g. opposite item n g) g e in
          opposite-fine n p.0 g (made-fine d n p.0 p.1).0 p.2
      made-fine (Draft.aggregate at op ds) n g e =
          let p = next-made (made_operands sets arrays item n ds) (λ gs. aggregated sets arrays item op at n gs) g e in
          aggregated-fine op at n p.0 g (operands-fine ds n p.0 p.1) p.2
      made-fine (Draft.absolute at d) n g e =
          let p = next-made (as_operand item (place d) n (made sets arrays item n d)) (λ g. absolute sets arrays item at n g) g e in
          absolute-fine at n p.0 g (operand-made (place d) n (made sets arrays item n d) p.0 (λ h f. made-fine d n h f) p.1).0 p.2
      made-fine (Draft.different at a) n g e = different-fine at n a g e
      made-fine (Draft.element at k ds) n g e =
          let p = next-made (made_all sets arrays item n ds) (λ gs. indexed sets arrays item at n k (array_of arrays k) (places ds) gs) g e in
          let q = all-fine ds n p.0 p.1 in
          indexed-fine at n k (places ds) p.0 g q.0 q.1 p.2

      all-fine : (ds : Drafts) (n : ℕ) (gs : List Form) → made_all sets arrays item n ds ≡ Ok gs → AreSound sets arrays gs × (length (places ds) ≡ length gs)
      all-fine no_drafts n gs e = subst (λ gs. AreSound sets arrays gs × (length (places no_drafts) ≡ length gs)) (ok-same [] gs e) (tt, refl)
      all-fine (more_drafts d ds) n gs e =
          let p = next-made (made sets arrays item n d) (λ g. next (made_all sets arrays item (n + part_nodes g) ds) (λ gs. Ok (g ∷ gs))) gs e in
          let q = next-made (made_all sets arrays item (n + part_nodes p.0) ds) (λ gs. Ok (p.0 ∷ gs)) gs p.2 in
          let f = all-fine ds (n + part_nodes p.0) q.0 q.1 in
          subst (λ gs. AreSound sets arrays gs × (length (places (more_drafts d ds)) ≡ length gs)) (ok-same (p.0 ∷ q.0) gs q.2) (((made-fine d n p.0 p.1).0, f.0), ap suc f.1)

      pub operands-fine : (ds : Drafts) (n : ℕ) (gs : List Form) → made_operands sets arrays item n ds ≡ Ok gs → AreFine n gs
      operands-fine no_drafts n gs e = subst (AreFine n) (ok-same [] gs e) tt
      operands-fine (more_drafts d ds) n gs e =
          let p = next-made (as_operand item (place d) n (made sets arrays item n d)) (λ g. next (made_operands sets arrays item (n + part_nodes g) ds) (λ gs. Ok (g ∷ gs))) gs e in
          let q = next-made (made_operands sets arrays item (n + part_nodes p.0) ds) (λ gs. Ok (p.0 ∷ gs)) gs p.2 in
          subst (AreFine n) (ok-same (p.0 ∷ q.0) gs q.2)
          (operand-made (place d) n (made sets arrays item n d) p.0 (λ h f. made-fine d n h f) p.1, fine-sound (n + part_nodes p.0) q.0 (operands-fine ds (n + part_nodes p.0) q.0 q.1))

      steps-fine : (ss : Steps) (at n : ℕ) (ps qs : Form × List Form) → FineParts n ps → made_steps sets arrays item at n ps ss ≡ Ok qs → FineParts n qs
      steps-fine no_steps at n ps qs f e = subst (FineParts n) (ok-same ps qs e) f
      steps-fine (more_steps sign d ss) at n ps qs f e =
          let m : ℕ = n + parts_nodes ps in
          let p = next-made (as_operand item (place d) m (made sets arrays item m d)) (λ g. next (stepped sets arrays item sign at (place d) n ps g) (λ qs. made_steps sets arrays item at n qs ss)) qs e in
          let q = next-made (stepped sets arrays item sign at (place d) n ps p.0) (λ qs. made_steps sets arrays item at n qs ss) qs p.2 in
          steps-fine ss at n q.0 qs (stepped-fine sign at (place d) n ps q.0 p.0 f (operand-made (place d) m (made sets arrays item m d) p.0 (λ h f. made-fine d m h f) p.1).0 q.1) q.2

      first-fine : (ds : Drafts) (n : ℕ) (g : Form) → made_first sets arrays item n ds ≡ Ok g → IsFine n g
      first-fine no_drafts n g e = known-fine n (values.Bool true) g (small-Bool true) e
      first-fine (more_drafts d ds) n g e =
          let p = next-made (made sets arrays item n d) (λ g. next (truth_part item n g) (λ h. made_same sets arrays item n h ds)) g e in
          let q = next-made (truth_part item n p.0) (λ h. made_same sets arrays item n h ds) g p.2 in
          rest-fine ds n q.0 g (truth_part-fine n p.0 q.0 (made-fine d n p.0 p.1) q.1) q.2

      rest-fine : (ds : Drafts) (n : ℕ) (g k : Form) → IsFine n g → made_same sets arrays item n g ds ≡ Ok k → IsFine n k
      rest-fine no_drafts n g k f e = subst (IsFine n) (ok-same g k e) f
      rest-fine (more_drafts d ds) n g k f e =
          let p = next-made (made sets arrays item (n + part_nodes g) d) (λ h. next (making.same item n g h) (λ k. made_same sets arrays item n k ds)) k e in
          let q = next-made (making.same item n g p.0) (λ k. made_same sets arrays item n k ds) k p.2 in
          rest-fine ds n q.0 k (same-fine n g p.0 q.0 f.0 (made-fine d (n + part_nodes g) p.0 p.1).0 q.1) q.2
