-- Where never form is made because of a fault of data, that is the first fault without variables.
use Rattle.std.proofs.Common.{◌≡◌, ◌≢◌, ◌<◌, ◌^◌, ◌+◌, ◌||◌, ◌&&◌, ℕ, suc, ℤ, pos, neg_ℤ, unsigned_abs, nat_le, nat_lt, Bool, true, false, cond, not, length, List, [], ◌∷◌, ◌++◌, map, Option, None, Some, Ok, Err, refl, sym, ap, subst, ◌∙◌, arith}
use Rattle.std.proofs.lemmas.Int.{ints}
use Rattle.std.specs.List.{list_any, list_all}
use Rattle.std.specs.Option.{option_map}
use Rattle.opl_tree.specs.declared.expression.AggregateOp.{AggregateOp}
use Rattle.opl_tree.specs.declared.expression.AggregateOp.TheVariants.{Sum, Product, Min, Max}
use Rattle.opl_tree.specs.declared.expression.Relation.{Relation}
use Rattle.opl_value.specs.declared.value.Value.{Value}
use Rattle.opl_value.specs.declared.value.Value.TheVariants as values
use Rattle.opl_value.specs.Places.{place_of, value_at}
use Rattle.opl_eval.specs.declared.fault.EvalFault.{EvalFault}
use Rattle.opl_eval.specs.declared.fault.EvalFault.TheVariants.{DivByZero, OutOfIndex, EmptyMinMax}
use Rattle.opl_eval.specs.declared.arithmetic.Operation.TheVariants as operations
use Rattle.opl_eval.specs.Arithmetic as arithmetic
use Rattle.opl_eval.specs.Arithmetic.{applied, negative, then, times}
use Rattle.opl_eval.specs.Compare.{all_different, number, rank, relates}
use Rattle.opl_eval.specs.Evaluation as evaluation
use Rattle.opl_eval.specs.Evaluation.{Found, found, integer, is_true}
use Rattle.opl_draft.specs.Drafts.{Cells, Draft, Drafts, Leaves, Sign, Steps, array_at, operation}
use Rattle.opl_draft.specs.Drafts.Drafts.{no_drafts, more_drafts}
use Rattle.opl_draft.specs.Drafts.Leaves.{listed, numbered}
use Rattle.opl_draft.specs.Drafts.Sign.{plus, minus, times as of_times, quotient, remainder}
use Rattle.opl_draft.specs.Drafts.Steps.{no_steps, more_steps}
use Rattle.opl_draft.specs.Settled as settled
use Rattle.opl_draft.specs.Settled.{divides, pair_of}
use Rattle.opl_expr.specs.declared.forms.Cons.{Cons}
use Rattle.opl_expr.specs.declared.forms.Cons.TheVariants as C
use Rattle.opl_expr.specs.declared.forms.Expr.{Expr}
use Rattle.opl_expr.specs.declared.forms.Expr.TheVariants as E
use Rattle.opl_expr.specs.Sound.{greatest_abs}
use Rattle.opl_form.specs.Parts.{Form, Sort, alike, all_known, are_indices, as_condition, as_number, indices_of, leaves, ranked, sort_of, subscripts_fit}
use Rattle.opl_form.specs.Parts.Form.{known, number as number_form, name, condition, truth}
use Rattle.opl_form.specs.Parts.Sort.{whole, named, other}
use Rattle.opl_form.specs.Measures as measures
use Rattle.opl_form.specs.Measures.{part_nodes}
use Rattle.opl_form.specs.Nodes as nodes
use Rattle.opl_form.specs.Nodes.{Fault, Made, as_operand, by_sign, chained, condition_node, counted, element_node, evaluated, folded, known_node, next, number_node, number_part, operand, parts_nodes, sized, truth_part, unless_zero, variable_sort}
use Rattle.opl_form.specs.Nodes.Fault.{eval, large, deep, many}
use Rattle.opl_form.specs.Made.{array_of, made, made_all, made_first, made_operands, made_same, made_steps, place, places}
use Rattle.opl_form.proofs.Nodes.{sized-small}
use Rattle.opl_held.specs.declared.outcome.Outcome.{Outcome}
use Rattle.opl_held.specs.declared.outcome.Outcome.TheVariants.{Fixed}
use Rattle.opl_held.specs.Outcomes.{Worth, both, changed, data_of, each, told}
use Rattle.opl_held.specs.Worth as spec
use Rattle.opl_held.specs.Worth.{aggregated, begun, factored, indexed, product_from, stepped, worth, worth_steps, worths}
use Rattle.opl_held.specs.Laws.{RefusedIsFault, known_in}
use Rattle.opl_held.proofs.Data.{data-both, data-changed, data-each}
use Rattle.opl_held.proofs.Made as found_forms
use Rattle.opl_held.proofs.Made.{begun-data, data-then, known-data, known-small, one-of, operand-made, settles, sum_data, told-data, two-of}

-- ---- faults

abbrev err : (A : Type 0) → EvalFault → Found A
err A fault = Err fault

abbrev refused : (A : Type 0) → EvalFault → Made A
refused A fault = Err (eval fault)

fault-same : (A : Type 0) (f g : EvalFault) → refused A f ≡ refused A g → f ≡ g
fault-same A f g e = cc

-- what is not made
next-refused : {A B : Type 0} (P : Type 0) (r : Made A) (next_one : A → Made B) (f : EvalFault) → next r next_one ≡ refused B f → (r ≡ refused A f → P) → ((x : A) → r ≡ Ok x → next_one x ≡ refused B f → P) → P
next-refused P (Ok x) g f e never is_zero = is_zero x refl e
next-refused {A = A} {B = B} P (Err fault) g f e never is_zero = never (by fault e)
  where
    by : (fault : Fault) → ◌≡◌ {A = Made B} (Err fault) (Err (eval f)) → ◌≡◌ {A = Made A} (Err fault) (Err (eval f))
    by fault e = ap (λ f. Err f) (inner e)
      where
        inner : ◌≡◌ {A = Made B} (Err fault) (Err (eval f)) → fault ≡ eval f
        inner e = cc

sized-refused : {A : Type 0} (at m : ℕ) (r : Made A) (f : EvalFault) → sized at m r ≡ refused A f → r ≡ refused A f
sized-refused {A = A} at m r f e = by (nat_lt m (2 ^ 127)) e
  where
    by : (z : Bool) → cond z r (Err (large at)) ≡ refused A f → r ≡ refused A f
    by true e = e
    by false e = absurd (cc)

counted-refused : (item n depth more : ℕ) (g : Form) (f : EvalFault) → counted item n depth more g ≡ refused Form f → ⊥
counted-refused item n depth more g f e = by (nat_le depth 2048) (nat_le (n + more) 4194304) e
  where
    by : (b c : Bool) → cond b (cond c (Ok g) (Err (many item))) (Err (deep item)) ≡ refused Form f → ⊥
    by true true e = cc
    by true false e = cc
    by false c e = cc

-- what is found is a fault
fault-back : {X P : Type 0} (of : X → P) (r : Found X) (f : EvalFault) → found of r ≡ err P f → r ≡ err X f
fault-back of (Ok x) f e = absurd (cc)
fault-back {X = X} {P = P} of (Err g) f e = ap (err X) (inner e)
  where
    inner : err P g ≡ err P f → g ≡ f
    inner e = cc

then-fault : {X P Y Q : Type 0} (of : X → P) (to : Y → Q) (r : Found X) (g : X → Found Y) (f : EvalFault) → found of r ≡ err P f → found to (then r g) ≡ err Q f
then-fault of to r g f e = ap (λ r. found to (then r g)) (fault-back of r f e)

-- ---- nodes

evaluated-refused : (item n : ℕ) (r : Found Value) (f : EvalFault) → evaluated item n r ≡ refused Form f → r ≡ err Value f
evaluated-refused item n (Ok v) f e = absurd (counted-refused item n 1 1 (known v) f e)
evaluated-refused item n (Err g) f e = ap (err Value) (fault-same Form g f e)

settled-fault : {A B : Type 0} (come : A → Found B) (o : Option A) (f : EvalFault) → ((a : A) → o ≡ Some a → come a ≡ err B f) → o ≢ None → settles come o ≡ err (Option B) f
settled-fault come None f h never = absurd (never refl)
settled-fault come (Some a) f h never = ap (found (λ b. Some b)) (h a refl)

module _ (sets : List (ℤ × ℤ)) (arrays : List Cells) (item : ℕ) where
  folded-refused : (n : ℕ) (gs : List Form) (come : List Value → Found Value) (node : Made Form) (f : EvalFault) → folded item n (all_known gs) come node ≡ refused Form f → (node ≡ refused Form f → ⊥) →
      settles come (settled.all_of (map known_in gs)) ≡ err (Option Value) f
  folded-refused n gs come node f e never = ap (settles come) (sym (known-data gs)) ∙ by (all_known gs) e
    where
      by : (vs : Option (List Value)) → folded item n vs come node ≡ refused Form f → settles come vs ≡ err (Option Value) f
      by (Some vs) e = ap (found (λ v. Some v)) (evaluated-refused item n (come vs) f e)
      by None e = absurd (never e)

  -- what always comes to a value is made
  folded-made : (n : ℕ) (gs : List Form) (come : List Value → Value) (node : Made Form) (f : EvalFault) → folded item n (all_known gs) (λ vs. Ok (come vs)) node ≡ refused Form f → (node ≡ refused Form f → ⊥) → ⊥
  folded-made n gs come node f e never = by (settled.all_of (map known_in gs)) (folded-refused n gs (λ vs. Ok (come vs)) node f e never)
    where
      by : (vs : Option (List Value)) → settles (λ vs. Ok (come vs)) vs ≡ err (Option Value) f → ⊥
      by None e = cc
      by (Some vs) e = cc

  number-refused : (at n : ℕ) (e : Expr) (f : EvalFault) → number_node sets arrays item at n e ≡ refused Form f → ⊥
  number-refused at n e f h = counted-refused item n (measures.depth e) (measures.nodes e) (number_form e) f (sized-refused at (nodes.size sets arrays e) (counted item n (measures.depth e) (measures.nodes e) (number_form e)) f h)

  condition-refused : (n : ℕ) (c : Cons) (f : EvalFault) → condition_node item n c ≡ refused Form f → ⊥
  condition-refused n c f e = counted-refused item n (measures.depth_of c) (measures.nodes_of c) (condition c) f e

  operand-refused : (at n : ℕ) (g : Form) (f : EvalFault) → operand item at n g ≡ refused Form f → ⊥
  operand-refused at n (known v) f e = cc
  operand-refused at n (number_form x) f e = cc
  operand-refused at n (name d x) f e = cc
  operand-refused at n (truth c) f e = cc
  operand-refused at n (condition c) f e =
      counted-refused item n (suc (measures.depth_of c)) (suc (measures.nodes_of c)) (truth c) f (sized-refused at 1 (counted item n (suc (measures.depth_of c)) (suc (measures.nodes_of c)) (truth c)) f e)

  as_operand-refused : (at n : ℕ) (r : Made Form) (f : EvalFault) → as_operand item at n r ≡ refused Form f → r ≡ refused Form f
  as_operand-refused at n r f e = next-refused (r ≡ refused Form f) r (λ g. operand item at n g) f e (λ h. h) (λ x h k. absurd (operand-refused at n x f k))

  truth-refused : (n : ℕ) (g : Form) (f : EvalFault) → truth_part item n g ≡ refused Form f → ⊥
  truth-refused n (known v) f e = cc
  truth-refused n (condition c) f e = cc
  truth-refused n (number_form x) f e = condition-refused n (as_condition (number_form x)) f e
  truth-refused n (name d x) f e = condition-refused n (as_condition (name d x)) f e
  truth-refused n (truth c) f e = condition-refused n (as_condition (truth c)) f e

  element-refused : (s : Sort) (at n : ℕ) (e : Expr) (f : EvalFault) → f ≢ OutOfIndex at → element_node sets arrays item s at n e ≡ refused Form f → ⊥
  element-refused whole at n e f never h = number-refused at n e f h
  element-refused (named d) at n e f never h =
      counted-refused item n (measures.depth e) (measures.nodes e) (name d e) f (sized-refused at (nodes.size sets arrays e) (counted item n (measures.depth e) (measures.nodes e) (name d e)) f h)
  element-refused other at n e f never h = never (sym (fault-same Form (OutOfIndex at) f h))

  past-refused : (z : Bool) (at : ℕ) (r : Made Form) (f : EvalFault) → f ≢ OutOfIndex at → cond z r (Err (eval (OutOfIndex at))) ≡ refused Form f → r ≡ refused Form f
  past-refused true at r f never e = e
  past-refused false at r f never e = absurd (never (sym (fault-same Form (OutOfIndex at) f e)))

  part-refused : (at n : ℕ) (g : Form) (f : EvalFault) → number_part sets arrays item at n g ≡ refused Form f → ⊥
  part-refused at n (known v) f e = cc
  part-refused at n (number_form x) f e = cc
  part-refused at n (name d x) f e = number-refused at n (as_number (name d x)) f e
  part-refused at n (condition c) f e = number-refused at n (as_number (condition c)) f e
  part-refused at n (truth c) f e = number-refused at n (as_number (truth c)) f e

  negated-refused : (at n : ℕ) (g : Form) (f : EvalFault) → nodes.negated sets arrays item at n g ≡ refused Form f → settles (λ v. integer (negative at (number v))) (known_in g) ≡ err (Option Value) f
  negated-refused at n g f e =
      one-of (λ v. integer (negative at (number v))) (known_in g)
      ∙ folded-refused n (g ∷ []) (λ vs. integer (negative at (number (value_at vs 0)))) (number_node sets arrays item at n (E.Neg (as_number g))) f e (number-refused at n (E.Neg (as_number g)) f)

  absolute-refused : (at n : ℕ) (g : Form) (f : EvalFault) → nodes.absolute sets arrays item at n g ≡ refused Form f → settles (λ v. integer (arithmetic.absolute at (number v))) (known_in g) ≡ err (Option Value) f
  absolute-refused at n g f e =
      one-of (λ v. integer (arithmetic.absolute at (number v))) (known_in g)
      ∙ folded-refused n (g ∷ []) (λ vs. integer (arithmetic.absolute at (number (value_at vs 0)))) (number_node sets arrays item at n (E.Abs (as_number g))) f e (number-refused at n (E.Abs (as_number g)) f)

  -- ---- chains

  abbrev ended : spec.Sum → Found (Option Value)
  ended s = found data_of (found (changed values.Int) (told s))

  chained-refused : (at n : ℕ) (g : Form) (hs : List Form) (s : spec.Sum) (f : EvalFault) → data_of s ≡ sum_data at (known_in g) (map known_in hs) → chained sets arrays item at n g hs ≡ refused Form f → ended s ≡ err (Option Value) f
  chained-refused at n g [] s f e h = absurd (part-refused at n g f h)
  chained-refused at n g (h ∷ hs) s f e r =
      found_forms.ended-data sets arrays item s (sum_data at (known_in g) (map known_in (h ∷ hs))) e
      ∙ by (known_in g) (settled.all_of (map known_in (h ∷ hs)))
      ∙ folded-refused n (g ∷ h ∷ hs) (nodes.chain_of at) (number_node sets arrays item at n (E.Sum (map as_number (g ∷ h ∷ hs)))) f r (number-refused at n (E.Sum (map as_number (g ∷ h ∷ hs))) f)
    where
      by : (g : Option Value) (vs : Option (List Value)) →
          settles integer (option_map (λ p. arithmetic.run at (number p.0) (map operations.Plus (map number p.1))) (pair_of g vs)) ≡ settles (nodes.chain_of at) (option_map (λ p. p.0 ∷ p.1) (pair_of g vs))
      by None vs = refl
      by (Some v) None = refl
      by (Some v) (Some vs) = refl

  -- the fault of the whole is that of the number
  told-fault : (s : spec.Sum) (f : EvalFault) → ended s ≡ err (Option Value) f → found data_of (told s) ≡ err (Option ℤ) f
  told-fault s f e = by (found data_of (told s)) (sym (data-then data_of data_of (told s) (λ o. Ok (changed values.Int o)) (λ n. Ok (option_map values.Int n)) (λ o. ap (λ q. Ok q) (data-changed values.Int o))) ∙ e)
    where
      by : (r : Found (Option ℤ)) → then r (λ n. Ok (option_map values.Int n)) ≡ err (Option Value) f → r ≡ err (Option ℤ) f
      by (Ok n) e = absurd (cc)
      by (Err g) e = ap (err (Option ℤ)) (inner e)
        where
          inner : err (Option Value) g ≡ err (Option Value) f → g ≡ f
          inner e = cc

  -- two numbers that come to a fault
  pair-fault : (op : ℤ → ℤ → Found ℤ) (g h : Option Value) (f : EvalFault) → settles (λ p. integer (op (number p.0) (number p.1))) (pair_of g h) ≡ err (Option Value) f →
      settles (λ p. op p.0 (number p.1)) (pair_of (option_map number g) h) ≡ err (Option ℤ) f
  pair-fault op None h f e = absurd (cc)
  pair-fault op (Some v) None f e = absurd (cc)
  pair-fault op (Some v) (Some w) f e = by (op (number v) (number w)) e
    where
      by : (r : Found ℤ) → found (λ v. Some v) (integer r) ≡ err (Option Value) f → found (λ n. Some n) r ≡ err (Option ℤ) f
      by (Ok n) e = absurd (cc)
      by (Err g) e = ap (err (Option ℤ)) (inner e)
        where
          inner : err (Option Value) g ≡ err (Option Value) f → g ≡ f
          inner e = cc

  two-refused : (op : ℤ → ℤ → Found ℤ) (n : ℕ) (g h : Form) (node : Made Form) (f : EvalFault) →
      folded item n (all_known (g ∷ h ∷ [])) (λ vs. integer (op (number (value_at vs 0)) (number (value_at vs 1)))) node ≡ refused Form f → (node ≡ refused Form f → ⊥) →
      settles (λ p. integer (op (number p.0) (number p.1))) (pair_of (known_in g) (known_in h)) ≡ err (Option Value) f
  two-refused op n g h node f e never =
      two-of (λ p. integer (op (number p.0) (number p.1))) (known_in g) (known_in h) ∙ folded-refused n (g ∷ h ∷ []) (λ vs. integer (op (number (value_at vs 0)) (number (value_at vs 1)))) node f e never

  together-fault : (at : ℕ) (sign : Sign) (a : Outcome ℤ) (o : Worth) (g h : Option Value) (f : EvalFault) → data_of a ≡ option_map number g → data_of o ≡ h →
      settles (λ p. integer (applied at (number p.0) (operation sign (number p.1)))) (pair_of g h) ≡ err (Option Value) f →
      found data_of (found (changed (λ n. Ok n)) (told (changed (λ p. applied at p.0 (operation sign (number p.1))) (both a o)))) ≡ err (Option (Found ℤ)) f
  together-fault at sign a o g h f e i k =
      then-fault data_of data_of (told (changed (λ p. applied at p.0 (operation sign (number p.1))) (both a o))) (λ n. Ok (changed (λ n. Ok n) n)) f
      (told-data (λ p. applied at p.0 (operation sign (number p.1))) (both a o)
      ∙ ap (settles (λ p. applied at p.0 (operation sign (number p.1)))) (data-both a o ∙ ap (λ a. pair_of a (data_of o)) e ∙ ap (pair_of (option_map number g)) i)
      ∙ pair-fault (λ m n. applied at m (operation sign n)) g h f k)

  unless-refused : (P : Type 0) (at : ℕ) (g : Form) (r : Made Form) (f : EvalFault) → unless_zero at g r ≡ refused Form f → (nodes.is_zero g ≡ true → DivByZero at ≡ f → P) → (nodes.is_zero g ≡ false → r ≡ refused Form f → P) → P
  unless-refused P at g r f e is_zero never = by (nodes.is_zero g) refl e
    where
      by : (z : Bool) → nodes.is_zero g ≡ z → cond z (Err (eval (DivByZero at))) r ≡ refused Form f → P
      by true h e = is_zero h (fault-same Form (DivByZero at) f e)
      by false h e = never h e

  -- a divisor 0, or what the quotient comes to
  divided-refused : (at n : ℕ) (sign : Sign) (op : ℤ → ℤ → Found ℤ) (a : Outcome ℤ) (o : Worth) (g h : Form) (node : Made Form) (f : EvalFault) → divides sign ≡ true → ((m k : ℤ) → op m k ≡ applied at m (operation sign k)) →
      data_of a ≡ option_map number (known_in g) → data_of o ≡ known_in h → (node ≡ refused Form f → ⊥) →
      unless_zero at h (folded item n (all_known (g ∷ h ∷ [])) (λ vs. integer (op (number (value_at vs 0)) (number (value_at vs 1)))) node) ≡ refused Form f → found data_of (factored at sign a o) ≡ err (Option (Found ℤ)) f
  divided-refused at n sign op a o g h node f d same e i never k =
      unless-refused (found data_of (factored at sign a o) ≡ err (Option (Found ℤ)) f) at h (folded item n (all_known (g ∷ h ∷ [])) (λ vs. integer (op (number (value_at vs 0)) (number (value_at vs 1)))) node) f k
      (λ z w. ap (λ b. found data_of (cond b (Err (DivByZero at)) rest)) ((λ j. d j && found_forms.zero-data sets arrays item h o i j) ∙ z) ∙ ap (err (Option (Found ℤ))) w)
      (λ z w.
      ap (λ b. found data_of (cond b (Err (DivByZero at)) rest)) ((λ j. d j && found_forms.zero-data sets arrays item h o i j) ∙ z)
      ∙ together-fault at sign a o (known_in g) (known_in h) f e i
      (ap (λ (op : ℤ → ℤ → Found ℤ). settles (λ p. integer (op (number p.0) (number p.1))) (pair_of (known_in g) (known_in h))) (λ j m k. sym (same m k) j) ∙ two-refused op n g h node f w never))
    where
      rest : Found spec.Sum
      rest = found (changed (λ n. Ok n)) (told (changed (λ p. applied at p.0 (operation sign (number p.1))) (both a o)))

  turned-refused : (at n : ℕ) (sign : Sign) (ps : nodes.Parts) (g : Form) (s : spec.Sum) (o : Worth) (f : EvalFault) → data_of s ≡ sum_data at (known_in ps.0) (map known_in ps.1) →
      ((a : Outcome ℤ) (h : Form) → data_of a ≡ option_map number (known_in h) → by_sign sets arrays item sign at n h g ≡ refused Form f → found data_of (factored at sign a o) ≡ err (Option (Found ℤ)) f) →
      next (chained sets arrays item at n ps.0 ps.1) (λ a. next (by_sign sets arrays item sign at n a g) (λ h. Ok (h, []))) ≡ refused nodes.Parts f → found data_of (then (told s) (λ a. factored at sign a o)) ≡ err (Option (Found ℤ)) f
  turned-refused at n sign ps g s o f e node r =
      next-refused (found data_of (then (told s) (λ a. factored at sign a o)) ≡ err (Option (Found ℤ)) f) (chained sets arrays item at n ps.0 ps.1) (λ a. next (by_sign sets arrays item sign at n a g) (λ h. Ok (h, []))) f r
      (λ h. then-fault data_of data_of (told s) (λ a. factored at sign a o) f (told-fault s f (chained-refused at n ps.0 ps.1 s f e h)))
      (λ c h k.
      found_forms.then-known sets arrays item data_of data_of (told s) (λ a. factored at sign a o) (option_map number (known_in c)) (err (Option (Found ℤ)) f)
      (found_forms.numbered-data sets arrays item s (known_in c) (found_forms.chained-data sets arrays item at n ps.0 ps.1 c s e h))
      (λ a i.
      next-refused (found data_of (factored at sign a o) ≡ err (Option (Found ℤ)) f) (by_sign sets arrays item sign at n c g) (λ h. Ok (h, [])) f k (λ w. node a c i w) (λ x w v. absurd (cc))))

  opposite-made : (own : ℕ) (o : Option Value) (f : EvalFault) → ((v : Value) → o ≡ Some v → unsigned_abs (number v) < 2 ^ 127) → settles (λ v. integer (negative own (number v))) o ≡ err (Option Value) f → ⊥
  opposite-made own None f small e = cc
  opposite-made own (Some v) f small e = by (sym (ap (λ r. found (λ v. Some v) (integer r)) (sized-small own (neg_ℤ (number v)) (negative-small (number v) (small v refl)))) ∙ e)
    where
      negative-small : (z : ℤ) → unsigned_abs z < 2 ^ 127 → unsigned_abs (neg_ℤ z) < 2 ^ 127
      negative-small z h = subst (λ m. m < 2 ^ 127) (same z) h
        where
          same : (z : ℤ) → unsigned_abs z ≡ unsigned_abs (neg_ℤ z)
          same z = omega (arith, ints)

      by : found (λ v. Some v) (integer (Ok (neg_ℤ (number v)))) ≡ err (Option Value) f → ⊥
      by e = cc

  stepped-refused : (at own n : ℕ) (sign : Sign) (ps : nodes.Parts) (g : Form) (s : spec.Sum) (o : Worth) (f : EvalFault) → ((v : Value) → known_in g ≡ Some v → unsigned_abs (number v) < 2 ^ 127) →
      data_of s ≡ sum_data at (known_in ps.0) (map known_in ps.1) → data_of o ≡ known_in g → nodes.stepped sets arrays item sign at own n ps g ≡ refused nodes.Parts f → found data_of (stepped at sign s o) ≡ err (Option (Found ℤ)) f
  stepped-refused at own n plus ps g s o f small e i r = absurd (cc)
  stepped-refused at own n minus ps g s o f small e i r =
      next-refused (found data_of (stepped at minus s o) ≡ err (Option (Found ℤ)) f) (nodes.negated sets arrays item own (n + parts_nodes ps) g) (λ h. Ok (ps.0, ps.1 ++ h ∷ [])) f r
      (λ h. absurd (opposite-made own (known_in g) f small (negated-refused own (n + parts_nodes ps) g f h))) (λ x h k. absurd (cc))
  stepped-refused at own n of_times ps g s o f small e i r =
      turned-refused at n of_times ps g s o f e
      (λ a h j k. together-fault at of_times a o (known_in h) (known_in g) f j i (two-refused (λ m z. times at m z) n h g (number_node sets arrays item at n (E.Mul (as_number h) (as_number g))) f k (number-refused at n (E.Mul (as_number h) (as_number g)) f))) r
  stepped-refused at own n quotient ps g s o f small e i r =
      turned-refused at n quotient ps g s o f e
      (λ a h j k. divided-refused at n quotient (λ m z. arithmetic.quotient at m z) a o h g (number_node sets arrays item at n (E.Div (as_number h) (as_number g))) f refl (λ m z. refl) j i (number-refused at n (E.Div (as_number h) (as_number g)) f) k) r
  stepped-refused at own n remainder ps g s o f small e i r =
      turned-refused at n remainder ps g s o f e
      (λ a h j k. divided-refused at n remainder (λ m z. arithmetic.remainder at m z) a o h g (number_node sets arrays item at n (E.Rem (as_number h) (as_number g))) f refl (λ m z. refl) j i (number-refused at n (E.Rem (as_number h) (as_number g)) f) k) r

  -- ---- aggregates

  factor-fault : (at : ℕ) (a : Outcome ℤ) (o : Worth) (g h : Option Value) (f : EvalFault) → data_of a ≡ option_map number g → data_of o ≡ h → settles (λ p. integer (times at (number p.0) (number p.1))) (pair_of g h) ≡ err (Option Value) f →
      found data_of (told (changed (λ p. times at p.0 (number p.1)) (both a o))) ≡ err (Option ℤ) f
  factor-fault at a o g h f e i k =
      told-data (λ p. times at p.0 (number p.1)) (both a o)
      ∙ ap (settles (λ p. times at p.0 (number p.1))) (data-both a o ∙ ap (λ a. pair_of a (data_of o)) e ∙ ap (pair_of (option_map number g)) i)
      ∙ pair-fault (λ m z. times at m z) g h f k

  product-refused : (gs : List Form) (at n : ℕ) (g : Form) (a : Outcome ℤ) (os : List Worth) (f : EvalFault) → data_of a ≡ option_map number (known_in g) → map data_of os ≡ map known_in gs → nodes.product_from sets arrays item at n g gs ≡ refused Form f →
      found data_of (found (changed values.Int) (product_from at a os)) ≡ err (Option Value) f
  product-refused [] at n g a os f e i r = absurd (part-refused at n g f r)
  product-refused (j ∷ gs) at n g a [] f e i r = absurd (cc)
  product-refused (j ∷ gs) at n g a (o ∷ os) f e i r =
      ap (found data_of) (found_forms.found-then sets arrays item (told (changed (λ p. times at p.0 (number p.1)) (both a o))) (λ b. product_from at b os) (changed values.Int))
      ∙ next-refused (found data_of (then (told (changed (λ p. times at p.0 (number p.1)) (both a o))) (λ b. found (changed values.Int) (product_from at b os))) ≡ err (Option Value) f)
      (nodes.multiplied sets arrays item at n g j) (λ k. nodes.product_from sets arrays item at n k gs) f r
      (λ w.
      then-fault data_of data_of (told (changed (λ p. times at p.0 (number p.1)) (both a o))) (λ b. found (changed values.Int) (product_from at b os)) f
      (factor-fault at a o (known_in g) (known_in j) f e (found_forms.head-same sets arrays item (data_of o) (known_in j) (map data_of os) (map known_in gs) i)
      (two-refused (λ m z. times at m z) n g j (number_node sets arrays item at n (E.Mul (as_number g) (as_number j))) f w (number-refused at n (E.Mul (as_number g) (as_number j)) f))))
      (λ k w v.
      found_forms.then-known sets arrays item data_of data_of (told (changed (λ p. times at p.0 (number p.1)) (both a o))) (λ b. found (changed values.Int) (product_from at b os)) (option_map number (known_in k)) (err (Option Value) f)
      (found_forms.factor-data sets arrays item at a o (known_in g) (known_in j) (known_in k) e (found_forms.head-same sets arrays item (data_of o) (known_in j) (map data_of os) (map known_in gs) i) (found_forms.multiplied-data sets arrays item at n g j k w))
      (λ b u. product-refused gs at n k b os f u (found_forms.tail-same sets arrays item (data_of o) (known_in j) (map data_of os) (map known_in gs) i) v))

  aggregate-refused : (op : AggregateOp) (at n : ℕ) (gs : List Form) (os : List Worth) (f : EvalFault) → found_forms.FirstSmall sets arrays item gs → map data_of os ≡ map known_in gs → nodes.aggregated sets arrays item op at n gs ≡ refused Form f →
      found data_of (aggregated op at os) ≡ err (Option Value) f
  aggregate-refused Sum at n gs os f small e r =
      told-data (λ vs. integer (evaluation.aggregate Sum at (map number vs))) (each os)
      ∙ ap (settles (λ vs. integer (evaluation.aggregate Sum at (map number vs)))) (data-each os ∙ ap settled.all_of e)
      ∙ folded-refused n gs (λ vs. integer (arithmetic.sum at (map number vs))) (number_node sets arrays item at n (E.Sum (map as_number gs))) f r (number-refused at n (E.Sum (map as_number gs)) f)
  aggregate-refused Min at n [] os f small e r =
      told-data (λ vs. integer (evaluation.aggregate Min at (map number vs))) (each os)
      ∙ ap (settles (λ vs. integer (evaluation.aggregate Min at (map number vs)))) (data-each os ∙ ap settled.all_of e)
      ∙ ap (err (Option Value)) (fault-same Form (EmptyMinMax at) f r)
  aggregate-refused Min at n (g ∷ gs) os f small e r =
      told-data (λ vs. integer (evaluation.aggregate Min at (map number vs))) (each os)
      ∙ ap (settles (λ vs. integer (evaluation.aggregate Min at (map number vs)))) (data-each os ∙ ap settled.all_of e)
      ∙ folded-refused n (g ∷ gs) (λ vs. integer (arithmetic.least at (map number vs))) (number_node sets arrays item at n (E.Min (map as_number (g ∷ gs)))) f r (number-refused at n (E.Min (map as_number (g ∷ gs))) f)
  aggregate-refused Max at n [] os f small e r =
      told-data (λ vs. integer (evaluation.aggregate Max at (map number vs))) (each os)
      ∙ ap (settles (λ vs. integer (evaluation.aggregate Max at (map number vs)))) (data-each os ∙ ap settled.all_of e)
      ∙ ap (err (Option Value)) (fault-same Form (EmptyMinMax at) f r)
  aggregate-refused Max at n (g ∷ gs) os f small e r =
      told-data (λ vs. integer (evaluation.aggregate Max at (map number vs))) (each os)
      ∙ ap (settles (λ vs. integer (evaluation.aggregate Max at (map number vs)))) (data-each os ∙ ap settled.all_of e)
      ∙ folded-refused n (g ∷ gs) (λ vs. integer (arithmetic.greatest at (map number vs))) (number_node sets arrays item at n (E.Max (map as_number (g ∷ gs)))) f r (number-refused at n (E.Max (map as_number (g ∷ gs))) f)
  aggregate-refused Product at n [] os f small e r = absurd (counted-refused item n 1 1 (known (values.Int (pos 1))) f r)
  aggregate-refused Product at n (g ∷ gs) [] f small e r = absurd (cc)
  aggregate-refused Product at n (g ∷ gs) (o ∷ os) f small e r =
      ap (found data_of) (found_forms.found-then sets arrays item (told (changed (λ p. times at p.0 (number p.1)) (both (Fixed (pos 1)) o))) (λ b. product_from at b os) (changed values.Int))
      ∙ found_forms.then-known sets arrays item data_of data_of (told (changed (λ p. times at p.0 (number p.1)) (both (Fixed (pos 1)) o))) (λ b. found (changed values.Int) (product_from at b os)) (option_map number (known_in g)) (err (Option Value) f)
      (found_forms.first-factor sets arrays item at o (known_in g) (found_forms.head-same sets arrays item (data_of o) (known_in g) (map data_of os) (map known_in gs) e) small)
      (λ b i. product-refused gs at n g b os f i (found_forms.tail-same sets arrays item (data_of o) (known_in g) (map data_of os) (map known_in gs) e) r)

  -- ---- arrays, which have no other faults than `OutOfIndex`

  different-made : (at n : ℕ) (a : Option Cells) (f : EvalFault) → f ≢ OutOfIndex at → nodes.different sets arrays item at n a ≡ refused Form f → ⊥
  different-made at n None f other_fault e = counted-refused item n 1 1 (known (values.Bool true)) f e
  different-made at n (Some a) f other_fault e =
      let gs : List Form = leaves a.leaves in
      let m : ℕ = nodes.two_greatest (map (λ g. nodes.size sets arrays (ranked g)) gs) in
      let c : Cons = C.AllDifferent (map ranked gs) in
      folded-made n gs (λ vs. values.Bool (all_different vs)) (sized at m (condition_node item n c)) f (past-refused (nodes.are_alike sets a.leaves) at (nodes.all_differ sets arrays item at n gs) f other_fault e)
      (λ h. condition-refused n c f (sized-refused at m (condition_node item n c) f h))

  with-refused : (dims : List (List Value)) (ats : List ℕ) (gs : List Form) (r : Made Form) (f : EvalFault) → nodes.with_indices sets arrays item dims ats gs r ≡ refused Form f → r ≡ refused Form f
  with-refused [] ats gs r f e = e
  with-refused (dim ∷ dims) [] gs r f e = e
  with-refused (dim ∷ dims) (at ∷ ats) [] r f e = e
  with-refused (dim ∷ dims) (at ∷ ats) (g ∷ gs) r f e =
      with-refused dims ats gs r f (sized-refused at (nodes.size sets arrays (ranked g) + greatest_abs (indices_of dim)) (nodes.with_indices sets arrays item dims ats gs r) f e)

  placed-made : (at n : ℕ) (l : Leaves) (p : Option ℕ) (f : EvalFault) → f ≢ OutOfIndex at → nodes.placed sets arrays item at n l p ≡ refused Form f → ⊥
  placed-made at n l None f other_fault e = other_fault (sym (fault-same Form (OutOfIndex at) f e))
  placed-made at n (listed vs) (Some p) f other_fault e = counted-refused item n 1 1 (known (value_at vs p)) f (sized-refused at (unsigned_abs (rank (value_at vs p))) (known_node item n (value_at vs p)) f e)
  placed-made at n (numbered kind x count) (Some p) f other_fault e =
      element-refused (variable_sort sets kind (x + p)) at n (E.Var (x + p)) f other_fault (past-refused (nat_lt p count) at (element_node sets arrays item (variable_sort sets kind (x + p)) at n (E.Var (x + p))) f other_fault e)

  looked-made : (at n k : ℕ) (a : Cells) (ats : List ℕ) (gs : List Form) (key : Option (List Value)) (f : EvalFault) → f ≢ OutOfIndex at → nodes.looked_up sets arrays item at n key k a ats gs ≡ refused Form f → ⊥
  looked-made at n k a ats gs (Some key) f other_fault e = placed-made at n a.leaves (place_of a.dims key) f other_fault e
  looked-made at n k a ats gs None f other_fault e =
      let node : Made Form = element_node sets arrays item (nodes.element_sort sets a.leaves) at n (E.At k (map ranked gs)) in
      element-refused (nodes.element_sort sets a.leaves) at n (E.At k (map ranked gs)) f other_fault
      (with-refused a.dims ats gs node f (past-refused (are_indices a.dims gs && subscripts_fit a.dims gs) at (nodes.with_indices sets arrays item a.dims ats gs node) f other_fault e))

  indexed-made : (at n : ℕ) (k : Option ℕ) (a : Option Cells) (ats : List ℕ) (gs : List Form) (f : EvalFault) → f ≢ OutOfIndex at → nodes.indexed sets arrays item at n k a ats gs ≡ refused Form f → ⊥
  indexed-made at n None a ats gs f other_fault e = other_fault (sym (fault-same Form (OutOfIndex at) f e))
  indexed-made at n (Some k) None ats gs f other_fault e = other_fault (sym (fault-same Form (OutOfIndex at) f e))
  indexed-made at n (Some k) (Some a) ats gs f other_fault e = looked-made at n k a ats gs (all_known gs) f other_fault e

  -- ---- whole drafts

  module _ (small : (n : ℕ) (d : Draft) (v : Value) → made sets arrays item n d ≡ Ok (known v) → unsigned_abs (number v) < 2 ^ 127) (ns : List ℤ) (f : EvalFault) (other_fault : (at : ℕ) → f ≢ OutOfIndex at) where
    abbrev comes : (d : Draft) (n : ℕ) (g : Form) → made sets arrays item n d ≡ Ok g → found data_of (worth arrays ns d) ≡ Ok (known_in g)
    comes d n g e = found_forms.made-found sets arrays item small ns d n g e

    abbrev operand-comes : (d : Draft) (n : ℕ) (g : Form) → as_operand item (place d) n (made sets arrays item n d) ≡ Ok g → found data_of (worth arrays ns d) ≡ Ok (known_in g)
    operand-comes d n g e = operand-made item (place d) n (made sets arrays item n d) g (found data_of (worth arrays ns d)) (λ h k. comes d n h k) e

    abbrev Faulty : Draft → Type 0
    Faulty d = found data_of (worth arrays ns d) ≡ err (Option Value) f

    abbrev AreFaulty : Drafts → Type 0
    AreFaulty ds = found (map data_of) (worths arrays ns ds) ≡ err (List (Option Value)) f

    first-fault : (d : Draft) (ds : Drafts) → Faulty d → AreFaulty (more_drafts d ds)
    first-fault d ds e = then-fault data_of (map data_of) (worth arrays ns d) (λ o. found (λ os. o ∷ os) (worths arrays ns ds)) f e

    more-fault : (d : Draft) (ds : Drafts) (v : Option Value) → found data_of (worth arrays ns d) ≡ Ok v → AreFaulty ds → AreFaulty (more_drafts d ds)
    more-fault d ds v e h =
        found_forms.then-known sets arrays item data_of (map data_of) (worth arrays ns d) (λ o. found (λ os. o ∷ os) (worths arrays ns ds)) v (err (List (Option Value)) f) e
        (λ o i. then-fault (map data_of) (map data_of) (worths arrays ns ds) (λ os. Ok (o ∷ os)) f h)

    one-fault : (come : Value → Found Value) (d : Draft) (g : Option Value) → found data_of (worth arrays ns d) ≡ Ok g → settles come g ≡ err (Option Value) f → found data_of (then (worth arrays ns d) (λ o. told (changed come o))) ≡ err (Option Value) f
    one-fault come d g e h =
        found_forms.then-known sets arrays item data_of data_of (worth arrays ns d) (λ o. told (changed come o)) g (err (Option Value) f) e (λ o i. told-data come o ∙ ap (settles come) i ∙ h)

    two-fault : (g : Value × Value → Value) (d e : Draft) (v : Option Value) → found data_of (worth arrays ns d) ≡ Ok v → Faulty e → found data_of (then (worth arrays ns d) (λ o. found (λ p. changed g (both o p)) (worth arrays ns e))) ≡ err (Option Value) f
    two-fault g d e v h k =
        found_forms.then-known sets arrays item data_of data_of (worth arrays ns d) (λ o. found (λ p. changed g (both o p)) (worth arrays ns e)) v (err (Option Value) f) h
        (λ o i. then-fault data_of data_of (worth arrays ns e) (λ p. Ok (changed g (both o p))) f k)

    compared-made : (at n : ℕ) (r : Relation) (a b : Form) → nodes.compared sets arrays item at n r a b ≡ refused Form f → ⊥
    compared-made at n r a b e =
        let m : ℕ = nodes.size sets arrays (ranked a) + nodes.size sets arrays (ranked b) in
        let c : Cons = nodes.by_kind (alike (sort_of a) (sort_of b)) (nodes.op_of r) (ranked a) (ranked b) in
        folded-made n (a ∷ b ∷ []) (λ vs. values.Bool (relates r (value_at vs 0) (value_at vs 1))) (sized at m (condition_node item n c)) f e (λ h. condition-refused n c f (sized-refused at m (condition_node item n c) f h))

    same-made : (n : ℕ) (g h : Form) → nodes.same item n g h ≡ refused Form f → ⊥
    same-made n g h e =
        folded-made n (g ∷ h ∷ []) (λ vs. values.Bool (evaluation.same (is_true (value_at vs 0)) (is_true (value_at vs 1)))) (condition_node item n (C.Iff (as_condition g) (as_condition h))) f e
        (condition-refused n (C.Iff (as_condition g) (as_condition h)) f)

    mutual
      pub made-refused : (d : Draft) (n : ℕ) → made sets arrays item n d ≡ refused Form f → Faulty d
      made-refused (Draft.known at v) n e = absurd (counted-refused item n 1 1 (known v) f (sized-refused at (unsigned_abs (rank v)) (known_node item n v) f e))
      made-refused (Draft.broken fault) n e = ap (err (Option Value)) (fault-same Form fault f e)
      made-refused (Draft.variable at x kind) n e =
          absurd (element-refused (variable_sort sets kind x) at n (E.Var x) f (other_fault at) (past-refused (nat_lt x (length sets)) at (element_node sets arrays item (variable_sort sets kind x) at n (E.Var x)) f (other_fault at) e))
      made-refused (Draft.negated at d) n e =
          next-refused (Faulty (Draft.negated at d)) (as_operand item (place d) n (made sets arrays item n d)) (λ g. nodes.negated sets arrays item at n g) f e
          (λ h. then-fault data_of data_of (worth arrays ns d) (λ o. told (changed (λ v. integer (negative at (number v))) o)) f (made-refused d n (as_operand-refused (place d) n (made sets arrays item n d) f h)))
          (λ g h k. one-fault (λ v. integer (negative at (number v))) d (known_in g) (operand-comes d n g h) (negated-refused at n g f k))
      made-refused (Draft.absolute at d) n e =
          next-refused (Faulty (Draft.absolute at d)) (as_operand item (place d) n (made sets arrays item n d)) (λ g. nodes.absolute sets arrays item at n g) f e
          (λ h. then-fault data_of data_of (worth arrays ns d) (λ o. told (changed (λ v. integer (arithmetic.absolute at (number v))) o)) f (made-refused d n (as_operand-refused (place d) n (made sets arrays item n d) f h)))
          (λ g h k. one-fault (λ v. integer (arithmetic.absolute at (number v))) d (known_in g) (operand-comes d n g h) (absolute-refused at n g f k))
      made-refused (Draft.chain at d ss) n e =
          next-refused (Faulty (Draft.chain at d ss)) (as_operand item (place d) n (made sets arrays item n d)) (λ g. next (made_steps sets arrays item at n (g, []) ss) (λ ps. chained sets arrays item at n ps.0 ps.1)) f e
          (λ h.
          then-fault data_of data_of (worth arrays ns d) (λ o. then (worth_steps arrays ns at (begun o) ss) (λ s. found (changed values.Int) (told s))) f
          (made-refused d n (as_operand-refused (place d) n (made sets arrays item n d) f h)))
          (λ g h k.
          found_forms.then-known sets arrays item data_of data_of (worth arrays ns d) (λ o. then (worth_steps arrays ns at (begun o) ss) (λ s. found (changed values.Int) (told s))) (known_in g) (err (Option Value) f) (operand-comes d n g h)
          (λ o i.
          next-refused (found data_of (then (worth_steps arrays ns at (begun o) ss) (λ s. found (changed values.Int) (told s))) ≡ err (Option Value) f) (made_steps sets arrays item at n (g, []) ss) (λ ps. chained sets arrays item at n ps.0 ps.1) f k
          (λ w. then-fault data_of data_of (worth_steps arrays ns at (begun o) ss) (λ s. found (changed values.Int) (told s)) f (steps-refused ss at n (g, []) (begun o) (begun-data at o (known_in g) i) w))
          (λ ps w v.
          found_forms.then-known sets arrays item data_of data_of (worth_steps arrays ns at (begun o) ss) (λ s. found (changed values.Int) (told s)) (sum_data at (known_in ps.0) (map known_in ps.1)) (err (Option Value) f)
          (found_forms.steps-found sets arrays item small ns ss at n (g, []) ps (begun o) (begun-data at o (known_in g) i) w) (λ s j. chained-refused at n ps.0 ps.1 s f j v))))
      made-refused (Draft.related at r d e) n h =
          next-refused (Faulty (Draft.related at r d e)) (as_operand item (place d) n (made sets arrays item n d))
          (λ a. next (as_operand item (place e) (n + part_nodes a) (made sets arrays item (n + part_nodes a) e)) (λ b. nodes.compared sets arrays item at n r a b)) f h
          (λ k. then-fault data_of data_of (worth arrays ns d) (λ o. found (λ p. changed (λ p. values.Bool (relates r p.0 p.1)) (both o p)) (worth arrays ns e)) f (made-refused d n (as_operand-refused (place d) n (made sets arrays item n d) f k)))
          (λ a k w.
          next-refused (Faulty (Draft.related at r d e)) (as_operand item (place e) (n + part_nodes a) (made sets arrays item (n + part_nodes a) e)) (λ b. nodes.compared sets arrays item at n r a b) f w
          (λ v. two-fault (λ p. values.Bool (relates r p.0 p.1)) d e (known_in a) (operand-comes d n a k) (made-refused e (n + part_nodes a) (as_operand-refused (place e) (n + part_nodes a) (made sets arrays item (n + part_nodes a) e) f v)))
          (λ b v u. absurd (compared-made at n r a b u)))
      made-refused (Draft.implied at d e) n h =
          next-refused (Faulty (Draft.implied at d e)) (made sets arrays item n d) (λ a. next (made sets arrays item (n + part_nodes a) e) (λ b. nodes.implied item n a b)) f h
          (λ k. then-fault data_of data_of (worth arrays ns d) (λ o. found (λ p. changed (λ p. values.Bool (not (is_true p.0) || is_true p.1)) (both o p)) (worth arrays ns e)) f (made-refused d n k))
          (λ a k w.
          next-refused (Faulty (Draft.implied at d e)) (made sets arrays item (n + part_nodes a) e) (λ b. nodes.implied item n a b) f w
          (λ v. two-fault (λ p. values.Bool (not (is_true p.0) || is_true p.1)) d e (known_in a) (comes d n a k) (made-refused e (n + part_nodes a) v))
          (λ b v u.
          absurd
          (folded-made n (a ∷ b ∷ []) (λ vs. values.Bool (not (is_true (value_at vs 0)) || is_true (value_at vs 1))) (condition_node item n (C.Imp (as_condition a) (as_condition b))) f u (condition-refused n (C.Imp (as_condition a) (as_condition b)) f))))
      made-refused (Draft.equivalent at ds) n e =
          then-fault (map data_of) data_of (worths arrays ns ds) (λ os. Ok (changed (λ vs. values.Bool (evaluation.equivalent vs)) (each os))) f (first-refused ds n e)
      made-refused (Draft.one_of at ds) n e =
          next-refused (Faulty (Draft.one_of at ds)) (made_all sets arrays item n ds) (λ gs. nodes.one_holds item n gs) f e
          (λ h. then-fault (map data_of) data_of (worths arrays ns ds) (λ os. Ok (changed (λ vs. values.Bool (list_any is_true vs)) (each os))) f (all-refused ds n h))
          (λ gs h k. absurd (folded-made n gs (λ vs. values.Bool (list_any is_true vs)) (condition_node item n (C.Or (map as_condition gs))) f k (condition-refused n (C.Or (map as_condition gs)) f)))
      made-refused (Draft.all_of at ds) n e =
          next-refused (Faulty (Draft.all_of at ds)) (made_all sets arrays item n ds) (λ gs. nodes.all_hold item n gs) f e
          (λ h. then-fault (map data_of) data_of (worths arrays ns ds) (λ os. Ok (changed (λ vs. values.Bool (list_all is_true vs)) (each os))) f (all-refused ds n h))
          (λ gs h k. absurd (folded-made n gs (λ vs. values.Bool (list_all is_true vs)) (condition_node item n (C.And (map as_condition gs))) f k (condition-refused n (C.And (map as_condition gs)) f)))
      made-refused (Draft.opposite at d) n e =
          next-refused (Faulty (Draft.opposite at d)) (made sets arrays item n d) (λ g. nodes.opposite item n g) f e
          (λ h. then-fault data_of data_of (worth arrays ns d) (λ o. Ok (changed (λ v. values.Bool (not (is_true v))) o)) f (made-refused d n h))
          (λ g h k. absurd (folded-made n (g ∷ []) (λ vs. values.Bool (not (is_true (value_at vs 0)))) (condition_node item n (C.Not (as_condition g))) f k (condition-refused n (C.Not (as_condition g)) f)))
      made-refused (Draft.aggregate at op ds) n e =
          next-refused (Faulty (Draft.aggregate at op ds)) (made_operands sets arrays item n ds) (λ gs. nodes.aggregated sets arrays item op at n gs) f e
          (λ h. then-fault (map data_of) data_of (worths arrays ns ds) (aggregated op at) f (operands-refused ds n h))
          (λ gs h k.
          found_forms.then-known sets arrays item (map data_of) data_of (worths arrays ns ds) (aggregated op at) (map known_in gs) (err (Option Value) f) (found_forms.operands-found sets arrays item small ns ds n gs h)
          (λ os i. aggregate-refused op at n gs os f (found_forms.operands-small sets arrays item small ns n ds gs h) i k))
      made-refused (Draft.different at a) n e = absurd (different-made at n a f (other_fault at) e)
      made-refused (Draft.element at k ds) n e =
          next-refused (Faulty (Draft.element at k ds)) (made_all sets arrays item n ds) (λ gs. nodes.indexed sets arrays item at n k (array_of arrays k) (places ds) gs) f e
          (λ h. then-fault (map data_of) data_of (worths arrays ns ds) (indexed arrays ns at (array_at arrays ns k)) f (all-refused ds n h))
          (λ gs h w. absurd (indexed-made at n k (array_of arrays k) (places ds) gs f (other_fault at) w))

      all-refused : (ds : Drafts) (n : ℕ) → made_all sets arrays item n ds ≡ refused (List Form) f → AreFaulty ds
      all-refused no_drafts n e = absurd (cc)
      all-refused (more_drafts d ds) n e =
          next-refused (AreFaulty (more_drafts d ds)) (made sets arrays item n d) (λ g. next (made_all sets arrays item (n + part_nodes g) ds) (λ gs. Ok (g ∷ gs))) f e (λ h. first-fault d ds (made-refused d n h))
          (λ g h k.
          next-refused (AreFaulty (more_drafts d ds)) (made_all sets arrays item (n + part_nodes g) ds) (λ gs. Ok (g ∷ gs)) f k (λ w. more-fault d ds (known_in g) (comes d n g h) (all-refused ds (n + part_nodes g) w)) (λ gs w v. absurd (cc)))

      operands-refused : (ds : Drafts) (n : ℕ) → made_operands sets arrays item n ds ≡ refused (List Form) f → AreFaulty ds
      operands-refused no_drafts n e = absurd (cc)
      operands-refused (more_drafts d ds) n e =
          next-refused (AreFaulty (more_drafts d ds)) (as_operand item (place d) n (made sets arrays item n d)) (λ g. next (made_operands sets arrays item (n + part_nodes g) ds) (λ gs. Ok (g ∷ gs))) f e
          (λ h. first-fault d ds (made-refused d n (as_operand-refused (place d) n (made sets arrays item n d) f h)))
          (λ g h k.
          next-refused (AreFaulty (more_drafts d ds)) (made_operands sets arrays item (n + part_nodes g) ds) (λ gs. Ok (g ∷ gs)) f k (λ w. more-fault d ds (known_in g) (operand-comes d n g h) (operands-refused ds (n + part_nodes g) w)) (λ gs w v. absurd (cc)))

      steps-refused : (ss : Steps) (at n : ℕ) (ps : nodes.Parts) (s : spec.Sum) → data_of s ≡ sum_data at (known_in ps.0) (map known_in ps.1) → made_steps sets arrays item at n ps ss ≡ refused nodes.Parts f →
          found data_of (worth_steps arrays ns at s ss) ≡ err (Option (Found ℤ)) f
      steps-refused no_steps at n ps s e r = absurd (cc)
      steps-refused (more_steps sign d ss) at n ps s e r =
          let m : ℕ = n + parts_nodes ps in
          next-refused (found data_of (worth_steps arrays ns at s (more_steps sign d ss)) ≡ err (Option (Found ℤ)) f) (as_operand item (place d) m (made sets arrays item m d))
          (λ g. next (nodes.stepped sets arrays item sign at (place d) n ps g) (λ qs. made_steps sets arrays item at n qs ss)) f r
          (λ h. then-fault data_of data_of (worth arrays ns d) (λ o. then (stepped at sign s o) (λ t. worth_steps arrays ns at t ss)) f (made-refused d m (as_operand-refused (place d) m (made sets arrays item m d) f h)))
          (λ g h k.
          found_forms.then-known sets arrays item data_of data_of (worth arrays ns d) (λ o. then (stepped at sign s o) (λ t. worth_steps arrays ns at t ss)) (known_in g) (err (Option (Found ℤ)) f) (operand-comes d m g h)
          (λ o i.
          next-refused (found data_of (then (stepped at sign s o) (λ t. worth_steps arrays ns at t ss)) ≡ err (Option (Found ℤ)) f) (nodes.stepped sets arrays item sign at (place d) n ps g) (λ qs. made_steps sets arrays item at n qs ss) f k
          (λ w. then-fault data_of data_of (stepped at sign s o) (λ t. worth_steps arrays ns at t ss) f (stepped-refused at (place d) n sign ps g s o f (found_forms.first-small sets arrays item small ns m d g h) e i w))
          (λ qs w v.
          found_forms.then-known sets arrays item data_of data_of (stepped at sign s o) (λ t. worth_steps arrays ns at t ss) (sum_data at (known_in qs.0) (map known_in qs.1)) (err (Option (Found ℤ)) f)
          (found_forms.stepped-data sets arrays item at (place d) n sign ps qs g s o e i w) (λ t j. steps-refused ss at n qs t j v))))

      first-refused : (ds : Drafts) (n : ℕ) → made_first sets arrays item n ds ≡ refused Form f → AreFaulty ds
      first-refused no_drafts n e = absurd (counted-refused item n 1 1 (known (values.Bool true)) f e)
      first-refused (more_drafts d ds) n e =
          next-refused (AreFaulty (more_drafts d ds)) (made sets arrays item n d) (λ g. next (truth_part item n g) (λ h. made_same sets arrays item n h ds)) f e (λ h. first-fault d ds (made-refused d n h))
          (λ g h k.
          next-refused (AreFaulty (more_drafts d ds)) (truth_part item n g) (λ h. made_same sets arrays item n h ds) f k (λ w. absurd (truth-refused n g f w)) (λ t w v. more-fault d ds (known_in g) (comes d n g h) (rest-refused ds n t v)))

      rest-refused : (ds : Drafts) (n : ℕ) (g : Form) → made_same sets arrays item n g ds ≡ refused Form f → AreFaulty ds
      rest-refused no_drafts n g e = absurd (cc)
      rest-refused (more_drafts d ds) n g e =
          next-refused (AreFaulty (more_drafts d ds)) (made sets arrays item (n + part_nodes g) d) (λ h. next (nodes.same item n g h) (λ k. made_same sets arrays item n k ds)) f e (λ h. first-fault d ds (made-refused d (n + part_nodes g) h))
          (λ h k w.
          next-refused (AreFaulty (more_drafts d ds)) (nodes.same item n g h) (λ k. made_same sets arrays item n k ds) f w (λ v. absurd (same-made n g h v))
          (λ t v u. more-fault d ds (known_in h) (comes d (n + part_nodes g) h k) (rest-refused ds n t u)))

pub refused_is_fault : RefusedIsFault
refused_is_fault sets arrays item n d f all other_fault e ns = fault-back data_of (worth arrays ns d) f (made-refused sets arrays item (known-small sets arrays item all) ns f other_fault d n e)
