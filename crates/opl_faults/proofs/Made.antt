-- Want of memory is no fault of forms whose drafts hold none.
use Rattle.std.proofs.Common.{◌≡◌, ◌≢◌, ℕ, zero, suc, ◌+◌, ◌^◌, ℤ, pos, Bool, true, false, cond, nat_le, nat_lt, unsigned_abs, List, [], ◌∷◌, ◌++◌, map, Option, None, Some, Ok, Err, sym, subst}
use Rattle.std.specs.Prelude.{length, int_div, neg_ℤ, ◌*ℤ◌, ◌-ℤ◌}
use Rattle.std.specs.Ordering.{int_eq}
use Rattle.opl_tree.specs.declared.expression.AggregateOp.{AggregateOp}
use Rattle.opl_tree.specs.declared.expression.AggregateOp.TheVariants.{Sum, Product, Min, Max}
use Rattle.opl_tree.specs.declared.expression.Relation.{Relation}
use Rattle.opl_tree.specs.declared.instruction.InstrTree.{InstrTree}
use Rattle.opl_value.specs.declared.value.Value.{Value}
use Rattle.opl_value.specs.declared.value.Value.TheVariants as values
use Rattle.opl_value.specs.Places.{place_of, value_at}
use Rattle.opl_eval.specs.declared.fault.EvalFault.{EvalFault}
use Rattle.opl_eval.specs.declared.fault.EvalFault.TheVariants.{DivByZero, OutOfIndex, EmptyMinMax, OutOfMemory}
use Rattle.opl_eval.specs.declared.arithmetic.Operation.TheVariants as operations
use Rattle.opl_eval.specs.Arithmetic as arithmetic
use Rattle.opl_eval.specs.Compare as compare
use Rattle.opl_eval.specs.Compare.{rank}
use Rattle.opl_eval.specs.Evaluation as evaluation
use Rattle.opl_eval.specs.Evaluation.{Environment, Found, with_parameters}
use Rattle.opl_eval.proofs.NoMemory.{IsReal, Real, real_cond, real_err, real_found, real_ok, real_run, real_sized}
use Rattle.opl_meaning.specs.declared.variable.VariableItem.{VariableItem}
use Rattle.opl_meaning.specs.Runs.{Names}
use Rattle.opl_meaning.specs.Uses.{place_of as term_place}
use Rattle.opl_draft.specs.Drafts.{Cells, Draft, Drafts, Leaves, Sign, Steps}
use Rattle.opl_draft.specs.Drafts.Drafts.{no_drafts, more_drafts}
use Rattle.opl_draft.specs.Drafts.Leaves.{listed, numbered}
use Rattle.opl_draft.specs.Drafts.Sign.{plus, minus, times, quotient, remainder}
use Rattle.opl_draft.specs.Drafts.Steps.{no_steps, more_steps}
use Rattle.opl_draft.specs.Instances.{Condition, Instance, condition_of, instances}
use Rattle.opl_draft.specs.Instances.Instance.{posted, stopped}
use Rattle.opl_draft.specs.Laws.{StepByForm, UnrolledByForm, arrays}
use Rattle.opl_draft.specs.Unrolled.{unrolled}
use Rattle.opl_expr.specs.declared.forms.Cons.{Cons}
use Rattle.opl_expr.specs.declared.forms.Expr.{Expr}
use Rattle.opl_expr.specs.declared.forms.Expr.TheVariants as E
use Rattle.opl_form.specs.Forms.{form, forms}
use Rattle.opl_form.specs.Laws.{declared_ends}
use Rattle.opl_form.specs.Made.{array_of, made, made_all, made_first, made_operands, made_same, made_steps, place, places}
use Rattle.opl_form.specs.Measures.{depth, part_nodes, nodes}
use Rattle.opl_form.specs.Nodes as made_nodes
use Rattle.opl_form.specs.Nodes.{Fault, Made, Parts, all_hold, aggregated, as_operand, by_sign, chain_of, chained, compared, condition_node, counted, different, element_at, element_node, evaluated, folded, greatest_of, implied, indexed, is_zero, known_node, least, looked_up, multiplied, divided, left_over, next, number_node, number_part, one_holds, operand, opposite, parts_nodes, placed, product, product_from, same, sized, stepped, summed, truth_part, unless_zero, value_node, variable_sort, with_indices}
use Rattle.opl_form.specs.Nodes.Fault.{eval, large, deep, many}
use Rattle.opl_form.specs.Parts.{Form, Sort, all_known, are_indices, as_condition, as_number, indices_of, leaves, ranked, subscripts_fit}
use Rattle.opl_form.specs.Parts.Form.{known, number, name, condition, truth}
use Rattle.opl_form.specs.Parts.Sort.{whole, named, other}
use Rattle.opl_optimum.specs.Goals.{goal_form, goal_with}
use Rattle.opl_faults.specs.Laws.{FormsNeverMemory, GoalsNeverMemory}
use Rattle.opl_faults.proofs.Instances.{AreGoing, IsGoing, instances-go}
use Rattle.opl_faults.proofs.Unrolled.{AreCalm, AreCalmSteps, IsCalm, term-calm}

-- ---- faults other than want of memory

abbrev RealFault : Fault → Type 0
RealFault (eval fault) = IsReal fault
RealFault (large at) = Unit {0}
RealFault (deep at) = Unit {0}
RealFault (many at) = Unit {0}

unfoldable RealMade : {A : Type 0} → Made A → Type 0
RealMade (Ok a) = Unit {0}
RealMade (Err fault) = RealFault fault

made-ok : {A : Type 0} (a : A) → RealMade (Ok a)
unfolding RealMade
made-ok a = tt

made-err : (A : Type 0) (fault : Fault) → RealFault fault → RealMade {A = A} (Err fault)
unfolding RealMade
made-err A fault h = h

made-never : {A : Type 0} (r : Made A) → RealMade r → r ≢ Err (eval OutOfMemory)
unfolding RealMade
made-never r h is = subst (λ s. RealMade s) is h

made-next : {A B : Type 0} (r : Made A) (f : A → Made B) → RealMade r → ((a : A) → RealMade (f a)) → RealMade (next r f)
unfolding RealMade
made-next (Ok a) f h g = g a
made-next (Err fault) f h g = h

made-cond : {A : Type 0} (b : Bool) (r s : Made A) → RealMade r → RealMade s → RealMade (cond b r s)
made-cond true r s h g = h
made-cond false r s h g = g

made-sized : {A : Type 0} (at m : ℕ) (r : Made A) → RealMade r → RealMade (sized at m r)
made-sized {A = A} at m r h = made-cond (nat_lt m (2 ^ 127)) r (Err (large at)) h (made-err A (large at) tt)

-- ---- nodes

module _ (item : ℕ) where
  made-counted : (n deep_ more : ℕ) (g : Form) → RealMade (counted item n deep_ more g)
  made-counted n deep_ more g =
      made-cond (nat_le deep_ 2048) (cond (nat_le (n + more) 4194304) (Ok g) (Err (many item))) (Err (deep item))
      (made-cond (nat_le (n + more) 4194304) (Ok g) (Err (many item)) (made-ok g) (made-err Form (many item) tt)) (made-err Form (deep item) tt)

  made-evaluated : (n : ℕ) (r : Found Value) → Real r → RealMade (evaluated item n r)
  unfolding Real
  made-evaluated n (Ok v) h = made-counted n 1 1 (known v)
  made-evaluated n (Err fault) h = made-err Form (eval fault) h

  made-folded : (n : ℕ) (vs : Option (List Value)) (come : List Value → Found Value) (node : Made Form) → ((vs : List Value) → Real (come vs)) → RealMade node → RealMade (folded item n vs come node)
  made-folded n (Some vs) come node h g = made-evaluated n (come vs) (h vs)
  made-folded n None come node h g = g

  made-condition : (n : ℕ) (c : Cons) → RealMade (condition_node item n c)
  made-condition n c = made-counted n _ _ (condition c)

  made-one : (n : ℕ) (gs : List Form) → RealMade (one_holds item n gs)
  made-one n gs = made-folded n (all_known gs) _ _ (λ vs. real_ok _) (made-condition n _)

  made-all-hold : (n : ℕ) (gs : List Form) → RealMade (all_hold item n gs)
  made-all-hold n gs = made-folded n (all_known gs) _ _ (λ vs. real_ok _) (made-condition n _)

  made-implied : (n : ℕ) (g h : Form) → RealMade (implied item n g h)
  made-implied n g h = made-folded n (all_known (g ∷ h ∷ [])) _ _ (λ vs. real_ok _) (made-condition n _)

  made-as : (n : ℕ) (g h : Form) → RealMade (same item n g h)
  made-as n g h = made-folded n (all_known (g ∷ h ∷ [])) _ _ (λ vs. real_ok _) (made-condition n _)

  made-opposite : (n : ℕ) (g : Form) → RealMade (opposite item n g)
  made-opposite n g = made-folded n (all_known (g ∷ [])) _ _ (λ vs. real_ok _) (made-condition n _)

  made-truth : (n : ℕ) (g : Form) → RealMade (truth_part item n g)
  made-truth n (known v) = made-ok _
  made-truth n (condition c) = made-ok _
  made-truth n (number e) = made-condition n _
  made-truth n (name d e) = made-condition n _
  made-truth n (truth c) = made-condition n _

  made-operand : (at n : ℕ) (g : Form) → RealMade (operand item at n g)
  made-operand at n (known v) = made-ok _
  made-operand at n (number e) = made-ok _
  made-operand at n (name d e) = made-ok _
  made-operand at n (condition c) = made-sized at 1 _ (made-counted n _ _ (truth c))
  made-operand at n (truth c) = made-ok _

  made-as-operand : (at n : ℕ) (r : Made Form) → RealMade r → RealMade (as_operand item at n r)
  made-as-operand at n r h = made-next r (λ g. operand item at n g) h (λ g. made-operand at n g)

  made-value : (at n : ℕ) (v : Value) → RealMade (value_node item at n v)
  made-value at n v = made-sized at (unsigned_abs (rank v)) _ (made-counted n 1 1 (known v))

-- ---- numbers

real-integer : (r : Found ℤ) → Real r → Real (evaluation.integer r)
real-integer r h = real_found values.Int r h

real-chain : (at : ℕ) (vs : List Value) → Real (chain_of at vs)
real-chain at [] = real_ok _
real-chain at (v ∷ vs) = real-integer (arithmetic.run at (compare.number v) (map operations.Plus (map compare.number vs))) (real_run at (compare.number v) (map operations.Plus (map compare.number vs)))

real-quotient : (at : ℕ) (a b : ℤ) → Real (arithmetic.quotient at a b)
real-quotient at a b = real_cond (int_eq b (pos 0)) (Err (DivByZero at)) (arithmetic.sized at (int_div a b)) (real_err ℤ (DivByZero at) tt) (real_sized at (int_div a b))

real-remainder : (at : ℕ) (a b : ℤ) → Real (arithmetic.remainder at a b)
real-remainder at a b = real_cond (int_eq b (pos 0)) (Err (DivByZero at)) (arithmetic.sized at (a -ℤ b *ℤ int_div a b)) (real_err ℤ (DivByZero at) tt) (real_sized at (a -ℤ b *ℤ int_div a b))

real-least : (at : ℕ) (ns : List ℤ) → Real (arithmetic.least at ns)
real-least at [] = real_err ℤ (EmptyMinMax at) tt
real-least at (n ∷ ns) = real_ok _

real-greatest : (at : ℕ) (ns : List ℤ) → Real (arithmetic.greatest at ns)
real-greatest at [] = real_err ℤ (EmptyMinMax at) tt
real-greatest at (n ∷ ns) = real_ok _

module _ (sets : List (ℤ × ℤ)) (arrays : List Cells) (item : ℕ) where
  made-number : (at n : ℕ) (e : Expr) → RealMade (number_node sets arrays item at n e)
  made-number at n e = made-sized at (made_nodes.size sets arrays e) (counted item n (depth e) (nodes e) (number e)) (made-counted item n (depth e) (nodes e) (number e))

  made-number-part : (at n : ℕ) (g : Form) → RealMade (number_part sets arrays item at n g)
  made-number-part at n (known v) = made-ok _
  made-number-part at n (number e) = made-ok _
  made-number-part at n (name d e) = made-number at n _
  made-number-part at n (condition c) = made-number at n _
  made-number-part at n (truth c) = made-number at n _

  made-summed : (at n : ℕ) (gs : List Form) → RealMade (summed sets arrays item at n gs)
  made-summed at n gs = made-folded item n (all_known gs) _ _ (λ vs. real-integer (arithmetic.sum at (map compare.number vs)) (real_run at (pos 0) (map operations.Plus (map compare.number vs)))) (made-number at n (E.Sum (map as_number gs)))

  made-chained : (at n : ℕ) (g : Form) (gs : List Form) → RealMade (chained sets arrays item at n g gs)
  made-chained at n g [] = made-number-part at n g
  made-chained at n g (h ∷ hs) = made-folded item n (all_known (g ∷ h ∷ hs)) (chain_of at) _ (real-chain at) (made-number at n _)

  made-negated : (at n : ℕ) (g : Form) → RealMade (made_nodes.negated sets arrays item at n g)
  made-negated at n g = made-folded item n (all_known (g ∷ [])) _ _ (λ vs. real-integer _ (real_sized at _)) (made-number at n _)

  made-absolute : (at n : ℕ) (g : Form) → RealMade (made_nodes.absolute sets arrays item at n g)
  made-absolute at n g = made-folded item n (all_known (g ∷ [])) _ _ (λ vs. real-integer _ (real_sized at _)) (made-number at n _)

  made-multiplied : (at n : ℕ) (g h : Form) → RealMade (multiplied sets arrays item at n g h)
  made-multiplied at n g h = made-folded item n (all_known (g ∷ h ∷ [])) _ _ (λ vs. real-integer _ (real_sized at _)) (made-number at n _)

  made-unless : (at : ℕ) (g : Form) (r : Made Form) → RealMade r → RealMade (unless_zero at g r)
  made-unless at g r h = made-cond (is_zero g) (Err (eval (DivByZero at))) r (made-err Form (eval (DivByZero at)) tt) h

  made-divided : (at n : ℕ) (g h : Form) → RealMade (divided sets arrays item at n g h)
  made-divided at n g h = made-unless at h _ (made-folded item n (all_known (g ∷ h ∷ [])) _ _ (λ vs. real-integer (arithmetic.quotient at (compare.number (value_at vs 0)) (compare.number (value_at vs 1))) (real-quotient at (compare.number (value_at vs 0)) (compare.number (value_at vs 1)))) (made-number at n (E.Div (as_number g) (as_number h))))

  made-left-over : (at n : ℕ) (g h : Form) → RealMade (left_over sets arrays item at n g h)
  made-left-over at n g h = made-unless at h _ (made-folded item n (all_known (g ∷ h ∷ [])) _ _ (λ vs. real-integer (arithmetic.remainder at (compare.number (value_at vs 0)) (compare.number (value_at vs 1))) (real-remainder at (compare.number (value_at vs 0)) (compare.number (value_at vs 1)))) (made-number at n (E.Rem (as_number g) (as_number h))))

  made-product-from : (at n : ℕ) (g : Form) (gs : List Form) → RealMade (product_from sets arrays item at n g gs)
  made-product-from at n g [] = made-number-part at n g
  made-product-from at n g (h ∷ hs) = made-next (multiplied sets arrays item at n g h) (λ k. product_from sets arrays item at n k hs) (made-multiplied at n g h) (λ k. made-product-from at n k hs)

  made-product : (at n : ℕ) (gs : List Form) → RealMade (product sets arrays item at n gs)
  made-product at n [] = made-counted item n 1 1 _
  made-product at n (g ∷ gs) = made-product-from at n g gs

  made-least : (at n : ℕ) (gs : List Form) → RealMade (least sets arrays item at n gs)
  made-least at n [] = made-err Form (eval (EmptyMinMax at)) tt
  made-least at n (g ∷ gs) = made-folded item n (all_known (g ∷ gs)) _ _ (λ vs. real-integer _ (real-least at _)) (made-number at n _)

  made-greatest : (at n : ℕ) (gs : List Form) → RealMade (greatest_of sets arrays item at n gs)
  made-greatest at n [] = made-err Form (eval (EmptyMinMax at)) tt
  made-greatest at n (g ∷ gs) = made-folded item n (all_known (g ∷ gs)) _ _ (λ vs. real-integer _ (real-greatest at _)) (made-number at n _)

  made-aggregated : (op : AggregateOp) (at n : ℕ) (gs : List Form) → RealMade (aggregated sets arrays item op at n gs)
  made-aggregated Sum at n gs = made-summed at n gs
  made-aggregated Product at n gs = made-product at n gs
  made-aggregated Min at n gs = made-least at n gs
  made-aggregated Max at n gs = made-greatest at n gs

  made-by-sign : (s : Sign) (at n : ℕ) (g h : Form) → RealMade (by_sign sets arrays item s at n g h)
  made-by-sign plus at n g h = made-multiplied at n g h
  made-by-sign minus at n g h = made-multiplied at n g h
  made-by-sign times at n g h = made-multiplied at n g h
  made-by-sign quotient at n g h = made-divided at n g h
  made-by-sign remainder at n g h = made-left-over at n g h

  made-multiplying : (s : Sign) (at n : ℕ) (ps : Parts) (g : Form) → RealMade {A = Parts} (next (chained sets arrays item at n ps.0 ps.1) (λ a. next (by_sign sets arrays item s at n a g) (λ h. Ok (h, []))))
  made-multiplying s at n ps g =
      made-next (chained sets arrays item at n ps.0 ps.1) (λ a. next (by_sign sets arrays item s at n a g) (λ h. Ok (h, []))) (made-chained at n ps.0 ps.1)
      (λ a. made-next (by_sign sets arrays item s at n a g) (λ h. Ok (h, [])) (made-by-sign s at n a g) (λ h. made-ok _))

  made-stepped : (s : Sign) (at own n : ℕ) (ps : Parts) (g : Form) → RealMade (stepped sets arrays item s at own n ps g)
  made-stepped plus at own n ps g = made-ok _
  made-stepped minus at own n ps g =
      made-next (made_nodes.negated sets arrays item own (n + parts_nodes ps) g) (λ h. Ok (ps.0, ps.1 ++ h ∷ [])) (made-negated own (n + parts_nodes ps) g) (λ h. made-ok _)
  made-stepped times at own n ps g = made-multiplying times at n ps g
  made-stepped quotient at own n ps g = made-multiplying quotient at n ps g
  made-stepped remainder at own n ps g = made-multiplying remainder at n ps g

  made-compared : (at n : ℕ) (r : Relation) (g h : Form) → RealMade (compared sets arrays item at n r g h)
  made-compared at n r g h = made-folded item n (all_known (g ∷ h ∷ [])) _ _ (λ vs. real_ok _) (made-sized at _ _ (made-condition item n _))

  -- ---- arrays

  made-different : (at n : ℕ) (a : Option Cells) → RealMade (different sets arrays item at n a)
  made-different at n None = made-counted item n 1 1 _
  made-different at n (Some a) =
      made-cond (made_nodes.are_alike sets a.leaves) (made_nodes.all_differ sets arrays item at n (leaves a.leaves)) (Err (eval (OutOfIndex at)))
      (made-folded item n (all_known (leaves a.leaves)) _ _ (λ vs. real_ok _) (made-sized at _ _ (made-condition item n _))) (made-err Form (eval (OutOfIndex at)) tt)

  made-with-indices : (ds : List (List Value)) (ats : List ℕ) (gs : List Form) (r : Made Form) → RealMade r → RealMade (with_indices sets arrays item ds ats gs r)
  made-with-indices (d ∷ ds) (at ∷ ats) (g ∷ gs) r h = made-sized at _ _ (made-with-indices ds ats gs r h)
  made-with-indices [] ats gs r h = h
  made-with-indices (d ∷ ds) [] gs r h = h
  made-with-indices (d ∷ ds) (at ∷ ats) [] r h = h

  made-element : (s : Sort) (at n : ℕ) (e : Expr) → RealMade (element_node sets arrays item s at n e)
  made-element whole at n e = made-number at n e
  made-element (named d) at n e = made-sized at (made_nodes.size sets arrays e) (counted item n (depth e) (nodes e) (name d e)) (made-counted item n (depth e) (nodes e) (name d e))
  made-element other at n e = made-err Form (eval (OutOfIndex at)) tt

  made-element-at : (at n : ℕ) (ls : Leaves) (p : ℕ) → RealMade (element_at sets arrays item at n ls p)
  made-element-at at n (listed vs) p = made-value item at n (value_at vs p)
  made-element-at at n (numbered kind x count) p =
      made-cond (nat_lt p count) (element_node sets arrays item (variable_sort sets kind (x + p)) at n (E.Var (x + p))) (Err (eval (OutOfIndex at))) (made-element _ at n _) (made-err Form (eval (OutOfIndex at)) tt)

  made-placed : (at n : ℕ) (ls : Leaves) (p : Option ℕ) → RealMade (placed sets arrays item at n ls p)
  made-placed at n ls None = made-err Form (eval (OutOfIndex at)) tt
  made-placed at n ls (Some p) = made-element-at at n ls p

  made-looked-up : (at n : ℕ) (key : Option (List Value)) (k : ℕ) (a : Cells) (ats : List ℕ) (gs : List Form) → RealMade (looked_up sets arrays item at n key k a ats gs)
  made-looked-up at n (Some key) k a ats gs = made-placed at n a.leaves (place_of a.dims key)
  made-looked-up at n None k a ats gs = made-cond _ _ (Err (eval (OutOfIndex at))) (made-with-indices a.dims ats gs _ (made-element _ at n _)) (made-err Form (eval (OutOfIndex at)) tt)

  made-indexed : (at n : ℕ) (k : Option ℕ) (a : Option Cells) (ats : List ℕ) (gs : List Form) → RealMade (indexed sets arrays item at n k a ats gs)
  made-indexed at n (Some k) (Some a) ats gs = made-looked-up at n (all_known gs) k a ats gs
  made-indexed at n (Some k) None ats gs = made-err Form (eval (OutOfIndex at)) tt
  made-indexed at n None a ats gs = made-err Form (eval (OutOfIndex at)) tt

  -- ---- drafts

  mutual
    draft-made : (n : ℕ) (d : Draft) → IsCalm d → RealMade (made sets arrays item n d)
    draft-made n (Draft.known at v) h = made-value item at n v
    draft-made n (Draft.broken fault) h = made-err Form (eval fault) h
    draft-made n (Draft.variable at x kind) h = made-cond (nat_lt x (length sets)) _ (Err (eval (OutOfIndex at))) (made-element _ at n _) (made-err Form (eval (OutOfIndex at)) tt)
    draft-made n (Draft.negated at d) h = made-next _ _ (made-as-operand item (place d) n (made sets arrays item n d) (draft-made n d h)) (λ g. made-negated at n g)
    draft-made n (Draft.chain at d ss) h = made-next _ _ (made-as-operand item (place d) n (made sets arrays item n d) (draft-made n d h.0)) (λ g. made-next _ _ (steps-made at n (g, []) ss h.1) (λ ps. made-chained at n ps.0 ps.1))
    draft-made n (Draft.related at r d e) h = made-next _ _ (made-as-operand item (place d) n (made sets arrays item n d) (draft-made n d h.0)) (λ g. made-next _ _ (made-as-operand item (place e) (n + part_nodes g) (made sets arrays item (n + part_nodes g) e) (draft-made (n + part_nodes g) e h.1)) (λ k. made-compared at n r g k))
    draft-made n (Draft.equivalent at ds) h = first-made n ds h
    draft-made n (Draft.implied at d e) h = made-next _ _ (draft-made n d h.0) (λ g. made-next _ _ (draft-made (n + part_nodes g) e h.1) (λ k. made-implied item n g k))
    draft-made n (Draft.one_of at ds) h = made-next _ _ (drafts-made n ds h) (λ gs. made-one item n gs)
    draft-made n (Draft.all_of at ds) h = made-next _ _ (drafts-made n ds h) (λ gs. made-all-hold item n gs)
    draft-made n (Draft.opposite at d) h = made-next _ _ (draft-made n d h) (λ g. made-opposite item n g)
    draft-made n (Draft.aggregate at op ds) h = made-next _ _ (operands-made n ds h) (λ gs. made-aggregated op at n gs)
    draft-made n (Draft.absolute at d) h = made-next _ _ (made-as-operand item (place d) n (made sets arrays item n d) (draft-made n d h)) (λ g. made-absolute at n g)
    draft-made n (Draft.different at a) h = made-different at n a
    draft-made n (Draft.element at k ds) h = made-next _ _ (drafts-made n ds h) (λ gs. made-indexed at n k (array_of arrays k) (places ds) gs)

    drafts-made : (n : ℕ) (ds : Drafts) → AreCalm ds → RealMade (made_all sets arrays item n ds)
    drafts-made n no_drafts h = made-ok _
    drafts-made n (more_drafts d ds) h = made-next _ _ (draft-made n d h.0) (λ g. made-next _ _ (drafts-made (n + part_nodes g) ds h.1) (λ gs. made-ok _))

    operands-made : (n : ℕ) (ds : Drafts) → AreCalm ds → RealMade (made_operands sets arrays item n ds)
    operands-made n no_drafts h = made-ok _
    operands-made n (more_drafts d ds) h = made-next _ _ (made-as-operand item (place d) n (made sets arrays item n d) (draft-made n d h.0)) (λ g. made-next _ _ (operands-made (n + part_nodes g) ds h.1) (λ gs. made-ok _))

    steps-made : (at n : ℕ) (ps : Parts) (ss : Steps) → AreCalmSteps ss → RealMade (made_steps sets arrays item at n ps ss)
    steps-made at n ps no_steps h = made-ok _
    steps-made at n ps (more_steps s d ss) h =
        made-next _ _ (made-as-operand item (place d) (n + parts_nodes ps) (made sets arrays item (n + parts_nodes ps) d) (draft-made (n + parts_nodes ps) d h.0)) (λ g. made-next _ _ (made-stepped s at (place d) n ps g) (λ qs. steps-made at n qs ss h.1))

    first-made : (n : ℕ) (ds : Drafts) → AreCalm ds → RealMade (made_first sets arrays item n ds)
    first-made n no_drafts h = made-counted item n 1 1 _
    first-made n (more_drafts d ds) h = made-next _ _ (draft-made n d h.0) (λ g. made-next _ _ (made-truth item n g) (λ k. same-made n k ds h.1))

    same-made : (n : ℕ) (g : Form) (ds : Drafts) → AreCalm ds → RealMade (made_same sets arrays item n g ds)
    same-made n g no_drafts h = made-ok g
    same-made n g (more_drafts d ds) h = made-next _ _ (draft-made (n + part_nodes g) d h.0) (λ k. made-next _ _ (made-as item n g k) (λ l. same-made n l ds h.1))

-- ---- objectives

module _ (sets : List (ℤ × ℤ)) (arrays : List Cells) (item : ℕ) where
  goal-made : (d : Draft) → IsCalm d → RealMade (goal_form sets arrays item d)
  goal-made d h =
      made-next _ _ (made-next _ _ (made-as-operand item (place d) 0 (made sets arrays item 0 d) (draft-made sets arrays item 0 d h)) (λ g. made-number-part sets arrays item (place d) 0 g))
      (λ g. made-sized (place d) _ (Ok g) (made-ok g))

pub goals_never_memory : UnrolledByForm → StepByForm → GoalsNeverMemory
goals_never_memory by_form step_by_form env items names None = made-never _ (made-ok None)
goals_never_memory by_form step_by_form env items names (Some g) =
    made-never _ (made-next (goal_form (declared_ends items) (arrays env items) (term_place g.term) (unrolled items names g.term env)) (λ f. Ok (Some (goal_with g f)))
    (goal-made (declared_ends items) (arrays env items) (term_place g.term) (unrolled items names g.term env) (term-calm by_form step_by_form items names g.term env)) (λ f. made-ok (Some (goal_with g f))))

-- ---- conditions

module _ (by_form : UnrolledByForm) (step_by_form : StepByForm) (sets : List (ℤ × ℤ)) (arrays : List Cells) (items : List VariableItem) (names : Names) (env : Environment) where
  condition-calm : (i : Instance) → IsGoing i → IsCalm (condition_of items names env i).draft
  condition-calm (posted at t ps) h = term-calm by_form step_by_form items names t (with_parameters ps env)
  condition-calm (stopped fault) h = h

  form-made : (n : ℕ) (i : Instance) → IsGoing i → RealMade (form sets arrays n (condition_of items names env i))
  form-made n i h =
      made-next _ _ (draft-made sets arrays (condition_of items names env i).at n (condition_of items names env i).draft (condition-calm i h)) (λ g. made-truth (condition_of items names env i).at n g)

  forms-made : (n : ℕ) (is : List Instance) → AreGoing is → RealMade (forms sets arrays n (map (condition_of items names env) is))
  forms-made n [] h = made-ok _
  forms-made n (i ∷ is) h = made-next _ _ (form-made n i h.0) (λ g. made-next _ _ (forms-made (n + part_nodes g) is h.1) (λ cs. made-ok _))

pub forms_never_memory : UnrolledByForm → StepByForm → FormsNeverMemory
forms_never_memory by_form step_by_form sets arrays n items names env t = made-never _ (forms-made by_form step_by_form sets arrays items names env n (instances t env) (instances-go t env))
