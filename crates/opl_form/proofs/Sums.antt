-- What sums and chains are worth, step by step.
use Rattle.std.proofs.Common.{◌≡◌, ℕ, ◌+◌, ◌^◌, ◌<◌, ◌≤◌, ℤ, pos, ◌+ℤ◌, neg_ℤ, Bool, true, false, cond, nat_lt, unsigned_abs, List, [], ◌∷◌, ◌++◌, map, Option, None, Some, Ok, Err, refl, sym, ap, subst, ◌∙◌, arith}
use Rattle.std.proofs.lemmas.Int.{ints}
use Rattle.opl_value.specs.declared.value.Value.{Value}
use Rattle.opl_value.specs.declared.value.Value.TheVariants as values
use Rattle.opl_eval.specs.declared.arithmetic.Operation.{Operation}
use Rattle.opl_eval.specs.declared.arithmetic.Operation.TheVariants.{Plus}
use Rattle.opl_eval.specs.declared.fault.EvalFault.TheVariants.{TooLarge}
use Rattle.opl_eval.specs.Arithmetic as arithmetic
use Rattle.opl_eval.specs.Arithmetic.{applied, run, then}
use Rattle.opl_eval.specs.Compare as compare
use Rattle.opl_eval.specs.Compare.{equal, rank, relates}
use Rattle.opl_eval.specs.Evaluation.{Found, integer, is_true}
use Rattle.opl_draft.specs.Drafts.{Cells, Sign, operation}
use Rattle.opl_draft.specs.Drafts.Sign.{plus, minus, times, quotient, remainder}
use Rattle.opl_expr.specs.declared.forms.Cons.{Cons}
use Rattle.opl_expr.specs.declared.forms.Expr.TheVariants as E
use Rattle.opl_expr.specs.Forms.{Term}
use Rattle.opl_expr.specs.Holds.{value}
use Rattle.opl_expr.specs.Options.{lift1, bind1, lift}
use Rattle.opl_expr.specs.Sound.{term_magnitude}
use Rattle.opl_expr.proofs.Plain.{term_Neg}
use Rattle.opl_form.specs.Parts.{as_condition, Form, as_number, tables}
use Rattle.opl_form.specs.Measures as measures
use Rattle.opl_form.specs.Measures.{all_nodes, part_nodes}
use Rattle.opl_form.specs.Nodes as making
use Rattle.opl_form.specs.Nodes.{Fault, Made, Parts, aggregated, by_sign, chain_of, chained, different, divided, folded, indexed, known_node, as_operand, multiplied, negated, next, number_node, number_part, operand, parts_nodes, size, stepped, truth_part, has_positions, variable_sort, element_node}
use Rattle.opl_form.specs.Parts.Form.{known, number, name, condition, truth as truth_of}
use Rattle.opl_form.specs.Worth.{Worth, hold, plain, val, some_of}
use Rattle.opl_form.proofs.Views.{as_number-worth, lift-twice, truth-worth}
use Rattle.opl_form.proofs.Nodes.{AreWorth, abs_total, counted-made, folded-live, folded-worth, from_right, next-made, number-node, run-total, sized-made, sum-small, sum-value, summed-worth, size-sum}
use Rattle.opl_form.proofs.Nodes as nodes
use Rattle.opl_form.proofs.Forms.{negated-worth, negative_of, with_one, with_two}
use Rattle.opl_form.proofs.Chains.{after_parts, chain_value, minus-part, other-part, plus-part, with_operand}
use Rattle.opl_form.proofs.Binary.{divided-worth, left_over-worth, multiplied-worth}

append-nothing : {A : Type 0} (xs : List A) → xs ++ [] ≡ xs
append-nothing [] = refl
append-nothing (x ∷ xs) = ap (λ ys. x ∷ ys) (append-nothing xs)

lt-out : (s n : ℕ) → nat_lt s n ≡ true → s < n
lt-out s n h = grind arith

abs-neg : (z : ℤ) → unsigned_abs (neg_ℤ z) ≡ unsigned_abs z
abs-neg z = omega (arith, ints)

sized-out : (at : ℕ) (z y : ℤ) → arithmetic.sized at z ≡ Ok y → unsigned_abs z < 2 ^ 127
unfolding arithmetic.sized
sized-out at z y h = by (nat_lt (unsigned_abs z) (2 ^ 127)) refl h
  where
    by : (b : Bool) → nat_lt (unsigned_abs z) (2 ^ 127) ≡ b → ◌≡◌ {A = Found ℤ} (cond b (Ok z) (Err (TooLarge at))) (Ok y) → unsigned_abs z < 2 ^ 127
    by true t h = lt-out (unsigned_abs z) (2 ^ 127) t
    by false t h = absurd (cc)

-- the first part of a sum and the others are worth these
abbrev pub Parts-worth : List Cells → List ℤ → Option Value → List (Option Value) → Form × List Form → Type 0
Parts-worth arrays ns r rs ps = Worth arrays ns r ps.0 × AreWorth arrays ns rs ps.1

module _ (sets : List (ℤ × ℤ)) (arrays : List Cells) (item : ℕ) (ns : List ℤ)
    (value-small : (t : Term) (v : ℤ) → value ns t ≡ Some v → unsigned_abs v ≤ term_magnitude sets t)
  where
    -- ---- chains

    whole-number : (r : Option Value) (g : Form) → Worth arrays ns r g → lift1 (λ v. values.Int (compare.number v)) r ≡ lift1 values.Int (val arrays ns (as_number g))
    whole-number r g w = sym (lift-twice compare.number values.Int (λ v. values.Int (compare.number v)) (λ v. refl) r) ∙ ap (lift1 values.Int) (as_number-worth arrays ns r g w)

    pub number_part-worth : (at n : ℕ) (r : Option Value) (g k : Form) → Worth arrays ns r g → number_part sets arrays item at n g ≡ Ok k → Worth arrays ns (lift1 (λ v. values.Int (compare.number v)) r) k
    number_part-worth at n r (known v) k w e = subst (Worth arrays ns (lift1 (λ v. values.Int (compare.number v)) r)) (nodes.ok-same (known (values.Int (compare.number v))) k e) (ap (lift1 (λ v. values.Int (compare.number v))) w)
    number_part-worth at n r (number f) k w e = subst (Worth arrays ns (lift1 (λ v. values.Int (compare.number v)) r)) (nodes.ok-same (number f) k e) (whole-number r (number f) w)
    number_part-worth at n r (name d f) k w e = subst (Worth arrays ns (lift1 (λ v. values.Int (compare.number v)) r)) (number-node sets arrays item at n (as_number (name d f)) k e).0 (whole-number r (name d f) w)
    number_part-worth at n r (condition c) k w e = subst (Worth arrays ns (lift1 (λ v. values.Int (compare.number v)) r)) (number-node sets arrays item at n (as_number (condition c)) k e).0 (whole-number r (condition c) w)
    number_part-worth at n r (truth_of c) k w e = subst (Worth arrays ns (lift1 (λ v. values.Int (compare.number v)) r)) (number-node sets arrays item at n (as_number (truth_of c)) k e).0 (whole-number r (truth_of c) w)

    whole-truth : (r : Option Value) (g : Form) → Worth arrays ns r g → lift1 (λ v. values.Bool (is_true v)) r ≡ lift1 values.Bool (hold arrays ns (as_condition g))
    whole-truth r g w = sym (lift-twice is_true values.Bool (λ v. values.Bool (is_true v)) (λ v. refl) r) ∙ ap (lift1 values.Bool) (truth-worth arrays ns r g w)

    tested-truth : (n : ℕ) (r : Option Value) (g k : Form) → Worth arrays ns r g → making.condition_node item n (as_condition g) ≡ Ok k → Worth arrays ns (lift1 (λ v. values.Bool (is_true v)) r) k
    tested-truth n r g k w e =
        let c : Cons = as_condition g in
        subst (Worth arrays ns (lift1 (λ v. values.Bool (is_true v)) r)) (counted-made item n (measures.depth_of c) (measures.nodes_of c) (condition c) k e) (whole-truth r g w)

    pub truth_part-worth : (n : ℕ) (r : Option Value) (g k : Form) → Worth arrays ns r g → truth_part item n g ≡ Ok k → Worth arrays ns (lift1 (λ v. values.Bool (is_true v)) r) k
    truth_part-worth n r (known v) k w e = subst (Worth arrays ns (lift1 (λ v. values.Bool (is_true v)) r)) (nodes.ok-same (known (values.Bool (is_true v))) k e) (ap (lift1 (λ v. values.Bool (is_true v))) w)
    truth_part-worth n r (number f) k w e = tested-truth n r (number f) k w e
    truth_part-worth n r (name d f) k w e = tested-truth n r (name d f) k w e
    truth_part-worth n r (condition c) k w e = subst (Worth arrays ns (lift1 (λ v. values.Bool (is_true v)) r)) (nodes.ok-same (condition c) k e) (whole-truth r (condition c) w)
    truth_part-worth n r (truth_of c) k w e = tested-truth n r (truth_of c) k w e

    -- the sum of a first value and others, where they are small together
    sum-found : (at : ℕ) (o : Option (List Value)) → ((vs : List Value) → o ≡ Some vs → abs_total (map compare.number vs) < 2 ^ 127) →
        bind1 (λ vs. some_of (chain_of at vs)) o ≡ lift1 values.Int (lift1 (λ vs. from_right ◌+ℤ◌ (pos 0) (map compare.number vs)) o)
    sum-found at None h = refl
    sum-found at (Some []) h = refl
    sum-found at (Some (v ∷ vs)) h = ap (λ q. some_of (integer q)) (run-total at (compare.number v) (map compare.number vs) (h (v ∷ vs) refl))

    as-chain : (at : ℕ) (r : Option Value) (rs : List (Option Value)) → bind1 (λ vs. some_of (chain_of at vs)) (nodes.whole (r ∷ rs)) ≡ chain_value at r rs (Some [])
    as-chain at None rs = refl
    as-chain at (Some v) rs = by (nodes.whole rs)
      where
        by : (o : Option (List Value)) → bind1 (λ vs. some_of (chain_of at vs)) (lift (λ x xs. x ∷ xs) (Some v) o) ≡ bind1 (λ vs. bind1 (after_parts at v vs) (Some [])) o
        by None = refl
        by (Some vs) = ap (λ xs. some_of (integer (run at (compare.number v) xs))) (sym (append-nothing (map Plus (map compare.number vs))))

    pub chained-worth : (at n : ℕ) (r : Option Value) (rs : List (Option Value)) (ps : Form × List Form) (k : Form) → Parts-worth arrays ns r rs ps → chained sets arrays item at n ps.0 ps.1 ≡ Ok k → Worth arrays ns (chain_value at r rs (Some [])) k
    chained-worth at n r [] (g, []) k w e = subst (λ o. Worth arrays ns o k) (alone r) (number_part-worth at n r g k w.0 e)
      where
        alone : (r : Option Value) → lift1 (λ v. values.Int (compare.number v)) r ≡ chain_value at r [] (Some [])
        alone None = refl
        alone (Some v) = refl
    chained-worth at n r [] (g, h ∷ hs) k w e = absurd w.1
    chained-worth at n r (s ∷ rs) (g, []) k w e = absurd w.1
    chained-worth at n r (s ∷ rs) (g, h ∷ hs) k w e =
        let gs : List Form = g ∷ h ∷ hs in
        let os : List (Option Value) = r ∷ s ∷ rs in
        let all : AreWorth arrays ns os gs = (w.0, w.1) in
        subst (λ o. Worth arrays ns o k) (as-chain at r (s ∷ rs))
        (folded-worth arrays ns item n os gs (chain_of at) (number_node sets arrays item at n (E.Sum (map as_number gs))) k all e
        (λ m. let p = number-node sets arrays item at n (E.Sum (map as_number gs)) k m in
        subst (Worth arrays ns (bind1 (λ vs. some_of (chain_of at vs)) (nodes.whole os))) p.0
        (sum-found at (nodes.whole os) (λ vs e. nodes.below (size sets arrays (E.Sum (map as_number gs))) (term_magnitude sets (plain arrays (E.Sum (map as_number gs)))) (abs_total (map compare.number vs)) p.1 refl
        (subst (λ m. abs_total (map compare.number vs) ≤ m) (sym (size-sum sets arrays item ns value-small (map as_number gs))) (sum-small sets arrays item ns value-small os gs vs all e)))
        ∙ ap (lift1 values.Int) (sym (sum-value arrays ns os gs all)))))

    are-worth-last : (rs : List (Option Value)) (gs : List Form) (r : Option Value) (g : Form) → AreWorth arrays ns rs gs → Worth arrays ns r g → AreWorth arrays ns (rs ++ r ∷ []) (gs ++ g ∷ [])
    are-worth-last [] [] r g w x = (x, tt)
    are-worth-last [] (h ∷ gs) r g w x = absurd w
    are-worth-last (s ∷ rs) [] r g w x = absurd w
    are-worth-last (s ∷ rs) (h ∷ gs) r g w x = (w.0, are-worth-last rs gs r g w.1 x)

    live-small : (at n : ℕ) (r : Option Value) (g h : Form) → Worth arrays ns r g → number_node sets arrays item at n (E.Neg (as_number g)) ≡ Ok h → (v : Value) → r ≡ Some v → unsigned_abs (compare.number v) < 2 ^ 127
    live-small at n r g h w e v f =
        let p = number-node sets arrays item at n (E.Neg (as_number g)) h e in
        let t : Term = plain arrays (as_number g) in
        nodes.below (term_magnitude sets t) (term_magnitude sets t) (unsigned_abs (compare.number v)) (subst (λ t. nat_lt (term_magnitude sets t) (2 ^ 127) ≡ true) (term_Neg (tables arrays) [] (as_number g)) p.1) refl
        (value-small t (compare.number v) (sym (as_number-worth arrays ns r g w) ∙ ap (lift1 compare.number) f))

    -- what is negated is small
    negated-small : (at n : ℕ) (r : Option Value) (g h : Form) → Worth arrays ns r g → negated sets arrays item at n g ≡ Ok h → (v : Value) → r ≡ Some v → unsigned_abs (compare.number v) < 2 ^ 127
    negated-small at n r (known u) h w e v f =
        let same : u ≡ v = nodes.some-same u v (sym w ∙ f) in
        subst (λ v. unsigned_abs (compare.number v) < 2 ^ 127) same (from (compare.number u) (arithmetic.negative at (compare.number u)) refl e)
      where
        from : (z : ℤ) (q : Found ℤ) → arithmetic.negative at z ≡ q → making.evaluated item n (integer q) ≡ Ok h → unsigned_abs z < 2 ^ 127
        from z (Ok y) t k = subst (λ m. m < 2 ^ 127) (abs-neg z) (sized-out at (neg_ℤ z) y t)
        from z (Err x) t k = absurd (cc)
    negated-small at n r (number d) h w e v f = live-small at n r (number d) h w e v f
    negated-small at n r (name c d) h w e v f = live-small at n r (name c d) h w e v f
    negated-small at n r (condition c) h w e v f = live-small at n r (condition c) h w e v f
    negated-small at n r (truth_of c) h w e v f = live-small at n r (truth_of c) h w e v f

    -- what a step leaves: parts that are worth something, to which the chain with its operation comes
    abbrev Steps-to : ℕ → Sign → Option Value → List (Option Value) → Option Value → Form × List Form → Type 0
    Steps-to at sign r rs s qs = (t : Option Value) × (ts : List (Option Value)) × Parts-worth arrays ns t ts qs × ((os : Option (List Operation)) → chain_value at r rs (with_operand sign s os) ≡ chain_value at t ts os)

    abbrev Together : ℕ → Sign → Option Value → Option Value → Option Value
    Together at sign r s = with_two (λ v w. some_of (integer (applied at (compare.number v) (operation sign (compare.number w))))) r s

    turned : (at : ℕ) (sign : Sign) (r s : Option Value) → Together at sign r s ≡ bind1 (λ v. bind1 (λ w. some_of (integer (applied at (compare.number v) (operation sign (compare.number w))))) s) r
    turned at sign r s = refl

    other-step : (at own n : ℕ) (sign : Sign) (r : Option Value) (rs : List (Option Value)) (s : Option Value) (ps qs : Form × List Form) (g : Form) → Parts-worth arrays ns r rs ps → Worth arrays ns s g →
        ((a b : Option Value) (h i k : Form) → Worth arrays ns a h → Worth arrays ns b i → by_sign sets arrays item sign at n h i ≡ Ok k → Worth arrays ns (Together at sign a b) k) →
        next (chained sets arrays item at n ps.0 ps.1) (λ a. next (by_sign sets arrays item sign at n a g) (λ h. Ok (h, []))) ≡ Ok qs → Steps-to at sign r rs s qs
    other-step at own n sign r rs s ps qs g w x node e =
        let c = next-made (chained sets arrays item at n ps.0 ps.1) (λ a. next (by_sign sets arrays item sign at n a g) (λ h. Ok (h, []))) qs e in
        let d = next-made (by_sign sets arrays item sign at n c.0 g) (λ h. Ok (h, [])) qs c.2 in
        let a : Option Value = chain_value at r rs (Some []) in
        let worth : Worth arrays ns (Together at sign a s) d.0 = node a s c.0 g d.0 (chained-worth at n r rs ps c.0 w c.1) x d.1 in
        (Together at sign a s, [], subst (Parts-worth arrays ns (Together at sign a s) []) (nodes.ok-same (d.0, []) qs d.2) (worth, tt), λ os. other-part at sign r rs s (Together at sign a s) os refl)

    pub stepped-worth : (at own n : ℕ) (sign : Sign) (r : Option Value) (rs : List (Option Value)) (s : Option Value) (ps qs : Form × List Form) (g : Form) → Parts-worth arrays ns r rs ps → Worth arrays ns s g → stepped sets arrays item sign at own n ps g ≡ Ok qs → Steps-to at sign r rs s qs
    stepped-worth at own n plus r rs s ps qs g w x e =
        (r, rs ++ s ∷ [], subst (Parts-worth arrays ns r (rs ++ s ∷ [])) (nodes.ok-same (ps.0, ps.1 ++ g ∷ []) qs e) (w.0, are-worth-last rs ps.1 s g w.1 x), λ os. plus-part at r rs s os)
    stepped-worth at own n minus r rs s ps qs g w x e =
        let m : ℕ = n + parts_nodes ps in
        let c = next-made (negated sets arrays item own m g) (λ h. Ok (ps.0, ps.1 ++ h ∷ [])) qs e in
        let y = negated-worth sets arrays item ns value-small own m s g c.0 x c.1 in (
          r,
          rs ++ with_one (negative_of sets arrays item ns value-small own) s ∷ [],
          subst (Parts-worth arrays ns r (rs ++ with_one (negative_of sets arrays item ns value-small own) s ∷ [])) (nodes.ok-same (ps.0, ps.1 ++ c.0 ∷ []) qs c.2) (w.0, are-worth-last rs ps.1 (with_one (negative_of sets arrays item ns value-small own) s) c.0 w.1 y),
          λ os. minus-part at own r rs s os (negated-small own m s g c.0 x c.1),
        )
    stepped-worth at own n times r rs s ps qs g w x e = other-step at own n times r rs s ps qs g w x (λ a b h i k. multiplied-worth sets arrays item ns value-small at n a b h i k) e
    stepped-worth at own n quotient r rs s ps qs g w x e = other-step at own n quotient r rs s ps qs g w x (λ a b h i k. divided-worth sets arrays item ns value-small at n a b h i k) e
    stepped-worth at own n remainder r rs s ps qs g w x e = other-step at own n remainder r rs s ps qs g w x (λ a b h i k. left_over-worth sets arrays item ns value-small at n a b h i k) e
