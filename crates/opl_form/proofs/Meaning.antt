-- What a ground form is worth is what its draft comes to.
use Rattle.std.proofs.Common.{◌≡◌, ℕ, suc, ◌+◌, ◌^◌, ◌<◌, ◌≤◌, ℤ, pos, Bool, true, false, cond, not, ◌||◌, nat_lt, slice_get, fold, length, unsigned_abs, List, [], ◌∷◌, map, Option, None, Some, Ok, Err, refl, sym, ap, subst, ◌∙◌, arith}
use Rattle.std.specs.List.{list_all, list_any}
use Rattle.std.specs.Prelude.{slice_index_or}
use Rattle.opl_tree.specs.declared.expression.AggregateOp.{AggregateOp}
use Rattle.opl_tree.specs.declared.expression.AggregateOp.TheVariants.{Sum, Product, Min, Max}
use Rattle.opl_value.specs.declared.value.Value.{Value}
use Rattle.opl_value.specs.declared.value.Value.TheVariants as values
use Rattle.opl_eval.specs.declared.arithmetic.Operation.{Operation}
use Rattle.opl_eval.specs.declared.fault.EvalFault.TheVariants.{OutOfIndex}
use Rattle.opl_eval.specs.Arithmetic as arithmetic
use Rattle.opl_eval.specs.Arithmetic.{applied, run, then}
use Rattle.opl_eval.specs.Compare as compare
use Rattle.opl_eval.specs.Compare.{equal, rank, relates}
use Rattle.opl_eval.specs.Evaluation.{Found, aggregate, equivalent, found, integer, is_true, same, truth}
use Rattle.opl_meaning.specs.Assigned.{position_of}
use Rattle.opl_draft.specs.Drafts.{Cells, Draft, Drafts, Steps, array_at, chosen, draft_value, draft_values, operation, step_values}
use Rattle.opl_draft.specs.Drafts.Drafts.{no_drafts, more_drafts}
use Rattle.opl_draft.specs.Drafts.Steps.{no_steps, more_steps}
use Rattle.opl_expr.specs.declared.forms.Expr.TheVariants as E
use Rattle.opl_expr.specs.Forms.{Term}
use Rattle.opl_expr.specs.Holds.{value}
use Rattle.opl_expr.specs.Options.{lift1, bind1, lift}
use Rattle.opl_expr.specs.Sound.{term_magnitude, IsSoundTable}
use Rattle.opl_expr.proofs.Bounds.{sound_small}
use Rattle.opl_form.specs.Parts.{Form, as_number, table_of}
use Rattle.opl_form.specs.Measures as measures
use Rattle.opl_form.specs.Measures.{all_nodes, part_nodes}
use Rattle.opl_form.specs.Nodes as making
use Rattle.opl_form.specs.Nodes.{Fault, Made, Parts, aggregated, by_sign, chain_of, chained, different, divided, folded, indexed, known_node, as_operand, multiplied, negated, next, number_node, number_part, operand, parts_nodes, size, stepped, truth_part, has_positions, variable_sort, element_node}
use Rattle.opl_form.specs.Made as whole_drafts
use Rattle.opl_form.specs.Made.{array_of, made_all, made_operands, made_first, made_same, made_steps, place, places}
use Rattle.opl_form.specs.Parts.Form.{known, number, name, condition, truth as truth_of}
use Rattle.opl_form.specs.Worth.{Worth, plain, some_of}
use Rattle.opl_form.proofs.Views.{as_number-worth, true-Bool}
use Rattle.opl_form.proofs.Nodes.{AreWorth, abs_total, counted-made, folded-live, folded-worth, from_right, next-made, number-node, run-total, sized-made, sum-small, sum-value, summed-worth, size-sum}
use Rattle.opl_form.proofs.Nodes as nodes
use Rattle.opl_form.proofs.Forms.{all_hold-worth, compared-worth, implied-worth, negated-worth, one_holds-worth, opposite-worth, same-worth, same_as, with_one, with_two}
use Rattle.opl_form.proofs.Chains.{chain_value}
use Rattle.opl_form.proofs.Variables.{variable-worth}
use Rattle.opl_form.proofs.Aggregates.{FirstSmall, absolute-worth, greatest-worth, least-worth, product-worth}
use Rattle.opl_form.proofs.AllDifferent.{different-worth}
use Rattle.opl_form.proofs.Elements.{indexed-worth}
use Rattle.opl_form.proofs.Sound.{fine-sound, operands-fine}
use Rattle.opl_form.proofs.SoundParts.{AreSound, as_number-sound}
use Rattle.opl_form.proofs.Sums.{Parts-worth, chained-worth, stepped-worth, truth_part-worth}

some-then : {A B : Type 0} (r : Found A) (f : A → Found B) → some_of (then r f) ≡ bind1 (λ x. some_of (f x)) (some_of r)
some-then (Ok x) f = refl
some-then (Err e) f = refl

some-more : {A B : Type 0} (r : Found A) (f : A → B) (s : Found (List B)) → some_of (then (found f r) (λ x. found (λ xs. x ∷ xs) s)) ≡ lift (λ x xs. x ∷ xs) (lift1 f (some_of r)) (some_of s)
some-more (Ok x) f (Ok xs) = refl
some-more (Ok x) f (Err e) = refl
some-more (Err e) f s = refl

some-cons : {A : Type 0} (r : Found A) (s : Found (List A)) → some_of (then r (λ x. found (λ xs. x ∷ xs) s)) ≡ lift (λ x xs. x ∷ xs) (some_of r) (some_of s)
some-cons (Ok x) (Ok xs) = refl
some-cons (Ok x) (Err e) = refl
some-cons (Err e) s = refl

truth-found : {A : Type 0} (test : A → Bool) (r : Found A) → some_of (truth (found test r)) ≡ bind1 (λ vs. Some (values.Bool (test vs))) (some_of r)
truth-found test (Ok x) = refl
truth-found test (Err e) = refl

two-found : (r s : Found Value) (f : Value → Value → Value) → some_of (then r (λ v. then s (λ w. Ok (f v w)))) ≡ with_two (λ v w. Some (f v w)) (some_of r) (some_of s)
two-found (Ok v) (Ok w) f = refl
two-found (Ok v) (Err e) f = refl
two-found (Err e) s f = refl

not-found : (r : Found Value) → some_of (found (λ v. values.Bool (not (is_true v))) r) ≡ with_one (λ v. Some (values.Bool (not (is_true v)))) (some_of r)
not-found (Ok v) = refl
not-found (Err e) = refl

chain-found : (at : ℕ) (r : Found Value) (s : Found (List Operation)) → some_of (then r (λ v. then s (λ os. integer (run at (compare.number v) os)))) ≡ chain_value at (some_of r) [] (some_of s)
chain-found at (Ok v) (Ok os) = refl
chain-found at (Ok v) (Err e) = refl
chain-found at (Err e) s = refl

-- ---- whole drafts

module _ (sets : List (ℤ × ℤ)) (arrays : List Cells) (item : ℕ) (ns : List ℤ)
    (value-small : (t : Term) (v : ℤ) → value ns t ≡ Some v → unsigned_abs v ≤ term_magnitude sets t)
    (fair : (x : ℕ) → has_positions (slice_index_or sets x (pos 0, pos 0)) ≡ true → slice_index_or ns x (pos 0) ≡ pos (position_of (slice_index_or ns x (pos 0))))
    (sound : (k : ℕ) (a : Cells) → slice_get arrays k ≡ Some a → IsSoundTable sets (Some (table_of a)))
  where
    abbrev comes : Draft → Option Value
    comes d = some_of (draft_value arrays ns d)

    abbrev options : Drafts → List (Option Value)
    options no_drafts = []
    options (more_drafts d ds) = comes d ∷ options ds

    values-options : (ds : Drafts) → some_of (draft_values arrays ns ds) ≡ nodes.whole (options ds)
    values-options no_drafts = refl
    values-options (more_drafts d ds) = some-cons (draft_value arrays ns d) (draft_values arrays ns ds) ∙ ap (lift (λ x xs. x ∷ xs) (comes d)) (values-options ds)

    -- one truth after another
    abbrev rest_same : Option Value → List (Option Value) → Option Value
    rest_same r [] = r
    rest_same r (s ∷ ss) = rest_same (with_two (same_as sets arrays item ns value-small) r s) ss

    rest-none : (ss : List (Option Value)) → rest_same None ss ≡ None
    rest-none [] = refl
    rest-none (s ∷ ss) = rest-none ss

    rest-is : (b : Bool) (ss : List (Option Value)) → rest_same (Some (values.Bool b)) ss ≡ bind1 (λ vs. Some (values.Bool (fold (λ c w. same c (is_true w)) b vs))) (nodes.whole ss)
    rest-is b [] = refl
    rest-is b (None ∷ ss) = rest-none ss
    rest-is b (Some w ∷ ss) = ap (λ c. rest_same (Some (values.Bool (same c (is_true w)))) ss) (true-Bool b) ∙ rest-is (same b (is_true w)) ss ∙ more (nodes.whole ss)
      where
        more : (o : Option (List Value)) → bind1 (λ vs. Some (values.Bool (fold (λ c w. same c (is_true w)) (same b (is_true w)) vs))) o ≡ bind1 (λ vs. Some (values.Bool (fold (λ c w. same c (is_true w)) b vs))) (lift (λ x xs. x ∷ xs) (Some w) o)
        more None = refl
        more (Some us) = refl

    equivalent-is : (ds : Drafts) → some_of (truth (found equivalent (draft_values arrays ns ds))) ≡ bind1 (λ vs. Some (values.Bool (equivalent vs))) (nodes.whole (options ds))
    equivalent-is ds = truth-found equivalent (draft_values arrays ns ds) ∙ ap (bind1 (λ vs. Some (values.Bool (equivalent vs)))) (values-options ds)

    first-is : (r : Option Value) (rs : List (Option Value)) → rest_same (lift1 (λ v. values.Bool (is_true v)) r) rs ≡ bind1 (λ vs. Some (values.Bool (equivalent vs))) (nodes.whole (r ∷ rs))
    first-is None rs = rest-none rs
    first-is (Some v) rs = rest-is (is_true v) rs ∙ more (nodes.whole rs)
      where
        more : (o : Option (List Value)) → bind1 (λ vs. Some (values.Bool (fold (λ c w. same c (is_true w)) (is_true v) vs))) o ≡ bind1 (λ vs. Some (values.Bool (equivalent vs))) (lift (λ x xs. x ∷ xs) (Some v) o)
        more None = refl
        more (Some us) = refl

    chain-is : (at : ℕ) (d : Draft) (ss : Steps) → comes (Draft.chain at d ss) ≡ chain_value at (comes d) [] (some_of (step_values arrays ns ss))
    chain-is at d ss = chain-found at (draft_value arrays ns d) (step_values arrays ns ss)

    -- the first part of a product is small, since it is sound
    first-small : (rs : List (Option Value)) (gs : List Form) → AreWorth arrays ns rs gs → AreSound sets arrays gs → FirstSmall rs
    first-small [] gs w s = tt
    first-small (r ∷ rs) [] w s = absurd w
    first-small (r ∷ rs) (g ∷ gs) w s = λ v e. within-less (unsigned_abs (compare.number v)) (term_magnitude sets (plain arrays (as_number g)))
        (value-small (plain arrays (as_number g)) (compare.number v) (sym (as_number-worth arrays ns r g w.0) ∙ ap (lift1 compare.number) e)) (sound_small sets (plain arrays (as_number g)) (as_number-sound sets arrays g s.0))
      where
        within-less : (a m : ℕ) → a ≤ m → m < 2 ^ 127 → a < 2 ^ 127
        within-less a m h k = omega (arith, h, k)

    by-op : (op : AggregateOp) (at n : ℕ) (rs : List (Option Value)) (gs : List Form) (g : Form) → AreSound sets arrays gs → AreWorth arrays ns rs gs → aggregated sets arrays item op at n gs ≡ Ok g →
        Worth arrays ns (bind1 (λ vs. some_of (integer (aggregate op at (map compare.number vs)))) (nodes.whole rs)) g
    by-op Sum at n rs gs g s w e = summed-worth sets arrays item ns value-small at n rs gs g w e
    by-op Product at n rs gs g s w e = product-worth sets arrays item ns value-small at n rs gs g (first-small rs gs w s) w e
    by-op Min at n rs gs g s w e = least-worth sets arrays item ns value-small at n rs gs g w e
    by-op Max at n rs gs g s w e = greatest-worth sets arrays item ns value-small at n rs gs g w e

    operand-worth : (at n : ℕ) (r : Option Value) (g h : Form) → Worth arrays ns r g → operand item at n g ≡ Ok h → Worth arrays ns r h
    operand-worth at n r (known v) h w e = subst (Worth arrays ns r) (nodes.ok-same (known v) h e) w
    operand-worth at n r (number f) h w e = subst (Worth arrays ns r) (nodes.ok-same (number f) h e) w
    operand-worth at n r (name d f) h w e = subst (Worth arrays ns r) (nodes.ok-same (name d f) h e) w
    operand-worth at n r (truth_of c) h w e = subst (Worth arrays ns r) (nodes.ok-same (truth_of c) h e) w
    operand-worth at n r (condition c) h w e =
        let p = sized-made at 1 (making.counted item n (suc (measures.depth_of c)) (suc (measures.nodes_of c)) (truth_of c)) h e in
        subst (Worth arrays ns r) (counted-made item n (suc (measures.depth_of c)) (suc (measures.nodes_of c)) (truth_of c) h p.1) w

    operand-made : (at n : ℕ) (r : Option Value) (q : Made Form) (g : Form) → ((h : Form) → q ≡ Ok h → Worth arrays ns r h) → as_operand item at n q ≡ Ok g → Worth arrays ns r g
    operand-made at n r q g f e =
        let p = next-made q (λ g. operand item at n g) g e in
        operand-worth at n r p.0 g (f p.0 p.1) p.2

    mutual
      pub made-worth : (d : Draft) (n : ℕ) (g : Form) → whole_drafts.made sets arrays item n d ≡ Ok g → Worth arrays ns (comes d) g
      made-worth (Draft.known at v) n g e = let p = sized-made at (unsigned_abs (rank v)) (known_node item n v) g e in subst (Worth arrays ns (Some v)) (counted-made item n 1 1 (known v) g p.1) refl
      made-worth (Draft.broken fault) n g e = absurd (cc)
      made-worth (Draft.variable at x kind) n g e = variable-worth sets arrays item ns value-small fair at n x kind g (past-test (nat_lt x (length sets)) (element_node sets arrays item (variable_sort sets kind x) at n (E.Var x)) g e)
        where
          past-test : (b : Bool) (q : Made Form) (g : Form) → cond b q (Err (Fault.eval (OutOfIndex at))) ≡ Ok g → q ≡ Ok g
          past-test true q g h = h
          past-test false q g h = absurd (cc)
      made-worth (Draft.negated at d) n g e =
          let p = next-made (as_operand item (place d) n (whole_drafts.made sets arrays item n d)) (λ g. negated sets arrays item at n g) g e in
          subst (λ o. Worth arrays ns o g) (sym (some-then (draft_value arrays ns d) (λ v. integer (arithmetic.negative at (compare.number v)))))
          (negated-worth sets arrays item ns value-small at n (comes d) p.0 g (operand-made (place d) n (comes d) (whole_drafts.made sets arrays item n d) p.0 (λ h f. made-worth d n h f) p.1) p.2)
      made-worth (Draft.chain at d ss) n g e =
          let p = next-made (as_operand item (place d) n (whole_drafts.made sets arrays item n d)) (λ g. next (made_steps sets arrays item at n (g, []) ss) (λ ps. chained sets arrays item at n ps.0 ps.1)) g e in
          let q = next-made (made_steps sets arrays item at n (p.0, []) ss) (λ ps. chained sets arrays item at n ps.0 ps.1) g p.2 in
          subst (λ o. Worth arrays ns o g) (sym (chain-is at d ss))
          (steps-worth ss at n (comes d) [] (p.0, []) q.0 g (operand-made (place d) n (comes d) (whole_drafts.made sets arrays item n d) p.0 (λ h f. made-worth d n h f) p.1, tt) q.1 q.2)
      made-worth (Draft.related at r d e) n g h =
          let p = next-made (as_operand item (place d) n (whole_drafts.made sets arrays item n d)) (λ a. next (as_operand item (place e) (n + part_nodes a) (whole_drafts.made sets arrays item (n + part_nodes a) e)) (λ b. making.compared sets arrays item at n r a b)) g h in
          let q = next-made (as_operand item (place e) (n + part_nodes p.0) (whole_drafts.made sets arrays item (n + part_nodes p.0) e)) (λ b. making.compared sets arrays item at n r p.0 b) g p.2 in
          subst (λ o. Worth arrays ns o g) (sym (two-found (draft_value arrays ns d) (draft_value arrays ns e) (λ v w. values.Bool (relates r v w))))
          (compared-worth sets arrays item ns value-small at n r (comes d) (comes e) p.0 q.0 g (operand-made (place d) n (comes d) (whole_drafts.made sets arrays item n d) p.0 (λ h f. made-worth d n h f) p.1) (operand-made (place e) (n + part_nodes p.0) (comes e) (whole_drafts.made sets arrays item (n + part_nodes p.0) e) q.0 (λ h f. made-worth e (n + part_nodes p.0) h f) q.1) q.2)
      made-worth (Draft.equivalent at ds) n g e = subst (λ o. Worth arrays ns o g) (sym (equivalent-is ds)) (first-worth ds n g e)
      made-worth (Draft.implied at d e) n g h =
          let p = next-made (whole_drafts.made sets arrays item n d) (λ a. next (whole_drafts.made sets arrays item (n + part_nodes a) e) (λ b. making.implied item n a b)) g h in
          let q = next-made (whole_drafts.made sets arrays item (n + part_nodes p.0) e) (λ b. making.implied item n p.0 b) g p.2 in
          subst (λ o. Worth arrays ns o g) (sym (two-found (draft_value arrays ns d) (draft_value arrays ns e) (λ v w. values.Bool (not (is_true v) || is_true w))))
          (implied-worth sets arrays item ns value-small n (comes d) (comes e) p.0 q.0 g (made-worth d n p.0 p.1) (made-worth e (n + part_nodes p.0) q.0 q.1) q.2)
      made-worth (Draft.one_of at ds) n g e =
          let p = next-made (made_all sets arrays item n ds) (λ gs. making.one_holds item n gs) g e in
          subst (λ o. Worth arrays ns o g) (sym (truth-found (list_any is_true) (draft_values arrays ns ds) ∙ ap (bind1 (λ vs. Some (values.Bool (list_any is_true vs)))) (values-options ds)))
          (one_holds-worth sets arrays item ns value-small n (options ds) p.0 g (all-worth ds n p.0 p.1) p.2)
      made-worth (Draft.all_of at ds) n g e =
          let p = next-made (made_all sets arrays item n ds) (λ gs. making.all_hold item n gs) g e in
          subst (λ o. Worth arrays ns o g) (sym (truth-found (list_all is_true) (draft_values arrays ns ds) ∙ ap (bind1 (λ vs. Some (values.Bool (list_all is_true vs)))) (values-options ds)))
          (all_hold-worth sets arrays item ns value-small n (options ds) p.0 g (all-worth ds n p.0 p.1) p.2)
      made-worth (Draft.opposite at d) n g e =
          let p = next-made (whole_drafts.made sets arrays item n d) (λ g. making.opposite item n g) g e in
          subst (λ o. Worth arrays ns o g) (sym (not-found (draft_value arrays ns d)))
          (opposite-worth sets arrays item ns value-small n (comes d) p.0 g (made-worth d n p.0 p.1) p.2)
      made-worth (Draft.aggregate at op ds) n g e =
          let p = next-made (made_operands sets arrays item n ds) (λ gs. aggregated sets arrays item op at n gs) g e in
          subst (λ o. Worth arrays ns o g) (sym (some-then (draft_values arrays ns ds) (λ vs. integer (aggregate op at (map compare.number vs))) ∙ ap (bind1 (λ vs. some_of (integer (aggregate op at (map compare.number vs))))) (values-options ds)))
          (by-op op at n (options ds) p.0 g (fine-sound sets arrays item n p.0 (operands-fine sets arrays item sound ds n p.0 p.1)) (operands-worth ds n p.0 p.1) p.2)
      made-worth (Draft.absolute at d) n g e =
          let p = next-made (as_operand item (place d) n (whole_drafts.made sets arrays item n d)) (λ g. making.absolute sets arrays item at n g) g e in
          subst (λ o. Worth arrays ns o g) (sym (some-then (draft_value arrays ns d) (λ v. integer (arithmetic.absolute at (compare.number v)))))
          (absolute-worth sets arrays item ns value-small at n (comes d) p.0 g (operand-made (place d) n (comes d) (whole_drafts.made sets arrays item n d) p.0 (λ h f. made-worth d n h f) p.1) p.2)
      made-worth (Draft.different at a) n g e = different-worth sets arrays item ns value-small fair at n a g e
      made-worth (Draft.element at k ds) n g e =
          let p = next-made (made_all sets arrays item n ds) (λ gs. indexed sets arrays item at n k (array_of arrays k) (places ds) gs) g e in
          subst (λ o. Worth arrays ns o g) (sym (some-then (draft_values arrays ns ds) (chosen arrays ns at (array_at arrays ns k)) ∙ ap (bind1 (λ key. some_of (chosen arrays ns at (array_at arrays ns k) key))) (values-options ds)))
          (indexed-worth sets arrays item ns value-small fair sound at n k (places ds) (options ds) p.0 g (all-worth ds n p.0 p.1) p.2)

      all-worth : (ds : Drafts) (n : ℕ) (gs : List Form) → made_all sets arrays item n ds ≡ Ok gs → AreWorth arrays ns (options ds) gs
      all-worth no_drafts n gs e = subst (AreWorth arrays ns []) (nodes.ok-same [] gs e) tt
      all-worth (more_drafts d ds) n gs e =
          let p = next-made (whole_drafts.made sets arrays item n d) (λ g. next (made_all sets arrays item (n + part_nodes g) ds) (λ gs. Ok (g ∷ gs))) gs e in
          let q = next-made (made_all sets arrays item (n + part_nodes p.0) ds) (λ gs. Ok (p.0 ∷ gs)) gs p.2 in
          subst (AreWorth arrays ns (comes d ∷ options ds)) (nodes.ok-same (p.0 ∷ q.0) gs q.2) (made-worth d n p.0 p.1, all-worth ds (n + part_nodes p.0) q.0 q.1)

      operands-worth : (ds : Drafts) (n : ℕ) (gs : List Form) → made_operands sets arrays item n ds ≡ Ok gs → AreWorth arrays ns (options ds) gs
      operands-worth no_drafts n gs e = subst (AreWorth arrays ns []) (nodes.ok-same [] gs e) tt
      operands-worth (more_drafts d ds) n gs e =
          let p = next-made (as_operand item (place d) n (whole_drafts.made sets arrays item n d)) (λ g. next (made_operands sets arrays item (n + part_nodes g) ds) (λ gs. Ok (g ∷ gs))) gs e in
          let q = next-made (made_operands sets arrays item (n + part_nodes p.0) ds) (λ gs. Ok (p.0 ∷ gs)) gs p.2 in
          subst (AreWorth arrays ns (comes d ∷ options ds)) (nodes.ok-same (p.0 ∷ q.0) gs q.2) (operand-made (place d) n (comes d) (whole_drafts.made sets arrays item n d) p.0 (λ h f. made-worth d n h f) p.1, operands-worth ds (n + part_nodes p.0) q.0 q.1)

      first-worth : (ds : Drafts) (n : ℕ) (g : Form) → made_first sets arrays item n ds ≡ Ok g → Worth arrays ns (bind1 (λ vs. Some (values.Bool (equivalent vs))) (nodes.whole (options ds))) g
      first-worth no_drafts n g e = subst (Worth arrays ns (Some (values.Bool true))) (counted-made item n 1 1 (known (values.Bool true)) g e) refl
      first-worth (more_drafts d ds) n g e =
          let p = next-made (whole_drafts.made sets arrays item n d) (λ g. next (truth_part item n g) (λ h. made_same sets arrays item n h ds)) g e in
          let q = next-made (truth_part item n p.0) (λ h. made_same sets arrays item n h ds) g p.2 in
          subst (λ o. Worth arrays ns o g) (first-is (comes d) (options ds))
          (same-rest ds n (lift1 (λ v. values.Bool (is_true v)) (comes d)) q.0 g (truth_part-worth sets arrays item ns value-small n (comes d) p.0 q.0 (made-worth d n p.0 p.1) q.1) q.2)

      same-rest : (ds : Drafts) (n : ℕ) (r : Option Value) (g k : Form) → Worth arrays ns r g → made_same sets arrays item n g ds ≡ Ok k → Worth arrays ns (rest_same r (options ds)) k
      same-rest no_drafts n r g k w e = subst (Worth arrays ns r) (nodes.ok-same g k e) w
      same-rest (more_drafts d ds) n r g k w e =
          let p = next-made (whole_drafts.made sets arrays item (n + part_nodes g) d) (λ h. next (making.same item n g h) (λ k. made_same sets arrays item n k ds)) k e in
          let q = next-made (making.same item n g p.0) (λ k. made_same sets arrays item n k ds) k p.2 in
          same-rest ds n (with_two (same_as sets arrays item ns value-small) r (comes d)) q.0 k
          (same-worth sets arrays item ns value-small n r (comes d) g p.0 q.0 w (made-worth d (n + part_nodes g) p.0 p.1) q.1) q.2

      steps-worth : (ss : Steps) (at n : ℕ) (r : Option Value) (rs : List (Option Value)) (ps qs : Form × List Form) (k : Form) → Parts-worth arrays ns r rs ps → made_steps sets arrays item at n ps ss ≡ Ok qs → chained sets arrays item at n qs.0 qs.1 ≡ Ok k →
          Worth arrays ns (chain_value at r rs (some_of (step_values arrays ns ss))) k
      steps-worth no_steps at n r rs ps qs k w e h = chained-worth sets arrays item ns value-small at n r rs qs k (subst (Parts-worth arrays ns r rs) (nodes.ok-same ps qs e) w) h
      steps-worth (more_steps sign d ss) at n r rs ps qs k w e h =
          let m : ℕ = n + parts_nodes ps in
          let p = next-made (as_operand item (place d) m (whole_drafts.made sets arrays item m d)) (λ g. next (stepped sets arrays item sign at (place d) n ps g) (λ qs. made_steps sets arrays item at n qs ss)) qs e in
          let q = next-made (stepped sets arrays item sign at (place d) n ps p.0) (λ qs. made_steps sets arrays item at n qs ss) qs p.2 in
          let t = stepped-worth sets arrays item ns value-small at (place d) n sign r rs (comes d) ps q.0 p.0 w (operand-made (place d) m (comes d) (whole_drafts.made sets arrays item m d) p.0 (λ h f. made-worth d m h f) p.1) q.1 in
          subst (λ o. Worth arrays ns o k) (sym (ap (chain_value at r rs) (some-more (draft_value arrays ns d) (λ v. operation sign (compare.number v)) (step_values arrays ns ss)) ∙ t.3 (some_of (step_values arrays ns ss))))
          (steps-worth ss at n t.0 t.1 q.0 qs k t.2 q.2 h)
