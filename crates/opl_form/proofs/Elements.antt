-- What an element by subscripts with variables is worth.
use Rattle.std.proofs.Common.{◌≡◌, ◌≢◌, ℕ, zero, suc, ◌+◌, ◌*◌, ◌<◌, ◌≤◌, ℤ, pos, Bool, true, false, cond, ◌&&◌, nat_lt, unsigned_abs, length, slice_get, List, [], ◌∷◌, map, Option, None, Some, Ok, Err, refl, sym, ap, subst, ◌∙◌, arith}
use Rattle.std.specs.Option.{option_map}
use Rattle.std.specs.Prelude.{slice_index_or}
use Rattle.std.specs.Ordering.{int_eq}
use Rattle.std.proofs.lemmas.Bool.{and_parts}
use Rattle.opl_value.proofs.PlaceLaws.{places_below}
use Rattle.opl_value.specs.declared.value.Value.{Value}
use Rattle.opl_value.specs.declared.value.Value.TheVariants as values
use Rattle.opl_value.specs.declared.value.Dimension.TheViews.{out-Value}
use Rattle.opl_value.specs.Places as places
use Rattle.opl_value.specs.Places.{elements, joint, place_of, value_at}
use Rattle.opl_eval.specs.declared.fault.EvalFault.TheVariants.{OutOfIndex}
use Rattle.opl_eval.specs.Compare.{rank}
use Rattle.opl_eval.specs.Evaluation.{at_place}
use Rattle.opl_meaning.specs.Assigned.{position_of}
use Rattle.opl_meaning.specs.declared.variable.Kind.{Kind}
use Rattle.opl_draft.specs.Drafts.{Cells, Leaves, array_at, chosen, leaf_values, variable_values}
use Rattle.opl_draft.specs.Drafts.Leaves.{listed, numbered}
use Rattle.opl_expr.specs.Forms.{terms_of, Term}
use Rattle.opl_expr.specs.Holds.{all_values, value, place_in}
use Rattle.opl_expr.specs.Sound.{IsSoundTable, greatest_abs, keys, term_magnitude}
use Rattle.opl_expr.proofs.Cells.{reached as reached_in}
use Rattle.opl_expr.proofs.Plain.{term_At}
use Rattle.opl_expr.specs.declared.tables.Cell.TheVariants as cell
use Rattle.opl_expr.specs.declared.forms.Expr.TheVariants as E
use Rattle.opl_expr.specs.Options.{lift1, bind1, lift}
use Rattle.opl_form.specs.Parts.{are_indices, table_of, tables, Form, Sort, alike, all_alike, all_known, cells_of, first_sort, indices_of, key_layer, key_sort, number_cells, ranked, subscripts_fit}
use Rattle.opl_form.specs.Made.{array_of}
use Rattle.opl_form.specs.Worth.{plain, Worth, hold, some_of, val}
use Rattle.opl_form.specs.Measures as measures
use Rattle.opl_form.specs.Nodes as making
use Rattle.opl_form.specs.Nodes.{Made, element_at, element_node, element_sort, has_positions, indexed, known_node, looked_up, number_node, placed, size, variable_sort, variable_sorts, with_indices}
use Rattle.opl_form.specs.Parts.Form.{known, number, name, condition, truth}
use Rattle.opl_form.specs.Parts.Sort.{whole, named, other}
use Rattle.opl_form.proofs.Indices.{alike-indices, keys-indices, length-map}
use Rattle.opl_form.proofs.Nodes.{whole-map, AreWorth, counted-made, number-node, sized-made}
use Rattle.opl_form.proofs.Tables.{cell_at, get-map, ints_place, reached-cell}
use Rattle.opl_form.proofs.Values.{alike-same, eq-ranks, int-back, name-back}
use Rattle.opl_form.proofs.Variables.{variable-at, variable-worth, variables-rank}
use Rattle.opl_form.proofs.Views.{rank-worth}
use Rattle.opl_form.proofs.Nodes as nodes

place-ranks : (v : Value) (d : List Value) → all_alike (key_layer (out-Value v)) d ≡ true → places.place_in v d ≡ place_in (rank v) (map rank d)
place-ranks v [] h = refl
place-ranks v (w ∷ ws) h =
    let p = and_parts (alike (key_layer (out-Value v)) (key_layer (out-Value w))) (all_alike (key_layer (out-Value v)) ws) h in
    (λ i. cond (eq-ranks v w p.0 i) (Some 0) (option_map suc (place-ranks v ws p.1 i))) ∙ ap (cond (int_eq (rank v) (rank w)) (Some 0)) (mapped (place_in (rank v) (map rank ws)))
  where
    mapped : (o : Option ℕ) → option_map suc o ≡ lift1 suc o
    mapped None = refl
    mapped (Some n) = refl

-- the place of a value is that of its rank among the indices
place-indices : (v : Value) (d : List Value) → all_alike (key_layer (out-Value v)) d ≡ true → places.place_in v d ≡ place_in (rank v) (indices_of d)
place-indices v d h = place-ranks v d h ∙ ap (place_in (rank v)) (sym (alike-indices (key_layer (out-Value v)) d h))

module _ (sets : List (ℤ × ℤ)) (arrays : List Cells) (item : ℕ) (ns : List ℤ)
    (value-small : (t : Term) (v : ℤ) → value ns t ≡ Some v → unsigned_abs v ≤ term_magnitude sets t)
  where
    lift-key : {A : Type 0} (f : A → Value) (s : Sort) → ((a : A) → key_layer (out-Value (f a)) ≡ s) → (o : Option A) (v : Value) → Some v ≡ lift1 f o → s ≡ key_layer (out-Value v)
    lift-key f s h None v e = absurd (cc)
    lift-key f s h (Some a) v e = sym (h a) ∙ ap (λ v. key_layer (out-Value v)) (nodes.some-same (f a) v (sym e))

    -- a subscript is of the sort of its value
    key-worth : (g : Form) (v : Value) → Worth arrays ns (Some v) g → key_sort g ≡ key_layer (out-Value v)
    key-worth (known u) v w = ap (λ v. key_layer (out-Value v)) (nodes.some-same u v (sym w))
    key-worth (number e) v w = lift-key values.Int whole (λ n. ap key_layer (values.outs-Int n)) (val arrays ns e) v w
    key-worth (name d e) v w = lift-key (λ n. values.Enum d (position_of n)) (named d) (λ n. ap key_layer (values.outs-Enum d (position_of n))) (val arrays ns e) v w.0
    key-worth (condition c) v w = lift-key values.Bool other (λ b. ap key_layer (values.outs-Bool b)) (hold arrays ns c) v w
    key-worth (truth c) v w = lift-key values.Bool other (λ b. ap key_layer (values.outs-Bool b)) (hold arrays ns c) v w

    -- the place of the values is that of their ranks
    fit-place : (ds : List (List Value)) (gs : List Form) (vs : List Value) → AreWorth arrays ns (map (λ v. Some v) vs) gs → subscripts_fit ds gs ≡ true → place_of ds vs ≡ ints_place (map indices_of ds) (map rank vs)
    fit-place [] [] [] w h = refl
    fit-place [] [] (v ∷ vs) w h = absurd w
    fit-place [] (g ∷ gs) vs w h = absurd (cc)
    fit-place (d ∷ ds) [] vs w h = absurd (cc)
    fit-place (d ∷ ds) (g ∷ gs) [] w h = absurd w
    fit-place (d ∷ ds) (g ∷ gs) (v ∷ vs) w h =
        let p = and_parts (all_alike (key_sort g) d) (subscripts_fit ds gs) h in
        (λ i. joint (elements ds) (place-indices v d (subst (λ s. all_alike s d ≡ true) (key-worth g v w.0) p.0) i) (fit-place ds gs vs w.1 p.1 i))
        ∙ ap (λ n. joint n (place_in (rank v) (indices_of d)) (ints_place (map indices_of ds) (map rank vs))) (sym (keys-indices ds))

    ranks-worth : (rs : List (Option Value)) (gs : List Form) → AreWorth arrays ns rs gs → map (λ g. val arrays ns (ranked g)) gs ≡ map (lift1 rank) rs
    ranks-worth [] [] w = refl
    ranks-worth [] (g ∷ gs) w = absurd w
    ranks-worth (r ∷ rs) [] w = absurd w
    ranks-worth (r ∷ rs) (g ∷ gs) w = λ i. sym (rank-worth arrays ns r g w.0) i ∷ ranks-worth rs gs w.1 i

    -- where all are there, they are these
    all-there : (rs : List (Option Value)) (vs : List Value) → nodes.whole rs ≡ Some vs → rs ≡ map (λ v. Some v) vs
    all-there [] vs h = ap (map (λ v. Some v)) (nodes.some-same [] vs h)
    all-there (None ∷ rs) vs h = absurd (cc)
    all-there (Some v ∷ rs) vs h = by (nodes.whole rs) h (λ us e. all-there rs us e)
      where
        by : (o : Option (List Value)) → lift (λ x xs. x ∷ xs) (Some v) o ≡ Some vs → ((us : List Value) → o ≡ Some us → rs ≡ map (λ v. Some v) us) → Some v ∷ rs ≡ map (λ v. Some v) vs
        by None k f = absurd (cc)
        by (Some us) k f = ap (λ xs. Some v ∷ xs) (f us refl) ∙ ap (map (λ v. Some v)) (nodes.some-same (v ∷ us) vs k)

    -- the values of leaves at a place
    abbrev leaf_of : Leaves → ℕ → Value
    leaf_of ls p = value_at (leaf_values arrays ns ls) p

    module _ (fair : (x : ℕ) → has_positions (slice_index_or sets x (pos 0, pos 0)) ≡ true → slice_index_or ns x (pos 0) ≡ pos (position_of (slice_index_or ns x (pos 0))))
        (sound : (k : ℕ) (a : Cells) → slice_get arrays k ≡ Some a → IsSoundTable sets (Some (table_of a)))
      where
        -- ---- tables

        terms-values : (gs : List Form) → all_values ns (terms_of (map (plain arrays) (map ranked gs))) ≡ map (λ g. val arrays ns (ranked g)) gs
        terms-values [] = refl
        terms-values (g ∷ gs) = ap (λ vs. val arrays ns (ranked g) ∷ vs) (terms-values gs)

        fit-length : (ds : List (List Value)) (gs : List Form) → subscripts_fit ds gs ≡ true → length (map (λ g. val arrays ns (ranked g)) gs) ≡ length (map indices_of ds)
        fit-length [] [] h = refl
        fit-length [] (g ∷ gs) h = absurd (cc)
        fit-length (d ∷ ds) [] h = absurd (cc)
        fit-length (d ∷ ds) (g ∷ gs) h = ap suc (fit-length ds gs (and_parts (all_alike (key_sort g) d) (subscripts_fit ds gs) h).1)

        at-value : (k : ℕ) (a : Cells) (gs : List Form) (os : List (Option ℤ)) → slice_get arrays k ≡ Some a → subscripts_fit a.dims gs ≡ true → map (λ g. val arrays ns (ranked g)) gs ≡ os →
            val arrays ns (E.At k (map ranked gs)) ≡ bind1 (λ is. lift1 (cell_at ns (cells_of a.leaves)) (ints_place (map indices_of a.dims) is)) (nodes.whole os)
        at-value k a gs os h fit e =
            let s = sound k a h in
            let l : length os ≡ length (map indices_of a.dims) = ap length (sym e) ∙ fit-length a.dims gs fit in
            ap (value ns) (term_At (tables arrays) [] k (map ranked gs) ∙ ap (λ t. Term.at t (terms_of (map (plain arrays) (map ranked gs)))) (get-map table_of arrays k ∙ ap (lift1 table_of) h))
            ∙ ap (λ vs. reached_in ns (map indices_of a.dims) vs (cells_of a.leaves)) (terms-values gs ∙ e)
            ∙ reached-cell ns (map indices_of a.dims) os (cells_of a.leaves) s.0 s.1 l

        -- ---- cells

        listed-rank : (vs : List Value) (p : ℕ) (s : Sort) → p < length vs → all_alike s vs ≡ true → (cell_at ns (map (λ v. cell.Const (rank v)) vs) p ≡ rank (value_at vs p)) × (key_layer (out-Value (value_at vs p)) ≡ s)
        listed-rank [] p s l h = absurd (omega (arith, l))
        listed-rank (v ∷ vs) zero s l h = (refl, sym (alike-same s (key_layer (out-Value v)) (and_parts (alike s (key_layer (out-Value v))) (all_alike s vs) h).0))
        listed-rank (v ∷ vs) (suc p) s l h = listed-rank vs p s (omega (arith, l)) (and_parts (alike s (key_layer (out-Value v))) (all_alike s vs) h).1

        length-number : (kind : Kind) (x n : ℕ) → length (number_cells kind x n) ≡ n
        length-number kind x zero = refl
        length-number kind x (suc n) = ap suc (length-number kind (suc x) n)

        -- what is not other was tested
        tested : (b : Bool) (s : Sort) → cond b s other ≢ other → (b ≡ true) × (cond b s other ≡ s)
        tested true s h = (refl, refl)
        tested false s h = absurd (h refl)

        leaf-rank : (ls : Leaves) (p : ℕ) → p < length (cells_of ls) → element_sort sets ls ≢ other → (cell_at ns (cells_of ls) p ≡ rank (leaf_of ls p)) × (key_layer (out-Value (leaf_of ls p)) ≡ element_sort sets ls)
        leaf-rank (listed vs) p l sure =
            let t = tested (all_alike (first_sort vs) vs) (first_sort vs) sure in
            let q = listed-rank vs p (first_sort vs) (subst (λ n. p < n) (length-map (λ v. cell.Const (rank v)) vs) l) t.0 in
            (q.0, q.1 ∙ sym t.1)
        leaf-rank (numbered kind x n) p l sure =
            let t = tested (variable_sorts sets (variable_sort sets kind x) kind x n) (variable_sort sets kind x) sure in
            let q = variables-rank sets arrays item ns value-small fair kind x n p (variable_sort sets kind x) (subst (λ m. p < m) (length-number kind x n) l) t.0 in
            (q.0, q.1 ∙ sym t.1)

        cell-rank : (k : ℕ) (a : Cells) (vs : List Value) (p : ℕ) → slice_get arrays k ≡ Some a → place_of a.dims vs ≡ Some p → element_sort sets a.leaves ≢ other →
            (cell_at ns (cells_of a.leaves) p ≡ rank (leaf_of a.leaves p)) × (key_layer (out-Value (leaf_of a.leaves p)) ≡ element_sort sets a.leaves)
        cell-rank k a vs p h q sure = leaf-rank a.leaves p (subst (λ n. p < n) (sym (keys-indices a.dims) ∙ sym (sound k a h).0) (places_below a.dims vs p q)) sure

        -- what the subscripts of a table reach
        abbrev reached : Cells → List Value → Option Value
        reached a vs = lift1 (leaf_of a.leaves) (place_of a.dims vs)

        chosen-is : (at k : ℕ) (a : Cells) (o : Option (List Value)) → slice_get arrays k ≡ Some a → bind1 (λ key. some_of (chosen arrays ns at (array_at arrays ns (Some k)) key)) o ≡ bind1 (reached a) o
        chosen-is at k a None h = refl
        chosen-is at k a (Some key) h = ap (λ x. some_of (chosen arrays ns at x key)) h ∙ by (place_of a.dims key)
          where
            by : (p : Option ℕ) → some_of (at_place at (leaf_values arrays ns a.leaves) p) ≡ lift1 (leaf_of a.leaves) p
            by None = refl
            by (Some p) = refl

        at-is : (k : ℕ) (a : Cells) (rs : List (Option Value)) (gs : List Form) → slice_get arrays k ≡ Some a → subscripts_fit a.dims gs ≡ true → element_sort sets a.leaves ≢ other → AreWorth arrays ns rs gs →
            val arrays ns (E.At k (map ranked gs)) ≡ lift1 rank (bind1 (reached a) (nodes.whole rs))
        at-is k a rs gs h fit sure w =
            at-value k a gs (map (lift1 rank) rs) h fit (ranks-worth rs gs w)
            ∙ ap (bind1 (λ is. lift1 (cell_at ns (cells_of a.leaves)) (ints_place (map indices_of a.dims) is))) (whole-map rank rs)
            ∙ by (nodes.whole rs) (λ vs e. subst (λ rs. AreWorth arrays ns rs gs) (all-there rs vs e) w)
          where
            by : (o : Option (List Value)) → ((vs : List Value) → o ≡ Some vs → AreWorth arrays ns (map (λ v. Some v) vs) gs) →
                bind1 (λ is. lift1 (cell_at ns (cells_of a.leaves)) (ints_place (map indices_of a.dims) is)) (lift1 (map rank) o) ≡ lift1 rank (bind1 (reached a) o)
            by None f = refl
            by (Some vs) f = ap (lift1 (cell_at ns (cells_of a.leaves))) (sym (fit-place a.dims gs vs (f vs refl) fit)) ∙ each (place_of a.dims vs) (λ p e. (cell-rank k a vs p h e sure).0)
              where
                each : (o : Option ℕ) → ((p : ℕ) → o ≡ Some p → cell_at ns (cells_of a.leaves) p ≡ rank (leaf_of a.leaves p)) → lift1 (cell_at ns (cells_of a.leaves)) o ≡ lift1 rank (lift1 (leaf_of a.leaves) o)
                each None f = refl
                each (Some p) f = ap (λ z. Some z) (f p refl)

        -- what is reached is of the sort of the elements
        reached-sort : (k : ℕ) (a : Cells) (o : Option (List Value)) (v : Value) → slice_get arrays k ≡ Some a → element_sort sets a.leaves ≢ other → bind1 (reached a) o ≡ Some v → key_layer (out-Value v) ≡ element_sort sets a.leaves
        reached-sort k a None v h sure e = absurd (cc)
        reached-sort k a (Some vs) v h sure e = by (place_of a.dims vs) refl e
          where
            by : (p : Option ℕ) → place_of a.dims vs ≡ p → lift1 (leaf_of a.leaves) p ≡ Some v → key_layer (out-Value v) ≡ element_sort sets a.leaves
            by None q e = absurd (cc)
            by (Some p) q e = ap (λ v. key_layer (out-Value v)) (sym (nodes.some-same (leaf_of a.leaves p) v e)) ∙ (cell-rank k a vs p h q sure).1

        ints-of : (o : Option Value) → ((v : Value) → o ≡ Some v → key_layer (out-Value v) ≡ whole) → o ≡ lift1 values.Int (lift1 rank o)
        ints-of None h = refl
        ints-of (Some v) h = ap (λ v. Some v) (int-back v (h v refl))

        names-of : (d : ℕ) (o : Option Value) → ((v : Value) → o ≡ Some v → key_layer (out-Value v) ≡ named d) → (o ≡ lift1 (λ n. values.Enum d (position_of n)) (lift1 rank o)) × ((n : ℤ) → lift1 rank o ≡ Some n → n ≡ pos (position_of n))
        names-of d None h = (refl, λ n e. absurd (cc))
        names-of d (Some v) h = let b = name-back v d (h v refl) in (ap (λ v. Some v) b.0, λ n e. let s : rank v ≡ n = nodes.some-same (rank v) n e in subst (λ n. n ≡ pos (position_of n)) s b.1)

        -- the node of an element is worth what is reached
        node-worth : (at n k : ℕ) (a : Cells) (rs : List (Option Value)) (gs : List Form) (g : Form) (s : Sort) → element_sort sets a.leaves ≡ s → slice_get arrays k ≡ Some a → subscripts_fit a.dims gs ≡ true →
            AreWorth arrays ns rs gs → element_node sets arrays item s at n (E.At k (map ranked gs)) ≡ Ok g → Worth arrays ns (bind1 (reached a) (nodes.whole rs)) g
        node-worth at n k a rs gs g whole q h fit w e =
            let sure : element_sort sets a.leaves ≢ other = λ o. absurd (whole-other (sym q ∙ o)) in
            let p = number-node sets arrays item at n (E.At k (map ranked gs)) g e in
            subst (Worth arrays ns (bind1 (reached a) (nodes.whole rs))) p.0
            (ints-of (bind1 (reached a) (nodes.whole rs)) (λ v f. reached-sort k a (nodes.whole rs) v h sure f ∙ q) ∙ ap (lift1 values.Int) (sym (at-is k a rs gs h fit sure w)))
          where
            whole-other : whole ≡ other → ⊥
            whole-other e = cc
        node-worth at n k a rs gs g (named d) q h fit w e =
            let sure : element_sort sets a.leaves ≢ other = λ o. absurd (named-other (sym q ∙ o)) in
            let node = E.At k (map ranked gs) in
            let p = sized-made at (size sets arrays node) (making.counted item n (measures.depth node) (measures.nodes node) (name d node)) g e in
            let b = names-of d (bind1 (reached a) (nodes.whole rs)) (λ v f. reached-sort k a (nodes.whole rs) v h sure f ∙ q) in
            let is = at-is k a rs gs h fit sure w in
            subst (Worth arrays ns (bind1 (reached a) (nodes.whole rs))) (counted-made item n (measures.depth node) (measures.nodes node) (name d node) g p.1)
            (b.0 ∙ ap (lift1 (λ n. values.Enum d (position_of n))) (sym is), λ n f. b.1 n (sym is ∙ f))
          where
            named-other : named d ≡ other → ⊥
            named-other e = cc
        node-worth at n k a rs gs g other q h fit w e = absurd (cc)

        -- the element at a place is worth the leaf there
        element-worth : (at n : ℕ) (ls : Leaves) (p : ℕ) (g : Form) → element_at sets arrays item at n ls p ≡ Ok g → Worth arrays ns (Some (leaf_of ls p)) g
        element-worth at n (listed vs) p g e =
            let q = sized-made at (unsigned_abs (rank (value_at vs p))) (making.known_node item n (value_at vs p)) g e in
            subst (Worth arrays ns (Some (value_at vs p))) (counted-made item n 1 1 (known (value_at vs p)) g q.1) refl
        element-worth at n (numbered kind x count) p g e = by (nat_lt p count) refl e
          where
            below : (p n : ℕ) → nat_lt p n ≡ true → p < n
            below p n h = grind arith

            by : (b : Bool) → nat_lt p count ≡ b → cond b (element_node sets arrays item (variable_sort sets kind (x + p)) at n (E.Var (x + p))) (Err (making.Fault.eval (OutOfIndex at))) ≡ Ok g → Worth arrays ns (Some (value_at (variable_values arrays ns kind x count) p)) g
            by true h f =
                subst (λ v. Worth arrays ns (Some v) g) (sym (variable-at sets arrays item ns value-small fair kind x count p (below p count h)))
                (variable-worth sets arrays item ns value-small fair at n (x + p) kind g f)
            by false h f = absurd (cc)

        past-indices : (ds : List (List Value)) (ats : List ℕ) (gs : List Form) (r : Made Form) (g : Form) → with_indices sets arrays item ds ats gs r ≡ Ok g → r ≡ Ok g
        past-indices [] ats gs r g e = e
        past-indices (d ∷ ds) [] gs r g e = e
        past-indices (d ∷ ds) (at ∷ ats) [] r g e = e
        past-indices (d ∷ ds) (at ∷ ats) (h ∷ gs) r g e =
            past-indices ds ats gs r g (sized-made at (size sets arrays (ranked h) + greatest_abs (indices_of d)) (with_indices sets arrays item ds ats gs r) g e).1

        pub indexed-worth : (at n : ℕ) (k : Option ℕ) (ats : List ℕ) (rs : List (Option Value)) (gs : List Form) (g : Form) → AreWorth arrays ns rs gs → indexed sets arrays item at n k (array_of arrays k) ats gs ≡ Ok g →
            Worth arrays ns (bind1 (λ key. some_of (chosen arrays ns at (array_at arrays ns k) key)) (nodes.whole rs)) g
        indexed-worth at n None ats rs gs g w e = absurd (cc)
        indexed-worth at n (Some k) ats rs gs g w e = by (slice_get arrays k) refl e
          where
            at-key : (a : Cells) (p : Option ℕ) → placed sets arrays item at n a.leaves p ≡ Ok g → Worth arrays ns (lift1 (leaf_of a.leaves) p) g
            at-key a None f = absurd (cc)
            at-key a (Some p) f = element-worth at n a.leaves p g f

            when : (a : Cells) (o : Option (List Value)) → slice_get arrays k ≡ Some a → all_known gs ≡ o → looked_up sets arrays item at n o k a ats gs ≡ Ok g → Worth arrays ns (bind1 (reached a) (nodes.whole rs)) g
            when a (Some key) h q f =
                subst (λ o. Worth arrays ns (bind1 (reached a) o) g) (sym (nodes.all-known arrays ns rs gs key w q)) (at-key a (place_of a.dims key) f)
            when a None h q f = fits (are_indices a.dims gs) (subscripts_fit a.dims gs) refl f
              where
                fits : (b c : Bool) → subscripts_fit a.dims gs ≡ c → cond (b && c) (with_indices sets arrays item a.dims ats gs (element_node sets arrays item (element_sort sets a.leaves) at n (E.At k (map ranked gs)))) (Err (making.Fault.eval (OutOfIndex at))) ≡ Ok g →
                    Worth arrays ns (bind1 (reached a) (nodes.whole rs)) g
                fits true true c f =
                    node-worth at n k a rs gs g (element_sort sets a.leaves) refl h c w (past-indices a.dims ats gs (element_node sets arrays item (element_sort sets a.leaves) at n (E.At k (map ranked gs))) g f)
                fits true false c f = absurd (cc)
                fits false b c f = absurd (cc)

            by : (o : Option Cells) → slice_get arrays k ≡ o → indexed sets arrays item at n (Some k) o ats gs ≡ Ok g → Worth arrays ns (bind1 (λ key. some_of (chosen arrays ns at (array_at arrays ns (Some k)) key)) (nodes.whole rs)) g
            by None h f = absurd (cc)
            by (Some a) h f = subst (λ o. Worth arrays ns o g) (sym (chosen-is at k a (nodes.whole rs) h)) (when a (all_known gs) h refl f)
