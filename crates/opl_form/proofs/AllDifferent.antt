-- What `alldifferent` is worth.
use Rattle.std.proofs.Common.{◌≡◌, ℕ, zero, suc, ◌≤◌, ℤ, pos, Bool, true, false, cond, not, ◌&&◌, ◌||◌, nat_le, length, ◌+◌, unsigned_abs, List, [], ◌∷◌, map, Option, None, Some, Ok, Err, refl, sym, ap, subst, ◌∙◌}
use Rattle.std.specs.List.{list_any}
use Rattle.std.specs.Ordering.{int_eq}
use Rattle.std.specs.Prelude.{slice_index_or}
use Rattle.std.proofs.lemmas.Bool.{and_parts}
use Rattle.opl_value.specs.declared.value.Value.{Value}
use Rattle.opl_value.specs.declared.value.Value.TheVariants as values
use Rattle.opl_value.specs.declared.value.Dimension.TheViews.{out-Value}
use Rattle.opl_value.specs.Order.{value_eq}
use Rattle.opl_eval.specs.declared.fault.EvalFault.TheVariants.{OutOfIndex}
use Rattle.opl_eval.specs.Compare.{all_different, rank}
use Rattle.opl_meaning.specs.Assigned.{position_of, value_of}
use Rattle.opl_meaning.specs.declared.variable.Kind.{Kind}
use Rattle.opl_meaning.specs.declared.variable.Kind.TheVariants.{Number, Enumeration}
use Rattle.opl_draft.specs.Drafts.{Cells, Leaves, are_different, variable_values}
use Rattle.opl_draft.specs.Drafts.Leaves.{listed, numbered}
use Rattle.opl_expr.specs.declared.forms.Cons.TheVariants as C
use Rattle.opl_expr.specs.declared.forms.Expr.TheVariants as E
use Rattle.opl_expr.specs.declared.forms.Op.TheVariants.{Ne}
use Rattle.opl_expr.specs.Forms as forms
use Rattle.opl_expr.specs.Forms.{Fact, Term, terms_of}
use Rattle.opl_expr.specs.Holds.{holds, op_relates, value}
use Rattle.opl_expr.specs.Options.{lift, lift1, lift_onto}
use Rattle.opl_expr.specs.Sound.{term_magnitude}
use Rattle.opl_expr.proofs.Cells.{differ_more}
use Rattle.opl_expr.proofs.Plain.{fact_AllDifferent}
use Rattle.opl_form.specs.Parts.{Form, Sort, alike, all_known, key_layer, leaves, of_kind, ranked, tables, variables}
use Rattle.opl_form.specs.Parts.Form.{known, condition}
use Rattle.opl_form.specs.Measures as measures
use Rattle.opl_form.specs.Nodes as making
use Rattle.opl_form.specs.Nodes.{Made, all_differ, are_alike, condition_node, different, has_positions, known_node, size, two_greatest, variable_sort, variable_sorts}
use Rattle.opl_form.specs.Worth.{Worth, hold, plain, val}
use Rattle.opl_form.proofs.Nodes.{counted-made, sized-made}
use Rattle.opl_form.proofs.Nodes as nodes
use Rattle.opl_form.proofs.Values.{eq-ranks}
use Rattle.opl_form.proofs.Variables.{val-Var, variable-rank}

-- ---- numbers that differ

-- a number differs from each of these, and something else holds
abbrev apart : ℤ → List ℤ → Bool → Bool
apart z [] q = q
apart z (w ∷ ws) q = not (int_eq z w) && apart z ws q

abbrev differ : List ℤ → Bool
differ [] = true
differ (z ∷ zs) = apart z zs (differ zs)

all-apart : (ns : List ℤ) (z : ℤ) (ts : List Term) (zs : List ℤ) (q : Bool) → map (value ns) ts ≡ map (λ z. Some z) zs → lift_onto (λ b c. b && c) (map (λ t. lift (op_relates Ne) (Some z) (value ns t)) ts) (Some q) ≡ Some (apart z zs q)
all-apart ns z [] [] q h = refl
all-apart ns z [] (w ∷ zs) q h = absurd (cc)
all-apart ns z (t ∷ ts) [] q h = absurd (cc)
all-apart ns z (t ∷ ts) (w ∷ zs) q h =
    let first : value ns t ≡ Some w = first-same (value ns t) (Some w) (map (value ns) ts) (map (λ z. Some z) zs) h in
    let rest : map (value ns) ts ≡ map (λ z. Some z) zs = rest-same (value ns t) (Some w) (map (value ns) ts) (map (λ z. Some z) zs) h in
    λ i. lift (λ b c. b && c) (lift (op_relates Ne) (Some z) (first i)) (all-apart ns z ts zs q rest i)
  where
    first-same : (x y : Option ℤ) (xs ys : List (Option ℤ)) → x ∷ xs ≡ y ∷ ys → x ≡ y
    first-same x y xs ys e = cc

    rest-same : (x y : Option ℤ) (xs ys : List (Option ℤ)) → x ∷ xs ≡ y ∷ ys → xs ≡ ys
    rest-same x y xs ys e = cc

-- where all terms have values
pub differ-holds : (ns : List ℤ) (ts : List Term) (zs : List ℤ) → map (value ns) ts ≡ map (λ z. Some z) zs → holds ns (Fact.different (terms_of ts)) ≡ Some (differ zs)
differ-holds ns [] [] h = refl
differ-holds ns [] (z ∷ zs) h = absurd (cc)
differ-holds ns (t ∷ ts) [] h = absurd (cc)
differ-holds ns (t ∷ ts) (z ∷ zs) h =
    let first : value ns t ≡ Some z = first-same (value ns t) (Some z) (map (value ns) ts) (map (λ z. Some z) zs) h in
    let rest : map (value ns) ts ≡ map (λ z. Some z) zs = rest-same (value ns t) (Some z) (map (value ns) ts) (map (λ z. Some z) zs) h in
    differ_more ns t ts
    ∙ (λ i. lift (λ b c. b && c) (lift1 (λ v. true) (first i)) (lift_onto (λ b c. b && c) (map (λ b. lift (op_relates Ne) (first i) (value ns b)) ts) (differ-holds ns ts zs rest i)))
    ∙ ap (lift (λ b c. b && c) (Some true)) (all-apart ns z ts zs (differ zs) rest)
  where
    first-same : (x y : Option ℤ) (xs ys : List (Option ℤ)) → x ∷ xs ≡ y ∷ ys → x ≡ y
    first-same x y xs ys e = cc

    rest-same : (x y : Option ℤ) (xs ys : List (Option ℤ)) → x ∷ xs ≡ y ∷ ys → xs ≡ ys
    rest-same x y xs ys e = cc

-- ---- values that differ

-- values of one sort
abbrev AreOf : Sort → List Value → Type 0
AreOf s [] = Unit {0}
AreOf s (v ∷ vs) = (key_layer (out-Value v) ≡ s) × AreOf s vs

value-apart : (s : Sort) (v : Value) (vs : List Value) (q : Bool) → alike s s ≡ true → key_layer (out-Value v) ≡ s → AreOf s vs → not (list_any (value_eq v) vs) && q ≡ apart (rank v) (map rank vs) q
value-apart s v [] q p h k = refl
value-apart s v (w ∷ vs) q p h k =
    split (value_eq v w) (list_any (value_eq v) vs) q
    ∙ (λ i. not (eq-ranks v w ((λ j. alike (h j) (k.0 j)) ∙ p) i) && value-apart s v vs q p h k.1 i)
  where
    split : (a b q : Bool) → not (a || b) && q ≡ not a && (not b && q)
    split true b q = refl
    split false b q = refl

values-differ : (s : Sort) (vs : List Value) → alike s s ≡ true → AreOf s vs → all_different vs ≡ differ (map rank vs)
values-differ s [] p h = refl
values-differ s (v ∷ vs) p h = ap (λ q. not (list_any (value_eq v) vs) && q) (values-differ s vs p h.1) ∙ value-apart s v vs (differ (map rank vs)) p h.0 h.1

module _ (sets : List (ℤ × ℤ)) (arrays : List Cells) (item : ℕ) (ns : List ℤ)
    (value-small : (t : Term) (v : ℤ) → value ns t ≡ Some v → unsigned_abs v ≤ term_magnitude sets t)
    (fair : (x : ℕ) → has_positions (slice_index_or sets x (pos 0, pos 0)) ≡ true → slice_index_or ns x (pos 0) ≡ pos (position_of (slice_index_or ns x (pos 0))))
  where
    variables-of : (s : Sort) (kind : Kind) (x n : ℕ) → variable_sorts sets s kind x n ≡ true → AreOf s (variable_values arrays ns kind x n)
    variables-of s kind x zero h = tt
    variables-of s kind x (suc n) h =
        let p = and_parts (alike s (variable_sort sets kind x)) (variable_sorts sets s kind (suc x) n) h in
        ((variable-rank sets arrays item ns value-small fair x kind s p.0).1, variables-of s kind (suc x) n p.1)

    ranked-variable : (kind : Kind) (x : ℕ) → ranked (of_kind kind (E.Var x)) ≡ E.Var x
    ranked-variable Number x = refl
    ranked-variable (Enumeration d) x = refl

    variables-values : (s : Sort) (kind : Kind) (x n : ℕ) → variable_sorts sets s kind x n ≡ true →
        map (value ns) (map (plain arrays) (map ranked (variables kind x n))) ≡ map (λ z. Some z) (map rank (variable_values arrays ns kind x n))
    variables-values s kind x zero h = refl
    variables-values s kind x (suc n) h =
        let p = and_parts (alike s (variable_sort sets kind x)) (variable_sorts sets s kind (suc x) n) h in
        let first : val arrays ns (ranked (of_kind kind (E.Var x))) ≡ Some (rank (value_of kind (slice_index_or ns x (pos 0)))) =
        ap (val arrays ns) (ranked-variable kind x) ∙ val-Var sets arrays item ns value-small fair x ∙ ap (λ z. Some z) (variable-rank sets arrays item ns value-small fair x kind s p.0).0 in
        λ i. first i ∷ variables-values s kind (suc x) n p.1 i

    hold-AllDifferent : (s : Sort) (kind : Kind) (x n : ℕ) → alike s s ≡ true → variable_sorts sets s kind x n ≡ true →
        hold arrays ns (C.AllDifferent (map ranked (variables kind x n))) ≡ Some (all_different (variable_values arrays ns kind x n))
    hold-AllDifferent s kind x n p h =
        ap (holds ns) (fact_AllDifferent (tables arrays) [] (map ranked (variables kind x n)))
        ∙ differ-holds ns (map (plain arrays) (map ranked (variables kind x n))) (map rank (variable_values arrays ns kind x n)) (variables-values s kind x n h)
        ∙ ap (λ b. Some b) (sym (values-differ s (variable_values arrays ns kind x n) p (variables-of s kind x n h)))

    -- a variable is left
    not-known : (kind : Kind) (x n : ℕ) → all_known (variables kind x (suc n)) ≡ None
    not-known Number x n = refl
    not-known (Enumeration d) x n = refl

    variables-differ : (at n : ℕ) (kind : Kind) (x m : ℕ) (g : Form) → variable_sorts sets (variable_sort sets kind x) kind x m ≡ true → all_differ sets arrays item at n (variables kind x m) ≡ Ok g →
        Worth arrays ns (Some (values.Bool (all_different (variable_values arrays ns kind x m)))) g
    variables-differ at n kind x zero g h e = subst (Worth arrays ns (Some (values.Bool true))) (counted-made item n 1 1 (known (values.Bool true)) g e) refl
    variables-differ at n kind x (suc m) g h e =
        let p = and_parts (alike (variable_sort sets kind x) (variable_sort sets kind x)) (variable_sorts sets (variable_sort sets kind x) kind (suc x) m) h in
        let c = C.AllDifferent (map ranked (variables kind x (suc m))) in
        let node : Made Form = making.sized at (two_greatest (map (λ g. size sets arrays (ranked g)) (variables kind x (suc m)))) (condition_node item n c) in
        let q = sized-made at (two_greatest (map (λ g. size sets arrays (ranked g)) (variables kind x (suc m)))) (condition_node item n c) g
        (subst (λ o. making.folded item n o (λ vs. Ok (values.Bool (all_different vs))) node ≡ Ok g) (not-known kind x m) e) in
        subst (Worth arrays ns (Some (values.Bool (all_different (variable_values arrays ns kind x (suc m)))))) (counted-made item n (measures.depth_of c) (measures.nodes_of c) (condition c) g q.1)
        (ap (lift1 values.Bool) (sym (hold-AllDifferent (variable_sort sets kind x) kind x (suc m) p.0 h)))

    pub different-worth : (at n : ℕ) (a : Option Cells) (g : Form) → different sets arrays item at n a ≡ Ok g → Worth arrays ns (Some (values.Bool (are_different arrays ns a))) g
    different-worth at n None g e = subst (Worth arrays ns (Some (values.Bool true))) (counted-made item n 1 1 (known (values.Bool true)) g e) refl
    different-worth at n (Some a) g e = by a.leaves e
      where
        by : (ls : Leaves) → cond (are_alike sets ls) (all_differ sets arrays item at n (leaves ls)) (Err (making.Fault.eval (OutOfIndex at))) ≡ Ok g →
            Worth arrays ns (Some (values.Bool (all_different (Rattle.opl_draft.specs.Drafts.leaf_values arrays ns ls)))) g
        by (listed vs) e =
            let node : Made Form = making.sized at (two_greatest (map (λ g. size sets arrays (ranked g)) (map known vs))) (condition_node item n (C.AllDifferent (map ranked (map known vs)))) in
            let f : known_node item n (values.Bool (all_different vs)) ≡ Ok g = subst (λ o. making.folded item n o (λ vs. Ok (values.Bool (all_different vs))) node ≡ Ok g) (nodes.known-values vs) e in
            subst (Worth arrays ns (Some (values.Bool (all_different vs)))) (counted-made item n 1 1 (known (values.Bool (all_different vs))) g f) refl
        by (numbered kind x m) e = tested (nat_le (x + m) (length sets)) (variable_sorts sets (variable_sort sets kind x) kind x m) refl e
          where
            tested : (a b : Bool) → variable_sorts sets (variable_sort sets kind x) kind x m ≡ b → cond (a && b) (all_differ sets arrays item at n (variables kind x m)) (Err (making.Fault.eval (OutOfIndex at))) ≡ Ok g →
                Worth arrays ns (Some (values.Bool (all_different (variable_values arrays ns kind x m)))) g
            tested true true h e = variables-differ at n kind x m g h e
            tested true false h e = absurd (cc)
            tested false b h e = absurd (cc)
