-- What signs, comparisons and connectives are worth, by what their parts are.
use Rattle.std.proofs.Common.{◌≡◌, ℕ, ◌+◌, ◌^◌, ◌≤◌, ℤ, pos, ◌*ℤ◌, neg_ℤ, Bool, true, false, not, ◌&&◌, ◌||◌, nat_lt, unsigned_abs, List, [], ◌∷◌, map, Option, None, Some, Ok, refl, sym, ap, subst, ◌∙◌, arith}
use Rattle.std.specs.List.{list_all, list_any}
use Rattle.std.proofs.lemmas.Bool.Decides.{Decides-int_eq}
use Rattle.std.proofs.lemmas.Int.{ints}
use Rattle.opl_tree.specs.declared.expression.Relation.{Relation}
use Rattle.opl_tree.specs.declared.expression.Relation.TheVariants.{Equal, NotEqual, Less, LessOrEqual, Greater, GreaterOrEqual}
use Rattle.opl_value.specs.declared.value.Value.{Value}
use Rattle.opl_value.specs.declared.value.Value.TheVariants as values
use Rattle.opl_value.specs.declared.value.Dimension.TheViews.{out-Value}
use Rattle.opl_value.specs.Places.{value_at}
use Rattle.opl_eval.specs.Arithmetic as arithmetic
use Rattle.opl_eval.specs.Compare as compare
use Rattle.opl_eval.specs.Compare.{equal, rank, relates}
use Rattle.opl_eval.specs.Evaluation as evaluation
use Rattle.opl_eval.specs.Evaluation.{Found, found, integer, is_true}
use Rattle.opl_meaning.specs.Assigned.{position_of}
use Rattle.opl_draft.specs.Drafts.{Cells}
use Rattle.opl_expr.specs.declared.forms.Cons.{Cons}
use Rattle.opl_expr.specs.declared.forms.Cons.TheVariants as C
use Rattle.opl_expr.specs.declared.forms.Expr.{Expr}
use Rattle.opl_expr.specs.declared.forms.Expr.TheVariants as E
use Rattle.opl_expr.specs.declared.forms.Op.{Op}
use Rattle.opl_expr.specs.declared.forms.Op.TheVariants.{Eq, Ne, Lt, Le, Gt, Ge}
use Rattle.opl_expr.specs.Forms as forms
use Rattle.opl_expr.specs.Forms.{Term, Terms, Fact, Facts, term, fact, terms_of, facts_of}
use Rattle.opl_expr.specs.Forms.Relation.{equal as same_number, at_most, below}
use Rattle.opl_expr.specs.Holds as holding
use Rattle.opl_expr.specs.Holds.{value, all_values, holds, all_hold, op_relates}
use Rattle.opl_expr.specs.Options.{lift1, bind1, lift, lift_all}
use Rattle.opl_expr.specs.Sound.{term_magnitude}
use Rattle.opl_expr.proofs.Plain.{term_Neg, fact_And, fact_Or, fact_Not, fact_Imp, fact_Iff, fact_Cmp}
use Rattle.opl_form.specs.Parts.{Form, Sort, alike, all_known, as_condition, as_number, nothing, ranked, sort_of, tables, value_sort}
use Rattle.opl_form.specs.Measures as measures
use Rattle.opl_form.specs.Nodes as making
use Rattle.opl_form.specs.Nodes.{Fault, Made, by_kind, compared, condition_node, counted, folded, negated, number_node, op_of, size, sized}
use Rattle.opl_form.specs.Parts.Form.{known, number, name, condition, truth}
use Rattle.opl_form.specs.Parts.Sort.{whole, named}
use Rattle.opl_form.specs.Worth.{Worth, hold, plain, val, some_of}
use Rattle.opl_form.proofs.Values.{equal-alike, equal-unlike, is_plain}
use Rattle.opl_form.proofs.Views.{as_number-worth, rank-worth, truth-worth, val-nothing}
use Rattle.opl_form.proofs.Nodes.{AreWorth, counted-made, folded-live, folded-worth, lift-whole, number-node, sized-made}
use Rattle.opl_form.proofs.Nodes as nodes

-- one value, and two
abbrev pub with_one : {A B : Type 0} → (A → Option B) → Option A → Option B
with_one f r = bind1 f r

abbrev pub with_two : {A B C : Type 0} → (A → B → Option C) → Option A → Option B → Option C
with_two f r s = bind1 (λ a. bind1 (f a) s) r

pub one-whole : {B : Type 0} (f : Value → Option B) (r : Option Value) → bind1 (λ vs. f (value_at vs 0)) (nodes.whole (r ∷ [])) ≡ with_one f r
one-whole f None = refl
one-whole f (Some v) = refl

pub two-whole : {B : Type 0} (f : Value → Value → Option B) (r s : Option Value) → bind1 (λ vs. f (value_at vs 0) (value_at vs 1)) (nodes.whole (r ∷ s ∷ [])) ≡ with_two f r s
two-whole f None s = refl
two-whole f (Some v) None = refl
two-whole f (Some v) (Some w) = refl

neg-abs : (z : ℤ) → unsigned_abs (neg_ℤ z) ≡ unsigned_abs z
neg-abs z = omega (arith, ints)

lift-two : {A B C D E : Type 0} (f : A → C) (g : B → D) (h : C → D → E) (r : Option A) (s : Option B) → lift h (lift1 f r) (lift1 g s) ≡ with_two (λ a b. Some (h (f a) (g b))) r s
lift-two f g h None s = refl
lift-two f g h (Some a) None = refl
lift-two f g h (Some a) (Some b) = refl

two-like : {A B C : Type 0} (f g : A → B → Option C) (r : Option A) (s : Option B) → ((a : A) (b : B) → r ≡ Some a → s ≡ Some b → f a b ≡ g a b) → with_two f r s ≡ with_two g r s
two-like f g None s h = refl
two-like f g (Some a) None h = refl
two-like f g (Some a) (Some b) h = h a b refl refl

two-after : {A B C D : Type 0} (f : C → D) (g : A → B → C) (r : Option A) (s : Option B) → lift1 f (with_two (λ a b. Some (g a b)) r s) ≡ with_two (λ a b. Some (f (g a b))) r s
two-after f g None s = refl
two-after f g (Some a) None = refl
two-after f g (Some a) (Some b) = refl

two-lifted : {A B C D E : Type 0} (f : A → C) (g : B → D) (h : C → D → Option E) (r : Option A) (s : Option B) → with_two h (lift1 f r) (lift1 g s) ≡ with_two (λ a b. h (f a) (g b)) r s
two-lifted f g h None s = refl
two-lifted f g h (Some a) None = refl
two-lifted f g h (Some a) (Some b) = refl

as-two : {A B C : Type 0} (f : A → B → C) (r : Option A) (s : Option B) → lift f r s ≡ with_two (λ a b. Some (f a b)) r s
as-two f None s = refl
as-two f (Some a) None = refl
as-two f (Some a) (Some b) = refl

-- a comparison as it is written
op-holds : (op : Op) (o p : Option ℤ) → (ns : List ℤ) (s t : Term) → value ns s ≡ o → value ns t ≡ p → holds ns (forms.compared op s t) ≡ lift (op_relates op) o p
op-holds Eq o p ns s t h k = λ i. lift (holding.relates same_number) (h i) (k i)
op-holds Ne o p ns s t h k = (λ i. lift1 not (lift (holding.relates same_number) (h i) (k i))) ∙ unequal o p
  where
    unequal : (o p : Option ℤ) → lift1 not (lift (holding.relates same_number) o p) ≡ lift (op_relates Ne) o p
    unequal None p = refl
    unequal (Some x) None = refl
    unequal (Some x) (Some y) = refl
op-holds Lt o p ns s t h k = λ i. lift (holding.relates below) (h i) (k i)
op-holds Le o p ns s t h k = λ i. lift (holding.relates at_most) (h i) (k i)
op-holds Gt o p ns s t h k = (λ i. lift (holding.relates below) (k i) (h i)) ∙ turned o p
  where
    turned : (o p : Option ℤ) → lift (holding.relates below) p o ≡ lift (op_relates Gt) o p
    turned None None = refl
    turned None (Some y) = refl
    turned (Some x) None = refl
    turned (Some x) (Some y) = refl
op-holds Ge o p ns s t h k = (λ i. lift (holding.relates at_most) (k i) (h i)) ∙ turned o p
  where
    turned : (o p : Option ℤ) → lift (holding.relates at_most) p o ≡ lift (op_relates Ge) o p
    turned None None = refl
    turned None (Some y) = refl
    turned (Some x) None = refl
    turned (Some x) (Some y) = refl

module _ (sets : List (ℤ × ℤ)) (arrays : List Cells) (item : ℕ) (ns : List ℤ)
    (value-small : (t : Term) (v : ℤ) → value ns t ≡ Some v → unsigned_abs v ≤ term_magnitude sets t)
  where
    -- ---- signs

    abbrev pub negative_of : ℕ → Value → Option Value
    negative_of at v = some_of (integer (arithmetic.negative at (compare.number v)))

    neg-found : (at : ℕ) (e : Expr) (r : Option Value) → lift1 compare.number r ≡ val arrays ns e → nat_lt (term_magnitude sets (plain arrays e)) (2 ^ 127) ≡ true →
        with_one (negative_of at) r ≡ lift1 values.Int (lift1 neg_ℤ (val arrays ns e))
    neg-found at e None h small = ap (λ o. lift1 values.Int (lift1 neg_ℤ o)) h
    neg-found at e (Some v) h small =
        let n : ℤ = compare.number v in
        ap (λ r. some_of (integer r)) (nodes.sized-small at (neg_ℤ n) (nodes.below (term_magnitude sets (plain arrays e)) (term_magnitude sets (plain arrays e)) (unsigned_abs (neg_ℤ n)) small refl
        (subst (λ k. k ≤ term_magnitude sets (plain arrays e)) (sym (neg-abs n)) (value-small (plain arrays e) n (sym h)))))
        ∙ ap (λ o. lift1 values.Int (lift1 neg_ℤ o)) h

    pub negated-worth : (at n : ℕ) (r : Option Value) (g h : Form) → Worth arrays ns r g → negated sets arrays item at n g ≡ Ok h → Worth arrays ns (with_one (negative_of at) r) h
    negated-worth at n r g h w e =
        subst (λ o. Worth arrays ns o h) (one-whole (negative_of at) r)
        (folded-worth arrays ns item n (r ∷ []) (g ∷ []) (λ vs. integer (arithmetic.negative at (compare.number (value_at vs 0)))) (number_node sets arrays item at n (E.Neg (as_number g))) h (w, tt) e
        (λ k. let p = number-node sets arrays item at n (E.Neg (as_number g)) h k in
        subst (Worth arrays ns (bind1 (λ vs. negative_of at (value_at vs 0)) (nodes.whole (r ∷ [])))) p.0
        (one-whole (negative_of at) r
        ∙ neg-found at (as_number g) r (as_number-worth arrays ns r g w) (subst (λ t. nat_lt (term_magnitude sets t) (2 ^ 127) ≡ true) (term_Neg (tables arrays) [] (as_number g)) p.1)
        ∙ ap (lift1 values.Int) (sym (ap (value ns) (term_Neg (tables arrays) [] (as_number g)))))))

    -- ---- comparisons

    abbrev pub related_as : Relation → Value → Value → Option Value
    related_as r v w = Some (values.Bool (relates r v w))

    -- relations of values, by their ranks
    ranks-relate : (r : Relation) (v w : Value) → (alike (value_sort (out-Value v)) (value_sort (out-Value w)) ≡ true) → relates r v w ≡ op_relates (op_of r) (rank v) (rank w)
    ranks-relate Equal v w h = equal-alike v w h
    ranks-relate NotEqual v w h = ap not (equal-alike v w h)
    ranks-relate Less v w h = refl
    ranks-relate LessOrEqual v w h = refl
    ranks-relate Greater v w h = refl
    ranks-relate GreaterOrEqual v w h = refl

    sort-Int : (n : ℤ) → value_sort (out-Value (values.Int n)) ≡ whole
    sort-Int n = ap value_sort (values.outs-Int n)

    sort-Bool : (b : Bool) → value_sort (out-Value (values.Bool b)) ≡ whole
    sort-Bool b = ap value_sort (values.outs-Bool b)

    sort-Enum : (d p : ℕ) → value_sort (out-Value (values.Enum d p)) ≡ named d
    sort-Enum d p = ap value_sort (values.outs-Enum d p)

    lift-sort : {A : Type 0} (f : A → Value) (s : Sort) → ((a : A) → value_sort (out-Value (f a)) ≡ s) → (o : Option A) (v : Value) → Some v ≡ lift1 f o → s ≡ value_sort (out-Value v)
    lift-sort f s h None v e = absurd (cc)
    lift-sort f s h (Some a) v e = sym (h a) ∙ ap (λ v. value_sort (out-Value v)) (nodes.some-same (f a) v (sym e))

    -- a part is of the sort of its value
    sort-worth : (g : Form) (v : Value) → Worth arrays ns (Some v) g → sort_of g ≡ value_sort (out-Value v)
    sort-worth (known u) v w = ap (λ v. value_sort (out-Value v)) (nodes.some-same u v (sym w))
    sort-worth (number e) v w = lift-sort values.Int whole sort-Int (val arrays ns e) v w
    sort-worth (name d e) v w = lift-sort (λ n. values.Enum d (position_of n)) (named d) (λ n. sort-Enum d (position_of n)) (val arrays ns e) v w.0
    sort-worth (condition c) v w = lift-sort values.Bool whole sort-Bool (hold arrays ns c) v w
    sort-worth (truth c) v w = lift-sort values.Bool whole sort-Bool (hold arrays ns c) v w

    hold-Cmp : (op : Op) (e f : Expr) → hold arrays ns (C.Cmp op e f) ≡ lift (op_relates op) (val arrays ns e) (val arrays ns f)
    hold-Cmp op e f = ap (holds ns) (fact_Cmp (tables arrays) [] op e f) ∙ op-holds op (val arrays ns e) (val arrays ns f) ns (plain arrays e) (plain arrays f) refl refl

    alike-found : (rel : Relation) (g h : Form) (r s : Option Value) → Worth arrays ns r g → Worth arrays ns s h → alike (sort_of g) (sort_of h) ≡ true →
        with_two (related_as rel) r s ≡ lift1 values.Bool (hold arrays ns (C.Cmp (op_of rel) (ranked g) (ranked h)))
    alike-found rel g h r s w x same =
        two-like (related_as rel) (λ v w. Some (values.Bool (op_relates (op_of rel) (rank v) (rank w)))) r s
        (λ v u e f. ap (λ b. Some (values.Bool b)) (ranks-relate rel v u
        (ap (λ s. alike s (value_sort (out-Value u))) (sym (sort-worth g v (subst (λ o. Worth arrays ns o g) e w))) ∙ ap (alike (sort_of g)) (sym (sort-worth h u (subst (λ o. Worth arrays ns o h) f x))) ∙ same)))
        ∙ sym (two-after values.Bool (λ v w. op_relates (op_of rel) (rank v) (rank w)) r s)
        ∙ ap (lift1 values.Bool) (sym (lift-two rank rank (op_relates (op_of rel)) r s)
        ∙ (λ i. lift (op_relates (op_of rel)) (rank-worth arrays ns r g w i) (rank-worth arrays ns s h x i))
        ∙ sym (hold-Cmp (op_of rel) (ranked g) (ranked h)))

    hold-And : (cs : List Cons) → hold arrays ns (C.And cs) ≡ lift_all (λ b c. b && c) true (map (hold arrays ns) cs)
    hold-And cs = ap (holds ns) (fact_And (tables arrays) [] cs) ∙ ap (lift_all (λ b c. b && c) true) (facts-list cs)
      where
        facts-list : (cs : List Cons) → all_hold ns (facts_of (map (fact (tables arrays) []) cs)) ≡ map (hold arrays ns) cs
        facts-list [] = refl
        facts-list (c ∷ cs) = ap (λ bs. hold arrays ns c ∷ bs) (facts-list cs)

    hold-Or : (cs : List Cons) → hold arrays ns (C.Or cs) ≡ lift_all (λ b c. b || c) false (map (hold arrays ns) cs)
    hold-Or cs = ap (holds ns) (fact_Or (tables arrays) [] cs) ∙ ap (lift_all (λ b c. b || c) false) (facts-list cs)
      where
        facts-list : (cs : List Cons) → all_hold ns (facts_of (map (fact (tables arrays) []) cs)) ≡ map (hold arrays ns) cs
        facts-list [] = refl
        facts-list (c ∷ cs) = ap (λ bs. hold arrays ns c ∷ bs) (facts-list cs)

    -- ---- connectives

    pub condition-node : (n : ℕ) (c : Cons) (g : Form) → condition_node item n c ≡ Ok g → condition c ≡ g
    condition-node n c g h = counted-made item n (measures.depth_of c) (measures.nodes_of c) (condition c) g h

    truths-worth : (rs : List (Option Value)) (gs : List Form) → AreWorth arrays ns rs gs → map (lift1 is_true) rs ≡ map (hold arrays ns) (map as_condition gs)
    truths-worth [] [] w = refl
    truths-worth [] (g ∷ gs) w = absurd w
    truths-worth (r ∷ rs) [] w = absurd w
    truths-worth (r ∷ rs) (g ∷ gs) w = λ i. truth-worth arrays ns r g w.0 i ∷ truths-worth rs gs w.1 i

    any-right : (vs : List Value) → list_any is_true vs ≡ nodes.from_right (λ b c. b || c) false (map is_true vs)
    any-right [] = refl
    any-right (v ∷ vs) = ap (λ b. is_true v || b) (any-right vs)

    all-right : (vs : List Value) → list_all is_true vs ≡ nodes.from_right (λ b c. b && c) true (map is_true vs)
    all-right [] = refl
    all-right (v ∷ vs) = ap (λ b. is_true v && b) (all-right vs)

    bool-found : (test rest : List Value → Bool) → ((vs : List Value) → test vs ≡ rest vs) → (o : Option (List Value)) → bind1 (λ vs. Some (values.Bool (test vs))) o ≡ lift1 values.Bool (lift1 rest o)
    bool-found test rest h None = refl
    bool-found test rest h (Some vs) = ap (λ b. Some (values.Bool b)) (h vs)

    pub one_holds-worth : (n : ℕ) (rs : List (Option Value)) (gs : List Form) (g : Form) → AreWorth arrays ns rs gs → making.one_holds item n gs ≡ Ok g →
        Worth arrays ns (bind1 (λ vs. Some (values.Bool (list_any is_true vs))) (nodes.whole rs)) g
    one_holds-worth n rs gs g w h =
        folded-worth arrays ns item n rs gs (λ vs. Ok (values.Bool (list_any is_true vs))) (condition_node item n (C.Or (map as_condition gs))) g w h
        (λ k. subst (Worth arrays ns (bind1 (λ vs. Some (values.Bool (list_any is_true vs))) (nodes.whole rs))) (condition-node n (C.Or (map as_condition gs)) g k)
        (bool-found (list_any is_true) (λ vs. nodes.from_right (λ b c. b || c) false (map is_true vs)) any-right (nodes.whole rs)
        ∙ ap (lift1 values.Bool) (sym (lift-whole (λ b c. b || c) false is_true rs) ∙ ap (lift_all (λ b c. b || c) false) (truths-worth rs gs w) ∙ sym (hold-Or (map as_condition gs)))))

    pub all_hold-worth : (n : ℕ) (rs : List (Option Value)) (gs : List Form) (g : Form) → AreWorth arrays ns rs gs → making.all_hold item n gs ≡ Ok g →
        Worth arrays ns (bind1 (λ vs. Some (values.Bool (list_all is_true vs))) (nodes.whole rs)) g
    all_hold-worth n rs gs g w h =
        folded-worth arrays ns item n rs gs (λ vs. Ok (values.Bool (list_all is_true vs))) (condition_node item n (C.And (map as_condition gs))) g w h
        (λ k. subst (Worth arrays ns (bind1 (λ vs. Some (values.Bool (list_all is_true vs))) (nodes.whole rs))) (condition-node n (C.And (map as_condition gs)) g k)
        (bool-found (list_all is_true) (λ vs. nodes.from_right (λ b c. b && c) true (map is_true vs)) all-right (nodes.whole rs)
        ∙ ap (lift1 values.Bool) (sym (lift-whole (λ b c. b && c) true is_true rs) ∙ ap (lift_all (λ b c. b && c) true) (truths-worth rs gs w) ∙ sym (hold-And (map as_condition gs)))))

    abbrev pub opposite_of : Value → Option Value
    opposite_of v = Some (values.Bool (not (is_true v)))

    not-found : (r : Option Value) → with_one opposite_of r ≡ lift1 values.Bool (lift1 not (lift1 is_true r))
    not-found None = refl
    not-found (Some v) = refl

    pub opposite-worth : (n : ℕ) (r : Option Value) (g h : Form) → Worth arrays ns r g → making.opposite item n g ≡ Ok h → Worth arrays ns (with_one opposite_of r) h
    opposite-worth n r g h w e =
        subst (λ o. Worth arrays ns o h) (one-whole opposite_of r)
        (folded-worth arrays ns item n (r ∷ []) (g ∷ []) (λ vs. Ok (values.Bool (not (is_true (value_at vs 0))))) (condition_node item n (C.Not (as_condition g))) h (w, tt) e
        (λ k. subst (Worth arrays ns (bind1 (λ vs. opposite_of (value_at vs 0)) (nodes.whole (r ∷ [])))) (condition-node n (C.Not (as_condition g)) h k)
        (one-whole opposite_of r ∙ not-found r ∙ ap (λ o. lift1 values.Bool (lift1 not o)) (truth-worth arrays ns r g w)
        ∙ ap (lift1 values.Bool) (sym (ap (holds ns) (fact_Not (tables arrays) [] (as_condition g)))))))

    abbrev pub implied_by : Value → Value → Option Value
    implied_by v w = Some (values.Bool (not (is_true v) || is_true w))

    implies-found : (r s : Option Value) → with_two implied_by r s ≡ lift1 values.Bool (lift_all (λ b c. b || c) false (lift1 not (lift1 is_true r) ∷ lift1 is_true s ∷ []))
    implies-found None s = refl
    implies-found (Some v) None = refl
    implies-found (Some v) (Some w) = ap (λ b. Some (values.Bool b)) (or-false (is_true v) (is_true w))
      where
        or-false : (b c : Bool) → (not b || c) ≡ (not b || (c || false))
        or-false true true = refl
        or-false true false = refl
        or-false false c = refl

    pub implied-worth : (n : ℕ) (r s : Option Value) (g h k : Form) → Worth arrays ns r g → Worth arrays ns s h → making.implied item n g h ≡ Ok k → Worth arrays ns (with_two implied_by r s) k
    implied-worth n r s g h k w x e =
        subst (λ o. Worth arrays ns o k) (two-whole implied_by r s)
        (folded-worth arrays ns item n (r ∷ s ∷ []) (g ∷ h ∷ []) (λ vs. Ok (values.Bool (not (is_true (value_at vs 0)) || is_true (value_at vs 1)))) (condition_node item n (C.Imp (as_condition g) (as_condition h))) k (w, (x, tt)) e
        (λ m. subst (Worth arrays ns (bind1 (λ vs. implied_by (value_at vs 0) (value_at vs 1)) (nodes.whole (r ∷ s ∷ [])))) (condition-node n (C.Imp (as_condition g) (as_condition h)) k m)
        (two-whole implied_by r s ∙ implies-found r s ∙ (λ i. lift1 values.Bool (lift_all (λ b c. b || c) false (lift1 not (truth-worth arrays ns r g w i) ∷ truth-worth arrays ns s h x i ∷ [])))
        ∙ ap (lift1 values.Bool) (sym (ap (holds ns) (fact_Imp (tables arrays) [] (as_condition g) (as_condition h)))))))

    abbrev pub same_as : Value → Value → Option Value
    same_as v w = Some (values.Bool (evaluation.same (is_true v) (is_true w)))

    pub same-worth : (n : ℕ) (r s : Option Value) (g h k : Form) → Worth arrays ns r g → Worth arrays ns s h → making.same item n g h ≡ Ok k → Worth arrays ns (with_two same_as r s) k
    same-worth n r s g h k w x e =
        subst (λ o. Worth arrays ns o k) (two-whole same_as r s)
        (folded-worth arrays ns item n (r ∷ s ∷ []) (g ∷ h ∷ []) (λ vs. Ok (values.Bool (evaluation.same (is_true (value_at vs 0)) (is_true (value_at vs 1))))) (condition_node item n (C.Iff (as_condition g) (as_condition h))) k (w, (x, tt)) e
        (λ m. subst (Worth arrays ns (bind1 (λ vs. same_as (value_at vs 0) (value_at vs 1)) (nodes.whole (r ∷ s ∷ [])))) (condition-node n (C.Iff (as_condition g) (as_condition h)) k m)
        (two-whole same_as r s ∙ sym (two-after values.Bool (λ v w. evaluation.same (is_true v) (is_true w)) r s)
        ∙ ap (lift1 values.Bool) (sym (lift-two is_true is_true evaluation.same r s) ∙ (λ i. lift evaluation.same (truth-worth arrays ns r g w i) (truth-worth arrays ns s h x i))
        ∙ sym (ap (holds ns) (fact_Iff (tables arrays) [] (as_condition g) (as_condition h)))))))

    -- a side with variables is a number or a name
    live-plain : (g h : Form) → all_known (g ∷ h ∷ []) ≡ None → is_plain (sort_of g) || is_plain (sort_of h) ≡ true
    live-plain (known v) (known w) e = absurd (cc)
    live-plain (known v) (number f) e = or-true (is_plain (sort_of (known v)))
      where
        or-true : (b : Bool) → b || true ≡ true
        or-true true = refl
        or-true false = refl
    live-plain (known v) (name d f) e = or-true (is_plain (sort_of (known v)))
      where
        or-true : (b : Bool) → b || true ≡ true
        or-true true = refl
        or-true false = refl
    live-plain (known v) (condition c) e = or-true (is_plain (sort_of (known v)))
      where
        or-true : (b : Bool) → b || true ≡ true
        or-true true = refl
        or-true false = refl
    live-plain (known v) (truth c) e = or-true (is_plain (sort_of (known v)))
      where
        or-true : (b : Bool) → b || true ≡ true
        or-true true = refl
        or-true false = refl
    live-plain (number f) h e = refl
    live-plain (name d f) h e = refl
    live-plain (condition c) h e = refl
    live-plain (truth c) h e = refl

    -- the order of unlike values goes by ranks too; equations never hold
    abbrev unlike_holds : Op → ℤ → ℤ → Bool
    unlike_holds Eq x y = false
    unlike_holds Ne x y = true
    unlike_holds op x y = op_relates op x y

    both-same : (x y : Bool → Bool) (o p : Option ℤ) → lift_all (λ b c. b && c) true (lift1 x (lift (op_relates Eq) o o) ∷ lift1 y (lift (op_relates Eq) p p) ∷ []) ≡ with_two (λ a b. Some (x true && (y true && true))) o p
    both-same x y None p = refl
    both-same x y (Some a) None = refl
    both-same x y (Some a) (Some b) = λ i. Some (x ((Decides-int_eq a a).1 refl i) && (y ((Decides-int_eq b b).1 refl i) && true))

    ne-eq : (o : Option ℤ) → lift (op_relates Ne) o o ≡ lift1 not (lift (op_relates Eq) o o)
    ne-eq None = refl
    ne-eq (Some a) = refl

    hold-unlike : (op : Op) (e f : Expr) → hold arrays ns (by_kind false op e f) ≡ with_two (λ x y. Some (unlike_holds op x y)) (val arrays ns e) (val arrays ns f)
    hold-unlike Eq e f =
        hold-And (C.Cmp Ne (nothing e) (nothing e) ∷ C.Cmp Ne (nothing f) (nothing f) ∷ []) ∙ (λ i. lift_all (λ b c. b && c) true (hold-Cmp Ne (nothing e) (nothing e) i ∷ hold-Cmp Ne (nothing f) (nothing f) i ∷ []))
        ∙ (λ i. lift_all (λ b c. b && c) true (ne-eq (val arrays ns (nothing e)) i ∷ ne-eq (val arrays ns (nothing f)) i ∷ [])) ∙ both-same not not (val arrays ns (nothing e)) (val arrays ns (nothing f))
        ∙ (λ i. with_two (λ a b. Some false) (val-nothing arrays ns e i) (val-nothing arrays ns f i)) ∙ two-lifted (λ v. pos 0 *ℤ v) (λ v. pos 0 *ℤ v) (λ a b. Some false) (val arrays ns e) (val arrays ns f)
    hold-unlike Ne e f =
        hold-And (C.Cmp Eq (nothing e) (nothing e) ∷ C.Cmp Eq (nothing f) (nothing f) ∷ []) ∙ (λ i. lift_all (λ b c. b && c) true (hold-Cmp Eq (nothing e) (nothing e) i ∷ hold-Cmp Eq (nothing f) (nothing f) i ∷ []))
        ∙ (λ i. lift_all (λ b c. b && c) true (sym (lift-id (lift (op_relates Eq) (val arrays ns (nothing e)) (val arrays ns (nothing e)))) i ∷ sym (lift-id (lift (op_relates Eq) (val arrays ns (nothing f)) (val arrays ns (nothing f)))) i ∷ []))
        ∙ both-same (λ b. b) (λ b. b) (val arrays ns (nothing e)) (val arrays ns (nothing f))
        ∙ (λ i. with_two (λ a b. Some true) (val-nothing arrays ns e i) (val-nothing arrays ns f i)) ∙ two-lifted (λ v. pos 0 *ℤ v) (λ v. pos 0 *ℤ v) (λ a b. Some true) (val arrays ns e) (val arrays ns f)
      where
        lift-id : (o : Option Bool) → lift1 (λ b. b) o ≡ o
        lift-id None = refl
        lift-id (Some b) = refl
    hold-unlike Lt e f = hold-Cmp Lt e f ∙ as-two (op_relates Lt) (val arrays ns e) (val arrays ns f)
    hold-unlike Le e f = hold-Cmp Le e f ∙ as-two (op_relates Le) (val arrays ns e) (val arrays ns f)
    hold-unlike Gt e f = hold-Cmp Gt e f ∙ as-two (op_relates Gt) (val arrays ns e) (val arrays ns f)
    hold-unlike Ge e f = hold-Cmp Ge e f ∙ as-two (op_relates Ge) (val arrays ns e) (val arrays ns f)

    ranks-unlike : (r : Relation) (v w : Value) → equal v w ≡ false → relates r v w ≡ unlike_holds (op_of r) (rank v) (rank w)
    ranks-unlike Equal v w h = h
    ranks-unlike NotEqual v w h = ap not h
    ranks-unlike Less v w h = refl
    ranks-unlike LessOrEqual v w h = refl
    ranks-unlike Greater v w h = refl
    ranks-unlike GreaterOrEqual v w h = refl

    unlike-found : (rel : Relation) (g h : Form) (r s : Option Value) → Worth arrays ns r g → Worth arrays ns s h → alike (sort_of g) (sort_of h) ≡ false → is_plain (sort_of g) || is_plain (sort_of h) ≡ true →
        with_two (related_as rel) r s ≡ lift1 values.Bool (hold arrays ns (by_kind false (op_of rel) (ranked g) (ranked h)))
    unlike-found rel g h r s w x differ plain_one =
        two-like (related_as rel) (λ v w. Some (values.Bool (unlike_holds (op_of rel) (rank v) (rank w)))) r s
        (λ v u e f.
        let p = sort-worth g v (subst (λ o. Worth arrays ns o g) e w) in
        let q = sort-worth h u (subst (λ o. Worth arrays ns o h) f x) in
        ap (λ b. Some (values.Bool b)) (ranks-unlike rel v u (equal-unlike v u
        (ap (λ s. alike s (value_sort (out-Value u))) (sym p) ∙ ap (alike (sort_of g)) (sym q) ∙ differ)
        (ap (λ s. is_plain s || is_plain (value_sort (out-Value u))) (sym p) ∙ ap (λ s. is_plain (sort_of g) || is_plain s) (sym q) ∙ plain_one))))
        ∙ sym (two-after values.Bool (λ v w. unlike_holds (op_of rel) (rank v) (rank w)) r s)
        ∙ ap (lift1 values.Bool) (sym (two-lifted rank rank (λ a b. Some (unlike_holds (op_of rel) a b)) r s)
        ∙ (λ i. with_two (λ a b. Some (unlike_holds (op_of rel) a b)) (rank-worth arrays ns r g w i) (rank-worth arrays ns s h x i))
        ∙ sym (hold-unlike (op_of rel) (ranked g) (ranked h)))

    kind-found : (b : Bool) (rel : Relation) (g h : Form) (r s : Option Value) → Worth arrays ns r g → Worth arrays ns s h → alike (sort_of g) (sort_of h) ≡ b → is_plain (sort_of g) || is_plain (sort_of h) ≡ true →
        with_two (related_as rel) r s ≡ lift1 values.Bool (hold arrays ns (by_kind b (op_of rel) (ranked g) (ranked h)))
    kind-found true rel g h r s w x a l = alike-found rel g h r s w x a
    kind-found false rel g h r s w x a l = unlike-found rel g h r s w x a l

    pub compared-worth : (at n : ℕ) (rel : Relation) (r s : Option Value) (g h k : Form) → Worth arrays ns r g → Worth arrays ns s h → compared sets arrays item at n rel g h ≡ Ok k → Worth arrays ns (with_two (related_as rel) r s) k
    compared-worth at n rel r s g h k w x e =
        let c : Cons = by_kind (alike (sort_of g) (sort_of h)) (op_of rel) (ranked g) (ranked h) in
        let m : ℕ = size sets arrays (ranked g) + size sets arrays (ranked h) in
        subst (λ o. Worth arrays ns o k) (two-whole (related_as rel) r s)
        (folded-live arrays ns item n (r ∷ s ∷ []) (g ∷ h ∷ []) (λ vs. Ok (values.Bool (relates rel (value_at vs 0) (value_at vs 1)))) (sized at m (condition_node item n c)) k (w, (x, tt)) e
        (λ none j. let p = sized-made at m (condition_node item n c) k j in
        subst (Worth arrays ns (bind1 (λ vs. related_as rel (value_at vs 0) (value_at vs 1)) (nodes.whole (r ∷ s ∷ [])))) (condition-node n c k p.1)
        (two-whole (related_as rel) r s ∙ kind-found (alike (sort_of g) (sort_of h)) rel g h r s w x refl (live-plain g h none))))
