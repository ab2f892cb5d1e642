-- What absolute values, the least, the greatest and the product are worth, by what their parts are.
use Rattle.std.proofs.Common.{◌≡◌, ℕ, ◌^◌, ◌<◌, ◌≤◌, ℤ, pos, negsuc, ◌*ℤ◌, true, nat_lt, fold, unsigned_abs, List, [], ◌∷◌, map, Option, None, Some, Ok, Err, refl, sym, ap, subst, ◌∙◌, arith}
use Rattle.std.specs.Int.{int_min, int_max}
use Rattle.std.proofs.lemmas.Int.{ints}
use Rattle.opl_domain.specs.Span.{smaller, larger}
use Rattle.opl_value.specs.declared.value.Value.{Value}
use Rattle.opl_value.specs.declared.value.Value.TheVariants as values
use Rattle.opl_value.specs.Places.{value_at}
use Rattle.opl_eval.specs.declared.arithmetic.Operation.TheVariants.{Times}
use Rattle.opl_eval.specs.Arithmetic as arithmetic
use Rattle.opl_eval.specs.Arithmetic.{run, then}
use Rattle.opl_eval.specs.Compare as compare
use Rattle.opl_eval.specs.Evaluation.{Found, integer}
use Rattle.opl_draft.specs.Drafts.{Cells}
use Rattle.opl_expr.specs.declared.forms.Expr.{Expr}
use Rattle.opl_expr.specs.declared.forms.Expr.TheVariants as E
use Rattle.opl_expr.specs.Forms.{Term, Terms, term, terms_of}
use Rattle.opl_expr.specs.Holds.{value, all_values}
use Rattle.opl_expr.specs.Options.{bind1, lift, lift1, lift_more, lift_some}
use Rattle.opl_expr.specs.Sound.{term_magnitude}
use Rattle.opl_expr.proofs.Plain.{term_Abs, term_Max, term_Min}
use Rattle.opl_form.specs.Parts.{Form, all_known, as_number, tables}
use Rattle.opl_form.specs.Nodes.{absolute, folded, greatest_of, least, multiplied, number_node, product, product_from, size}
use Rattle.opl_form.specs.Worth.{some_of, Worth, plain, val}
use Rattle.opl_form.proofs.Binary.{by_numbers, multiplied-worth}
use Rattle.opl_form.proofs.Forms.{one-whole, with_one, with_two}
use Rattle.opl_form.proofs.Sums.{number_part-worth}
use Rattle.opl_form.proofs.Nodes.{AreWorth, folded-worth, next-made, number-node, numbers-worth, values-list, whole, whole-map}
use Rattle.opl_form.proofs.Nodes as nodes
use Rattle.opl_form.proofs.Views.{as_number-worth, number-Int}

-- ---- the least and the greatest, from the right

-- a first number and others, from the right
abbrev from_last : (ℤ → ℤ → ℤ) → ℤ → List ℤ → ℤ
from_last f a [] = a
from_last f a (b ∷ bs) = f a (from_last f b bs)

more-out : (f : ℤ → ℤ → ℤ) → ((a b c : ℤ) → f (f a b) c ≡ f a (f b c)) → (a b : ℤ) (cs : List ℤ) → from_last f (f a b) cs ≡ f a (from_last f b cs)
more-out f assoc a b [] = refl
more-out f assoc a b (c ∷ cs) = assoc a b (from_last f c cs)

fold-last : (f : ℤ → ℤ → ℤ) → ((a b c : ℤ) → f (f a b) c ≡ f a (f b c)) → (a : ℤ) (bs : List ℤ) → fold f a bs ≡ from_last f a bs
fold-last f assoc a [] = refl
fold-last f assoc a (b ∷ bs) = fold-last f assoc (f a b) bs ∙ more-out f assoc a b bs

last-like : (f g : ℤ → ℤ → ℤ) → ((a b : ℤ) → f a b ≡ g a b) → (a : ℤ) (bs : List ℤ) → from_last f a bs ≡ from_last g a bs
last-like f g h a [] = refl
last-like f g h a (b ∷ bs) = ap (f a) (last-like f g h b bs) ∙ h a (from_last g b bs)

min-smaller : (a b : ℤ) → int_min a b ≡ smaller a b
unfolding smaller
min-smaller a b = grind (arith, ints)

max-larger : (a b : ℤ) → int_max a b ≡ larger a b
unfolding larger
max-larger a b = grind (arith, ints)

min-assoc : (a b c : ℤ) → int_min (int_min a b) c ≡ int_min a (int_min b c)
min-assoc a b c = grind (arith, ints)

max-assoc : (a b c : ℤ) → int_max (int_max a b) c ≡ int_max a (int_max b c)
max-assoc a b c = grind (arith, ints)

lift-last : (f : ℤ → ℤ → ℤ) (o : Option ℤ) (os : List (Option ℤ)) → lift_more f o os ≡ bind1 (λ a. lift1 (from_last f a) (whole os)) o
lift-last f None [] = refl
lift-last f (Some a) [] = refl
lift-last f o (p ∷ os) = ap (lift f o) (lift-last f p os) ∙ by o p (whole os)
  where
    by : (o p : Option ℤ) (q : Option (List ℤ)) → lift f o (bind1 (λ b. lift1 (from_last f b) q) p) ≡ bind1 (λ a. lift1 (from_last f a) (lift (λ x xs. x ∷ xs) p q)) o
    by None p q = refl
    by (Some a) None q = refl
    by (Some a) (Some b) None = refl
    by (Some a) (Some b) (Some bs) = refl

-- the first part of a product has small values
abbrev pub FirstSmall : List (Option Value) → Type 0
FirstSmall [] = Unit {0}
FirstSmall (r ∷ rs) = (v : Value) → r ≡ Some v → unsigned_abs (compare.number v) < 2 ^ 127

module _ (sets : List (ℤ × ℤ)) (arrays : List Cells) (item : ℕ) (ns : List ℤ)
    (value-small : (t : Term) (v : ℤ) → value ns t ≡ Some v → unsigned_abs v ≤ term_magnitude sets t)
  where
    -- ---- absolute values

    abbrev pub absolute_of : ℕ → Value → Option Value
    absolute_of at v = some_of (integer (arithmetic.absolute at (compare.number v)))

    pub absolute-worth : (at n : ℕ) (r : Option Value) (g h : Form) → Worth arrays ns r g → absolute sets arrays item at n g ≡ Ok h → Worth arrays ns (with_one (absolute_of at) r) h
    absolute-worth at n r g h w e =
        let node : Expr = E.Abs (as_number g) in
        subst (λ o. Worth arrays ns o h) (one-whole (absolute_of at) r)
        (folded-worth arrays ns item n (r ∷ []) (g ∷ []) (λ vs. integer (arithmetic.absolute at (compare.number (value_at vs 0)))) (number_node sets arrays item at n node) h (w, tt) e
        (λ k. let p = number-node sets arrays item at n node h k in
        subst (Worth arrays ns (bind1 (λ vs. absolute_of at (value_at vs 0)) (whole (r ∷ [])))) p.0
        (one-whole (absolute_of at) r ∙ found r (as_number-worth arrays ns r g w) p.1 ∙ ap (lift1 values.Int) (sym (ap (value ns) (term_Abs (tables arrays) [] (as_number g)))))))
      where
        absolute-is : val arrays ns (E.Abs (as_number g)) ≡ lift1 (λ v. pos (unsigned_abs v)) (val arrays ns (as_number g))
        absolute-is = ap (value ns) (term_Abs (tables arrays) [] (as_number g))

        found : (r : Option Value) → lift1 compare.number r ≡ val arrays ns (as_number g) → nat_lt (size sets arrays (E.Abs (as_number g))) (2 ^ 127) ≡ true →
            with_one (absolute_of at) r ≡ lift1 values.Int (lift1 (λ v. pos (unsigned_abs v)) (val arrays ns (as_number g)))
        found None h small = ap (λ o. lift1 values.Int (lift1 (λ v. pos (unsigned_abs v)) o)) h
        found (Some v) h small =
            let z : ℤ = pos (unsigned_abs (compare.number v)) in
            ap (λ q. some_of (integer q)) (nodes.sized-small at z (nodes.below (size sets arrays (E.Abs (as_number g))) (size sets arrays (E.Abs (as_number g))) (unsigned_abs z) small refl
            (value-small (plain arrays (E.Abs (as_number g))) z (absolute-is ∙ ap (lift1 (λ v. pos (unsigned_abs v))) (sym h)))))
            ∙ ap (λ o. lift1 values.Int (lift1 (λ v. pos (unsigned_abs v)) o)) h

    -- ---- the least and the greatest

    extreme-value : (f : ℤ → ℤ → ℤ) (r : Option Value) (rs : List (Option Value)) (g : Form) (gs : List Form) → AreWorth arrays ns (r ∷ rs) (g ∷ gs) →
        lift_some f (all_values ns (terms_of (map (plain arrays) (map as_number (g ∷ gs))))) ≡ bind1 (λ v. lift1 (λ vs. from_last f (compare.number v) (map compare.number vs)) (whole rs)) r
    extreme-value f r rs g gs w =
        ap (lift_some f) (values-list arrays ns (g ∷ gs) ∙ sym (numbers-worth arrays ns (r ∷ rs) (g ∷ gs) w))
        ∙ lift-last f (lift1 compare.number r) (map (lift1 compare.number) rs)
        ∙ ap (λ q. bind1 (λ a. lift1 (from_last f a) q) (lift1 compare.number r)) (whole-map compare.number rs) ∙ by r (whole rs)
      where
        by : (r : Option Value) (o : Option (List Value)) → bind1 (λ a. lift1 (from_last f a) (lift1 (map compare.number) o)) (lift1 compare.number r) ≡ bind1 (λ v. lift1 (λ vs. from_last f (compare.number v) (map compare.number vs)) o) r
        by None o = refl
        by (Some v) None = refl
        by (Some v) (Some vs) = refl

    extreme-found : (op : List ℤ → Found ℤ) (f : ℤ → ℤ → ℤ) → ((m : ℤ) (ms : List ℤ) → op (m ∷ ms) ≡ Ok (from_last f m ms)) → (r : Option Value) (o : Option (List Value)) →
        bind1 (λ vs. some_of (integer (op (map compare.number vs)))) (lift (λ x xs. x ∷ xs) r o) ≡ lift1 values.Int (bind1 (λ v. lift1 (λ vs. from_last f (compare.number v) (map compare.number vs)) o) r)
    extreme-found op f is None o = refl
    extreme-found op f is (Some v) None = refl
    extreme-found op f is (Some v) (Some vs) = ap (λ q. some_of (integer q)) (is (compare.number v) (map compare.number vs))

    least-is : (at : ℕ) (m : ℤ) (ms : List ℤ) → arithmetic.least at (m ∷ ms) ≡ Ok (from_last smaller m ms)
    least-is at m ms = ap (λ z. Ok z) (fold-last int_min min-assoc m ms ∙ last-like int_min smaller min-smaller m ms)

    greatest-is : (at : ℕ) (m : ℤ) (ms : List ℤ) → arithmetic.greatest at (m ∷ ms) ≡ Ok (from_last larger m ms)
    greatest-is at m ms = ap (λ z. Ok z) (fold-last int_max max-assoc m ms ∙ last-like int_max larger max-larger m ms)

    extreme-worth : (at n : ℕ) (op : List ℤ → Found ℤ) (f : ℤ → ℤ → ℤ) (make : List Expr → Expr) (plain_of : Terms → Term) (r : Option Value) (rs : List (Option Value)) (g : Form) (gs : List Form) (k : Form) →
        ((es : List Expr) → term (tables arrays) [] (make es) ≡ plain_of (terms_of (map (plain arrays) es))) → ((ts : Terms) → value ns (plain_of ts) ≡ lift_some f (all_values ns ts)) →
        ((m : ℤ) (ms : List ℤ) → op (m ∷ ms) ≡ Ok (from_last f m ms)) → AreWorth arrays ns (r ∷ rs) (g ∷ gs) →
        folded item n (all_known (g ∷ gs)) (λ vs. integer (op (map compare.number vs))) (number_node sets arrays item at n (make (map as_number (g ∷ gs)))) ≡ Ok k →
        Worth arrays ns (bind1 (λ vs. some_of (integer (op (map compare.number vs)))) (whole (r ∷ rs))) k
    extreme-worth at n op f make plain_of r rs g gs k forms means is w e =
        let node : Expr = make (map as_number (g ∷ gs)) in
        folded-worth arrays ns item n (r ∷ rs) (g ∷ gs) (λ vs. integer (op (map compare.number vs))) (number_node sets arrays item at n node) k w e
        (λ m. let p = number-node sets arrays item at n node k m in
        subst (Worth arrays ns (bind1 (λ vs. some_of (integer (op (map compare.number vs)))) (whole (r ∷ rs)))) p.0
        (extreme-found op f is r (whole rs)
        ∙ ap (lift1 values.Int) (sym (ap (value ns) (forms (map as_number (g ∷ gs))) ∙ means (terms_of (map (plain arrays) (map as_number (g ∷ gs)))) ∙ extreme-value f r rs g gs w))))

    pub least-worth : (at n : ℕ) (rs : List (Option Value)) (gs : List Form) (k : Form) → AreWorth arrays ns rs gs → least sets arrays item at n gs ≡ Ok k →
        Worth arrays ns (bind1 (λ vs. some_of (integer (arithmetic.least at (map compare.number vs)))) (whole rs)) k
    least-worth at n rs [] k w e = absurd (cc)
    least-worth at n [] (g ∷ gs) k w e = absurd w
    least-worth at n (r ∷ rs) (g ∷ gs) k w e = extreme-worth at n (arithmetic.least at) smaller E.Min Term.least r rs g gs k (λ es. term_Min (tables arrays) [] es) (λ ts. refl) (least-is at) w e

    pub greatest-worth : (at n : ℕ) (rs : List (Option Value)) (gs : List Form) (k : Form) → AreWorth arrays ns rs gs → greatest_of sets arrays item at n gs ≡ Ok k →
        Worth arrays ns (bind1 (λ vs. some_of (integer (arithmetic.greatest at (map compare.number vs)))) (whole rs)) k
    greatest-worth at n rs [] k w e = absurd (cc)
    greatest-worth at n [] (g ∷ gs) k w e = absurd w
    greatest-worth at n (r ∷ rs) (g ∷ gs) k w e = extreme-worth at n (arithmetic.greatest at) larger E.Max Term.greatest r rs g gs k (λ es. term_Max (tables arrays) [] es) (λ ts. refl) (greatest-is at) w e

    -- ---- products

    -- a first value times others
    abbrev times_all : ℕ → Option Value → List (Option Value) → Option Value
    times_all at r rs = bind1 (λ v. bind1 (λ vs. some_of (integer (run at (compare.number v) (map Times (map compare.number vs))))) (whole rs)) r

    times-more : (at : ℕ) (r s : Option Value) (rs : List (Option Value)) → times_all at (with_two (by_numbers (arithmetic.times at)) r s) rs ≡ times_all at r (s ∷ rs)
    times-more at None s rs = refl
    times-more at (Some v) None rs = refl
    times-more at (Some v) (Some w) rs = by (arithmetic.times at (compare.number v) (compare.number w)) (whole rs) refl
      where
        by : (q : Found ℤ) (o : Option (List Value)) → arithmetic.times at (compare.number v) (compare.number w) ≡ q →
            bind1 (λ u. bind1 (λ vs. some_of (integer (run at (compare.number u) (map Times (map compare.number vs))))) o) (some_of (integer q))
            ≡ bind1 (λ vs. some_of (integer (run at (compare.number v) (map Times (map compare.number vs))))) (lift (λ x xs. x ∷ xs) (Some w) o)
        by (Ok c) None h = refl
        by (Ok c) (Some vs) h =
            ap (λ n. some_of (integer (run at n (map Times (map compare.number vs))))) (number-Int c)
            ∙ ap (λ q. some_of (integer (then q (λ b. run at b (map Times (map compare.number vs)))))) (sym h)
        by (Err fault) None h = refl
        by (Err fault) (Some vs) h = ap (λ q. some_of (integer (then q (λ b. run at b (map Times (map compare.number vs)))))) (sym h)

    from-worth : (at n : ℕ) (r : Option Value) (rs : List (Option Value)) (g : Form) (gs : List Form) (k : Form) → Worth arrays ns r g → AreWorth arrays ns rs gs → product_from sets arrays item at n g gs ≡ Ok k →
        Worth arrays ns (times_all at r rs) k
    from-worth at n r [] g [] k w x e = subst (λ o. Worth arrays ns o k) (alone r) (number_part-worth sets arrays item ns value-small at n r g k w e)
      where
        alone : (r : Option Value) → lift1 (λ v. values.Int (compare.number v)) r ≡ times_all at r []
        alone None = refl
        alone (Some v) = refl
    from-worth at n r [] g (h ∷ hs) k w x e = absurd x
    from-worth at n r (s ∷ rs) g [] k w x e = absurd x
    from-worth at n r (s ∷ rs) g (h ∷ hs) k w x e =
        let p = next-made (multiplied sets arrays item at n g h) (λ m. product_from sets arrays item at n m hs) k e in
        subst (λ o. Worth arrays ns o k) (times-more at r s rs)
        (from-worth at n (with_two (by_numbers (arithmetic.times at)) r s) rs p.0 hs k (multiplied-worth sets arrays item ns value-small at n r s g h p.0 w x.0 p.1) x.1 p.2)

    one-times : (z : ℤ) → pos 1 *ℤ z ≡ z
    one-times (pos n) = omega (arith, ints)
    one-times (negsuc n) = omega (arith, ints)

    first-times : (at : ℕ) (r : Option Value) (rs : List (Option Value)) → ((v : Value) → r ≡ Some v → unsigned_abs (compare.number v) < 2 ^ 127) →
        times_all at r rs ≡ bind1 (λ vs. some_of (integer (arithmetic.product at (map compare.number vs)))) (whole (r ∷ rs))
    first-times at None rs small = refl
    first-times at (Some v) rs small = by (whole rs)
      where
        first : arithmetic.times at (pos 1) (compare.number v) ≡ Ok (compare.number v)
        first = ap (arithmetic.sized at) (one-times (compare.number v)) ∙ nodes.sized-small at (compare.number v) (small v refl)

        by : (o : Option (List Value)) → bind1 (λ vs. some_of (integer (run at (compare.number v) (map Times (map compare.number vs))))) o ≡ bind1 (λ vs. some_of (integer (arithmetic.product at (map compare.number vs)))) (lift (λ x xs. x ∷ xs) (Some v) o)
        by None = refl
        by (Some vs) = ap (λ q. some_of (integer (then q (λ b. run at b (map Times (map compare.number vs)))))) (sym first)

    pub product-worth : (at n : ℕ) (rs : List (Option Value)) (gs : List Form) (k : Form) → FirstSmall rs → AreWorth arrays ns rs gs → product sets arrays item at n gs ≡ Ok k →
        Worth arrays ns (bind1 (λ vs. some_of (integer (arithmetic.product at (map compare.number vs)))) (whole rs)) k
    product-worth at n [] [] k small w e = subst (Worth arrays ns (Some (values.Int (pos 1)))) (nodes.counted-made item n 1 1 (Form.known (values.Int (pos 1))) k e) refl
    product-worth at n [] (g ∷ gs) k small w e = absurd w
    product-worth at n (r ∷ rs) [] k small w e = absurd w
    product-worth at n (r ∷ rs) (g ∷ gs) k small w e = subst (λ o. Worth arrays ns o k) (first-times at r rs small) (from-worth at n r rs g gs k w.0 w.1 e)
