-- What chains are worth.
use Rattle.std.proofs.Common.{◌≡◌, ℕ, ◌^◌, ◌<◌, ℤ, ◌+ℤ◌, ◌-ℤ◌, ◌*ℤ◌, neg_ℤ, unsigned_abs, List, [], ◌∷◌, ◌++◌, map, Option, None, Some, Ok, Err, refl, sym, ap, subst, ◌∙◌, arith}
use Rattle.std.proofs.lemmas.Int.{ints}
use Rattle.std.proofs.Math.IntN.{*ℤ_comm}
use Rattle.opl_value.specs.declared.value.Value.{Value}
use Rattle.opl_value.specs.declared.value.Value.TheVariants as values
use Rattle.opl_eval.specs.declared.arithmetic.Operation.{Operation}
use Rattle.opl_eval.specs.declared.arithmetic.Operation.TheVariants.{Plus}
use Rattle.opl_eval.specs.Arithmetic as arithmetic
use Rattle.opl_eval.specs.Arithmetic.{applied, run, then}
use Rattle.opl_eval.specs.Compare as compare
use Rattle.opl_eval.specs.Compare.{equal, rank}
use Rattle.opl_eval.specs.Evaluation.{Found, integer}
use Rattle.opl_draft.specs.Drafts.{Sign, operation}
use Rattle.opl_draft.specs.Drafts.Sign.{plus, minus}
use Rattle.opl_expr.specs.Forms.{Term, constant_value, product, product_by}
use Rattle.opl_expr.specs.Holds.{value}
use Rattle.opl_expr.specs.Options.{lift1, bind1, lift}
use Rattle.opl_form.specs.Worth.{some_of}
use Rattle.opl_form.proofs.Views.{number-Int}
use Rattle.opl_form.proofs.Nodes.{AreWorth, abs_total, folded-live, folded-worth, from_right, next-made, number-node, run-total, sum-small, sum-value, size-sum}
use Rattle.opl_form.proofs.Nodes as nodes
use Rattle.opl_form.proofs.Forms.{with_one}

-- ---- products

constant-value : (ns : List ℤ) (t : Term) (k : ℤ) → constant_value t ≡ Some k → value ns t ≡ Some k
constant-value ns (Term.const j) k h = h
constant-value ns t k h = absurd (cc)

swapped : (k : ℤ) (o : Option ℤ) → lift1 (λ v. k *ℤ v) o ≡ lift ◌*ℤ◌ o (Some k)
swapped k None = refl
swapped k (Some v) = ap (λ z. Some z) (*ℤ_comm k v)

by-constants : (ns : List ℤ) (s t : Term) (c d : Option ℤ) → ((k : ℤ) → c ≡ Some k → value ns s ≡ Some k) → ((k : ℤ) → d ≡ Some k → value ns t ≡ Some k) → value ns (product_by c d s t) ≡ lift ◌*ℤ◌ (value ns s) (value ns t)
by-constants ns s t (Some k) d h i = as-lift (value ns t) ∙ ap (λ o. lift ◌*ℤ◌ o (value ns t)) (sym (h k refl))
  where
    as-lift : (o : Option ℤ) → lift1 (λ v. k *ℤ v) o ≡ lift ◌*ℤ◌ (Some k) o
    as-lift None = refl
    as-lift (Some v) = refl
by-constants ns s t None (Some k) h i = swapped k (value ns s) ∙ ap (lift ◌*ℤ◌ (value ns s)) (sym (i k refl))
by-constants ns s t None None h i = refl

pub product-value : (ns : List ℤ) (s t : Term) → value ns (product s t) ≡ lift ◌*ℤ◌ (value ns s) (value ns t)
product-value ns s t = by-constants ns s t (constant_value s) (constant_value t) (constant-value ns s) (constant-value ns t)

-- ---- runs

run-append : (at : ℕ) (a : ℤ) (xs ys : List Operation) → run at a (xs ++ ys) ≡ then (run at a xs) (λ b. run at b ys)
run-append at a [] ys = refl
run-append at a (x ∷ xs) ys = more (applied at a x) (λ b. run-append at b xs ys)
  where
    more : (r : Found ℤ) → ((b : ℤ) → run at b (xs ++ ys) ≡ then (run at b xs) (λ c. run at c ys)) → then r (λ b. run at b (xs ++ ys)) ≡ then (then r (λ b. run at b xs)) (λ b. run at b ys)
    more (Ok b) h = h b
    more (Err e) h = refl

minus-plus : (a b : ℤ) → a -ℤ b ≡ a +ℤ neg_ℤ b
minus-plus a b = omega (arith, ints)

map-append : {A B : Type 0} (f : A → B) (xs ys : List A) → map f (xs ++ ys) ≡ map f xs ++ map f ys
map-append f [] ys = refl
map-append f (x ∷ xs) ys = ap (λ zs. f x ∷ zs) (map-append f xs ys)

append-assoc : {A : Type 0} (xs ys zs : List A) → (xs ++ ys) ++ zs ≡ xs ++ (ys ++ zs)
append-assoc [] ys zs = refl
append-assoc (x ∷ xs) ys zs = ap (λ us. x ∷ us) (append-assoc xs ys zs)

-- ---- the value of a chain: of a first part, others that were added to it, and the operations still to come
abbrev pub after_parts : ℕ → Value → List Value → List Operation → Option Value
after_parts at v vs os = some_of (integer (run at (compare.number v) (map Plus (map compare.number vs) ++ os)))

abbrev pub chain_value : ℕ → Option Value → List (Option Value) → Option (List Operation) → Option Value
chain_value at r rs os = bind1 (λ v. bind1 (λ vs. bind1 (after_parts at v vs) os) (nodes.whole rs)) r

-- the operation of a sign on an operand
abbrev pub with_operand : Sign → Option Value → Option (List Operation) → Option (List Operation)
with_operand sign r os = lift (λ x xs. x ∷ xs) (lift1 (λ v. operation sign (compare.number v)) r) os

whole-last : (rs : List (Option Value)) (s : Option Value) → nodes.whole (rs ++ s ∷ []) ≡ bind1 (λ vs. lift1 (λ v. vs ++ v ∷ []) s) (nodes.whole rs)
whole-last [] None = refl
whole-last [] (Some v) = refl
whole-last (None ∷ rs) s = refl
whole-last (Some v ∷ rs) s = ap (lift (λ x xs. x ∷ xs) (Some v)) (whole-last rs s) ∙ more (nodes.whole rs) s
  where
    more : (o : Option (List Value)) (s : Option Value) → lift (λ x xs. x ∷ xs) (Some v) (bind1 (λ vs. lift1 (λ v. vs ++ v ∷ []) s) o) ≡ bind1 (λ vs. lift1 (λ v. vs ++ v ∷ []) s) (lift (λ x xs. x ∷ xs) (Some v) o)
    more None s = refl
    more (Some us) None = refl
    more (Some us) (Some w) = refl

-- one operand more: it may be taken with the parts where what it adds is what the operation does
last-part : (at : ℕ) (sign : Sign) (r : Option Value) (rs : List (Option Value)) (s t : Option Value) (os : Option (List Operation)) →
    ((v w : Value) (vs : List Value) (ps : List Operation) → s ≡ Some v → t ≡ Some w → (a : ℤ) → run at a (Plus (compare.number w) ∷ ps) ≡ run at a (operation sign (compare.number v) ∷ ps)) →
    ((v : Value) → s ≡ Some v → (w : Value) × (t ≡ Some w)) → (s ≡ None → t ≡ None) →
    chain_value at r rs (with_operand sign s os) ≡ chain_value at r (rs ++ t ∷ []) os
last-part at sign None rs s t os h i j = refl
last-part at sign (Some v) rs s t os h i j = by (nodes.whole rs) s t os h i j ∙ sym (ap (bind1 (λ vs. bind1 (after_parts at v vs) os)) (whole-last rs t))
  where
    sames : (u w : Value) (vs : List Value) (ps : List Operation) → ((a : ℤ) → run at a (Plus (compare.number w) ∷ ps) ≡ run at a (operation sign (compare.number u) ∷ ps)) →
        after_parts at v vs (operation sign (compare.number u) ∷ ps) ≡ after_parts at v (vs ++ w ∷ []) ps
    sames u w vs ps k =
        let xs : List Operation = map Plus (map compare.number vs) in
        ap (λ r. some_of (integer r))
        (run-append at (compare.number v) xs (operation sign (compare.number u) ∷ ps)
        ∙ (λ i. then (run at (compare.number v) xs) (λ b. sym (k b) i))
        ∙ sym (run-append at (compare.number v) xs (Plus (compare.number w) ∷ ps))
        ∙ ap (run at (compare.number v)) (sym (append-assoc xs (Plus (compare.number w) ∷ []) ps) ∙ ap (λ zs. zs ++ ps) (sym (map-append Plus (map compare.number vs) (compare.number w ∷ [])) ∙ ap (map Plus) (sym (map-append compare.number vs (w ∷ []))))))

    by : (o : Option (List Value)) (s t : Option Value) (os : Option (List Operation)) →
        ((u w : Value) (vs : List Value) (ps : List Operation) → s ≡ Some u → t ≡ Some w → (a : ℤ) → run at a (Plus (compare.number w) ∷ ps) ≡ run at a (operation sign (compare.number u) ∷ ps)) →
        ((u : Value) → s ≡ Some u → (w : Value) × (t ≡ Some w)) → (s ≡ None → t ≡ None) →
        bind1 (λ vs. bind1 (after_parts at v vs) (with_operand sign s os)) o ≡ bind1 (λ vs. bind1 (after_parts at v vs) os) (bind1 (λ vs. lift1 (λ w. vs ++ w ∷ []) t) o)
    by None s t os h i j = refl
    by (Some vs) None t os h i j = ap (λ t. bind1 (λ vs. bind1 (after_parts at v vs) os) (lift1 (λ w. vs ++ w ∷ []) t)) (sym (j refl))
    by (Some vs) (Some u) t None h i j = none (lift1 (λ w. vs ++ w ∷ []) t)
      where
        none : (o : Option (List Value)) → None ≡ bind1 (λ vs. bind1 (after_parts at v vs) None) o
        none None = refl
        none (Some us) = refl
    by (Some vs) (Some u) t (Some ps) h i j =
        let w = i u refl in
        sames u w.0 vs ps (h u w.0 vs ps refl w.1) ∙ ap (λ t. bind1 (λ vs. bind1 (after_parts at v vs) (Some ps)) (lift1 (λ w. vs ++ w ∷ []) t)) (sym w.1)

pub plus-part : (at : ℕ) (r : Option Value) (rs : List (Option Value)) (s : Option Value) (os : Option (List Operation)) → chain_value at r rs (with_operand plus s os) ≡ chain_value at r (rs ++ s ∷ []) os
plus-part at r rs s os = last-part at plus r rs s s os (λ v w vs ps e f a. ap (λ v. run at a (Plus (compare.number v) ∷ ps)) (nodes.some-same w v (sym f ∙ e))) (λ v e. (v, e)) (λ e. e)

abbrev negative_of : ℕ → Value → Option Value
negative_of at v = some_of (integer (arithmetic.negative at (compare.number v)))

negative-small : (own : ℕ) (v : Value) → unsigned_abs (compare.number v) < 2 ^ 127 → negative_of own v ≡ Some (values.Int (neg_ℤ (compare.number v)))
negative-small own v h =
    let k : unsigned_abs (neg_ℤ (compare.number v)) < 2 ^ 127 = subst (λ n. n < 2 ^ 127) (sym (abs-neg (compare.number v))) h in
    ap (λ r. some_of (integer r)) (nodes.sized-small own (neg_ℤ (compare.number v)) k)
  where
    abs-neg : (z : ℤ) → unsigned_abs (neg_ℤ z) ≡ unsigned_abs z
    abs-neg z = omega (arith, ints)

pub minus-part : (at own : ℕ) (r : Option Value) (rs : List (Option Value)) (s : Option Value) (os : Option (List Operation)) → ((v : Value) → s ≡ Some v → unsigned_abs (compare.number v) < 2 ^ 127) →
    chain_value at r rs (with_operand minus s os) ≡ chain_value at r (rs ++ with_one (negative_of own) s ∷ []) os
minus-part at own r rs s os small =
    last-part at minus r rs s (with_one (negative_of own) s) os
    (λ v w vs ps e f a.
    let g : values.Int (neg_ℤ (compare.number v)) ≡ w = nodes.some-same (values.Int (neg_ℤ (compare.number v))) w (sym (negative-small own v (small v e)) ∙ sym (ap (with_one (negative_of own)) e) ∙ f) in
    ap (λ n. run at a (Plus n ∷ ps)) (ap compare.number (sym g) ∙ ap compare.number refl ∙ number-of (neg_ℤ (compare.number v)))
    ∙ ap (λ z. then (arithmetic.sized at z) (λ b. run at b ps)) (sym (minus-plus a (compare.number v))))
    (λ v e. (values.Int (neg_ℤ (compare.number v)), ap (with_one (negative_of own)) e ∙ negative-small own v (small v e)))
    (λ e. ap (with_one (negative_of own)) e)
  where
    number-of : (n : ℤ) → compare.number (values.Int n) ≡ n
    number-of n = number-Int n

-- a step that takes all before together: F is what it does with two numbers
pub other-part : (at : ℕ) (sign : Sign) (r : Option Value) (rs : List (Option Value)) (s t : Option Value) (os : Option (List Operation)) →
    t ≡ bind1 (λ v. bind1 (λ w. some_of (integer (applied at (compare.number v) (operation sign (compare.number w))))) s) (chain_value at r rs (Some [])) →
    chain_value at r rs (with_operand sign s os) ≡ chain_value at t [] os
other-part at sign None rs s t os h = ap (λ t. chain_value at t [] os) (sym h)
other-part at sign (Some v) rs s t os h = by (nodes.whole rs) s os ∙ ap (λ t. chain_value at t [] os) (sym h)
  where
    number-of : (n : ℤ) → compare.number (values.Int n) ≡ n
    number-of n = number-Int n

    missing : (o : Option Value) → None ≡ bind1 (λ v. bind1 (λ vs. bind1 (after_parts at v vs) None) (nodes.whole [])) o
    missing None = refl
    missing (Some u) = refl

    applied-last : (b : ℤ) (w : Value) (ps : List Operation) (q : Found ℤ) → some_of (integer (then q (λ c. run at c ps))) ≡ bind1 (λ v. bind1 (λ vs. bind1 (after_parts at v vs) (Some ps)) (nodes.whole [])) (some_of (integer q))
    applied-last b w ps (Ok c) = ap (λ n. some_of (integer (run at n ps))) (sym (number-of c))
    applied-last b w ps (Err e) = refl

    after-last : (q : Found ℤ) (w : Value) (ps : List Operation) →
        some_of (integer (then q (λ b. run at b (operation sign (compare.number w) ∷ ps))))
        ≡ bind1 (λ v. bind1 (λ vs. bind1 (after_parts at v vs) (Some ps)) (nodes.whole [])) (bind1 (λ v. some_of (integer (applied at (compare.number v) (operation sign (compare.number w))))) (some_of (integer q)))
    after-last (Ok b) w ps =
        applied-last b w ps (applied at b (operation sign (compare.number w)))
        ∙ ap (λ n. bind1 (λ v. bind1 (λ vs. bind1 (after_parts at v vs) (Some ps)) (nodes.whole [])) (some_of (integer (applied at n (operation sign (compare.number w)))))) (sym (number-of b))
    after-last (Err e) w ps = refl

    nothing-behind : (xs : List Operation) → xs ++ [] ≡ xs
    nothing-behind [] = refl
    nothing-behind (x ∷ xs) = ap (λ ys. x ∷ ys) (nothing-behind xs)

    by : (o : Option (List Value)) (s : Option Value) (os : Option (List Operation)) →
        bind1 (λ vs. bind1 (after_parts at v vs) (with_operand sign s os)) o
        ≡ chain_value at (bind1 (λ v. bind1 (λ w. some_of (integer (applied at (compare.number v) (operation sign (compare.number w))))) s) (bind1 (λ vs. bind1 (after_parts at v vs) (Some [])) o)) [] os
    by None s os = refl
    by (Some vs) None os = gone (after_parts at v vs [])
      where
        gone : (o : Option Value) → None ≡ chain_value at (bind1 (λ v. None) o) [] os
        gone None = refl
        gone (Some u) = refl
    by (Some vs) (Some w) None = missing (bind1 (λ v. some_of (integer (applied at (compare.number v) (operation sign (compare.number w))))) (after_parts at v vs []))
    by (Some vs) (Some w) (Some ps) =
        let xs : List Operation = map Plus (map compare.number vs) in
        ap (λ r. some_of (integer r)) (run-append at (compare.number v) xs (operation sign (compare.number w) ∷ ps))
        ∙ after-last (run at (compare.number v) xs) w ps
        ∙ ap (λ ys. bind1 (λ v. bind1 (λ vs. bind1 (after_parts at v vs) (Some ps)) (nodes.whole [])) (bind1 (λ v. some_of (integer (applied at (compare.number v) (operation sign (compare.number w))))) (some_of (integer (run at (compare.number v) ys))))) (sym (nothing-behind xs))
