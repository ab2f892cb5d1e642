-- What nodes of two numbers and chains are worth.
use Rattle.std.proofs.Common.{◌≡◌, ◌≢◌, ℕ, ◌^◌, ◌<◌, ◌≤◌, ℤ, pos, ◌-ℤ◌, ◌*ℤ◌, Bool, true, false, cond, int_div, int_rem, unsigned_abs, List, [], ◌∷◌, Option, None, Some, Ok, Err, refl, sym, ap, subst, ◌∙◌, arith}
use Rattle.std.specs.Ordering.{int_eq}
use Rattle.std.proofs.lemmas.Int.{ints, quot-rem}
use Rattle.opl_value.specs.declared.value.Value.{Value}
use Rattle.opl_value.specs.declared.value.Value.TheVariants as values
use Rattle.opl_value.specs.Places.{value_at}
use Rattle.opl_eval.specs.declared.fault.EvalFault.TheVariants.{DivByZero}
use Rattle.opl_eval.specs.Arithmetic as arithmetic
use Rattle.opl_eval.specs.Arithmetic.{applied, run, then}
use Rattle.opl_eval.specs.Compare as compare
use Rattle.opl_eval.specs.Evaluation.{Found, integer}
use Rattle.opl_draft.specs.Drafts.{Cells}
use Rattle.opl_expr.specs.declared.forms.Expr.{Expr}
use Rattle.opl_expr.specs.declared.forms.Expr.TheVariants as E
use Rattle.opl_expr.specs.Forms.{Term, term}
use Rattle.opl_expr.specs.Holds as holding
use Rattle.opl_expr.specs.Holds.{value}
use Rattle.opl_expr.specs.Options.{lift1, bind1, lift, bind}
use Rattle.opl_expr.specs.Sound.{term_magnitude}
use Rattle.opl_expr.proofs.Plain.{term_Mul, term_Div, term_Rem}
use Rattle.opl_form.specs.Parts.{Form, all_known, as_number, tables}
use Rattle.opl_form.specs.Nodes.{Fault, Made, divided, folded, is_zero, left_over, multiplied, number_node, size, unless_zero}
use Rattle.opl_form.specs.Worth.{Worth, plain, val, some_of}
use Rattle.opl_form.proofs.Views.{as_number-worth}
use Rattle.opl_form.proofs.Nodes.{AreWorth, abs_total, folded-live, folded-worth, from_right, next-made, number-node, run-total, sum-small, sum-value, size-sum}
use Rattle.opl_form.proofs.Nodes as nodes
use Rattle.opl_form.proofs.Forms.{with_two, two-whole}
use Rattle.opl_form.proofs.Chains.{product-value}

abbrev pub by_numbers : (ℤ → ℤ → Found ℤ) → Value → Value → Option Value
by_numbers op v w = some_of (integer (op (compare.number v) (compare.number w)))

lifted-bind : {A B C : Type 0} (F : C → C → Option B) (f : A → C) (r s : Option A) → bind F (lift1 f r) (lift1 f s) ≡ with_two (λ a b. F (f a) (f b)) r s
lifted-bind F f None s = refl
lifted-bind F f (Some a) None = refl
lifted-bind F f (Some a) (Some b) = refl

two-likely : {A C D : Type 0} (h : A → A → Option C) (k : A → A → Option D) (g : D → C) (r s : Option A) → ((a b : A) → r ≡ Some a → s ≡ Some b → h a b ≡ lift1 g (k a b)) → with_two h r s ≡ lift1 g (with_two k r s)
two-likely h k g None s i = refl
two-likely h k g (Some a) None i = refl
two-likely h k g (Some a) (Some b) i = i a b refl refl

lift-bind : (r s : Option ℤ) → lift ◌*ℤ◌ r s ≡ bind (λ a b. Some (a *ℤ b)) r s
lift-bind None s = refl
lift-bind (Some a) None = refl
lift-bind (Some a) (Some b) = refl

remainder-rest : (a b : ℤ) → a -ℤ b *ℤ int_div a b ≡ int_rem a b
remainder-rest a b = omega (arith, ints, quot-rem a b)

module _ (sets : List (ℤ × ℤ)) (arrays : List Cells) (item : ℕ) (ns : List ℤ)
    (value-small : (t : Term) (v : ℤ) → value ns t ≡ Some v → unsigned_abs v ≤ term_magnitude sets t)
  where
    -- a node of two numbers is worth what the operation gives, where the node's values are small
    pub binary-worth : (at n : ℕ) (op : ℤ → ℤ → Found ℤ) (F : ℤ → ℤ → Option ℤ) (make : Expr → Expr → Expr) (plain_of : Term → Term → Term) (r s : Option Value) (g h k : Form) →
        ((e f : Expr) → term (tables arrays) [] (make e f) ≡ plain_of (plain arrays e) (plain arrays f)) → ((t u : Term) → value ns (plain_of t u) ≡ bind F (value ns t) (value ns u)) →
        ((a b c : ℤ) → F a b ≡ Some c → unsigned_abs c < 2 ^ 127 → op a b ≡ Ok c) → ((a b : ℤ) → F a b ≡ None → some_of (op a b) ≡ None) →
        Worth arrays ns r g → Worth arrays ns s h →
        folded item n (all_known (g ∷ h ∷ [])) (λ vs. integer (op (compare.number (value_at vs 0)) (compare.number (value_at vs 1)))) (number_node sets arrays item at n (make (as_number g) (as_number h))) ≡ Ok k →
        Worth arrays ns (with_two (by_numbers op) r s) k
    binary-worth at n op F make plain_of r s g h k forms means some none w x e =
        let node : Expr = make (as_number g) (as_number h) in
        let value-is : val arrays ns node ≡ bind F (val arrays ns (as_number g)) (val arrays ns (as_number h)) = ap (value ns) (forms (as_number g) (as_number h)) ∙ means (plain arrays (as_number g)) (plain arrays (as_number h)) in
        subst (λ o. Worth arrays ns o k) (two-whole (by_numbers op) r s)
        (folded-worth arrays ns item n (r ∷ s ∷ []) (g ∷ h ∷ []) (λ vs. integer (op (compare.number (value_at vs 0)) (compare.number (value_at vs 1)))) (number_node sets arrays item at n node) k (w, (x, tt)) e
        (λ m. let p = number-node sets arrays item at n node k m in
        subst (Worth arrays ns (bind1 (λ vs. by_numbers op (value_at vs 0) (value_at vs 1)) (nodes.whole (r ∷ s ∷ [])))) p.0
        (two-whole (by_numbers op) r s
        ∙ two-likely (by_numbers op) (λ v u. F (compare.number v) (compare.number u)) values.Int r s
        (λ v u ev eu. one v u (F (compare.number v) (compare.number u)) refl (λ c f.
        nodes.below (size sets arrays node) (size sets arrays node) (unsigned_abs c) p.1 refl
        (value-small (plain arrays node) c (value-is ∙ (λ i. bind F (sym (as_number-worth arrays ns r g w) i) (sym (as_number-worth arrays ns s h x) i))
        ∙ (λ i. bind F (lift1 compare.number (ev i)) (lift1 compare.number (eu i))) ∙ f))))
        ∙ ap (lift1 values.Int) (sym (lifted-bind F compare.number r s) ∙ (λ i. bind F (as_number-worth arrays ns r g w i) (as_number-worth arrays ns s h x i)) ∙ sym value-is))))
      where
        one : (v u : Value) (o : Option ℤ) → F (compare.number v) (compare.number u) ≡ o → ((c : ℤ) → o ≡ Some c → unsigned_abs c < 2 ^ 127) → by_numbers op v u ≡ lift1 values.Int o
        one v u None f small = none-found (op (compare.number v) (compare.number u)) (none (compare.number v) (compare.number u) f)
          where
            none-found : (q : Found ℤ) → some_of q ≡ None → some_of (integer q) ≡ None
            none-found (Ok c) h = absurd (cc)
            none-found (Err e) h = refl
        one v u (Some c) f small = ap (λ q. some_of (integer q)) (some (compare.number v) (compare.number u) c f (small c refl))

    pub multiplied-worth : (at n : ℕ) (r s : Option Value) (g h k : Form) → Worth arrays ns r g → Worth arrays ns s h → multiplied sets arrays item at n g h ≡ Ok k → Worth arrays ns (with_two (by_numbers (arithmetic.times at)) r s) k
    multiplied-worth at n r s g h k w x e =
        binary-worth at n (arithmetic.times at) (λ a b. Some (a *ℤ b)) E.Mul Rattle.opl_expr.specs.Forms.product r s g h k
        (λ e f. term_Mul (tables arrays) [] e f) (λ t u. product-value ns t u ∙ lift-bind (value ns t) (value ns u))
        (λ a b c f small. let g : a *ℤ b ≡ c = nodes.some-same (a *ℤ b) c f in subst (λ z. arithmetic.sized at z ≡ Ok c) (sym g) (nodes.sized-small at c small))
        (λ a b f. absurd (cc)) w x e

    quotient-none : (b : Bool) (x : Option ℤ) (q : Found ℤ) (at : ℕ) → cond b None x ≡ None → x ≢ None → some_of (cond b (Err (DivByZero at)) q) ≡ None
    quotient-none true x q at h i = refl
    quotient-none false x q at h i = absurd (i h)

    quotient-some : (b : Bool) (x c : ℤ) (at : ℕ) → ◌≡◌ {A = Option ℤ} (cond b None (Some x)) (Some c) → unsigned_abs c < 2 ^ 127 → ◌≡◌ {A = Found ℤ} (cond b (Err (DivByZero at)) (arithmetic.sized at x)) (Ok c)
    quotient-some true x c at h small = absurd (cc)
    quotient-some false x c at h small = let g : x ≡ c = nodes.some-same x c h in subst (λ z. arithmetic.sized at z ≡ Ok c) (sym g) (nodes.sized-small at c small)

    -- not zero, so it was folded or made
    past-zero : (at : ℕ) (g : Form) (q : Made Form) (k : Form) → unless_zero at g q ≡ Ok k → q ≡ Ok k
    past-zero at g q k = by (is_zero g)
      where
        by : (b : Bool) → cond b (Err (Fault.eval (DivByZero at))) q ≡ Ok k → q ≡ Ok k
        by true h = absurd (cc)
        by false h = h

    pub divided-worth : (at n : ℕ) (r s : Option Value) (g h k : Form) → Worth arrays ns r g → Worth arrays ns s h → divided sets arrays item at n g h ≡ Ok k → Worth arrays ns (with_two (by_numbers (arithmetic.quotient at)) r s) k
    divided-worth at n r s g h k w x e =
        binary-worth at n (arithmetic.quotient at) holding.quotient E.Div Term.div r s g h k
        (λ e f. term_Div (tables arrays) [] e f) (λ t u. refl)
        (λ a b c f small. quotient-some (int_eq b (pos 0)) (int_div a b) c at f small)
        (λ a b f. quotient-none (int_eq b (pos 0)) (Some (int_div a b)) (arithmetic.sized at (int_div a b)) at f (λ i. cc)) w x
        (past-zero at h (folded item n (all_known (g ∷ h ∷ [])) (λ vs. integer (arithmetic.quotient at (compare.number (value_at vs 0)) (compare.number (value_at vs 1)))) (number_node sets arrays item at n (E.Div (as_number g) (as_number h)))) k e)

    pub left_over-worth : (at n : ℕ) (r s : Option Value) (g h k : Form) → Worth arrays ns r g → Worth arrays ns s h → left_over sets arrays item at n g h ≡ Ok k → Worth arrays ns (with_two (by_numbers (arithmetic.remainder at)) r s) k
    left_over-worth at n r s g h k w x e =
        binary-worth at n (arithmetic.remainder at) holding.remainder E.Rem Term.rem r s g h k
        (λ e f. term_Rem (tables arrays) [] e f) (λ t u. refl)
        (λ a b c f small. ap (λ z. cond (int_eq b (pos 0)) (Err (DivByZero at)) (arithmetic.sized at z)) (remainder-rest a b) ∙ quotient-some (int_eq b (pos 0)) (int_rem a b) c at f small)
        (λ a b f. quotient-none (int_eq b (pos 0)) (Some (int_rem a b)) (arithmetic.sized at (a -ℤ b *ℤ int_div a b)) at f (λ i. cc)) w x
        (past-zero at h (folded item n (all_known (g ∷ h ∷ [])) (λ vs. integer (arithmetic.remainder at (compare.number (value_at vs 0)) (compare.number (value_at vs 1)))) (number_node sets arrays item at n (E.Rem (as_number g) (as_number h)))) k e)
