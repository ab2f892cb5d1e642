-- What each node is worth, by what its parts are.
use Rattle.std.proofs.Common.{◌≡◌, ℕ, ◌+◌, ◌^◌, ◌<◌, ◌≤◌, ℤ, pos, ◌+ℤ◌, Bool, true, false, cond, nat_lt, nat_le, unsigned_abs, List, [], ◌∷◌, map, Option, None, Some, Result, Ok, Err, refl, sym, ap, subst, ◌∙◌, arith}
use Rattle.std.proofs.lemmas.Int.{ints}
use Rattle.opl_value.specs.declared.value.Value.{Value}
use Rattle.opl_value.specs.declared.value.Value.TheVariants as values
use Rattle.opl_eval.specs.declared.arithmetic.Operation.TheVariants.{Plus}
use Rattle.opl_eval.specs.Arithmetic as arithmetic
use Rattle.opl_eval.specs.Arithmetic.{then, run}
use Rattle.opl_eval.specs.Compare as compare
use Rattle.opl_eval.specs.Evaluation.{Found, integer}
use Rattle.opl_draft.specs.Drafts.{Cells}
use Rattle.opl_expr.specs.declared.forms.Expr.{Expr}
use Rattle.opl_expr.specs.declared.forms.Expr.TheVariants as E
use Rattle.opl_expr.specs.Forms.{Term, terms_of}
use Rattle.opl_expr.specs.Holds.{value, all_values}
use Rattle.opl_expr.specs.Options.{lift1, bind1, lift, lift_all}
use Rattle.opl_expr.specs.Sound.{term_magnitude, sum_magnitude}
use Rattle.opl_expr.proofs.Plain.{term_Sum}
use Rattle.opl_form.specs.Parts.{Form, all_known, as_number, tables, with_value}
use Rattle.opl_form.specs.Measures as measures
use Rattle.opl_form.specs.Nodes as making
use Rattle.opl_form.specs.Nodes.{Fault, Made, counted, folded, known_node, next, number_node, condition_node, size, sized, summed}
use Rattle.opl_form.specs.Parts.Form.{known, number, name, condition, truth}
use Rattle.opl_form.specs.Worth.{some_of, Worth, plain, val}
use Rattle.opl_form.proofs.Views.{as_number-worth}

-- ---- results that may be missing

-- all of these
abbrev pub whole : {A : Type 0} → List (Option A) → Option (List A)
whole [] = Some []
whole (r ∷ rs) = lift (λ x xs. x ∷ xs) r (whole rs)

pub ok-same : {A E : Type 0} (x y : A) → ◌≡◌ {A = Result A E} (Ok x) (Ok y) → x ≡ y
ok-same x y h = cc

abbrev pub from_right : {A B : Type 0} → (B → A → A) → A → List B → A
from_right f e [] = e
from_right f e (x ∷ xs) = f x (from_right f e xs)

-- all are there, or something is missing
pub lift-whole : {A B : Type 0} (f : B → B → B) (e : B) (h : A → B) (rs : List (Option A)) → lift_all f e (map (lift1 h) rs) ≡ lift1 (λ vs. from_right f e (map h vs)) (whole rs)
lift-whole f e h [] = refl
lift-whole f e h (None ∷ rs) = refl
lift-whole f e h (Some x ∷ rs) = ap (lift f (Some (h x))) (lift-whole f e h rs) ∙ more (whole rs)
  where
    more : (r : Option (List _)) → lift f (Some (h x)) (lift1 (λ vs. from_right f e (map h vs)) r) ≡ lift1 (λ vs. from_right f e (map h vs)) (lift (λ x xs. x ∷ xs) (Some x) r)
    more None = refl
    more (Some xs) = refl

pub whole-map : {A B : Type 0} (h : A → B) (rs : List (Option A)) → whole (map (lift1 h) rs) ≡ lift1 (map h) (whole rs)
whole-map h [] = refl
whole-map h (None ∷ rs) = refl
whole-map h (Some v ∷ rs) = ap (lift (λ x xs. x ∷ xs) (Some (h v))) (whole-map h rs) ∙ more (whole rs)
  where
    more : (o : Option (List _)) → lift (λ x xs. x ∷ xs) (Some (h v)) (lift1 (map h) o) ≡ lift1 (map h) (lift (λ x xs. x ∷ xs) (Some v) o)
    more None = refl
    more (Some vs) = refl

-- ---- tests that passed

pub sized-made : {A : Type 0} (at m : ℕ) (r : Made A) (y : A) → sized at m r ≡ Ok y → (nat_lt m (2 ^ 127) ≡ true) × (r ≡ Ok y)
sized-made at m r y h = by (nat_lt m (2 ^ 127)) h
  where
    by : (b : Bool) → cond b r (Err (making.Fault.large at)) ≡ Ok y → (b ≡ true) × (r ≡ Ok y)
    by true h = (refl, h)
    by false h = absurd (cc)

pub counted-made : (item n depth more : ℕ) (g h : Form) → counted item n depth more g ≡ Ok h → g ≡ h
counted-made item n depth more g h e = by (nat_le depth 2048) (nat_le (n + more) 4194304) e
  where
    by : (b c : Bool) → cond b (cond c (Ok g) (Err (making.Fault.many item))) (Err (making.Fault.deep item)) ≡ Ok h → g ≡ h
    by true true e = ok-same g h e
    by true false e = absurd (cc)
    by false c e = absurd (cc)

pub next-made : {A B : Type 0} (r : Made A) (f : A → Made B) (y : B) → next r f ≡ Ok y → (x : A) × (r ≡ Ok x) × (f x ≡ Ok y)
next-made (Ok x) f y h = (x, refl, h)
next-made (Err e) f y h = absurd (cc)

-- values are all known
pub known-values : (vs : List Value) → all_known (map known vs) ≡ Some vs
known-values [] = refl
known-values (v ∷ vs) = ap (with_value (known v)) (known-values vs)

-- ---- sums

abbrev pub abs_total : List ℤ → ℕ
abs_total [] = 0
abs_total (n ∷ ns) = unsigned_abs n + abs_total ns

abs_plus : (x y : ℤ) → unsigned_abs (x +ℤ y) ≤ unsigned_abs x + unsigned_abs y
abs_plus x y = omega (arith, ints)

pub sized-small : (at : ℕ) (z : ℤ) → unsigned_abs z < 2 ^ 127 → arithmetic.sized at z ≡ Ok z
unfolding arithmetic.sized
sized-small at z h = grind arith

plus-assoc : (a b c : ℤ) → (a +ℤ b) +ℤ c ≡ a +ℤ (b +ℤ c)
plus-assoc a b c = omega (arith, ints)

-- a sum whose operands are small together is not too large
pub run-total : (at : ℕ) (a : ℤ) (xs : List ℤ) → unsigned_abs a + abs_total xs < 2 ^ 127 → run at a (map Plus xs) ≡ Ok (a +ℤ from_right ◌+ℤ◌ (pos 0) xs)
run-total at a [] h = ap (λ z. Ok z) (omega (arith, ints))
run-total at a (x ∷ xs) h =
    let p = abs_plus a x in
    (λ i. then (sized-small at (a +ℤ x) (omega (arith, p, h)) i) (λ b. run at b (map Plus xs)))
    ∙ run-total at (a +ℤ x) xs (omega (arith, p, h))
    ∙ ap (λ z. Ok z) (plus-assoc a x (from_right ◌+ℤ◌ (pos 0) xs))

pub some-same : {A : Type 0} (x y : A) → ◌≡◌ {A = Option A} (Some x) (Some y) → x ≡ y
some-same x y h = cc

add-le : (a b c d : ℕ) → a ≤ b → c ≤ d → a + c ≤ b + d
add-le a b c d h k = omega (arith, h, k)

zero-add : (n : ℕ) → n < 2 ^ 127 → unsigned_abs (pos 0) + n < 2 ^ 127
zero-add n h = omega (arith, h)

zero-plus : (z : ℤ) → pos 0 +ℤ z ≡ z
zero-plus z = omega (arith, ints)

pub below : (s m k : ℕ) → nat_lt s (2 ^ 127) ≡ true → s ≡ m → k ≤ m → k < 2 ^ 127
below s m k h e l = let t : s < 2 ^ 127 = nat_lt-out s (2 ^ 127) h in omega (arith, t, e, l)
  where
    nat_lt-out : (s n : ℕ) → nat_lt s n ≡ true → s < n
    nat_lt-out s n h = grind arith

-- a number that passed its tests
pub number-node : (sets : List (ℤ × ℤ)) (arrays : List Cells) (item at n : ℕ) (e : Expr) (g : Form) → number_node sets arrays item at n e ≡ Ok g → (number e ≡ g) × (nat_lt (size sets arrays e) (2 ^ 127) ≡ true)
number-node sets arrays item at n e g h =
    let p = sized-made at (size sets arrays e) (counted item n (measures.depth e) (measures.nodes e) (number e)) g h in
    (counted-made item n (measures.depth e) (measures.nodes e) (number e) g p.1, p.0)

-- the magnitudes of these together
abbrev pub mags : List (ℤ × ℤ) → List Term → ℕ
mags sets ts = sum_magnitude sets (terms_of ts)

module _ (arrays : List Cells) (ns : List ℤ) where
  -- parts that are worth these
  abbrev pub AreWorth : List (Option Value) → List Form → Type 0
  AreWorth [] [] = Unit {0}
  AreWorth (r ∷ rs) (g ∷ gs) = Worth arrays ns r g × AreWorth rs gs
  AreWorth rs gs = ⊥

  pub all-known : (rs : List (Option Value)) (gs : List Form) (vs : List Value) → AreWorth rs gs → all_known gs ≡ Some vs → whole rs ≡ Some vs
  all-known [] [] vs w h = h
  all-known [] (g ∷ gs) vs w h = absurd w
  all-known (r ∷ rs) [] vs w h = absurd w
  all-known (r ∷ rs) (known v ∷ gs) vs w h = by (all_known gs) h (λ us e. all-known rs gs us w.1 e)
    where
      by : (o : Option (List Value)) → with_value (known v) o ≡ Some vs → ((us : List Value) → o ≡ Some us → whole rs ≡ Some us) → whole (r ∷ rs) ≡ Some vs
      by None k f = absurd (cc)
      by (Some us) k f = (λ i. lift (λ x xs. x ∷ xs) (w.0 i) (f us refl i)) ∙ k
  all-known (r ∷ rs) (number e ∷ gs) vs w h = absurd (cc)
  all-known (r ∷ rs) (name d e ∷ gs) vs w h = absurd (cc)
  all-known (r ∷ rs) (condition c ∷ gs) vs w h = absurd (cc)
  all-known (r ∷ rs) (truth c ∷ gs) vs w h = absurd (cc)

  -- the value of all where all are known, else a node
  pub folded-live : (item n : ℕ) (rs : List (Option Value)) (gs : List Form) (come : List Value → Found Value) (node : Made Form) (g : Form) →
      AreWorth rs gs → folded item n (all_known gs) come node ≡ Ok g →
      (all_known gs ≡ None → node ≡ Ok g → Worth arrays ns (bind1 (λ vs. some_of (come vs)) (whole rs)) g) → Worth arrays ns (bind1 (λ vs. some_of (come vs)) (whole rs)) g
  folded-live item n rs gs come node g w e k = by (all_known gs) refl e
    where
      done : (v : Value) (vs : List Value) → all_known gs ≡ Some vs → come vs ≡ Ok v → known v ≡ g → Worth arrays ns (bind1 (λ vs. some_of (come vs)) (whole rs)) g
      done v vs a c s = subst (Worth arrays ns (bind1 (λ vs. some_of (come vs)) (whole rs))) s (ap (bind1 (λ vs. some_of (come vs))) (all-known rs gs vs w a) ∙ ap some_of c)

      when : (vs : List Value) (r : Found Value) → all_known gs ≡ Some vs → come vs ≡ r → making.evaluated item n r ≡ Ok g → Worth arrays ns (bind1 (λ vs. some_of (come vs)) (whole rs)) g
      when vs (Ok v) a c h = done v vs a c (counted-made item n 1 1 (known v) g h)
      when vs (Err fault) a c h = absurd (cc)

      by : (o : Option (List Value)) → all_known gs ≡ o → folded item n o come node ≡ Ok g → Worth arrays ns (bind1 (λ vs. some_of (come vs)) (whole rs)) g
      by None a h = k a h
      by (Some vs) a h = when vs (come vs) a refl h

  pub folded-worth : (item n : ℕ) (rs : List (Option Value)) (gs : List Form) (come : List Value → Found Value) (node : Made Form) (g : Form) →
      AreWorth rs gs → folded item n (all_known gs) come node ≡ Ok g →
      (node ≡ Ok g → Worth arrays ns (bind1 (λ vs. some_of (come vs)) (whole rs)) g) → Worth arrays ns (bind1 (λ vs. some_of (come vs)) (whole rs)) g
  folded-worth item n rs gs come node g w e k = folded-live item n rs gs come node g w e (λ a. k)

  pub values-list : (gs : List Form) → all_values ns (terms_of (map (plain arrays) (map as_number gs))) ≡ map (λ g. val arrays ns (as_number g)) gs
  values-list [] = refl
  values-list (g ∷ gs) = ap (λ vs. val arrays ns (as_number g) ∷ vs) (values-list gs)

  pub numbers-worth : (rs : List (Option Value)) (gs : List Form) → AreWorth rs gs → map (lift1 compare.number) rs ≡ map (λ g. val arrays ns (as_number g)) gs
  numbers-worth [] [] w = refl
  numbers-worth [] (g ∷ gs) w = absurd w
  numbers-worth (r ∷ rs) [] w = absurd w
  numbers-worth (r ∷ rs) (g ∷ gs) w = λ i. as_number-worth arrays ns r g w.0 i ∷ numbers-worth rs gs w.1 i

  -- the value of a sum
  pub sum-value : (rs : List (Option Value)) (gs : List Form) → AreWorth rs gs → val arrays ns (E.Sum (map as_number gs)) ≡ lift1 (λ vs. from_right ◌+ℤ◌ (pos 0) (map compare.number vs)) (whole rs)
  sum-value rs gs w =
      ap (value ns) (term_Sum (tables arrays) [] (map as_number gs)) ∙ ap (lift_all ◌+ℤ◌ (pos 0)) (values-list gs ∙ sym (numbers-worth rs gs w))
      ∙ lift-whole ◌+ℤ◌ (pos 0) compare.number rs

module _ (sets : List (ℤ × ℤ)) (arrays : List Cells) (item : ℕ) (ns : List ℤ)
    (value-small : (t : Term) (v : ℤ) → value ns t ≡ Some v → unsigned_abs v ≤ term_magnitude sets t)
  where
    one-small : (v : Value) (g : Form) → Worth arrays ns (Some v) g → unsigned_abs (compare.number v) ≤ term_magnitude sets (plain arrays (as_number g))
    one-small v g w = value-small (plain arrays (as_number g)) (compare.number v) (sym (as_number-worth arrays ns (Some v) g w))

    -- the values together are within the magnitude of the sum
    pub sum-small : (rs : List (Option Value)) (gs : List Form) (vs : List Value) → AreWorth arrays ns rs gs → whole rs ≡ Some vs →
        abs_total (map compare.number vs) ≤ mags sets (map (plain arrays) (map as_number gs))
    sum-small [] [] vs w h = subst (λ vs. abs_total (map compare.number vs) ≤ 0) (some-same [] vs h) (omega arith)
    sum-small [] (g ∷ gs) vs w h = absurd w
    sum-small (r ∷ rs) [] vs w h = absurd w
    sum-small (None ∷ rs) (g ∷ gs) vs w h = absurd (cc)
    sum-small (Some v ∷ rs) (g ∷ gs) vs w h = by (whole rs) h (λ us e. sum-small rs gs us w.1 e)
      where
        by : (o : Option (List Value)) → lift (λ x xs. x ∷ xs) (Some v) o ≡ Some vs → ((us : List Value) → o ≡ Some us → abs_total (map compare.number us) ≤ mags sets (map (plain arrays) (map as_number gs))) →
            abs_total (map compare.number vs) ≤ mags sets (map (plain arrays) (map as_number (g ∷ gs)))
        by None k f = absurd (cc)
        by (Some us) k f =
            subst (λ vs. abs_total (map compare.number vs) ≤ mags sets (map (plain arrays) (map as_number (g ∷ gs)))) (some-same (v ∷ us) vs k)
            (add-le (unsigned_abs (compare.number v)) (term_magnitude sets (plain arrays (as_number g))) (abs_total (map compare.number us)) (mags sets (map (plain arrays) (map as_number gs))) (one-small v g w.0) (f us refl))

    pub size-sum : (es : List Expr) → size sets arrays (E.Sum es) ≡ mags sets (map (plain arrays) es)
    size-sum es = ap (term_magnitude sets) (term_Sum (tables arrays) [] es)

    -- the sum of parts
    abbrev pub sum_of : ℕ → List Value → Found Value
    sum_of at vs = integer (arithmetic.sum at (map compare.number vs))

    sum-found : (at : ℕ) (o : Option (List Value)) → ((vs : List Value) → o ≡ Some vs → abs_total (map compare.number vs) < 2 ^ 127) →
        bind1 (λ vs. some_of (sum_of at vs)) o ≡ lift1 values.Int (lift1 (λ vs. from_right ◌+ℤ◌ (pos 0) (map compare.number vs)) o)
    sum-found at None h = refl
    sum-found at (Some vs) h =
        let xs : List ℤ = map compare.number vs in
        ap (λ r. some_of (integer r)) (run-total at (pos 0) xs (zero-add (abs_total xs) (h vs refl))) ∙ ap (λ z. Some (values.Int z)) (zero-plus (from_right ◌+ℤ◌ (pos 0) xs))

    pub summed-worth : (at n : ℕ) (rs : List (Option Value)) (gs : List Form) (g : Form) → AreWorth arrays ns rs gs → summed sets arrays item at n gs ≡ Ok g → Worth arrays ns (bind1 (λ vs. some_of (sum_of at vs)) (whole rs)) g
    summed-worth at n rs gs g w h =
        folded-worth arrays ns item n rs gs (sum_of at) (number_node sets arrays item at n (E.Sum (map as_number gs))) g w h
        (λ k. let p = number-node sets arrays item at n (E.Sum (map as_number gs)) g k in
        subst (Worth arrays ns (bind1 (λ vs. some_of (sum_of at vs)) (whole rs))) p.0
        (sum-found at (whole rs) (λ vs e. below (size sets arrays (E.Sum (map as_number gs))) (mags sets (map (plain arrays) (map as_number gs))) (abs_total (map compare.number vs)) p.1 (size-sum (map as_number gs)) (sum-small rs gs vs w e))
        ∙ ap (lift1 values.Int) (sym (sum-value arrays ns rs gs w))))
