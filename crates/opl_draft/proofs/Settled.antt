-- What is settled of a draft agrees with what it comes to under each assignment, and where a fault is settled it comes to no value.
use Rattle.std.proofs.Common.{◌≡◌, ◌||◌, ◌&&◌, ℕ, zero, suc, ℤ, pos, Bool, true, false, cond, not, List, [], ◌∷◌, ◌++◌, map, Option, None, Some, Ok, Err, refl, sym, ap, subst, ◌∙◌, append_assoc, append-nil}
use Rattle.std.specs.Prelude.{◌-ℤ◌, ◌*ℤ◌, int_div}
use Rattle.std.specs.List.{list_all, list_any}
use Rattle.std.specs.Option.{is_some, option_map}
use Rattle.std.specs.Ordering.{int_eq}
use Rattle.opl_value.specs.declared.value.Value.{Value}
use Rattle.opl_value.specs.declared.value.Value.TheVariants as values
use Rattle.opl_value.specs.Places.{elements, joint, place_in, place_of}
use Rattle.opl_eval.specs.declared.fault.EvalFault.{EvalFault}
use Rattle.opl_eval.specs.declared.fault.EvalFault.TheVariants.{DivByZero, OutOfIndex}
use Rattle.opl_eval.specs.declared.arithmetic.Operation.{Operation}
use Rattle.opl_eval.specs.Arithmetic.{then, applied, run, negative, absolute, sized}
use Rattle.opl_eval.specs.Compare.{number, number_layer, relates, all_different}
use Rattle.opl_eval.specs.Evaluation as evaluation
use Rattle.opl_eval.specs.Evaluation.{Found, at_place, found, integer, is_true, truth}
use Rattle.opl_meaning.specs.Solutions as solutions
use Rattle.opl_draft.specs.Drafts.{Cells, Draft, Drafts, Leaves, Sign, Steps, are_different, array_at, chosen, draft_value, draft_values, leaf_values, operation, step_values}
use Rattle.opl_draft.specs.Drafts.Drafts.{no_drafts, more_drafts}
use Rattle.opl_draft.specs.Drafts.Leaves.{listed, numbered}
use Rattle.opl_draft.specs.Drafts.Sign.{plus, minus, times, quotient, remainder}
use Rattle.opl_draft.specs.Drafts.Steps.{no_steps, more_steps}
use Rattle.opl_draft.specs.Instances.{condition_of}
use Rattle.opl_draft.specs.Laws.{SettledFaults, SettledInstances, SettledValues, arrays}
use Rattle.opl_draft.specs.Settled.{Agrees, Links, Settled, Tells, all_of, are_indices, divides, element_of, indexed, is_index, leaf, linked, multiplied, pair_of, settle, settled, settled_all, settled_cells, settled_leaves, settled_steps, stepped}
use Rattle.opl_draft.proofs.Instances.{instance_means}

-- ---- what is found

abbrev ok : {A : Type 0} → A → Found A
ok a = Ok a

ok-same : {A : Type 0} (x y : A) → ok x ≡ ok y → x ≡ y
ok-same x y e = cc

then-parts : {A B : Type 0} (r : Found A) (f : A → Found B) (z : B) → then r f ≡ Ok z → (y : A) × (r ≡ Ok y) × (f y ≡ Ok z)
then-parts (Ok y) f z e = (y, refl, e)
then-parts (Err fault) f z e = absurd (cc)

tells-then : {A B C D : Type 0} (P : A → B → Type 0) (Q : C → D → Type 0) (r : Found A) (g : A → Found C) (y : B) (z : D) → Tells P r y → ((a : A) → P a y → Tells Q (g a) z) → Tells Q (then r g) z
tells-then P Q (Ok a) g y z p h = h a p
tells-then P Q (Err fault) g y z p h = elim p [ ]

-- a part that is found
tells-found : {A B C D : Type 0} (P : A → B → Type 0) (Q : C → D → Type 0) (r : Found A) (g : A → C) (y : B) (z : D) → Tells P r y → ((a : A) → P a y → Q (g a) z) → Tells Q (found g r) z
tells-found P Q (Ok a) g y z p h = h a p
tells-found P Q (Err fault) g y z p h = elim p [ ]

-- ---- operands

settle-tells : {A : Type 0} (come : A → Found Value) (o : Option A) (y : A) (z : Value) → Agrees o y → come y ≡ Ok z → Tells Agrees (settle come o) z
settle-tells come None y z p e = tt
settle-tells come (Some a) y z p e = by (come a) (ap come p ∙ e)
  where
    by : (r : Found Value) → r ≡ Ok z → Tells Agrees (found (λ v. Some v) r) z
    by (Ok v) e = cc
    by (Err fault) e = absurd (cc)

pair-agrees : {A B : Type 0} (a : Option A) (b : Option B) (x : A) (y : B) → Agrees a x → Agrees b y → Agrees (pair_of a b) (x, y)
pair-agrees None b x y p q = tt
pair-agrees (Some a) None x y p q = tt
pair-agrees (Some a) (Some b) x y p q = λ i. (p i, q i)

-- each of a list agrees
abbrev Each : {A : Type 0} → List (Option A) → List A → Type 0
Each [] [] = Unit {0}
Each [] (y ∷ ys) = ⊥
Each (o ∷ os) [] = ⊥
Each (o ∷ os) (y ∷ ys) = Agrees o y × Each os ys

all-agrees : {A : Type 0} (os : List (Option A)) (ys : List A) → Each os ys → Agrees (all_of os) ys
all-agrees [] [] h = refl
all-agrees [] (y ∷ ys) h = elim h [ ]
all-agrees (o ∷ os) [] h = elim h [ ]
all-agrees {A = A} (o ∷ os) (y ∷ ys) h = by (pair_of o (all_of os)) (pair-agrees o (all_of os) y ys h.0 (all-agrees os ys h.1))
  where
    by : (p : Option (A × List A)) → Agrees p (y, ys) → Agrees (option_map (λ p. p.0 ∷ p.1) p) (y ∷ ys)
    by None h = tt
    by (Some p) h = λ i. (h i).0 ∷ (h i).1

each-more : {A : Type 0} (os : List (Option A)) (ys : List A) (o : Option A) (y : A) → Each os ys → Agrees o y → Each (os ++ o ∷ []) (ys ++ y ∷ [])
each-more [] [] o y h p = (p, tt)
each-more [] (z ∷ ys) o y h p = elim h [ ]
each-more (u ∷ os) [] o y h p = elim h [ ]
each-more (u ∷ os) (z ∷ ys) o y h p = (h.0, each-more os ys o y h.1 p)

-- ---- chains

run-append : (at : ℕ) (m : ℤ) (xs ys : List Operation) → run at m (xs ++ ys) ≡ then (run at m xs) (λ k. run at k ys)
run-append at m [] ys = refl
run-append at m (o ∷ xs) ys = by (λ k. run-append at k xs ys) (applied at m o)
  where
    by : ((k : ℤ) → run at k (xs ++ ys) ≡ then (run at k xs) (λ k. run at k ys)) → (r : Found ℤ) → then r (λ k. run at k (xs ++ ys)) ≡ then (then r (λ k. run at k xs)) (λ k. run at k ys)
    by again (Ok k) = again k
    by again (Err fault) = refl

number-Int : (n : ℤ) → number (values.Int n) ≡ n
number-Int n = ap number_layer (values.outs-Int n)

linked-tells : (at : ℕ) (links : Links) (start : Value) (done : List Operation) (n : ℤ) → Agrees links.0 start → Each links.1 done → run at (number start) done ≡ Ok n → Tells Agrees (linked at links) (values.Int n)
linked-tells at links start done n p q e =
    settle-tells (λ p. integer (run at (number p.0) p.1)) (pair_of links.0 (all_of links.1)) (start, done) (values.Int n) (pair-agrees links.0 (all_of links.1) start done p (all-agrees links.1 done q)) (ap integer e)

no-quotient : (at : ℕ) (sign : Sign) (m b n : ℤ) → (divides sign && int_eq b (pos 0)) ≡ true → run at m (operation sign b ∷ []) ≡ Ok n → ⊥
no-quotient at plus m b n h e = cc
no-quotient at minus m b n h e = cc
no-quotient at times m b n h e = cc
no-quotient at quotient m b n h e = by (int_eq b (pos 0)) h e
  where
    by : (z : Bool) → z ≡ true → then (cond z (Err (DivByZero at)) (sized at (int_div m b))) (λ k. Ok k) ≡ Ok n → ⊥
    by true h e = cc
    by false h e = cc
no-quotient at remainder m b n h e = by (int_eq b (pos 0)) h e
  where
    by : (z : Bool) → z ≡ true → then (cond z (Err (DivByZero at)) (sized at (m -ℤ b *ℤ int_div m b))) (λ k. Ok k) ≡ Ok n → ⊥
    by true h e = cc
    by false h e = cc

multiplied-tells : (at : ℕ) (sign : Sign) (a v : Option Value) (start w : Value) (n : ℤ) → Agrees a start → Agrees v w → run at (number start) (operation sign (number w) ∷ []) ≡ Ok n →
    Tells Agrees (multiplied at sign a v) (values.Int n)
multiplied-tells at sign a None start w n p q e = tt
multiplied-tells at sign a (Some b) start w n p q e =
    let f : run at (number start) (operation sign (number b) ∷ []) ≡ Ok n = ap (λ v. run at (number start) (operation sign (number v) ∷ [])) q ∙ e in
    by (divides sign && int_eq (number b) (pos 0)) refl f
  where
    by : (z : Bool) → (divides sign && int_eq (number b) (pos 0)) ≡ z → run at (number start) (operation sign (number b) ∷ []) ≡ Ok n →
        Tells Agrees (cond z (Err (DivByZero at)) (settle (λ v. integer (run at (number v) (operation sign (number b) ∷ []))) a)) (values.Int n)
    by true z f = elim (no-quotient at sign (number start) (number b) n z f) [ ]
    by false z f = settle-tells (λ v. integer (run at (number v) (operation sign (number b) ∷ []))) a start (values.Int n) p (ap integer f)

-- what links tell of the number of a whole chain
abbrev Whole : ℕ → Links → ℤ → Type 0
Whole at links n = Tells Agrees (linked at links) (values.Int n)

-- a rest of a chain that tells its number, wherever it begins
abbrev Rest : ℕ → List Operation → ℤ → (Links → Found Links) → Type 0
Rest at os n rest = (links : Links) (start : Value) (done : List Operation) → Agrees links.0 start → Each links.1 done → run at (number start) (done ++ os) ≡ Ok n → Tells (Whole at) (rest links) n

-- one operand more of a sum
summand-tells : (at : ℕ) (links : Links) (o : Option Operation) (start : Value) (done : List Operation) (op : Operation) (os : List Operation) (n : ℤ) (rest : Links → Found Links) →
    Agrees links.0 start → Each links.1 done → Agrees o op → run at (number start) (done ++ op ∷ os) ≡ Ok n → Rest at os n rest → Tells (Whole at) (rest (links.0, links.1 ++ o ∷ [])) n
summand-tells at links o start done op os n rest p q a e r =
    r (links.0, links.1 ++ o ∷ []) start (done ++ op ∷ []) p (each-more links.1 done o op q a) (ap (run at (number start)) (append_assoc done (op ∷ []) os) ∙ e)

-- one operand more of a product
factor-tells : (at : ℕ) (sign : Sign) (links : Links) (v : Option Value) (start : Value) (done : List Operation) (w : Value) (os : List Operation) (n : ℤ) (rest : Links → Found Links) →
    Agrees links.0 start → Each links.1 done → Agrees v w → run at (number start) (done ++ operation sign (number w) ∷ os) ≡ Ok n → Rest at os n rest →
    Tells (Whole at) (then (then (linked at links) (λ a. found (λ b. (b, [])) (multiplied at sign a v))) rest) n
factor-tells at sign links v start done w os n rest p q a e r =
    let op : Operation = operation sign (number w) in
    let x = then-parts (run at (number start) done) (λ k. run at k (op ∷ os)) n (sym (run-append at (number start) done (op ∷ os)) ∙ e) in
    let y = then-parts (applied at x.0 op) (λ k. run at k os) n x.2 in
    let made : run at (number (values.Int x.0)) (op ∷ []) ≡ Ok y.0 = ap (λ k. then (applied at k op) (λ k. Ok k)) (number-Int x.0) ∙ ap (λ r. then r (λ k. Ok k)) y.1 in
    tells-then (λ more z. Agrees more.0 z × Each more.1 []) (Whole at) (then (linked at links) (λ a. found (λ b. (b, [])) (multiplied at sign a v))) rest (values.Int y.0) n
    (tells-then Agrees (λ more z. Agrees more.0 z × Each more.1 []) (linked at links) (λ a. found (λ b. (b, [])) (multiplied at sign a v)) (values.Int x.0) (values.Int y.0)
    (linked-tells at links start done x.0 p q x.1)
    (λ b c. tells-found Agrees (λ more z. Agrees more.0 z × Each more.1 []) (multiplied at sign b v) (λ b. (b, [])) (values.Int y.0) (values.Int y.0) (multiplied-tells at sign b v (values.Int x.0) w y.0 c a made) (λ b c. (c, tt))))
    (λ more c. r more (values.Int y.0) [] c.0 c.1 (ap (λ k. run at k os) (number-Int y.0) ∙ y.2))

operand-agrees : (sign : Sign) (v : Option Value) (w : Value) → Agrees v w → Agrees (option_map (λ v. operation sign (number v)) v) (operation sign (number w))
operand-agrees sign None w h = tt
operand-agrees sign (Some v) w h = λ i. operation sign (number (h i))

stepped-tells : (at : ℕ) (sign : Sign) (links : Links) (v : Option Value) (start : Value) (done : List Operation) (w : Value) (os : List Operation) (n : ℤ) (rest : Links → Found Links) →
    Agrees links.0 start → Each links.1 done → Agrees v w → run at (number start) (done ++ operation sign (number w) ∷ os) ≡ Ok n → Rest at os n rest → Tells (Whole at) (then (stepped at sign links v) rest) n
stepped-tells at plus links v start done w os n rest p q a e r = summand-tells at links (option_map (λ v. operation plus (number v)) v) start done (operation plus (number w)) os n rest p q (operand-agrees plus v w a) e r
stepped-tells at minus links v start done w os n rest p q a e r = summand-tells at links (option_map (λ v. operation minus (number v)) v) start done (operation minus (number w)) os n rest p q (operand-agrees minus v w a) e r
stepped-tells at times links v start done w os n rest p q a e r = factor-tells at times links v start done w os n rest p q a e r
stepped-tells at quotient links v start done w os n rest p q a e r = factor-tells at quotient links v start done w os n rest p q a e r
stepped-tells at remainder links v start done w os n rest p q a e r = factor-tells at remainder links v start done w os n rest p q a e r

-- ---- arrays

joint-none : (n : ℕ) (p : Option ℕ) → joint n p None ≡ None
joint-none n None = refl
joint-none n (Some p) = refl

-- a key with a part that is no index has no place
no-place : (dims : List (List Value)) (os : List (Option Value)) (key : List Value) → Each os key → are_indices dims os ≡ false → place_of dims key ≡ None
no-place [] os key h e = absurd (cc)
no-place (dim ∷ dims) [] key h e = absurd (cc)
no-place (dim ∷ dims) (o ∷ os) [] h e = elim h [ ]
no-place (dim ∷ dims) (o ∷ os) (v ∷ key) h e = by (is_index dim o) refl (no-place dims os key h.1) e
  where
    missing : (o : Option Value) → Agrees o v → is_index dim o ≡ false → place_in v dim ≡ None
    missing None a e = absurd (cc)
    missing (Some u) a e = none (place_in v dim) (ap (λ u. is_some (place_in u dim)) (sym a) ∙ e)
      where
        none : (p : Option ℕ) → is_some p ≡ false → p ≡ None
        none None e = refl
        none (Some p) e = absurd (cc)

    by : (b : Bool) → is_index dim o ≡ b → (are_indices dims os ≡ false → place_of dims key ≡ None) → (b && are_indices dims os) ≡ false → joint (elements dims) (place_in v dim) (place_of dims key) ≡ None
    by true f again e = ap (joint (elements dims) (place_in v dim)) (again e) ∙ joint-none (elements dims) (place_in v dim)
    by false f again e = ap (λ p. joint (elements dims) p (place_of dims key)) (missing o h.0 f)

some-tells : (r : Found Value) (z : Value) → r ≡ Ok z → Tells Agrees (found (λ v. Some v) r) z
some-tells (Ok v) z e = cc
some-tells (Err fault) z e = absurd (cc)

module _ (arrays : List Cells) (ns : List ℤ) where
  leaf-tells : (at : ℕ) (l : Leaves) (place : Option ℕ) (z : Value) → at_place at (leaf_values arrays ns l) place ≡ Ok z → Tells Agrees (leaf at l place) z
  leaf-tells at (listed vs) place z e = some-tells (at_place at vs place) z e
  leaf-tells at (numbered kind x n) None z e = absurd (cc)
  leaf-tells at (numbered kind x n) (Some p) z e = tt

  indexed-tells : (at : ℕ) (a : Option Cells) (os : List (Option Value)) (key : List Value) (z : Value) → Each os key → chosen arrays ns at a key ≡ Ok z → Tells Agrees (indexed at a os) z
  indexed-tells at None os key z h e = tt
  indexed-tells at (Some a) os key z h e = by (are_indices a.dims os) refl
    where
      known : (o : Option (List Value)) → Agrees o key → Tells Agrees (element_of at a o) z
      known None k = tt
      known (Some k) same = leaf-tells at a.leaves (place_of a.dims k) z (ap (λ k. at_place at (leaf_values arrays ns a.leaves) (place_of a.dims k)) same ∙ e)

      by : (b : Bool) → are_indices a.dims os ≡ b → Tells Agrees (cond b (element_of at a (all_of os)) (Err (OutOfIndex at))) z
      by true f = known (all_of os) (all-agrees os key h)
      by false f = fails (ap (at_place at (leaf_values arrays ns a.leaves)) (sym (no-place a.dims os key h f)) ∙ e)
        where
          fails : Err (OutOfIndex at) ≡ Ok z → ⊥
          fails e = cc

  leaves-tell : (l : Leaves) (z : Value) → ok (values.Bool (all_different (leaf_values arrays ns l))) ≡ Ok z → Agrees (settled_leaves l) z
  leaves-tell (listed vs) z e = cc
  leaves-tell (numbered kind x zero) z e = cc
  leaves-tell (numbered kind x (suc n)) z e = tt

  cells-tell : (a : Option Cells) (z : Value) → ok (values.Bool (are_different arrays ns a)) ≡ Ok z → Agrees (settled_cells a) z
  cells-tell None z e = cc
  cells-tell (Some a) z e = leaves-tell a.leaves z e

  same-array : (k : Option ℕ) → array_at arrays [] k ≡ array_at arrays ns k
  same-array None = refl
  same-array (Some k) = refl

  -- ---- drafts

  -- two operands, and several
  two-tell : (come : Value × Value → Found Value) (d e : Draft) (y w z : Value) → Tells Agrees (settled arrays d) y → Tells Agrees (settled arrays e) w → come (y, w) ≡ Ok z →
      Tells Agrees (then (settled arrays d) (λ v. then (settled arrays e) (λ u. settle come (pair_of v u)))) z
  two-tell come d e y w z p q c =
      tells-then Agrees Agrees (settled arrays d) (λ v. then (settled arrays e) (λ u. settle come (pair_of v u))) y z p
      (λ o a. tells-then Agrees Agrees (settled arrays e) (λ u. settle come (pair_of o u)) w z q (λ u b. settle-tells come (pair_of o u) (y, w) z (pair-agrees o u y w a b) c))

  several-tell : (come : List Value → Found Value) (ds : Drafts) (ys : List Value) (z : Value) → Tells Each (settled_all arrays ds) ys → come ys ≡ Ok z →
      Tells Agrees (then (settled_all arrays ds) (λ vs. settle come (all_of vs))) z
  several-tell come ds ys z p c = tells-then Each Agrees (settled_all arrays ds) (λ vs. settle come (all_of vs)) ys z p (λ os h. settle-tells come (all_of os) ys z (all-agrees os ys h) c)

  one-tells : (come : Value → Found Value) (d : Draft) (y z : Value) → Tells Agrees (settled arrays d) y → come y ≡ Ok z → Tells Agrees (then (settled arrays d) (settle come)) z
  one-tells come d y z p c = tells-then Agrees Agrees (settled arrays d) (settle come) y z p (λ o a. settle-tells come o y z a c)

  truth-parts : (r : Found (List Value)) (f : List Value → Bool) (z : Value) → truth (found f r) ≡ Ok z → (ys : List Value) × (r ≡ Ok ys) × (ok (values.Bool (f ys)) ≡ Ok z)
  truth-parts (Ok ys) f z e = (ys, refl, e)
  truth-parts (Err fault) f z e = absurd (cc)

  mutual
    pub settled-tells : (d : Draft) (z : Value) → draft_value arrays ns d ≡ Ok z → Tells Agrees (settled arrays d) z
    settled-tells (Draft.known at v) z e = cc
    settled-tells (Draft.broken fault) z e = absurd (cc)
    settled-tells (Draft.variable at x kind) z e = tt
    settled-tells (Draft.negated at d) z e =
        let p = then-parts (draft_value arrays ns d) (λ v. integer (negative at (number v))) z e in
        one-tells (λ v. integer (negative at (number v))) d p.0 z (settled-tells d p.0 p.1) p.2
    settled-tells (Draft.chain at d ss) z e =
        let p = then-parts (draft_value arrays ns d) (λ v. then (step_values arrays ns ss) (λ os. integer (run at (number v) os))) z e in
        let q = then-parts (step_values arrays ns ss) (λ os. integer (run at (number p.0) os)) z p.2 in
        let r = then-parts (run at (number p.0) q.0) (λ n. Ok (values.Int n)) z q.2 in
        let same : values.Int r.0 ≡ z = ok-same (values.Int r.0) z r.2 in
        subst (Tells Agrees (settled arrays (Draft.chain at d ss))) same
        (tells-then Agrees Agrees (settled arrays d) (λ v. then (settled_steps arrays at (v, []) ss) (linked at)) p.0 (values.Int r.0) (settled-tells d p.0 p.1)
        (λ o a. tells-then (Whole at) Agrees (settled_steps arrays at (o, []) ss) (linked at) r.0 (values.Int r.0) (steps-tell ss at (o, []) p.0 [] q.0 r.0 a tt q.1 r.1) (λ links w. w)))
    settled-tells (Draft.related at r d f) z e =
        let p = then-parts (draft_value arrays ns d) (λ v. then (draft_value arrays ns f) (λ w. Ok (values.Bool (relates r v w)))) z e in
        let q = then-parts (draft_value arrays ns f) (λ w. Ok (values.Bool (relates r p.0 w))) z p.2 in
        two-tell (λ p. Ok (values.Bool (relates r p.0 p.1))) d f p.0 q.0 z (settled-tells d p.0 p.1) (settled-tells f q.0 q.1) q.2
    settled-tells (Draft.equivalent at ds) z e =
        let p = truth-parts (draft_values arrays ns ds) evaluation.equivalent z e in
        several-tell (λ vs. Ok (values.Bool (evaluation.equivalent vs))) ds p.0 z (all-tell ds p.0 p.1) p.2
    settled-tells (Draft.implied at d f) z e =
        let p = then-parts (draft_value arrays ns d) (λ v. then (draft_value arrays ns f) (λ w. Ok (values.Bool (not (is_true v) || is_true w)))) z e in
        let q = then-parts (draft_value arrays ns f) (λ w. Ok (values.Bool (not (is_true p.0) || is_true w))) z p.2 in
        two-tell (λ p. Ok (values.Bool (not (is_true p.0) || is_true p.1))) d f p.0 q.0 z (settled-tells d p.0 p.1) (settled-tells f q.0 q.1) q.2
    settled-tells (Draft.one_of at ds) z e =
        let p = truth-parts (draft_values arrays ns ds) (list_any is_true) z e in
        several-tell (λ vs. Ok (values.Bool (list_any is_true vs))) ds p.0 z (all-tell ds p.0 p.1) p.2
    settled-tells (Draft.all_of at ds) z e =
        let p = truth-parts (draft_values arrays ns ds) (list_all is_true) z e in
        several-tell (λ vs. Ok (values.Bool (list_all is_true vs))) ds p.0 z (all-tell ds p.0 p.1) p.2
    settled-tells (Draft.opposite at d) z e =
        let p = then-parts (draft_value arrays ns d) (λ v. Ok (values.Bool (not (is_true v)))) z e in
        one-tells (λ v. Ok (values.Bool (not (is_true v)))) d p.0 z (settled-tells d p.0 p.1) p.2
    settled-tells (Draft.aggregate at op ds) z e =
        let p = then-parts (draft_values arrays ns ds) (λ vs. integer (evaluation.aggregate op at (map number vs))) z e in
        several-tell (λ vs. integer (evaluation.aggregate op at (map number vs))) ds p.0 z (all-tell ds p.0 p.1) p.2
    settled-tells (Draft.absolute at d) z e =
        let p = then-parts (draft_value arrays ns d) (λ v. integer (absolute at (number v))) z e in
        one-tells (λ v. integer (absolute at (number v))) d p.0 z (settled-tells d p.0 p.1) p.2
    settled-tells (Draft.different at a) z e = cells-tell a z e
    settled-tells (Draft.element at k ds) z e =
        let p = then-parts (draft_values arrays ns ds) (chosen arrays ns at (array_at arrays ns k)) z e in
        tells-then Each Agrees (settled_all arrays ds) (indexed at (array_at arrays [] k)) p.0 z (all-tell ds p.0 p.1)
        (λ os h. indexed-tells at (array_at arrays [] k) os p.0 z h (ap (λ a. chosen arrays ns at a p.0) (same-array k) ∙ p.2))

    all-tell : (ds : Drafts) (zs : List Value) → draft_values arrays ns ds ≡ Ok zs → Tells Each (settled_all arrays ds) zs
    all-tell no_drafts zs e = subst (Each []) (ok-same [] zs e) tt
    all-tell (more_drafts d ds) zs e =
        let p = then-parts (draft_value arrays ns d) (λ x. found (λ xs. x ∷ xs) (draft_values arrays ns ds)) zs e in
        let q = then-parts (draft_values arrays ns ds) (λ xs. Ok (p.0 ∷ xs)) zs p.2 in
        tells-then Agrees Each (settled arrays d) (λ v. found (λ vs. v ∷ vs) (settled_all arrays ds)) p.0 zs (settled-tells d p.0 p.1)
        (λ o a. tells-found Each Each (settled_all arrays ds) (λ vs. o ∷ vs) q.0 zs (all-tell ds q.0 q.1) (λ os h. subst (Each (o ∷ os)) (ok-same (p.0 ∷ q.0) zs q.2) (a, h)))

    steps-tell : (ss : Steps) (at : ℕ) (links : Links) (start : Value) (done os : List Operation) (n : ℤ) → Agrees links.0 start → Each links.1 done → step_values arrays ns ss ≡ Ok os →
        run at (number start) (done ++ os) ≡ Ok n → Tells (Whole at) (settled_steps arrays at links ss) n
    steps-tell no_steps at links start done os n p q f e =
        linked-tells at links start done n p q (ap (run at (number start)) (sym (append-nil done) ∙ ap (λ os. done ++ os) (ok-same [] os f)) ∙ e)
    steps-tell (more_steps sign d ss) at links start done os n p q f e =
        let x = then-parts (found (λ v. operation sign (number v)) (draft_value arrays ns d)) (λ x. found (λ xs. x ∷ xs) (step_values arrays ns ss)) os f in
        let y = then-parts (draft_value arrays ns d) (λ v. Ok (operation sign (number v))) x.0 x.1 in
        let w = then-parts (step_values arrays ns ss) (λ xs. Ok (x.0 ∷ xs)) os x.2 in
        tells-then Agrees (Whole at) (settled arrays d) (λ v. then (stepped at sign links v) (λ more. settled_steps arrays at more ss)) y.0 n (settled-tells d y.0 y.1)
        (λ o a. stepped-tells at sign links o start done y.0 w.0 n (λ more. settled_steps arrays at more ss) p q a
        (ap (λ os. run at (number start) (done ++ os)) (joined (operation sign (number y.0)) x.0 w.0 os y.2 w.2) ∙ e)
        (λ more s t u v g. steps-tell ss at more s t w.0 n u v w.1 g))
      where
        joined : (a b : Operation) (xs ys : List Operation) → ok a ≡ Ok b → ok (b ∷ xs) ≡ Ok ys → a ∷ xs ≡ ys
        joined a b xs ys e f = cc

-- ---- laws

told : (r : Settled) (fault : EvalFault) (z : Value) → r ≡ Err fault → Tells Agrees r z → ⊥
told (Ok o) fault z e t = cc
told (Err g) fault z e t = t

pub settled_faults : SettledFaults
settled_faults arrays ns d fault z e f = told (settled arrays d) fault z e (settled-tells arrays ns d z f)

pub settled_values : SettledValues
settled_values arrays ns d v w e f = subst (λ r. Tells Agrees r w) e (settled-tells arrays ns d w f)

fails : (r : Found Value) → ((v : Value) → r ≡ Ok v → ⊥) → solutions.truth r ≡ false
fails (Ok v) h = elim (h v refl) [ ]
fails (Err fault) h = refl

pub settled_instances : SettledInstances
settled_instances items names ns env i fault declares fits clean e =
    instance_means items names ns env i declares fits clean
    ∙ fails (draft_value (arrays env items) ns (condition_of items names env i).draft) (λ v f. settled_faults (arrays env items) ns (condition_of items names env i).draft fault v e f)
