-- The cell that subscripts name, and the pairs of an `alldifferent`, as the code finds them.
use Rattle.std.proofs.Common.{◌≡◌, ◌⊎◌, cond, max, ℕ, zero, suc, ◌+◌, ◌-◌, ◌*◌, ◌/◌, ◌≤◌, ◌<◌, Bool, true, false, ◌&&◌, refl, List, [], ◌∷◌, ◌++◌, map, length, get_or, take, drop, ℤ, pos, negsuc, ◌+ℤ◌, ◌*ℤ◌, ap, sym, ◌∙◌, subst, arith, length-append, inl, inr}
use Rattle.std.specs.List.{list_all, flat_map}
use Rattle.std.specs.Prelude.{Option, Some, None, not, int_le, int_lt}
use Rattle.std.specs.Ordering.{int_eq}
use Rattle.std.proofs.Math.Nat.{mul-le-mul_right, mul-div_cancel_left}
use Rattle.std.proofs.lemmas.Int.{ints}
use Rattle.opl_domain.specs.Family.{member}
use Rattle.opl_domain.proofs.Members.{same_int}
use Rattle.opl_expr.specs.declared.forms.Op.TheVariants.{Ne}
use Rattle.opl_expr.specs.declared.tables.Cell.{Cell}
use Rattle.opl_expr.specs.declared.tables.Use.{Use}
use Rattle.opl_expr.specs.declared.tables.Resource.{Resource}
use Rattle.opl_expr.specs.Forms.{Relation, Term, Fact, terms_of, demand_at, capacity_at}
use Rattle.opl_expr.specs.Options.{lift, lift1, lift_all, lift_onto, joined}
use Rattle.opl_expr.specs.Range.{taken, chosen, masks, pairwise}
use Rattle.opl_expr.specs.Holds.{value, holds, all_values, op_relates, is_index, cell_value, place_in, relates, bit, value_at, demand_of, total_demand}
use Rattle.opl_expr.specs.Laws.{all_differ}
use Rattle.opl_expr.specs.Sound.{IsSmall, AreSoundTerms, IsSoundFact, FitDimensions, keys, is_there, sum_magnitude, UsesThere, demands}
use Rattle.opl_expr.proofs.SingleValues.{none, not_any, same_all, flat_none, chosen_none, absent, none_index, not_true, both}
use Rattle.opl_expr.proofs.Parts.{drop_at, one_less}

-- ---- pairs

pub onto_append : {A : Type 0} (f : A → A → A) (e : A) (xs ys : List (Option A)) → lift_all f e (xs ++ ys) ≡ lift_onto f xs (lift_all f e ys)
onto_append f e [] ys = refl
onto_append f e (x ∷ xs) ys = ap (lift f x) (onto_append f e xs ys)

values_mapped : {B : Type 0} (f : Option ℤ → B) (a : List ℤ) (ts : List Term) → map f (all_values a (terms_of ts)) ≡ map (λ b. f (value a b)) ts
values_mapped f a [] = refl
values_mapped f a (t ∷ ts) = ap (λ r. f (value a t) ∷ r) (values_mapped f a ts)

pub differ_more : (a : List ℤ) (t : Term) (ts : List Term) → holds a (Fact.different (terms_of (t ∷ ts)))
    ≡ lift (λ b c. b && c) (lift1 (λ v. true) (value a t)) (lift_onto (λ b c. b && c) (map (λ b. lift (op_relates Ne) (value a t) (value a b)) ts) (holds a (Fact.different (terms_of ts))))
differ_more a t ts =
    ap (lift (λ b c. b && c) (lift1 (λ v. true) (value a t)))
    (onto_append (λ b c. b && c) true (map (lift (op_relates Ne) (value a t)) (all_values a (terms_of ts))) (pairwise (lift1 (λ v. true)) (lift (op_relates Ne)) (all_values a (terms_of ts)))
    ∙ ap (λ ps. lift_onto (λ b c. b && c) ps (holds a (Fact.different (terms_of ts)))) (values_mapped (lift (op_relates Ne) (value a t)) a ts))

map_map : {A B C : Type 0} (g : B → C) (f : A → B) (xs : List A) → map g (map f xs) ≡ map (λ x. g (f x)) xs
map_map g f [] = refl
map_map g f (x ∷ xs) = ap (λ r. g (f x) ∷ r) (map_map g f xs)

pub differ_step : {X : Type 0} (a : List ℤ) (f : X → Term) (xs : List X) (L : ℕ) (x : X) (ys : List X) → 0 < L → L ≤ length xs → x ≡ get_or xs (L - 1) x → ys ≡ drop L xs → (q s : Option Bool)
    → (r : Option ℤ) → r ≡ value a (f x) → q ≡ holds a (Fact.different (terms_of (map f (drop L xs))))
    → s ≡ lift (λ b c. b && c) (lift1 (λ v. true) r) (lift_onto (λ b c. b && c) (map (λ e. lift (op_relates Ne) r (value a (f e))) ys) q)
    → s ≡ holds a (Fact.different (terms_of (map f (drop (L - 1) xs))))
differ_step a f xs L x ys p h e y q s r i j k =
    let d = subst (λ k. drop (L - 1) xs ≡ x ∷ drop k xs) (one_less L p) (drop_at xs (L - 1) x (omega arith) e) in
    let m = differ_more a (f x) (map f (drop L xs)) in
    let n = map_map (λ b. lift (op_relates Ne) (value a (f x)) (value a b)) f (drop L xs) in
    rw d (rw m (rw n (rw (sym j) (rw (sym i) (rw (sym y) k)))))

-- ---- the blocks of a table

chosen_empty : (bs : List Bool) → chosen {C = Cell} bs [] ≡ []
chosen_empty [] = refl
chosen_empty (b ∷ bs) = refl

chosen_append : (xs ys : List Bool) (cells : List Cell) → chosen (xs ++ ys) cells ≡ chosen xs (take (length xs) cells) ++ chosen ys (drop (length xs) cells)
chosen_append [] ys cells = refl
chosen_append (b ∷ xs) ys [] = sym (chosen_empty ys)
chosen_append (true ∷ xs) ys (c ∷ cells) = ap (λ r. c ∷ r) (chosen_append xs ys cells)
chosen_append (false ∷ xs) ys (c ∷ cells) = chosen_append xs ys cells

length_anded : (b : Bool) (T : List Bool) → length (map (λ c. b && c) T) ≡ length T
length_anded b [] = refl
length_anded b (t ∷ T) = ap suc (length_anded b T)

drop_drop : {X : Type 0} (xs : List X) (m n : ℕ) → drop n (drop m xs) ≡ drop (m + n) xs
drop_drop xs zero n = let e : 0 + n ≡ n = omega arith in rw e refl
drop_drop [] (suc m) zero = let e : suc m + 0 ≡ suc (m + 0) = omega arith in rw e refl
drop_drop [] (suc m) (suc n) = let e : suc m + suc n ≡ suc (m + suc n) = omega arith in rw e refl
drop_drop (x ∷ xs) (suc m) n = let e : suc m + n ≡ suc (m + n) = omega arith in rw e (drop_drop xs m n)

append_nothing : {X : Type 0} (xs : List X) → xs ++ [] ≡ xs
append_nothing [] = refl
append_nothing (x ∷ xs) = ap (λ r. x ∷ r) (append_nothing xs)

abbrev rows : List Bool → List Bool → List Bool
rows T bs = flat_map (λ b. map (λ c. b && c) T) bs

place_cases : (v w : ℤ) (dim : List ℤ) (p : ℕ) → place_in v (w ∷ dim) ≡ Some p → ((int_eq v w ≡ true) × (p ≡ 0)) ⊎ ((int_eq v w ≡ false) × ((q : ℕ) × (p ≡ suc q) × (place_in v dim ≡ Some q)))
place_cases v w dim p e = elim (int_eq v w) as (λ b. int_eq v w ≡ b → cond b (Some 0) (lift1 suc (place_in v dim)) ≡ Some p → ((int_eq v w ≡ true) × (p ≡ 0)) ⊎ ((int_eq v w ≡ false) × ((q : ℕ) × (p ≡ suc q) × (place_in v dim ≡ Some q)))) [
  | true ↦ λ f g. inl (f, cc)
  | false ↦ λ f g. inr (f, later (place_in v dim) g)
] refl e
  where
    later : (o : Option ℕ) → lift1 suc o ≡ Some p → (q : ℕ) × (p ≡ suc q) × (o ≡ Some q)
    later None g = cc
    later (Some q) g = (q, cc, refl)

-- the cells of the block of one index
block : (v : ℤ) (T : List Bool) (dim : List ℤ) (p : ℕ) (cells : List Cell) → all_differ dim ≡ true → place_in v dim ≡ Some p → chosen (rows T (map (int_eq v) dim)) cells ≡ chosen T (take (length T) (drop (p * length T) cells))
block v T [] p cells d e = cc
block v T (w ∷ dim) p cells d e =
    let k = both (not (member w dim)) (all_differ dim) d in
    elim (place_cases v w dim p e) [
      | inl q ↦
          let away = absent v dim (subst (λ u. member u dim ≡ false) (sym (same_int v w q.0)) (not_true (member w dim) k.0)) in
          let z : p * length T ≡ 0 = ap (λ n. n * length T) q.1 ∙ omega arith in
          rw (q.0, chosen_append (map (λ c. true && c) T) (rows T (map (int_eq v) dim)) cells, same_all T, chosen_none (rows T (map (int_eq v) dim)) (drop (length T) cells) (flat_none T (map (int_eq v) dim) away), z)
          (append_nothing (chosen T (take (length T) cells)))
      | inr q ↦
          let n : length T + q.1.0 * length T ≡ p * length T = rw q.1.1 (omega arith) in
          rw (
            q.0,
            chosen_append (map (λ c. false && c) T) (rows T (map (int_eq v) dim)) cells,
            length_anded false T,
            chosen_none (map (λ c. false && c) T) (take (length T) cells) (not_any T),
            block v T dim q.1.0 (drop (length T) cells) k.1 q.1.2,
            drop_drop cells (length T) (q.1.0 * length T),
            n,
          ) refl
    ]

nowhere : (v : ℤ) (dim : List ℤ) → place_in v dim ≡ None → none (map (int_eq v) dim) ≡ true
nowhere v [] e = refl
nowhere v (w ∷ dim) e = elim (int_eq v w) as (λ b. int_eq v w ≡ b → cond b (Some 0) (lift1 suc (place_in v dim)) ≡ None → cond b false (none (map (int_eq v) dim)) ≡ true) [
  | true ↦ λ f g. cc
  | false ↦ λ f g. nowhere v dim (nothing (place_in v dim) g)
] refl e
  where
    nothing : (o : Option ℕ) → lift1 suc o ≡ None → o ≡ None
    nothing None g = refl
    nothing (Some q) g = cc

length_rows : (T bs : List Bool) → length (rows T bs) ≡ length bs * length T
length_rows T [] = omega arith
length_rows T (b ∷ bs) = length-append (map (λ c. b && c) T) (rows T bs) ∙ (let l = length_anded b T in let r = length_rows T bs in omega (arith, l, r))

length_map : {A B : Type 0} (f : A → B) (xs : List A) → length (map f xs) ≡ length xs
length_map f [] = refl
length_map f (x ∷ xs) = ap suc (length_map f xs)

pub length_taken : (dims : List (List ℤ)) (os : List (Option ℤ)) → length os ≡ length dims → length (taken (masks is_index dims os)) ≡ keys dims
length_taken [] os e = refl
length_taken (dim ∷ dims) [] e = absurd (omega arith)
length_taken (dim ∷ dims) (o ∷ os) e =
    length_rows (taken (masks is_index dims os)) (map (is_index o) dim) ∙ rw (length_map (is_index o) dim, length_taken dims os (omega arith)) refl

-- what the subscripts reach in the cells
abbrev pub reached : List ℤ → List (List ℤ) → List (Option ℤ) → List Cell → Option ℤ
reached a dims os cells = joined (λ v w. v) (map (cell_value a) (chosen (taken (masks is_index dims os)) cells))

pub reach_some : (a : List ℤ) (dim : List ℤ) (dims : List (List ℤ)) (v : ℤ) (os : List (Option ℤ)) (cells : List Cell) (p : ℕ) → all_differ dim ≡ true → length os ≡ length dims → Some p ≡ place_in v dim
    → reached a dims os (take (keys dims) (drop (p * keys dims) cells)) ≡ reached a (dim ∷ dims) (Some v ∷ os) cells
reach_some a dim dims v os cells p d l e =
    let b = block v (taken (masks is_index dims os)) dim p cells d (sym e) in
    let n = length_taken dims os l in
    ap (λ cs. joined (λ v w. v) (map (cell_value a) cs)) (sym (b ∙ ap (λ k. chosen (taken (masks is_index dims os)) (take k (drop (p * k) cells))) n))

pub reach_none : (a : List ℤ) (dim : List ℤ) (dims : List (List ℤ)) (v : ℤ) (os : List (Option ℤ)) (cells : List Cell) → None ≡ place_in v dim → None ≡ reached a (dim ∷ dims) (Some v ∷ os) cells
reach_none a dim dims v os cells e =
    rw (chosen_none (rows (taken (masks is_index dims os)) (map (int_eq v) dim)) cells (flat_none (taken (masks is_index dims os)) (map (int_eq v) dim) (nowhere v dim (sym e)))) refl

pub reach_missing : (a : List ℤ) (dim : List ℤ) (dims : List (List ℤ)) (os : List (Option ℤ)) (cells : List Cell) → None ≡ reached a (dim ∷ dims) (None ∷ os) cells
reach_missing a dim dims os cells =
    rw (chosen_none (rows (taken (masks is_index dims os)) (map (is_index None) dim)) cells (flat_none (taken (masks is_index dims os)) (map (is_index None) dim) (none_index dim))) refl

-- one cell is left where no dimension is
pub reach_end : (a : List ℤ) (os : List (Option ℤ)) (cells : List Cell) (c : Cell) → length cells ≡ 1 → c ≡ get_or cells 0 c → Some (cell_value a c) ≡ reached a [] os cells
reach_end a os [] c l e = absurd (omega arith)
reach_end a os (d ∷ []) c l e = ap (λ x. Some (cell_value a x)) e
reach_end a os (d ∷ f ∷ cells) c l e = absurd (omega arith)

pub fit_length : {X : Type 0} (sets : List (ℤ × ℤ)) (f : X → Term) (dims : List (List ℤ)) (xs : List X) → FitDimensions sets dims (terms_of (map f xs)) → length xs ≡ length dims
fit_length sets f [] [] h = refl
fit_length sets f [] (x ∷ xs) h = absurd h
fit_length sets f (dim ∷ dims) [] h = absurd h
fit_length sets f (dim ∷ dims) (x ∷ xs) h = ap suc (fit_length sets f dims xs h.1)

pub length_values : {X : Type 0} (a : List ℤ) (f : X → Term) (xs : List X) → length (all_values a (terms_of (map f xs))) ≡ length xs
length_values a f [] = refl
length_values a f (x ∷ xs) = ap suc (length_values a f xs)

take_all : {X : Type 0} (xs : List X) → take (length xs) xs ≡ xs
take_all [] = refl
take_all (x ∷ xs) = ap (λ r. x ∷ r) (take_all xs)

length_taken_of : {X : Type 0} (xs : List X) (k : ℕ) → k ≤ length xs → length (take k xs) ≡ k
length_taken_of xs zero h = refl
length_taken_of [] (suc k) h = absurd (omega arith)
length_taken_of (x ∷ xs) (suc k) h = ap suc (length_taken_of xs k (omega arith))

length_dropped : {X : Type 0} (xs : List X) (k : ℕ) → length (drop k xs) + k ≡ max (length xs) k
length_dropped xs zero = omega arith
length_dropped [] (suc k) = omega arith
length_dropped (x ∷ xs) (suc k) = omega (arith, length_dropped xs k)

pub mul_block : (n k p : ℕ) → p < n → p * k + k ≤ n * k
mul_block n k p h = let s : suc p ≤ n = omega arith in omega (arith, mul-le-mul_right k s)

pub rest_is : {X : Type 0} (xs : List X) (L : ℕ) → take (length xs - L) (drop L xs) ≡ drop L xs
rest_is xs zero = let e : length xs - 0 ≡ length xs = omega arith in rw e (take_all xs)
rest_is [] (suc L) = let e : 0 - suc L ≡ 0 = omega arith in rw e refl
rest_is (x ∷ xs) (suc L) = let e : suc (length xs) - suc L ≡ length xs - L = omega arith in rw e (rest_is xs L)

pub place_below : (v : ℤ) (dim : List ℤ) (p : ℕ) → Some p ≡ place_in v dim → p < length dim
place_below v [] p e = cc
place_below v (w ∷ dim) p e = elim (place_cases v w dim p (sym e)) [
  | inl q ↦ omega (arith, q.1)
  | inr q ↦ omega (arith, q.1.1, place_below v dim q.1.0 (sym q.1.2))
]

-- a list that is not empty begins with its first element
pub first_and_rest : {X : Type 0} (xs : List X) (x : X) → 0 < length xs → x ≡ get_or xs 0 x → xs ≡ x ∷ take (length xs - 1) (drop 1 xs)
first_and_rest [] x h e = absurd (omega arith)
first_and_rest (y ∷ xs) x h e = let n : suc (length xs) - 1 ≡ length xs = omega arith in rw (n, take_all xs) (ap (λ z. z ∷ xs) (sym e))

pub there_at : (n : ℕ) (cells : List Cell) (k m : ℕ) → list_all (is_there n) cells ≡ true → list_all (is_there n) (take m (drop k cells)) ≡ true
there_at n cells zero zero e = refl
there_at n [] zero (suc m) e = refl
there_at n (c ∷ cells) zero (suc m) e = let b = both (is_there n c) (list_all (is_there n) cells) e in rw (b.0) (there_at n cells zero m b.1)
there_at n [] (suc k) m e = taken_nothing m
  where
    taken_nothing : (m : ℕ) → list_all (is_there n) (take m []) ≡ true
    taken_nothing zero = refl
    taken_nothing (suc m) = refl
there_at n (c ∷ cells) (suc k) m e = there_at n cells k m (both (is_there n c) (list_all (is_there n) cells) e).1

pub length_block : {X : Type 0} (cells : List X) (n k p : ℕ) → length cells ≡ n * k → p < n → length (take k (drop (p * k) cells)) ≡ k
length_block cells n k p e h =
    length_taken_of (drop (p * k) cells) k (omega (arith, length_dropped cells (p * k), mul_block n k p h, e))

-- ---- the steps of the code

pub block_is : {X : Type 0} (cells : List X) (n p k : ℕ) → p < n → length cells ≡ n * k
    → take ((p * (length cells / n) + length cells / n) - p * (length cells / n)) (drop (p * (length cells / n)) cells) ≡ take k (drop (p * k) cells)
block_is cells n p k h e =
    let size : length cells / n ≡ k = ap (λ m. m / n) e ∙ mul-div_cancel_left k (omega arith) in
    let one : (p * k + k) - p * k ≡ k = omega arith in
    rw (size, one) refl

module _ {X : Type 0} (a : List ℤ) (f : X → Term) where
  pub missing_part : (D D' : List (List ℤ)) (P P' : List X) (cells : List Cell) (dim : List ℤ) (part : X) (r : Option ℤ) → D ≡ dim ∷ D' → P ≡ part ∷ P' → None ≡ value a (f part) → r ≡ None → r ≡ reached a D (all_values a (terms_of (map f P))) cells
  missing_part D D' P P' cells dim part r d p v e =
      rw (d, p) (rw (sym v) (e ∙ reach_missing a dim D' (all_values a (terms_of (map f P'))) cells))

  pub missing_place : (D D' : List (List ℤ)) (P P' : List X) (cells : List Cell) (dim : List ℤ) (part : X) (r : Option ℤ) (v : ℤ) → D ≡ dim ∷ D' → P ≡ part ∷ P' → Some v ≡ value a (f part) → None ≡ place_in v dim → r ≡ None
      → r ≡ reached a D (all_values a (terms_of (map f P))) cells
  missing_place D D' P P' cells dim part r v d p s n e =
      rw (d, p) (rw (sym s) (e ∙ reach_none a dim D' v (all_values a (terms_of (map f P'))) cells n))

  pub next_block : (D D' : List (List ℤ)) (P P' : List X) (cells sub : List Cell) (dim : List ℤ) (part : X) (r : Option ℤ) (v : ℤ) (k : ℕ) → D ≡ dim ∷ D' → P ≡ part ∷ P' → length P ≡ length D → list_all all_differ D ≡ true
      → Some v ≡ value a (f part) → Some k ≡ place_in v dim → sub ≡ take (keys D') (drop (k * keys D') cells) → r ≡ reached a D' (all_values a (terms_of (map f P'))) sub → r ≡ reached a D (all_values a (terms_of (map f P))) cells
  next_block D D' P P' cells sub dim part r v k d p l c s n b e =
      let clear = both (all_differ dim) (list_all all_differ D') (subst (λ ds. list_all all_differ ds ≡ true) d c) in
      let long : length (all_values a (terms_of (map f P'))) ≡ length D' = omega (arith, length_values a f P', ap length p, ap length d, l) in
      rw (d, p) (rw (sym s) (e ∙ ap (reached a D' (all_values a (terms_of (map f P')))) b ∙ reach_some a dim D' v (all_values a (terms_of (map f P'))) cells k clear.0 long n))

-- ---- capacities

once : (d : ℤ) → d *ℤ pos 1 ≡ d
once (pos m) = omega (arith, ints)
once (negsuc m) = omega (arith, ints)

never : (d : ℤ) → d *ℤ pos 0 ≡ pos 0
never (pos m) = omega (arith, ints)
never (negsuc m) = omega (arith, ints)

demand_is : (a : List ℤ) (t : ℤ) (u : Use) → value a (demand_at t u) ≡ Some (demand_of a t u)
demand_is a t u =
    let e : value_at a u.start +ℤ (value_at a u.duration +ℤ pos 0) ≡ value_at a u.start +ℤ value_at a u.duration = omega (arith, ints) in
    rw e (cases (int_le (value_at a u.start) t) (int_lt t (value_at a u.start +ℤ value_at a u.duration)))
  where
    cases : (b c : Bool) → Some (u.demand *ℤ bit (b && (c && true))) ≡ Some (cond (b && c) u.demand (pos 0))
    cases true true = ap Some (once u.demand)
    cases true false = ap Some (never u.demand)
    cases false c = ap Some (never u.demand)

total_is : (a : List ℤ) (t : ℤ) (uses : List Use) → value a (Term.sum (terms_of (map (demand_at t) uses))) ≡ Some (total_demand a t uses)
total_is a t [] = refl
total_is a t (u ∷ uses) =
    ap (λ o. lift ◌+ℤ◌ o (value a (Term.sum (terms_of (map (demand_at t) uses))))) (demand_is a t u) ∙ ap (lift ◌+ℤ◌ (Some (demand_of a t u))) (total_is a t uses)

pub capacity_is : (a : List ℤ) (r : Resource) (t : ℤ) → Some (int_le (total_demand a t r.uses) r.capacity) ≡ holds a (capacity_at (Some r) t)
capacity_is a r t = ap (λ o. lift (relates Relation.at_most) o (Some r.capacity)) (sym (total_is a t r.uses))

demands_are : (sets : List (ℤ × ℤ)) (t : ℤ) (uses : List Use) → demands uses ≡ sum_magnitude sets (terms_of (map (demand_at t) uses))
demands_are sets t [] = refl
demands_are sets t (u ∷ uses) = omega (arith, demands_are sets t uses)

pub demands_small : (sets : List (ℤ × ℤ)) (r : Resource) (t : ℤ) → IsSoundFact sets (capacity_at (Some r) t) → IsSmall (demands r.uses)
demands_small sets r t s = omega (arith, s.1.0, demands_are sets t r.uses)

uses_there : (sets : List (ℤ × ℤ)) (t : ℤ) (uses : List Use) → AreSoundTerms sets (terms_of (map (demand_at t) uses)) → UsesThere (length sets) uses
uses_there sets t [] s = tt
uses_there sets t (u ∷ uses) s = (s.0.2.0.1.1, s.0.2.1.0.2.1.1.0.1, uses_there sets t uses s.1)

pub demands_there : (sets : List (ℤ × ℤ)) (r : Resource) (t : ℤ) (n : ℕ) → n ≡ length sets → IsSoundFact sets (capacity_at (Some r) t) → UsesThere n r.uses
demands_there sets r t n e s = subst (λ m. UsesThere m r.uses) (sym e) (uses_there sets t r.uses s.1.1)

-- ---- one dimension after another

-- the block that is left after the first k dimensions
pub record IsBlock {X : Type 0} (a : List ℤ) (f : X → Term) (n : ℕ) (dims : List (List ℤ)) (parts : List X) (cells block : List Cell) (k : ℕ) : Type 0 where
  pub size : length block ≡ keys (drop k dims)
  pub there : list_all (is_there n) block ≡ true
  pub same : reached a (drop k dims) (all_values a (terms_of (map f (drop k parts)))) block ≡ reached a dims (all_values a (terms_of (map f parts))) cells

pub first_block : {X : Type 0} (a : List ℤ) (f : X → Term) (n : ℕ) (dims : List (List ℤ)) (parts : List X) (cells : List Cell) → length cells ≡ keys dims → list_all (is_there n) cells ≡ true → IsBlock a f n dims parts cells cells 0
first_block a f n dims parts cells l t = record { size = l; there = t; same = refl }

all_from : (dims : List (List ℤ)) (k : ℕ) → list_all all_differ dims ≡ true → list_all all_differ (drop k dims) ≡ true
all_from dims zero e = e
all_from [] (suc k) e = refl
all_from (dim ∷ dims) (suc k) e = all_from dims k (both (all_differ dim) (list_all all_differ dims) e).1

same_rest : {X Y : Type 0} (xs : List X) (ys : List Y) (k : ℕ) → length xs ≡ length ys → length (drop k xs) ≡ length (drop k ys)
same_rest xs ys zero e = e
same_rest [] [] (suc k) e = refl
same_rest [] (y ∷ ys) (suc k) e = absurd (omega arith)
same_rest (x ∷ xs) [] (suc k) e = absurd (omega arith)
same_rest (x ∷ xs) (y ∷ ys) (suc k) e = same_rest xs ys k (omega arith)

module _ {X : Type 0} (a : List ℤ) (f : X → Term) (n : ℕ) (dims : List (List ℤ)) (parts : List X) (cells block : List Cell) (k : ℕ) (b : IsBlock a f n dims parts cells block k)
    (h : k < length dims) (l : length parts ≡ length dims) (dim : List ℤ) (part : X) (e : dim ≡ get_or dims k dim) (q : part ≡ get_or parts k part) where
  pub block_missing_part : (r : Option ℤ) → None ≡ value a (f part) → r ≡ None → r ≡ reached a dims (all_values a (terms_of (map f parts))) cells
  block_missing_part r v i = missing_part a f (drop k dims) (drop (k + 1) dims) (drop k parts) (drop (k + 1) parts) block dim part r (drop_at dims k dim h e) (drop_at parts k part (omega arith) q) v i ∙ b.same

  pub block_missing_place : (r : Option ℤ) (v : ℤ) → Some v ≡ value a (f part) → None ≡ place_in v dim → r ≡ None → r ≡ reached a dims (all_values a (terms_of (map f parts))) cells
  block_missing_place r v s m i = missing_place a f (drop k dims) (drop (k + 1) dims) (drop k parts) (drop (k + 1) parts) block dim part r v (drop_at dims k dim h e) (drop_at parts k part (omega arith) q) s m i ∙ b.same

  pub block_size : length block ≡ length dim * keys (drop (k + 1) dims)
  block_size = b.size ∙ ap keys (drop_at dims k dim h e)

  pub block_next : (sub : List Cell) (v : ℤ) (p : ℕ) → list_all all_differ dims ≡ true → Some v ≡ value a (f part) → Some p ≡ place_in v dim → sub ≡ take (keys (drop (k + 1) dims)) (drop (p * keys (drop (k + 1) dims)) block)
      → IsBlock a f n dims parts cells sub (k + 1)
  block_next sub v p c s m i = record {
    size = ap length i ∙ length_block block (length dim) (keys (drop (k + 1) dims)) p block_size (place_below v dim p m);
    there = subst (λ cs. list_all (is_there n) cs ≡ true) (sym i) (there_at n block (p * keys (drop (k + 1) dims)) (keys (drop (k + 1) dims)) b.there);
    same = next_block a f (drop k dims) (drop (k + 1) dims) (drop k parts) (drop (k + 1) parts) block sub dim part (reached a (drop (k + 1) dims) (all_values a (terms_of (map f (drop (k + 1) parts)))) sub) v p
        (drop_at dims k dim h e) (drop_at parts k part (omega arith) q) (same_rest parts dims k l) (all_from dims k c) s m i refl ∙ b.same;
  }

nothing_left : {X : Type 0} (xs : List X) (k : ℕ) → length xs ≤ k → drop k xs ≡ []
nothing_left [] zero h = refl
nothing_left [] (suc k) h = refl
nothing_left (x ∷ xs) zero h = absurd (omega arith)
nothing_left (x ∷ xs) (suc k) h = nothing_left xs k (omega arith)

pub last_block : {X : Type 0} (a : List ℤ) (f : X → Term) (n : ℕ) (dims : List (List ℤ)) (parts : List X) (cells block : List Cell) (k : ℕ) (c : Cell) → IsBlock a f n dims parts cells block k → length dims ≤ k → length parts ≡ length dims → c ≡ get_or block 0 c
    → Some (cell_value a c) ≡ reached a dims (all_values a (terms_of (map f parts))) cells
last_block a f n dims parts cells block k c b h l e =
    let d = nothing_left dims k h in
    reach_end a (all_values a (terms_of (map f (drop k parts)))) block c (b.size ∙ ap keys d) e
    ∙ ap (λ ds. reached a ds (all_values a (terms_of (map f (drop k parts)))) block) (sym d) ∙ b.same
