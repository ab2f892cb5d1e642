-- The parts of an expression or a constraint, as the code reads them, and the steps of its loops.
use Rattle.std.proofs.Common.{◌≡◌, ◌≢◌, cond, to_z, of_z, ℕ, zero, suc, ◌+◌, ◌-◌, ◌≤◌, ◌<◌, Bool, true, false, ◌||◌, refl, List, [], ◌∷◌, map, length, get_or, drop, ℤ, pos, ◌*◌, ◌+ℤ◌, ◌*ℤ◌, ap, sym, ◌∙◌, subst, arith, add-one}
use Rattle.std.specs.Prelude.{Option, Some, None, FitsSigned, not, unsigned_abs, int_lt, int_le}
use Rattle.std.specs.Ordering.{int_eq}
use Rattle.std.proofs.lemmas.Int.{ints, to_z-of_z}
use Rattle.std.proofs.Math.IntN.{*ℤ_comm}
use Rattle.opl_domain.specs.Span.{smaller, larger}
use Rattle.opl_expr.specs.Forms.{Term, Fact, terms_of, facts_of, constant_value, product_by, product, compared}
use Rattle.opl_expr.specs.declared.forms.Op.{Op}
use Rattle.opl_expr.specs.declared.forms.Op.TheVariants.{Eq, Ne, Lt, Le, Gt, Ge}
use Rattle.opl_expr.specs.Options.{lift, lift1}
use Rattle.opl_expr.specs.Holds.{value, holds, op_relates, is_active, demand_of, total_demand, place_in}
use Rattle.opl_expr.specs.declared.tables.Use.{Use}
use Rattle.std.proofs.lemmas.Bool.Decides.{Decides-int_eq}
use mir.Syntax.{w128}
use Rattle.opl_expr.specs.Sound.{IsSmall, term_magnitude, sum_magnitude, IsSoundTerm, AreSoundTerms, IsSoundFact, AreSoundFacts, IsSome, UsesThere, demands}

-- ---- lists

-- what is left from a place on begins with the element there
pub drop_at : {X : Type 0} (xs : List X) (k : ℕ) (x : X) → k < length xs → x ≡ get_or xs k x → drop k xs ≡ x ∷ drop (k + 1) xs
drop_at [] k x h e = absurd (omega arith)
drop_at (y ∷ xs) zero x h e = let s : x ≡ y = e in rw s refl
drop_at (y ∷ xs) (suc k) x h e = rw add-one (drop_at xs k x (omega arith) e ∙ rw add-one refl)

pub drop_none : {X : Type 0} (xs : List X) → drop (length xs) xs ≡ []
drop_none [] = refl
drop_none (x ∷ xs) = drop_none xs

pub one_less : (n : ℕ) → 0 < n → (n - 1) + 1 ≡ n
one_less n h = omega arith

-- ---- soundness of parts

pub sound_at : {X : Type 0} (sets : List (ℤ × ℤ)) (f : X → Term) (xs : List X) (k : ℕ) (x : X) → k < length xs → x ≡ get_or xs k x → AreSoundTerms sets (terms_of (map f xs)) → IsSoundTerm sets (f x)
sound_at sets f [] k x h e s = absurd (omega arith)
sound_at sets f (y ∷ xs) zero x h e s = subst (λ z. IsSoundTerm sets (f z)) (sym e) s.0
sound_at sets f (y ∷ xs) (suc k) x h e s = sound_at sets f xs k x (omega arith) e s.1

pub sound_fact_at : {X : Type 0} (sets : List (ℤ × ℤ)) (f : X → Fact) (xs : List X) (k : ℕ) (x : X) → k < length xs → x ≡ get_or xs k x → AreSoundFacts sets (facts_of (map f xs)) → IsSoundFact sets (f x)
sound_fact_at sets f [] k x h e s = absurd (omega arith)
sound_fact_at sets f (y ∷ xs) zero x h e s = subst (λ z. IsSoundFact sets (f z)) (sym e) s.0
sound_fact_at sets f (y ∷ xs) (suc k) x h e s = sound_fact_at sets f xs k x (omega arith) e s.1

pub some_terms : {X : Type 0} (f : X → Term) (xs : List X) → IsSome [] (terms_of (map f xs)) → 0 < length xs
some_terms f [] s = absurd s
some_terms f (x ∷ xs) s = omega arith

-- a sum from a place on is no greater than the whole
pub sum_from : {X : Type 0} (sets : List (ℤ × ℤ)) (f : X → Term) (xs : List X) (k : ℕ) → sum_magnitude sets (terms_of (map f (drop k xs))) ≤ sum_magnitude sets (terms_of (map f xs))
sum_from sets f xs zero = omega arith
sum_from sets f [] (suc k) = omega arith
sum_from sets f (x ∷ xs) (suc k) = omega (arith, sum_from sets f xs k)

pub sound_from : {X : Type 0} (sets : List (ℤ × ℤ)) (f : X → Term) (xs : List X) (k : ℕ) → AreSoundTerms sets (terms_of (map f xs)) → AreSoundTerms sets (terms_of (map f (drop k xs)))
sound_from sets f xs zero s = s
sound_from sets f [] (suc k) s = s
sound_from sets f (x ∷ xs) (suc k) s = sound_from sets f xs k s.1

-- ---- products

constant_is : (t : Term) (k : ℤ) → constant_value t ≡ Some k → t ≡ Term.const k
constant_is (Term.const j) k e = let s : j ≡ k = cc in ap Term.const s
constant_is (Term.var x) k e = cc
constant_is (Term.sum ts) k e = cc
constant_is (Term.neg t) k e = cc
constant_is (Term.scale j t) k e = cc
constant_is (Term.mul s t) k e = cc
constant_is (Term.div s t) k e = cc
constant_is (Term.rem s t) k e = cc
constant_is (Term.abs t) k e = cc
constant_is (Term.least ts) k e = cc
constant_is (Term.greatest ts) k e = cc
constant_is (Term.at table ts) k e = cc
constant_is (Term.truth c) k e = cc
constant_is (Term.asked ask x) k e = cc

-- what holds of a product holds by its three forms
pub product_cases : (P : Term → Term → Term → Type 0) → ((k : ℤ) (t : Term) → P (Term.const k) t (Term.scale k t)) → ((s : Term) (k : ℤ) → P s (Term.const k) (Term.scale k s)) → ((s t : Term) → P s t (Term.mul s t)) → (s t : Term) → P s t (product s t)
product_cases P left right whole s t =
    elim (constant_value s) as (λ o. constant_value s ≡ o → P s t (product_by o (constant_value t) s t)) [
      | Some k ↦ λ e. subst (λ r. P r t (Term.scale k t)) (sym (constant_is s k e)) (left k t)
      | None ↦ λ e. elim (constant_value t) as (λ o. constant_value t ≡ o → P s t (product_by None o s t)) [
        | Some k ↦ λ f. subst (λ r. P s r (Term.scale k s)) (sym (constant_is t k f)) (right s k)
        | None ↦ λ f. whole s t
      ] refl
    ] refl

lift_left : (k : ℤ) (o : Option ℤ) → lift ◌*ℤ◌ (Some k) o ≡ lift1 (λ v. k *ℤ v) o
lift_left k None = refl
lift_left k (Some v) = refl

lift_right : (k : ℤ) (o : Option ℤ) → lift ◌*ℤ◌ o (Some k) ≡ lift1 (λ v. k *ℤ v) o
lift_right k None = refl
lift_right k (Some v) = ap Some (*ℤ_comm v k)

pub value_product : (a : List ℤ) (s t : Term) → lift ◌*ℤ◌ (value a s) (value a t) ≡ value a (product s t)
value_product a = product_cases (λ s t p. lift ◌*ℤ◌ (value a s) (value a t) ≡ value a p) (λ k t. lift_left k (value a t)) (λ s k. lift_right k (value a s)) (λ s t. refl)

-- what a sound product says of its factors
pub record SoundFactors (sets : List (ℤ × ℤ)) (s t : Term) : Type 0 where
  pub first : IsSoundTerm sets s
  pub second : IsSoundTerm sets t
  pub small : IsSmall (term_magnitude sets s * term_magnitude sets t)

pub sound_product : (sets : List (ℤ × ℤ)) (s t : Term) → IsSoundTerm sets (product s t) → SoundFactors sets s t
sound_product sets = product_cases (λ s t p. IsSoundTerm sets p → SoundFactors sets s t)
    (λ k t h. record { first = h.1; second = h.2; small = h.0 })
    (λ s k h. record { first = h.2; second = h.1; small = omega (arith, h.0) })
    (λ s t h. record { first = h.1; second = h.2; small = h.0 })

-- ---- steps of loops from the right

pub least_more : (a : List ℤ) (t : Term) (ts : List Term) → 0 < length ts → value a (Term.least (terms_of (t ∷ ts))) ≡ lift smaller (value a t) (value a (Term.least (terms_of ts)))
least_more a t [] h = absurd (omega arith)
least_more a t (r ∷ ts) h = refl

pub greatest_more : (a : List ℤ) (t : Term) (ts : List Term) → 0 < length ts → value a (Term.greatest (terms_of (t ∷ ts))) ≡ lift larger (value a t) (value a (Term.greatest (terms_of ts)))
greatest_more a t [] h = absurd (omega arith)
greatest_more a t (r ∷ ts) h = refl

-- ---- what bounds the numbers of a loop

pub sum_loop : {X : Type 0} (sets : List (ℤ × ℤ)) (f : X → Term) (xs : List X) (L : ℕ) (x : X) → 0 < L → L ≤ length xs → x ≡ get_or xs (L - 1) x → IsSmall (sum_magnitude sets (terms_of (map f xs)))
    → IsSmall (term_magnitude sets (f x) + sum_magnitude sets (terms_of (map f (drop L xs))))
sum_loop sets f xs L x p h e s =
    let d = drop_at xs (L - 1) x (omega arith) e in
    let n = subst (λ k. drop (L - 1) xs ≡ x ∷ drop k xs) (one_less L p) d in
    let m = subst (λ ys. sum_magnitude sets (terms_of (map f ys)) ≤ sum_magnitude sets (terms_of (map f xs))) n (sum_from sets f xs (L - 1)) in
    omega (arith, m, s)

some_left : {X : Type 0} (f : X → Term) (xs : List X) (L : ℕ) → L < length xs → 0 < length (map f (drop L xs))
some_left f [] L h = absurd (omega arith)
some_left f (x ∷ xs) zero h = omega arith
some_left f (x ∷ xs) (suc L) h = some_left f xs L (omega arith)

pub least_step : {X : Type 0} (a : List ℤ) (f : X → Term) (xs : List X) (L : ℕ) (x : X) → 0 < L → L < length xs → x ≡ get_or xs (L - 1) x → (r q s : Option ℤ)
    → r ≡ value a (f x) → q ≡ value a (Term.least (terms_of (map f (drop L xs)))) → s ≡ lift smaller r q → s ≡ value a (Term.least (terms_of (map f (drop (L - 1) xs))))
least_step a f xs L x p h e r q s i j k =
    let d = drop_at xs (L - 1) x (omega arith) e in
    let n = subst (λ k. drop (L - 1) xs ≡ x ∷ drop k xs) (one_less L p) d in
    let m = least_more a (f x) (map f (drop L xs)) (some_left f xs L h) in
    k ∙ ap (λ o. lift smaller o q) i ∙ ap (lift smaller (value a (f x))) j ∙ sym m ∙ ap (λ ys. value a (Term.least (terms_of (map f ys)))) (sym n)

pub greatest_step : {X : Type 0} (a : List ℤ) (f : X → Term) (xs : List X) (L : ℕ) (x : X) → 0 < L → L < length xs → x ≡ get_or xs (L - 1) x → (r q s : Option ℤ)
    → r ≡ value a (f x) → q ≡ value a (Term.greatest (terms_of (map f (drop L xs)))) → s ≡ lift larger r q → s ≡ value a (Term.greatest (terms_of (map f (drop (L - 1) xs))))
greatest_step a f xs L x p h e r q s i j k =
    let d = drop_at xs (L - 1) x (omega arith) e in
    let n = subst (λ k. drop (L - 1) xs ≡ x ∷ drop k xs) (one_less L p) d in
    let m = greatest_more a (f x) (map f (drop L xs)) (some_left f xs L h) in
    k ∙ ap (λ o. lift larger o q) i ∙ ap (lift larger (value a (f x))) j ∙ sym m ∙ ap (λ ys. value a (Term.greatest (terms_of (map f ys)))) (sym n)

-- ---- comparisons as they are written

pub lift_swapped : {A B C : Type 0} (f : A → B → C) (o : Option A) (p : Option B) → lift f o p ≡ lift (λ y x. f x y) p o
lift_swapped f None None = refl
lift_swapped f None (Some v) = refl
lift_swapped f (Some u) None = refl
lift_swapped f (Some u) (Some v) = refl

lift_not : (f : ℤ → ℤ → Bool) (o p : Option ℤ) → lift (λ x y. not (f x y)) o p ≡ lift1 not (lift f o p)
lift_not f None p = refl
lift_not f (Some u) None = refl
lift_not f (Some u) (Some v) = refl

pub holds_compared : (a : List ℤ) (op : Op) (s t : Term) → lift (op_relates op) (value a s) (value a t) ≡ holds a (compared op s t)
holds_compared a Eq s t = refl
holds_compared a Ne s t = lift_not int_eq (value a s) (value a t)
holds_compared a Lt s t = refl
holds_compared a Le s t = refl
holds_compared a Gt s t = lift_swapped (λ x y. int_lt y x) (value a s) (value a t)
holds_compared a Ge s t = lift_swapped (λ x y. int_le y x) (value a s) (value a t)

-- what a sound comparison says of its sides
pub record SoundSides (sets : List (ℤ × ℤ)) (s t : Term) : Type 0 where
  pub first : IsSoundTerm sets s
  pub second : IsSoundTerm sets t
  pub small : IsSmall (term_magnitude sets s + term_magnitude sets t)

pub sound_compared : (sets : List (ℤ × ℤ)) (op : Op) (s t : Term) → IsSoundFact sets (compared op s t) → SoundSides sets s t
sound_compared sets Eq s t h = record { first = h.1; second = h.2; small = h.0 }
sound_compared sets Ne s t h = record { first = h.1; second = h.2; small = h.0 }
sound_compared sets Lt s t h = record { first = h.1; second = h.2; small = h.0 }
sound_compared sets Le s t h = record { first = h.1; second = h.2; small = h.0 }
sound_compared sets Gt s t h = record { first = h.2; second = h.1; small = omega (arith, h.0) }
sound_compared sets Ge s t h = record { first = h.2; second = h.1; small = omega (arith, h.0) }

pub or_end : (o : Option Bool) → lift (λ b c. b || c) o (Some false) ≡ o
or_end None = refl
or_end (Some true) = refl
or_end (Some false) = refl

pub any_default : {X : Type 0} (xs : List X) (k : ℕ) (d e : X) → k < length xs → get_or xs k d ≡ get_or xs k e
any_default [] k d e h = absurd (omega arith)
any_default (x ∷ xs) zero d e h = refl
any_default (x ∷ xs) (suc k) d e h = any_default xs k d e (omega arith)

not_equal : (v w : ℤ) → v ≢ w → int_eq v w ≡ false
not_equal v w n = elim (int_eq v w) as (λ b. int_eq v w ≡ b → b ≡ false) [ true ↦ λ e. absurd (n ((Decides-int_eq v w).0 e)) | false ↦ λ e. refl ] refl

shifted : (p : ℕ) (o : Option ℕ) → lift1 (λ k. p + k) (lift1 suc o) ≡ lift1 (λ k. (p + 1) + k) o
shifted p None = refl
shifted p (Some k) = ap Some (omega arith)

-- ---- uses of a resource

pub use_there : (n : ℕ) (uses : List Use) (k : ℕ) (d : Use) → k < length uses → UsesThere n uses → ((get_or uses k d).start < n) × ((get_or uses k d).duration < n)
use_there n [] k d h t = absurd (omega arith)
use_there n (u ∷ uses) zero d h t = (t.0, t.1)
use_there n (u ∷ uses) (suc k) d h t = use_there n uses k d (omega arith) t.2

demand_small : (a : List ℤ) (t : ℤ) (u : Use) → unsigned_abs (demand_of a t u) ≤ unsigned_abs u.demand
demand_small a t u = elim (is_active a t u) as (λ b. unsigned_abs (cond b u.demand (pos 0)) ≤ unsigned_abs u.demand) [ true ↦ omega arith | false ↦ omega arith ]

pub total_small : (a : List ℤ) (t : ℤ) (uses : List Use) → unsigned_abs (total_demand a t uses) ≤ demands uses
total_small a t [] = omega arith
total_small a t (u ∷ uses) = omega (arith, ints, demand_small a t u, total_small a t uses)

demands_from : (uses : List Use) (k : ℕ) → demands (drop k uses) ≤ demands uses
demands_from uses zero = omega arith
demands_from [] (suc k) = omega arith
demands_from (u ∷ uses) (suc k) = omega (arith, demands_from uses k)

-- what is left from the place before begins with the element there
pub drop_before : {X : Type 0} (xs : List X) (L : ℕ) (d : X) → 0 < L → L ≤ length xs → drop (L - 1) xs ≡ get_or xs (L - 1) d ∷ drop L xs
drop_before xs L d p h = subst (λ k. drop (L - 1) xs ≡ get_or xs (L - 1) d ∷ drop k xs) (one_less L p) (drop_at xs (L - 1) (get_or xs (L - 1) d) (omega arith) (any_default xs (L - 1) d (get_or xs (L - 1) d) (omega arith)))

pub added_small : (a : List ℤ) (t : ℤ) (uses : List Use) (L : ℕ) (d : Use) (r : ℤ) → 0 < L → L ≤ length uses → IsSmall (demands uses) → r ≡ total_demand a t (drop L uses)
    → IsSmall (unsigned_abs (get_or uses (L - 1) d).demand + unsigned_abs r)
added_small a t uses L d r p h s e =
    let b = drop_before uses L d p h in
    let m = subst (λ ys. demands ys ≤ demands uses) b (demands_from uses (L - 1)) in
    omega (arith, s, m, total_small a t (drop L uses), ap unsigned_abs e)

pub total_more : (a : List ℤ) (t : ℤ) (uses : List Use) (L : ℕ) (d : Use) (r s : ℤ) → 0 < L → L ≤ length uses → r ≡ total_demand a t (drop L uses) → s ≡ demand_of a t (get_or uses (L - 1) d) +ℤ r → s ≡ total_demand a t (drop (L - 1) uses)
total_more a t uses L d r s p h e f =
    f ∙ ap (λ v. demand_of a t (get_or uses (L - 1) d) +ℤ v) e ∙ sym (ap (total_demand a t) (drop_before uses L d p h))

-- ---- places

pub found_place : (v : ℤ) (xs : List ℤ) (p : ℕ) → p < length xs → v ≡ get_or xs p (pos 0) → place_in v xs ≡ lift1 (λ k. p + k) (place_in v (drop p xs)) → Some p ≡ place_in v xs
found_place v xs p h e i =
    let d = drop_at xs p (get_or xs p (pos 0)) h (any_default xs p (pos 0) (get_or xs p (pos 0)) h) in
    let t = (Decides-int_eq v (get_or xs p (pos 0))).1 e in
    let q : place_in v (drop p xs) ≡ Some 0 = rw (d, t) refl in
    sym (i ∙ ap (lift1 (λ k. p + k)) q ∙ ap Some (omega arith))

pub next_place : (v : ℤ) (xs : List ℤ) (p : ℕ) → p < length xs → v ≢ get_or xs p (pos 0) → place_in v xs ≡ lift1 (λ k. p + k) (place_in v (drop p xs)) → place_in v xs ≡ lift1 (λ k. (p + 1) + k) (place_in v (drop (p + 1) xs))
next_place v xs p h n i =
    let d = drop_at xs p (get_or xs p (pos 0)) h (any_default xs p (pos 0) (get_or xs p (pos 0)) h) in
    let q : place_in v (drop p xs) ≡ lift1 suc (place_in v (drop (p + 1) xs)) = rw (d, not_equal v (get_or xs p (pos 0)) n) refl in
    i ∙ ap (lift1 (λ k. p + k)) q ∙ shifted p (place_in v (drop (p + 1) xs))

pub same_bits_128 : (x y : ℤ) → FitsSigned w128 x → FitsSigned w128 y → of_z w128 x ≡ of_z w128 y → x ≡ y
same_bits_128 x y p q e = sym (to_z-of_z w128 x p) ∙ ap (to_z w128) e ∙ to_z-of_z w128 y q

pub idle : (a : List ℤ) (t : ℤ) (u : Use) (r : ℤ) → false ≡ is_active a t u → r ≡ demand_of a t u +ℤ r
idle a t u r e = let z : demand_of a t u ≡ pos 0 = rw (sym e) refl in omega (arith, ints, z)

pub busy : (a : List ℤ) (t : ℤ) (u : Use) (r s : ℤ) → true ≡ is_active a t u → s ≡ u.demand +ℤ r → s ≡ demand_of a t u +ℤ r
busy a t u r s e f = let z : demand_of a t u ≡ u.demand = rw (sym e) refl in omega (arith, ints, z, f)
