-- Expressions that are read as parts.
use Rattle.std.proofs.Common.{◌≡◌, ◌≢◌, ◌∙◌, ◌⊎◌, ℕ, zero, suc, ◌+◌, ◌<◌, ◌≤◌, Bool, true, false, refl, List, [], ◌∷◌, ◌++◌, map, length, take, ℤ, pos, ◌+ℤ◌, neg_ℤ, get_or, ap, sym, subst, arith, inl, inr}
use Rattle.std.specs.Prelude.{Option, Some, None, slice_get, nat_eq, cond, not}
use Rattle.std.specs.HashSet.{HashSet, Updates, contains}
use Rattle.std.specs.List.{list_any}
use Rattle.std.proofs.Math.Path.{fun_ext}
use Rattle.std.proofs.Math.ListN.{get_or-append}
use Rattle.std.proofs.Math.Seq.{get_or-append_seam}
use Rattle.std.proofs.lemmas.Int.{ints}
use Rattle.std.proofs.lemmas.Bool.{cases_eq, cases_lt}
use Rattle.std.proofs.lemmas.Bool.Decides.{Decides-eqb}
use Rattle.std.proofs.lemmas.List.{take_more, length-append}
use Rattle.std.proofs.lemmas.Option.{slice_get_within, get_or_from_slice_get, slice_get_read}
use Rattle.opl_expr.specs.declared.model.Core.{Core}
use Rattle.opl_expr.specs.declared.forms.Expr.{Expr}
use Rattle.opl_expr.specs.declared.forms.Expr.TheVariants as E
use Rattle.opl_expr.specs.Forms.{Term, terms_of}
use Rattle.opl_expr.specs.Range.{coef, pure}
use Rattle.opl_expr.specs.Sound.{IsSoundTerm}
use Rattle.opl_expr.proofs.Plain.{term_Const}
use Rattle.opl_expr.proofs.Parts.{any_default}
use Rattle.opl_range.specs.Between.{term_of, between, IsLastFactor}
use Rattle.opl_linear.specs.Forms.{constant_part}
use Rattle.opl_linear_filter.proofs.Weights.{coef_there}
use Rattle.opl_all_different.specs.declared.part.Part.{Part}
use Rattle.opl_all_different.specs.Parts.{nothing, part_at, factor_of, IsThere, AreApart, AreSeparate, IsPartOf, ArePartsOf}
use Rattle.opl_all_different.specs.Reading.{AreSingleVariables, IsReadAs, HasVariable, AreSeen, Shares, HaveParts}
use Rattle.opl_all_different.proofs.Meetings.{zero_or_not}
use Rattle.opl_all_different.proofs.Sums.{factor_here, factor_there, factor_none}

-- ---- the variables of one expression

less_zero : (core : Core) (a b : Expr) → b ≡ E.Const (pos 0) → (x : ℕ) → between core a b x ≡ coef (term_of core a) x
unfolding between
less_zero core a b e x =
    ap (λ z. coef (term_of core a) x +ℤ neg_ℤ (coef z x)) (ap (term_of core) e ∙ term_Const core.tables core.resources (pos 0)) ∙ less_nothing (coef (term_of core a) x)
  where
    less_nothing : (k : ℤ) → k +ℤ neg_ℤ (pos 0) ≡ k
    less_nothing k = omega (arith, ints)

pub last_is : (core : Core) (a b : Expr) (n : ℕ) (o : Option (ℕ × ℤ)) → b ≡ E.Const (pos 0) → IsLastFactor (between core a b) n o → IsLastFactor (coef (term_of core a)) n o
last_is core a b n o e l = subst (λ c. IsLastFactor c n o) (fun_ext (less_zero core a b e)) l

pub read_none : (core : Core) (t : Term) (k : ℤ) → IsSoundTerm core.sets t → pure t ≡ true → k ≡ constant_part t → IsLastFactor (coef t) (length core.sets) None → IsPartOf (length core.sets) t (record { variable = 0; factor = pos 0; constant = k })
read_none core t k s p e l = record {
  linear = p;
  factors = λ x. elim (cases_lt x (length core.sets)) [
    | inl h ↦ l x h ∙ sym (factor_none (record { variable = 0; factor = pos 0; constant = k }) x refl)
    | inr h ↦ coef_there core.sets t x s h ∙ sym (factor_none (record { variable = 0; factor = pos 0; constant = k }) x refl)
  ];
  constant = e;
  there = λ n. absurd (n refl);
}

pub read_one : (core : Core) (t : Term) (k : ℤ) (x : ℕ) (a : ℤ) → IsSoundTerm core.sets t → pure t ≡ true → k ≡ constant_part t → IsLastFactor (coef t) (length core.sets) (Some (x, a)) → IsLastFactor (coef t) x None
    → IsPartOf (length core.sets) t (record { variable = x; factor = a; constant = k })
read_one core t k x a s p e l m = record {
  linear = p;
  factors = factors;
  constant = e;
  there = λ n. l.0.below;
}
  where
    part : Part
    part = record { variable = x; factor = a; constant = k }

    factors : (y : ℕ) → coef t y ≡ factor_of part y
    factors y = elim (cases_eq y x) [
      | inl i ↦ ap (coef t) i ∙ sym l.1 ∙ sym (factor_here part) ∙ ap (factor_of part) (sym i)
      | inr n ↦ none y n ∙ sym (factor_there part y n)
    ]
      where
        none : (y : ℕ) → y ≢ x → coef t y ≡ pos 0
        none y n = elim (cases_lt y x) [
          | inl h ↦ m y h
          | inr h ↦ elim (cases_lt y (length core.sets)) [
            | inl k ↦ l.0.behind y (omega (arith, h, n)) k
            | inr k ↦ coef_there core.sets t y s k
          ]
        ]

pub read_two : (core : Core) (t : Term) (first second : ℕ × ℤ) → IsLastFactor (coef t) (length core.sets) (Some first) → IsLastFactor (coef t) first.0 (Some second) → IsReadAs core t None
read_two core t first second l m = λ p o. let e = o first.0 second.0 l.0.nonzero m.0.nonzero in omega (arith, e, m.0.below)

-- ---- variables of a list

pub shares_none : (ps : List Part) (p : Part) → p.factor ≡ pos 0 → Shares ps p false
shares_none ps p e = λ i h m n. absurd (n e)

pub shares_by : (ps : List Part) (p : Part) (b : Bool) → p.factor ≢ pos 0 → HasVariable ps p.variable b → Shares ps p b
shares_by ps p true n h = (h.0, record { place = h.1.place; first = h.1.factor; second = n; same = h.1.is })
shares_by ps p false n h = λ i l m o. h i l m

-- ---- places

pub last_or_before : (j k : ℕ) → j < k + 1 → (j ≡ k) ⊎ (j < k)
last_or_before j k h = grind arith

same_length : (n : ℕ) (f : Expr → Term) (es : List Expr) (ps : List Part) → ArePartsOf n (terms_of (map f es)) ps → length ps ≡ length es
same_length n f [] [] is = refl
same_length n f [] (p ∷ ps) is = absurd is
same_length n f (e ∷ es) [] is = absurd is
same_length n f (e ∷ es) (p ∷ ps) is = ap suc (same_length n f es ps is.1)

part_of_place : (n : ℕ) (f : Expr → Term) (es : List Expr) (ps : List Part) (i : ℕ) (e : Expr) → ArePartsOf n (terms_of (map f es)) ps → i < length ps → IsPartOf n (f (get_or es i e)) (get_or ps i nothing)
part_of_place n f [] [] i e is h = absurd (omega (arith, h))
part_of_place n f [] (p ∷ ps) i e is h = absurd is
part_of_place n f (d ∷ es) [] i e is h = absurd is
part_of_place n f (d ∷ es) (p ∷ ps) zero e is h = is.0
part_of_place n f (d ∷ es) (p ∷ ps) (suc i) e is h = part_of_place n f es ps i e is.1 (omega (arith, h))

part_got : (n : ℕ) (f : Expr → Term) (es : List Expr) (ps : List Part) (i : ℕ) (e : Expr) → ArePartsOf n (terms_of (map f es)) ps → slice_get es i ≡ Some e → IsPartOf n (f e) (part_at ps i)
part_got n f es ps i e is g =
    let h : i < length ps = omega (arith, slice_get_within es i e g, same_length n f es ps is) in
    subst (λ d. IsPartOf n (f d) (part_at ps i)) (get_or_from_slice_get es i e e g) (part_of_place n f es ps i e is h)

-- ---- each expression was read

-- an expression that is a part has its variable alone
variable_is : (n : ℕ) (t : Term) (p : Part) (x : ℕ) → IsPartOf n t p → coef t x ≢ pos 0 → (x ≡ p.variable) × (p.factor ≢ pos 0)
variable_is n t p x i m = (
  elim (cases_eq x p.variable) [ inl e ↦ e | inr d ↦ absurd (m (i.factors x ∙ factor_there p x d)) ],
  λ e. m (i.factors x ∙ factor_none p x e),
)

pub all_single : (core : Core) (es : List Expr) (ps : List Part) → HaveParts core es ps → AreSingleVariables core es
all_single core es ps h = record {
  linear = λ i e g. (part_got (length core.sets) (term_of core) es ps i e h.parts g).linear;
  one = λ i e g x y m n.
      let p = part_got (length core.sets) (term_of core) es ps i e h.parts g in
      (variable_is (length core.sets) (term_of core e) (part_at ps i) x p m).0 ∙ sym (variable_is (length core.sets) (term_of core e) (part_at ps i) y p n).0;
  apart = λ i j d e g k n x m. elim (zero_or_not (coef (term_of core e) x)) [
    | inl z ↦ z
    | inr o ↦
        let l = same_length (length core.sets) (term_of core) es ps h.parts in
        let a = variable_is (length core.sets) (term_of core d) (part_at ps i) x (part_got (length core.sets) (term_of core) es ps i d h.parts g) m in
        let b = variable_is (length core.sets) (term_of core e) (part_at ps j) x (part_got (length core.sets) (term_of core) es ps j e h.parts k) o in
        absurd (h.separate.apart i j (omega (arith, l, slice_get_within es i d g)) (omega (arith, l, slice_get_within es j e k)) n a.1 b.1 (sym a.0 ∙ b.0))
  ];
}

-- ---- the loop over expressions

added_part : (n : ℕ) (f : Expr → Term) (es : List Expr) (ps : List Part) (e : Expr) (p : Part) → ArePartsOf n (terms_of (map f es)) ps → IsPartOf n (f e) p → ArePartsOf n (terms_of (map f (es ++ e ∷ []))) (ps ++ p ∷ [])
added_part n f [] [] e p is i = (i, tt)
added_part n f [] (q ∷ ps) e p is i = absurd is
added_part n f (d ∷ es) [] e p is i = absurd is
added_part n f (d ∷ es) (q ∷ ps) e p is i = (is.0, added_part n f es ps e p is.1 i)

module _ (n : ℕ) (ps : List Part) (p : Part) where
  longer : length (ps ++ p ∷ []) ≡ length ps + 1
  longer = length-append ps (p ∷ [])

  at_before : (i : ℕ) → i < length ps → part_at (ps ++ p ∷ []) i ≡ part_at ps i
  at_before i h = get_or-append ps (p ∷ []) nothing i h

  at_end : (i : ℕ) → i ≡ length ps → part_at (ps ++ p ∷ []) i ≡ p
  at_end i e = ap (part_at (ps ++ p ∷ [])) e ∙ get_or-append_seam ps p [] nothing

  place_cases : (i : ℕ) → i < length (ps ++ p ∷ []) → (i ≡ length ps) ⊎ (i < length ps)
  place_cases i h = last_or_before i (length ps) (omega (arith, h, longer))

  pub added_separate : AreSeparate n ps → IsThere n p → Shares ps p false → AreSeparate n (ps ++ p ∷ [])
  added_separate s t a = record {
    there = λ i h. elim (place_cases i h) [
      | inl e ↦ subst (λ q. IsThere n q) (sym (at_end i e)) t
      | inr l ↦ subst (λ q. IsThere n q) (sym (at_before i l)) (s.there i l)
    ];
    apart = λ i j h k d. elim (place_cases i h) [
      | inl e ↦ elim (place_cases j k) [
        | inl f ↦ absurd (d (e ∙ sym f))
        | inr m ↦ subst (λ q. AreApart q (part_at (ps ++ p ∷ []) j)) (sym (at_end i e)) (subst (λ q. AreApart p q) (sym (at_before j m)) (λ x y z. a j m y x (sym z)))
      ]
      | inr l ↦ elim (place_cases j k) [
        | inl f ↦ subst (λ q. AreApart q (part_at (ps ++ p ∷ []) j)) (sym (at_before i l)) (subst (λ q. AreApart (part_at ps i) q) (sym (at_end j f)) (a i l))
        | inr m ↦ subst (λ q. AreApart q (part_at (ps ++ p ∷ []) j)) (sym (at_before i l)) (subst (λ q. AreApart (part_at ps i) q) (sym (at_before j m)) (s.apart i j l m d))
      ]
    ];
  }

-- ---- the variables that are seen

no_key : (keys : List ℕ) (x : ℕ) → keys ≡ [] → list_any (nat_eq x) keys ≡ false
no_key keys x e = ap (list_any (nat_eq x)) e

pub none_seen : {S : Type 0} (seen : HashSet ℕ S) (ps : List Part) → seen.keys ≡ [] → ps ≡ [] → AreSeen seen ps
none_seen seen ps e f = subst (AreSeen seen) (sym f) (λ x. subst (HasVariable [] x) (sym (no_key seen.keys x e)) (λ i h. absurd (omega (arith, h))))

module _ (ps : List Part) (p : Part) (x : ℕ) where
  still_has : HasVariable ps x true → HasVariable (ps ++ p ∷ []) x true
  still_has h = (
    h.0,
    record {
      place = omega (arith, h.1.place, longer 0 ps p);
      factor = λ z. h.1.factor (ap (λ q. q.factor) (sym (at_before 0 ps p h.0 h.1.place)) ∙ z);
      is = ap (λ q. q.variable) (at_before 0 ps p h.0 h.1.place) ∙ h.1.is;
    },
  )

  still_not : (p.factor ≢ pos 0 → p.variable ≢ x) → HasVariable ps x false → HasVariable (ps ++ p ∷ []) x false
  still_not n h i l m = elim (place_cases 0 ps p i l) [
    | inl e ↦ λ z. n (λ y. m (ap (λ q. q.factor) (at_end 0 ps p i e) ∙ y)) (ap (λ q. q.variable) (sym (at_end 0 ps p i e)) ∙ z)
    | inr k ↦ λ z. h i k (λ y. m (ap (λ q. q.factor) (at_before 0 ps p i k) ∙ y)) (ap (λ q. q.variable) (sym (at_before 0 ps p i k)) ∙ z)
  ]

  has_last : p.factor ≢ pos 0 → p.variable ≡ x → HasVariable (ps ++ p ∷ []) x true
  has_last n e = (
    length ps,
    record {
      place = omega (arith, longer 0 ps p);
      factor = λ z. n (ap (λ q. q.factor) (sym (at_end 0 ps p (length ps) refl)) ∙ z);
      is = ap (λ q. q.variable) (at_end 0 ps p (length ps) refl) ∙ e;
    },
  )

  still : (b : Bool) → (p.factor ≢ pos 0 → p.variable ≢ x) → HasVariable ps x b → HasVariable (ps ++ p ∷ []) x b
  still true n h = still_has h
  still false n h = still_not n h

-- a constant adds no variable
pub seen_same : {S : Type 0} (seen : HashSet ℕ S) (ps : List Part) (p : Part) → p.factor ≡ pos 0 → AreSeen seen ps → AreSeen seen (ps ++ p ∷ [])
seen_same seen ps p z s x = still ps p x (contains nat_eq seen x) (λ n. absurd (n z)) (s x)

-- a part with a variable adds it
pub seen_more : {S : Type 0} (old new : HashSet ℕ S) (ps : List Part) (p : Part) → p.factor ≢ pos 0 → Updates nat_eq old new p.variable true → AreSeen old ps → AreSeen new (ps ++ p ∷ [])
seen_more old new ps p n u s x = elim (nat_eq p.variable x) as (λ b. nat_eq p.variable x ≡ b → HasVariable (ps ++ p ∷ []) x (contains nat_eq new x)) [
  | true ↦ λ e. subst (HasVariable (ps ++ p ∷ []) x) (sym (u.0 x ∙ ap (λ b. cond b true (contains nat_eq old x)) e)) (has_last ps p x n ((Decides-eqb p.variable x).0 e))
  | false ↦ λ e.
      subst (HasVariable (ps ++ p ∷ []) x) (sym (u.0 x ∙ ap (λ b. cond b true (contains nat_eq old x)) e))
      (still ps p x (contains nat_eq old x) (λ m y. let t = (Decides-eqb p.variable x).1 y in cc) (s x))
] refl

double_not : (a b : Bool) → a ≡ not b → not a ≡ b
double_not true true e = cc
double_not true false e = refl
double_not false true e = refl
double_not false false e = cc

-- it is shared where it was seen
pub seen_shares : {S : Type 0} (seen : HashSet ℕ S) (ps : List Part) (p : Part) (added : Bool) → p.factor ≢ pos 0 → added ≡ not (contains nat_eq seen p.variable) → AreSeen seen ps → Shares ps p (not added)
seen_shares seen ps p added n e s = shares_by ps p (not added) n (subst (HasVariable ps p.variable) (sym (double_not added (contains nat_eq seen p.variable) e)) (s p.variable))

pub parts_next : (core : Core) (es : List Expr) (ps : List Part) (i : ℕ) (e : Expr) (p : Part) → i < length es → e ≡ get_or es i e → HaveParts core (take i es) ps → IsReadAs core (term_of core e) (Some p) → Shares ps p false → HaveParts core (take (i + 1) es) (ps ++ p ∷ [])
parts_next core es ps i e p h g k r s =
    let t : take (i + 1) es ≡ take i es ++ e ∷ [] = take_more es i e h ∙ ap (λ d. take i es ++ d ∷ []) (sym g) in
    record {
      parts = subst (λ ds. ArePartsOf (length core.sets) (terms_of (map (term_of core) ds)) (ps ++ p ∷ [])) (sym t) (added_part (length core.sets) (term_of core) (take i es) ps e p k.parts r);
      separate = added_separate (length core.sets) ps p k.separate r.there s;
    }

-- one that isn't a part
pub none_read : (core : Core) (es : List Expr) (i : ℕ) (e : Expr) → i < length es → e ≡ get_or es i e → IsReadAs core (term_of core e) None → AreSingleVariables core es → ⊥
none_read core es i e h g r a =
    let s = slice_get_read es (length es) i e refl h g in
    r (a.linear i e s) (a.one i e s)

taken_at : {X : Type 0} (xs : List X) (n i : ℕ) (d : X) → i < n → get_or (take n xs) i d ≡ get_or xs i d
taken_at [] zero i d h = refl
taken_at [] (suc n) i d h = refl
taken_at (x ∷ xs) zero i d h = absurd (omega (arith, h))
taken_at (x ∷ xs) (suc n) zero d h = refl
taken_at (x ∷ xs) (suc n) (suc i) d h = taken_at xs n i d (omega (arith, h))

taken_length : {X : Type 0} (xs : List X) (n : ℕ) → length (take n xs) ≤ n
taken_length [] zero = omega arith
taken_length [] (suc n) = omega arith
taken_length (x ∷ xs) zero = omega arith
taken_length (x ∷ xs) (suc n) = omega (arith, taken_length xs n)

-- one that has the variable of an earlier one
pub shared_read : (core : Core) (es : List Expr) (ps : List Part) (i : ℕ) (e : Expr) (p : Part) → i < length es → e ≡ get_or es i e → HaveParts core (take i es) ps → IsReadAs core (term_of core e) (Some p) → Shares ps p true → AreSingleVariables core es → ⊥
shared_read core es ps i e p h g k r s a =
    let j = s.0 in
    let n = length core.sets in
    let l = same_length n (term_of core) (take i es) ps k.parts in
    let before : j < i = omega (arith, s.1.place, l, taken_length es i) in
    let d = get_or es j e in
    let q = subst (λ c. IsPartOf n (term_of core c) (part_at ps j)) (taken_at es i j e before) (part_of_place n (term_of core) (take i es) ps j e k.parts s.1.place) in
    let f : coef (term_of core d) (part_at ps j).variable ≡ (part_at ps j).factor = q.factors (part_at ps j).variable ∙ factor_here (part_at ps j) in
    let c : coef (term_of core e) (part_at ps j).variable ≡ p.factor = ap (coef (term_of core e)) s.1.same ∙ r.factors p.variable ∙ factor_here p in
    let z = a.apart j i d e (slice_get_read es (length es) j d refl (omega (arith, before, h)) (any_default es j e d (omega (arith, before, h)))) (slice_get_read es (length es) i e refl h g) (λ y. omega (arith, before, y)) (part_at ps j).variable (λ y. s.1.first (sym f ∙ y)) in
    s.1.second (sym c ∙ z)
