-- The parts of a form, as they are listed from a map of factors.
use Rattle.std.proofs.Common.{◌≡◌, ◌≢◌, ◌∙◌, ℕ, ◌<◌, ◌≤◌, Bool, true, false, cond, refl, List, [], ◌∷◌, ◌++◌, length, ℤ, pos, ◌+ℤ◌, ap, sym, subst, arith, inl, inr}
use Rattle.std.specs.Prelude.{Option, Some, None, IsSome, unsigned_abs, unwrap_or, nat_eq}
use Rattle.std.specs.Ordering.{nat_cmp, is_lt}
use Rattle.std.specs.BTreeMap.{BTreeMap, Updates, IsUpperBound, get, is_at}
use Rattle.std.specs.Map.{lookup}
use Rattle.std.proofs.lemmas.Int.{ints}
use Rattle.std.proofs.lemmas.Bool.{cases_eq}
use Rattle.std.proofs.lemmas.Bool.Decides.{Decides-eqb, nat_tests}
use Rattle.opl_expr.specs.Sound.{IsSmall}
use Rattle.opl_linear.specs.Linear.{factor_in, names, NamesOnce, AreAmong, AreFactors}
use Rattle.opl_linear.proofs.Sums.{unnamed}
use Rattle.opl_linear_filter.specs.Factors.{factor_at, AreBelow}
use Rattle.opl_linear_filter.specs.Parts.{AreFalling, ArePartsOf}
use Rattle.opl_linear_filter.proofs.Adding.{at_number}
use Rattle.opl_linear_filter.proofs.Building.{not_same, named_by, once_added, factors_added, falling_added, factor_added, first_here, named_later}

-- some of the variables of a map are listed, and those that are left stand before them
pub record IsListed (whole left : BTreeMap ℕ ℤ) (ps : List (ℕ × ℤ)) : Type 0 where
  pub once : NamesOnce ps
  pub falling : AreFalling ps
  pub factors : AreFactors ps
  pub known : (x : ℕ) → names ps x ≡ true → IsSome (get nat_cmp whole x)
  pub still : (x : ℕ) → IsSome (get nat_cmp left x) → IsSome (get nat_cmp whole x)
  pub before : (x y : ℕ) → IsSome (get nat_cmp left x) → names ps y ≡ true → x < y
  pub same : (x : ℕ) → factor_in ps x +ℤ factor_at left x ≡ factor_at whole x
  pub small : (x : ℕ) → IsSmall (unsigned_abs (factor_at left x))

-- the last variable of a map was taken away
pub record IsTaken (old new : BTreeMap ℕ ℤ) (x : ℕ) (k : ℤ) : Type 0 where
  pub value : get nat_cmp old x ≡ Some k
  pub last : (y : ℕ) → IsSome (get nat_cmp old y) → y ≤ x
  pub others : (y : ℕ) → get nat_cmp new y ≡ cond (nat_eq y x) None (get nat_cmp old y)

not_above : (x y : ℕ) → is_lt (nat_cmp x y) ≡ false → y ≤ x
not_above x y h = grind (arith, nat_tests)

pub taken : (old new : BTreeMap ℕ ℤ) (x : ℕ) (k : ℤ) → get nat_cmp old x ≡ Some k → IsUpperBound nat_cmp old x → Updates nat_cmp old new x None → IsTaken old new x k
taken old new x k v g u = record {
  value = v;
  last = λ y s. not_above x y (g y s);
  others = λ y. u.0 y ∙ ap (λ b. cond b None (get nat_cmp old y)) (at_number x y);
}

some_here : (o : Option ℤ) (k : ℤ) → o ≡ Some k → IsSome o
some_here o k e = subst IsSome (sym e) refl

module _ (old new : BTreeMap ℕ ℤ) (x : ℕ) (k : ℤ) (t : IsTaken old new x k) where
  there : IsSome (get nat_cmp old x)
  there = some_here (get nat_cmp old x) k t.value

  left_of : (b : Bool) (o : Option ℤ) → IsSome (cond b None o) → (b ≡ false) × IsSome o
  left_of true o s = absurd (cc)
  left_of false o s = (refl, s)

  -- what is left stands before
  still_before : (y : ℕ) → IsSome (get nat_cmp new y) → (y < x) × IsSome (get nat_cmp old y)
  still_before y s =
      let p = left_of (nat_eq y x) (get nat_cmp old y) (subst IsSome (t.others y) s) in
      let l = t.last y p.1 in
      let n : y ≢ x = λ e. let r = (Decides-eqb y x).1 e in cc in
      (omega (arith, l, n), p.1)

  factor_here : factor_at old x ≡ k
  factor_here = ap (λ o. unwrap_or o (pos 0)) t.value

  none_here : factor_at new x ≡ pos 0
  none_here = ap (λ o. unwrap_or o (pos 0)) (t.others x ∙ ap (λ b. cond b None (get nat_cmp old x)) ((Decides-eqb x x).1 refl))

  factor_there : (y : ℕ) → y ≢ x → factor_at new y ≡ factor_at old y
  factor_there y n = ap (λ o. unwrap_or o (pos 0)) (t.others y ∙ ap (λ b. cond b None (get nat_cmp old y)) (not_same y x n))

  small_left : ((y : ℕ) → IsSmall (unsigned_abs (factor_at old y))) → (y : ℕ) → IsSmall (unsigned_abs (factor_at new y))
  small_left s y = elim (cases_eq y x) [
    | inl e ↦ subst (λ z. IsSmall (unsigned_abs (factor_at new z))) (sym e) (let n = ap unsigned_abs none_here in omega (arith, n))
    | inr n ↦ subst (λ z. IsSmall (unsigned_abs z)) (sym (factor_there y n)) (s y)
  ]

  module _ (whole : BTreeMap ℕ ℤ) (ps : List (ℕ × ℤ)) (l : IsListed whole old ps) where
    unlisted : names ps x ≡ false
    unlisted = elim (names ps x) as (λ b. names ps x ≡ b → b ≡ false) [
      | true ↦ λ e. let h = l.before x x there e in absurd (omega (arith, h))
      | false ↦ λ e. refl
    ] refl

    -- the factor 0 is not listed
    pub listed_less : k ≡ pos 0 → IsListed whole new ps
    listed_less z = record {
      once = l.once;
      falling = l.falling;
      factors = l.factors;
      known = l.known;
      still = λ y s. l.still y (still_before y s).1;
      before = λ y w s m. l.before y w (still_before y s).1 m;
      same = λ y. elim (cases_eq y x) [
        | inl e ↦ subst (λ v. factor_in ps v +ℤ factor_at new v ≡ factor_at whole v) (sym e)
            (ap (λ v. factor_in ps x +ℤ v) (none_here ∙ sym (factor_here ∙ z)) ∙ l.same x)
        | inr n ↦ ap (λ v. factor_in ps y +ℤ v) (factor_there y n) ∙ l.same y
      ];
      small = small_left l.small;
    }

    other_factor : (y : ℕ) → y ≢ x → factor_in (ps ++ (x, k) ∷ []) y ≡ factor_in ps y
    other_factor y n = let a = factor_added ps (x, k) y in let b = ap (λ (t : Bool). cond t k (pos 0)) (not_same y x n) in omega (arith, ints, a, b)

    own_factor : factor_in (ps ++ (x, k) ∷ []) x ≡ k
    own_factor =
        let a = factor_added ps (x, k) x in
        let b = ap (λ (t : Bool). cond t k (pos 0)) ((Decides-eqb x x).1 refl) in
        let u = unnamed ps x unlisted in
        omega (arith, ints, a, b, u)

    -- another factor is listed
    pub listed_more : (us : List (ℕ × ℤ)) → us ≡ ps ++ (x, k) ∷ [] → k ≢ pos 0 → IsListed whole new us
    listed_more us i z = subst (IsListed whole new) (sym i) (record {
      once = once_added ps (x, k) l.once unlisted;
      falling = falling_added ps (x, k) l.falling (λ y m. l.before x y there m);
      factors = factors_added ps (x, k) l.factors z (subst (λ v. IsSmall (unsigned_abs v)) factor_here (l.small x));
      known = λ y m. elim (named_by ps (x, k) y m) [ inl n ↦ l.known y n | inr e ↦ subst (λ v. IsSome (get nat_cmp whole v)) (sym e) (l.still x there) ];
      still = λ y s. l.still y (still_before y s).1;
      before = λ y w s m. let b = still_before y s in elim (named_by ps (x, k) w m) [ inl n ↦ l.before y w b.1 n | inr e ↦ let c = b.0 in omega (arith, c, e) ];
      same = λ y. elim (cases_eq y x) [
        | inl e ↦ subst (λ v. factor_in (ps ++ (x, k) ∷ []) v +ℤ factor_at new v ≡ factor_at whole v) (sym e)
            (let a = own_factor in let b = none_here in let u = unnamed ps x unlisted in let s = l.same x in let h = factor_here in omega (arith, ints, a, b, u, s, h))
        | inr n ↦ (λ j. other_factor y n j +ℤ factor_there y n j) ∙ l.same y
      ];
      small = small_left l.small;
    })

    pub factor_small : IsSmall (unsigned_abs k)
    factor_small = subst (λ v. IsSmall (unsigned_abs v)) factor_here (l.small x)

pub none_listed : (whole : BTreeMap ℕ ℤ) (ps : List (ℕ × ℤ)) → ps ≡ [] → ((x : ℕ) → IsSmall (unsigned_abs (factor_at whole x))) → IsListed whole whole ps
none_listed whole ps e s = subst (IsListed whole whole) (sym e) (record {
  once = tt;
  falling = tt;
  factors = tt;
  known = λ x m. cc;
  still = λ x m. m;
  before = λ x y m n. cc;
  same = λ x. omega (arith, ints);
  small = s;
})

pub none_left : (es : List (ℕ × ℤ)) → (0 < length es → false ≡ true) → es ≡ []
none_left [] h = refl
none_left (e ∷ es) h = let t = h (omega arith) in cc

among_by : (n : ℕ) (ps : List (ℕ × ℤ)) → ((x : ℕ) → names ps x ≡ true → x < n) → AreAmong n ps
among_by n [] h = tt
among_by n (p ∷ ps) h = (h p.0 (first_here p ps), among_by n ps (λ x m. h x (named_later p ps x m)))

-- all are listed
pub all_listed : (whole left : BTreeMap ℕ ℤ) (ps : List (ℕ × ℤ)) (n : ℕ) → left.entries ≡ [] → AreBelow n whole → IsListed whole left ps → ArePartsOf (factor_at whole) n ps
all_listed whole left ps n e b l = record {
  once = l.once;
  falling = l.falling;
  among = among_by n ps (λ x m. b x (l.known x m));
  factors = l.factors;
  same = λ x h.
      let a = l.same x in
      let z : factor_at left x ≡ pos 0 = ap (λ es. unwrap_or (lookup (is_at (nat_cmp x)) es) (pos 0)) e in
      omega (arith, ints, a, z);
}

pub parts_same : (c d : ℕ → ℤ) (n : ℕ) (ps : List (ℕ × ℤ)) → ((x : ℕ) → c x ≡ d x) → ArePartsOf c n ps → ArePartsOf d n ps
parts_same c d n ps h p = record { once = p.once; falling = p.falling; among = p.among; factors = p.factors; same = λ x l. p.same x l ∙ h x }
