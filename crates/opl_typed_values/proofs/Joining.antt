-- What fits the type of a declaration: where a type that two are joined to fits it, both do.
use Rattle.std.proofs.Common.{◌≡◌, ◌&&◌, ℕ, Bool, true, false, cond, List, [], ◌∷◌, Option, None, Some, refl, sym, subst}
use Rattle.std.specs.Option.{option_map}
use Rattle.opl_type_rules.specs.Types.{Sort, Sorts, all_joined, both, fits, fits_parts, joined, one_of}
use Rattle.opl_type_rules.specs.Types.Sort.{int, bool, enumeration, structure, row, set, empty_set, array, anything}
use Rattle.opl_type_rules.specs.Types.Sorts.{no_sorts, more_sorts}
use Rattle.opl_typed.specs.Relation.{AreOne, Typed}
use Rattle.opl_type_rules.specs.Scope.{Scope, field_sorts}
use Rattle.opl_typed_values.specs.OfSort.{are_plain, is_plain}
use Rattle.opl_typed_values.proofs.Fitting.{and_both, are_known, is_known, apart, apart-something, apart-turned, bool-fits, int-fits, name-fits, record-fits, some_same}

pub plain-known : (s : Sort) → is_plain s ≡ true → is_known s ≡ true
plain-known int h = refl
plain-known (enumeration k) h = refl
plain-known (structure k) h = refl
plain-known (set s) h = plain-known s h
plain-known s h = absurd (cc)

pub plain-all-known : (ss : Sorts) → are_plain ss ≡ true → are_known ss ≡ true
plain-all-known no_sorts h = refl
plain-all-known (more_sorts s ss) h = let b = and_both (is_plain s) (are_plain ss) h in true-both (is_known s) (are_known ss) (plain-known s b.0) (plain-all-known ss b.1)
  where
    true-both : (a b : Bool) → a ≡ true → b ≡ true → (a && b) ≡ true
    true-both true b p q = q
    true-both false b p q = absurd (cc)

module _ (fields : ℕ → Sorts) (plain : (k : ℕ) → are_plain (fields k) ≡ true) where
  abbrev Fits : Sort → Sort → Type 0
  Fits w a = fits fields w a ≡ true

  no-array : (w : Sort) (is : Sorts) (s : Sort) → is_plain w ≡ true → Fits w (array is s) → ⊥
  no-array int is s p h = absurd (cc)
  no-array (enumeration k) is s p h = absurd (cc)
  no-array (structure k) is s p h = absurd (cc)
  no-array (set x) is s p h = absurd (cc)
  no-array w is s p h = absurd (cc)

  fits-apart : (w a b : Sort) → is_plain w ≡ true → apart a b ≡ true → Fits a b → Fits w a → Fits w b
  fits-apart w a anything p k h g = refl
  fits-apart w a int p k h g = subst (Fits w) (int-fits a (apart-something a int k) h) g
  fits-apart w a bool p k h g = subst (Fits w) (bool-fits a (apart-something a bool k) h) g
  fits-apart w a (enumeration d) p k h g = subst (Fits w) (name-fits a d (apart-something a (enumeration d) k) h) g
  fits-apart w a (structure d) p k h g = subst (Fits w) (record-fits a d (apart-something a (structure d) k) h) g
  fits-apart (structure l) (structure d) (row ys) p k h g = subst (λ (x : Sort). Fits x (row ys)) (sym (record-fits (structure l) d refl g)) h
  fits-apart int (structure d) (row ys) p k h g = absurd (cc)
  fits-apart (enumeration l) (structure d) (row ys) p k h g = absurd (cc)
  fits-apart (set x) (structure d) (row ys) p k h g = absurd (cc)
  fits-apart w (structure d) (row ys) p k h g = absurd (cc)
  fits-apart w (row xs) (row ys) p k h g = absurd (cc)
  fits-apart w anything (row ys) p k h g = absurd (cc)
  fits-apart w a (row ys) p k h g = absurd (cc)
  fits-apart w (set x) (set y) p k h g = absurd (cc)
  fits-apart w anything (set y) p k h g = absurd (cc)
  fits-apart w a (set y) p k h g = absurd (cc)
  fits-apart (set x) (set y) empty_set p k h g = refl
  fits-apart int (set y) empty_set p k h g = absurd (cc)
  fits-apart (enumeration l) (set y) empty_set p k h g = absurd (cc)
  fits-apart (structure l) (set y) empty_set p k h g = absurd (cc)
  fits-apart w (set y) empty_set p k h g = absurd (cc)
  fits-apart w empty_set empty_set p k h g = g
  fits-apart w anything empty_set p k h g = absurd (cc)
  fits-apart w a empty_set p k h g = absurd (cc)
  fits-apart w (array js t) (array is s) p k h g = absurd (no-array w js t p g)
  fits-apart w anything (array is s) p k h g = absurd (cc)
  fits-apart w a (array is s) p k h g = absurd (cc)
  fits-apart w anything b p k h g = absurd (cc)
  fits-apart w a b p k h g = absurd (cc)

  one-by : (w a b c : Sort) (r q : Bool) → is_plain w ≡ true → apart a b ≡ true → fits fields a b ≡ r → fits fields b a ≡ q → cond r (Some a) (cond q (Some b) None) ≡ Some c → Fits w c → Fits w a × Fits w b
  one-by w a b c true q p k h g e f = let s = subst (Fits w) (sym (some_same a c e)) f in (s, fits-apart w a b p k h s)
  one-by w a b c false true p k h g e f = let s = subst (Fits w) (sym (some_same b c e)) f in (fits-apart w b a p (apart-turned fields a b k h) g s, s)
  one-by w a b c false false p k h g e f = absurd (cc)

  one-fits : (w a b c : Sort) → is_plain w ≡ true → apart a b ≡ true → one_of fields a b ≡ Some c → Fits w c → Fits w a × Fits w b
  one-fits w a b c p k e f = one-by w a b c (fits fields a b) (fits fields b a) p k refl refl e f

  rows-by : (w : Sort) (xs ys : Sorts) (c : Sort) (o : Option Sorts) → is_plain w ≡ true →
      ((zs ws : Sorts) → o ≡ Some zs → are_plain ws ≡ true → fits_parts fields (Some ws) zs ≡ true → (fits_parts fields (Some ws) xs ≡ true) × (fits_parts fields (Some ws) ys ≡ true)) →
      option_map row o ≡ Some c → Fits w c → Fits w (row xs) × Fits w (row ys)
  rows-by w xs ys c None p k e f = absurd (cc)
  rows-by (structure l) xs ys c (Some zs) p k e f = k zs (fields l) refl (plain l) (subst (Fits (structure l)) (sym (some_same (row zs) c e)) f)
  rows-by int xs ys c (Some zs) p k e f = absurd (let g = subst (Fits int) (sym (some_same (row zs) c e)) f in cc)
  rows-by (enumeration l) xs ys c (Some zs) p k e f = absurd (let g = subst (Fits (enumeration l)) (sym (some_same (row zs) c e)) f in cc)
  rows-by (set x) xs ys c (Some zs) p k e f = absurd (let g = subst (Fits (set x)) (sym (some_same (row zs) c e)) f in cc)
  rows-by w xs ys c (Some zs) p k e f = absurd (cc)

  sets-by : (w x y c : Sort) (o : Option Sort) → is_plain w ≡ true → ((z v : Sort) → o ≡ Some z → is_plain v ≡ true → Fits v z → Fits v x × Fits v y) → option_map set o ≡ Some c → Fits w c → Fits w (set x) × Fits w (set y)
  sets-by w x y c None p k e f = absurd (cc)
  sets-by (set v) x y c (Some z) p k e f = k z v refl p (subst (Fits (set v)) (sym (some_same (set z) c e)) f)
  sets-by int x y c (Some z) p k e f = absurd (let g = subst (Fits int) (sym (some_same (set z) c e)) f in cc)
  sets-by (enumeration l) x y c (Some z) p k e f = absurd (let g = subst (Fits (enumeration l)) (sym (some_same (set z) c e)) f in cc)
  sets-by (structure l) x y c (Some z) p k e f = absurd (let g = subst (Fits (structure l)) (sym (some_same (set z) c e)) f in cc)
  sets-by w x y c (Some z) p k e f = absurd (cc)

  true-both : (a b : Bool) → a ≡ true → b ≡ true → (a && b) ≡ true
  true-both true b p q = q
  true-both false b p q = absurd (cc)

  both-by : (x y : Sort) (xs ys zs ws : Sorts) (o : Option Sort) (os : Option Sorts) → are_plain ws ≡ true → ((z w : Sort) → o ≡ Some z → is_plain w ≡ true → Fits w z → Fits w x × Fits w y) →
      ((rs us : Sorts) → os ≡ Some rs → are_plain us ≡ true → fits_parts fields (Some us) rs ≡ true → (fits_parts fields (Some us) xs ≡ true) × (fits_parts fields (Some us) ys ≡ true)) →
      both o os ≡ Some zs → fits_parts fields (Some ws) zs ≡ true → (fits_parts fields (Some ws) (more_sorts x xs) ≡ true) × (fits_parts fields (Some ws) (more_sorts y ys) ≡ true)
  both-by x y xs ys zs ws None os p k l e f = absurd (cc)
  both-by x y xs ys zs ws (Some z) None p k l e f = absurd (cc)
  both-by x y xs ys zs no_sorts (Some z) (Some rs) p k l e f = absurd (let g = subst (λ (q : Sorts). fits_parts fields (Some no_sorts) q ≡ true) (sym (some_same (more_sorts z rs) zs e)) f in cc)
  both-by x y xs ys zs (more_sorts w ws) (Some z) (Some rs) p k l e f =
      let g = and_both (fits fields w z) (fits_parts fields (Some ws) rs) (subst (λ (q : Sorts). fits_parts fields (Some (more_sorts w ws)) q ≡ true) (sym (some_same (more_sorts z rs) zs e)) f) in
      let b = and_both (is_plain w) (are_plain ws) p in
      let m = k z w refl b.0 g.0 in
      let n = l rs ws refl b.1 g.1 in
      (true-both (fits fields w x) (fits_parts fields (Some ws) xs) m.0 n.0, true-both (fits fields w y) (fits_parts fields (Some ws) ys) m.1 n.1)

  mutual
    joined-fits : (a b c w : Sort) → is_plain w ≡ true → joined fields a b ≡ Some c → Fits w c → Fits w a × Fits w b
    joined-fits anything b c w p e f = (refl, subst (Fits w) (sym (some_same b c e)) f)
    joined-fits (row xs) (row ys) c w p e f = rows-by w xs ys c (all_joined fields xs ys) p (λ zs ws h q g. all-joined-fit xs ys zs ws q h g) e f
    joined-fits (row xs) b c w p e f = one-fits w (row xs) b c p refl e f
    joined-fits (set x) (set y) c w p e f = sets-by w x y c (joined fields x y) p (λ z v h q g. joined-fits x y z v q h g) e f
    joined-fits (set x) b c w p e f = one-fits w (set x) b c p refl e f
    joined-fits a b c w p e f = one-fits w a b c p refl e f

    all-joined-fit : (xs ys zs ws : Sorts) → are_plain ws ≡ true → all_joined fields xs ys ≡ Some zs → fits_parts fields (Some ws) zs ≡ true → (fits_parts fields (Some ws) xs ≡ true) × (fits_parts fields (Some ws) ys ≡ true)
    all-joined-fit no_sorts no_sorts zs ws p e f = let g = subst (λ (q : Sorts). fits_parts fields (Some ws) q ≡ true) (sym (some_same no_sorts zs e)) f in (g, g)
    all-joined-fit no_sorts (more_sorts y ys) zs ws p e f = absurd (cc)
    all-joined-fit (more_sorts x xs) no_sorts zs ws p e f = absurd (cc)
    all-joined-fit (more_sorts x xs) (more_sorts y ys) zs ws p e f =
        both-by x y xs ys zs ws (joined fields x y) (all_joined fields xs ys) p (λ z w h q g. joined-fits x y z w q h g) (λ rs us h q g. all-joined-fit xs ys rs us q h g) e f

-- the types of all of these fit
abbrev pub EachFits : Scope → Sort → List Typed → Type 0
EachFits sc w [] = Unit {0}
EachFits sc w (a ∷ parts) = (fits (field_sorts sc) w a.sort ≡ true) × EachFits sc w parts

-- where the one type of elements fits, that of each does
pub each-fits : (sc : Scope) (plain : (k : ℕ) → are_plain (field_sorts sc k) ≡ true) (w : Sort) (parts : List Typed) (before s : Sort) → is_plain w ≡ true → AreOne sc before parts s → fits (field_sorts sc) w s ≡ true →
    (fits (field_sorts sc) w before ≡ true) × EachFits sc w parts
each-fits sc plain w [] before s p h f = (subst (λ (x : Sort). fits (field_sorts sc) w x ≡ true) h f, tt)
each-fits sc plain w (a ∷ parts) before s p h f =
    let r = each-fits sc plain w parts h.0 s p h.2 f in
    let j = joined-fits (field_sorts sc) plain before a.sort h.0 w p h.1 r.0 in
    (j.0, (j.1, r.1))
