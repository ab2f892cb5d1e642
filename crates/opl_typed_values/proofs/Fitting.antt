-- Values of a type that fits another are of that one, and values of two types are of the one that both are joined to.
use Rattle.std.proofs.Common.{◌≡◌, ◌&&◌, ◌||◌, ℕ, Bool, true, false, cond, List, [], ◌∷◌, ◌++◌, Option, None, Some, refl, sym, ap, subst, arith}
use Rattle.std.specs.Prelude.{nat_eq}
use Rattle.std.specs.List.{list_any}
use Rattle.std.specs.Option.{option_map}
use Rattle.std.proofs.lemmas.Bool.Decides.{nat_tests}
use Rattle.opl_type_rules.specs.Types.{Sort, Sorts, all_joined, both, fits, fits_parts, is_anything, joined, one_of, same}
use Rattle.opl_type_rules.specs.Types.Sort.{int, bool, enumeration, structure, row, set, empty_set, anything}
use Rattle.opl_type_rules.specs.Types.Sorts.{no_sorts, more_sorts}
use Rattle.opl_value.specs.declared.value.Value.{Value}
use Rattle.opl_value.specs.declared.value.Value.TheVariants as values
use Rattle.opl_value.specs.Order.{value_eq}
use Rattle.opl_value.specs.Places.{AreDifferent}
use Rattle.opl_value.specs.Sets.{with_new}
use Rattle.opl_typed_values.specs.OfSort.{AllHaveSort, HasSort, HaveSorts, a_name, a_number, a_record, a_row, a_set, a_truth, more_have, more_parts, no_elements, no_parts, none_has}

-- ---- types

-- a type in which nothing stands for what ranges over `{}`
abbrev mutual
  pub is_known : Sort → Bool
  is_known anything = false
  is_known (row ss) = are_known ss
  is_known (set s) = is_known s
  is_known s = true

  pub are_known : Sorts → Bool
  are_known no_sorts = true
  are_known (more_sorts s ss) = is_known s && are_known ss

pub and_both : (a b : Bool) → (a && b) ≡ true → (a ≡ true) × (b ≡ true)
and_both true b h = (refl, h)
and_both false b h = absurd (cc)

same_number : (m n : ℕ) → nat_eq m n ≡ true → m ≡ n
same_number m n h = grind (arith, nat_tests, h)

known-something : (s : Sort) → is_known s ≡ true → is_anything s ≡ false
known-something anything h = absurd (cc)
known-something s h = refl

pub int-fits : (want : Sort) → is_anything want ≡ false → (is_anything want || same want int) ≡ true → want ≡ int
int-fits int k h = refl
int-fits anything k h = absurd (cc)
int-fits want k h = absurd (cc)

pub bool-fits : (want : Sort) → is_anything want ≡ false → (is_anything want || same want bool) ≡ true → want ≡ bool
bool-fits bool k h = refl
bool-fits anything k h = absurd (cc)
bool-fits want k h = absurd (cc)

pub name-fits : (want : Sort) (k : ℕ) → is_anything want ≡ false → (is_anything want || same want (enumeration k)) ≡ true → want ≡ enumeration k
name-fits (enumeration l) k a h = ap enumeration (same_number l k h)
name-fits anything k a h = absurd (cc)
name-fits want k a h = absurd (cc)

pub record-fits : (want : Sort) (k : ℕ) → is_anything want ≡ false → (is_anything want || same want (structure k)) ≡ true → want ≡ structure k
record-fits (structure l) k a h = ap structure (same_number l k h)
record-fits anything k a h = absurd (cc)
record-fits want k a h = absurd (cc)

different-none : AreDifferent []
different-none j k l m e = absurd (omega (arith, l))

pub some_same : {A : Type 0} (a b : A) → (let x : Option A = Some a in x) ≡ Some b → a ≡ b
some_same a b h = cc

-- neither stands for what ranges over `{}`, nor are both records that are written, or sets
abbrev pub apart : Sort → Sort → Bool
apart anything b = false
apart (row xs) (row ys) = false
apart (set x) (set y) = false
apart a b = true

pub apart-something : (a b : Sort) → apart a b ≡ true → is_anything a ≡ false
apart-something anything b h = absurd (cc)
apart-something a b h = refl

pub apart-turned : (fields : ℕ → Sorts) (a b : Sort) → apart a b ≡ true → fits fields a b ≡ false → apart b a ≡ true
apart-turned fields a anything k h = absurd (cc)
apart-turned fields (row xs) (row ys) k h = absurd (cc)
apart-turned fields a (row ys) k h = refl
apart-turned fields (set x) (set y) k h = absurd (cc)
apart-turned fields a (set y) k h = refl
apart-turned fields a b k h = refl

module _ (fields : ℕ → Sorts) (names : ℕ → ℕ) where
  abbrev Has : Sort → Value → Type 0
  Has s v = HasSort fields names s v

  abbrev AllHave : Sort → List Value → Type 0
  AllHave s vs = AllHaveSort fields names s vs

  abbrev Have : Sorts → List Value → Type 0
  Have ss vs = HaveSorts fields names ss vs

  -- ---- what values of a type are

  pub none-anything : (s : Sort) (v : Value) → Has s v → s ≡ anything → ⊥
  none-anything _ _ (a_number n) e = absurd (cc)
  none-anything _ _ (a_truth b) e = absurd (cc)
  none-anything _ _ (a_name k p l) e = absurd (cc)
  none-anything _ _ (a_record k vs h) e = absurd (cc)
  none-anything _ _ (a_row ss vs h) e = absurd (cc)
  none-anything _ _ (a_set s vs h d) e = absurd (cc)
  none-anything _ _ no_elements e = absurd (cc)

  row_parts_same : (ss xs : Sorts) → row ss ≡ row xs → ss ≡ xs
  row_parts_same ss xs e = cc

  element_same : (s x : Sort) → set s ≡ set x → s ≡ x
  element_same s x e = cc

  row-is : (s : Sort) (v : Value) (xs : Sorts) → Has s v → s ≡ row xs → (vs : List Value) × (v ≡ values.Record vs) × Have xs vs
  row-is _ _ xs (a_number n) e = absurd (cc)
  row-is _ _ xs (a_truth b) e = absurd (cc)
  row-is _ _ xs (a_name k p l) e = absurd (cc)
  row-is _ _ xs (a_record k vs h) e = absurd (cc)
  row-is _ _ xs (a_row ss vs h) e = (vs, refl, subst (λ (ys : Sorts). Have ys vs) (row_parts_same ss xs e) h)
  row-is _ _ xs (a_set s vs h d) e = absurd (cc)
  row-is _ _ xs no_elements e = absurd (cc)

  pub set-is : (s : Sort) (v : Value) (x : Sort) → Has s v → s ≡ set x → (vs : List Value) × (v ≡ values.Set vs) × AllHave x vs × AreDifferent vs
  set-is _ _ x (a_number n) e = absurd (cc)
  set-is _ _ x (a_truth b) e = absurd (cc)
  set-is _ _ x (a_name k p l) e = absurd (cc)
  set-is _ _ x (a_record k vs h) e = absurd (cc)
  set-is _ _ x (a_row ss vs h) e = absurd (cc)
  set-is _ _ x (a_set s vs h d) e = (vs, refl, subst (λ (y : Sort). AllHave y vs) (element_same s x e) h, d)
  set-is _ _ x no_elements e = absurd (cc)

  no_more : (s : Sort) (ss : Sorts) → more_sorts s ss ≡ no_sorts → ⊥
  no_more s ss e = absurd (cc)

  more_same : (s r : Sort) (ss rs : Sorts) → more_sorts s ss ≡ more_sorts r rs → (s ≡ r) × (ss ≡ rs)
  more_same s r ss rs e = (cc, cc)

  pub none-have : (ss : Sorts) (vs : List Value) → Have ss vs → ss ≡ no_sorts → vs ≡ []
  none-have _ _ no_parts e = refl
  none-have _ _ (more_parts s v ss vs h hs) e = absurd (no_more s ss e)

  pub first-has : (ss : Sorts) (vs : List Value) (r : Sort) (rs : Sorts) → Have ss vs → ss ≡ more_sorts r rs → (v : Value) × (ws : List Value) × (vs ≡ v ∷ ws) × Has r v × Have rs ws
  first-has _ _ r rs no_parts e = absurd (cc)
  first-has _ _ r rs (more_parts s v ss vs h hs) e =
      let m = more_same s r ss rs e in (v, vs, refl, subst (λ (x : Sort). Has x v) m.0 h, subst (λ (xs : Sorts). Have xs vs) m.1 hs)

  -- ---- fitting

  module _ (structs : (k : ℕ) → are_known (fields k) ≡ true) where
    mutual
      pub fitting-has : (want have : Sort) (v : Value) → is_known want ≡ true → fits fields want have ≡ true → Has have v → Has want v
      fitting-has want _ _ k h (a_number n) = subst (λ (s : Sort). Has s (values.Int n)) (sym (int-fits want (known-something want k) h)) (a_number n)
      fitting-has want _ _ k h (a_truth b) = subst (λ (s : Sort). Has s (values.Bool b)) (sym (bool-fits want (known-something want k) h)) (a_truth b)
      fitting-has want _ _ k h (a_name d p l) = subst (λ (s : Sort). Has s (values.Enum d p)) (sym (name-fits want d (known-something want k) h)) (a_name d p l)
      fitting-has want _ _ k h (a_record d vs hs) = subst (λ (s : Sort). Has s (values.Record vs)) (sym (record-fits want d (known-something want k) h)) (a_record d vs hs)
      fitting-has (structure l) _ _ k h (a_row ss vs hs) = a_record l vs (parts-have (fields l) ss vs (structs l) h hs)
      fitting-has (row ws) _ _ k h (a_row ss vs hs) = a_row ws vs (parts-have ws ss vs k h hs)
      fitting-has anything _ _ k h (a_row ss vs hs) = absurd (cc)
      fitting-has want _ _ k h (a_row ss vs hs) = absurd (cc)
      fitting-has (set w) _ _ k h (a_set s vs hs d) = a_set w vs (all-have w s vs k h hs) d
      fitting-has anything _ _ k h (a_set s vs hs d) = absurd (cc)
      fitting-has want _ _ k h (a_set s vs hs d) = absurd (cc)
      fitting-has (set w) _ _ k h no_elements = a_set w [] (none_has w) different-none
      fitting-has empty_set _ _ k h no_elements = no_elements
      fitting-has anything _ _ k h no_elements = absurd (cc)
      fitting-has want _ _ k h no_elements = absurd (cc)

      parts-have : (wants haves : Sorts) (vs : List Value) → are_known wants ≡ true → fits_parts fields (Some wants) haves ≡ true → Have haves vs → Have wants vs
      parts-have no_sorts _ _ k h no_parts = no_parts
      parts-have (more_sorts w ws) _ _ k h no_parts = absurd (cc)
      parts-have no_sorts _ _ k h (more_parts s v ss vs d ds) = absurd (cc)
      parts-have (more_sorts w ws) _ _ k h (more_parts s v ss vs d ds) =
          let a = and_both (is_known w) (are_known ws) k in
          let b = and_both (fits fields w s) (fits_parts fields (Some ws) ss) h in
          more_parts w v ws vs (fitting-has w s v a.0 b.0 d) (parts-have ws ss vs a.1 b.1 ds)

      all-have : (w s : Sort) (vs : List Value) → is_known w ≡ true → fits fields w s ≡ true → AllHave s vs → AllHave w vs
      all-have w s _ k h (none_has _) = none_has w
      all-have w s _ k h (more_have _ v vs d ds) = more_have w v vs (fitting-has w s v k h d) (all-have w s vs k h ds)

    -- ---- joining

    apart-has : (want have : Sort) (v : Value) → apart want have ≡ true → fits fields want have ≡ true → Has have v → Has want v
    apart-has want _ _ k h (a_number n) = subst (λ (s : Sort). Has s (values.Int n)) (sym (int-fits want (apart-something want int k) h)) (a_number n)
    apart-has want _ _ k h (a_truth b) = subst (λ (s : Sort). Has s (values.Bool b)) (sym (bool-fits want (apart-something want bool k) h)) (a_truth b)
    apart-has want _ _ k h (a_name d p l) = subst (λ (s : Sort). Has s (values.Enum d p)) (sym (name-fits want d (apart-something want (enumeration d) k) h)) (a_name d p l)
    apart-has want _ _ k h (a_record d vs hs) = subst (λ (s : Sort). Has s (values.Record vs)) (sym (record-fits want d (apart-something want (structure d) k) h)) (a_record d vs hs)
    apart-has (structure l) _ _ k h (a_row ss vs hs) = a_record l vs (parts-have (fields l) ss vs (structs l) h hs)
    apart-has (row ws) _ _ k h (a_row ss vs hs) = absurd (cc)
    apart-has anything _ _ k h (a_row ss vs hs) = absurd (cc)
    apart-has want _ _ k h (a_row ss vs hs) = absurd (cc)
    apart-has (set w) _ _ k h (a_set s vs hs d) = absurd (cc)
    apart-has anything _ _ k h (a_set s vs hs d) = absurd (cc)
    apart-has want _ _ k h (a_set s vs hs d) = absurd (cc)
    apart-has (set w) _ _ k h no_elements = a_set w [] (none_has w) different-none
    apart-has empty_set _ _ k h no_elements = no_elements
    apart-has anything _ _ k h no_elements = absurd (cc)
    apart-has want _ _ k h no_elements = absurd (cc)

    -- values of the first are of the second
    abbrev pub Takes : Sort → Sort → Type 0
    Takes a c = (v : Value) → Has a v → Has c v

    abbrev TakeAll : Sorts → Sorts → Type 0
    TakeAll xs zs = (vs : List Value) → Have xs vs → Have zs vs

    one-by : (a b c : Sort) (p q : Bool) → apart a b ≡ true → fits fields a b ≡ p → fits fields b a ≡ q → cond p (Some a) (cond q (Some b) None) ≡ Some c → Takes a c × Takes b c
    one-by a b c true q k h g e =
        let s = some_same a c e in ((λ v d. subst (λ (x : Sort). Has x v) s d), (λ v d. subst (λ (x : Sort). Has x v) s (apart-has a b v k h d)))
    one-by a b c false true k h g e =
        let s = some_same b c e in ((λ v d. subst (λ (x : Sort). Has x v) s (apart-has b a v (apart-turned fields a b k h) g d)), (λ v d. subst (λ (x : Sort). Has x v) s d))
    one-by a b c false false k h g e = absurd (cc)

    one-has : (a b c : Sort) → apart a b ≡ true → one_of fields a b ≡ Some c → Takes a c × Takes b c
    one-has a b c k e = one-by a b c (fits fields a b) (fits fields b a) k refl refl e

    rows-by : (xs ys : Sorts) (c : Sort) (o : Option Sorts) → ((zs : Sorts) → o ≡ Some zs → TakeAll xs zs × TakeAll ys zs) → option_map row o ≡ Some c → Takes (row xs) c × Takes (row ys) c
    rows-by xs ys c None k e = absurd (cc)
    rows-by xs ys c (Some zs) k e =
        let t = k zs refl in
        let s = some_same (row zs) c e in (
          (λ v d. let r = row-is (row xs) v xs d refl in subst (λ (x : Sort). Has x v) s (subst (Has (row zs)) (sym r.1) (a_row zs r.0 (t.0 r.0 r.2)))),
          (λ v d. let r = row-is (row ys) v ys d refl in subst (λ (x : Sort). Has x v) s (subst (Has (row zs)) (sym r.1) (a_row zs r.0 (t.1 r.0 r.2)))),
        )

    take-all : (x z : Sort) → Takes x z → (vs : List Value) → AllHave x vs → AllHave z vs
    take-all x z t _ (none_has _) = none_has z
    take-all x z t _ (more_have _ v vs d ds) = more_have z v vs (t v d) (take-all x z t vs ds)

    sets-by : (x y c : Sort) (o : Option Sort) → ((z : Sort) → o ≡ Some z → Takes x z × Takes y z) → option_map set o ≡ Some c → Takes (set x) c × Takes (set y) c
    sets-by x y c None k e = absurd (cc)
    sets-by x y c (Some z) k e =
        let t = k z refl in
        let s = some_same (set z) c e in (
          (λ v d. let r = set-is (set x) v x d refl in subst (λ (u : Sort). Has u v) s (subst (Has (set z)) (sym r.1) (a_set z r.0 (take-all x z t.0 r.0 r.2) r.3))),
          (λ v d. let r = set-is (set y) v y d refl in subst (λ (u : Sort). Has u v) s (subst (Has (set z)) (sym r.1) (a_set z r.0 (take-all y z t.1 r.0 r.2) r.3))),
        )

    both-by : (x y : Sort) (xs ys zs : Sorts) (o : Option Sort) (os : Option Sorts) → ((z : Sort) → o ≡ Some z → Takes x z × Takes y z) → ((rs : Sorts) → os ≡ Some rs → TakeAll xs rs × TakeAll ys rs) → both o os ≡ Some zs →
        TakeAll (more_sorts x xs) zs × TakeAll (more_sorts y ys) zs
    both-by x y xs ys zs None os k l e = absurd (cc)
    both-by x y xs ys zs (Some z) None k l e = absurd (cc)
    both-by x y xs ys zs (Some z) (Some rs) k l e =
        let t = k z refl in
        let u = l rs refl in
        let s = some_same (more_sorts z rs) zs e in (
          (λ vs d. let r = first-has (more_sorts x xs) vs x xs d refl in subst (λ (q : Sorts). Have q vs) s (subst (Have (more_sorts z rs)) (sym r.2) (more_parts z r.0 rs r.1 (t.0 r.0 r.3) (u.0 r.1 r.4)))),
          (λ vs d. let r = first-has (more_sorts y ys) vs y ys d refl in subst (λ (q : Sorts). Have q vs) s (subst (Have (more_sorts z rs)) (sym r.2) (more_parts z r.0 rs r.1 (t.1 r.0 r.3) (u.1 r.1 r.4)))),
        )

    mutual
      pub joined-has : (a b c : Sort) → joined fields a b ≡ Some c → Takes a c × Takes b c
      joined-has anything b c e = ((λ v d. absurd (none-anything anything v d refl)), (λ v d. subst (λ (x : Sort). Has x v) (some_same b c e) d))
      joined-has (row xs) (row ys) c e = rows-by xs ys c (all_joined fields xs ys) (λ zs h. all-joined-have xs ys zs h) e
      joined-has (row xs) b c e = one-has (row xs) b c refl e
      joined-has (set x) (set y) c e = sets-by x y c (joined fields x y) (λ z h. joined-has x y z h) e
      joined-has (set x) b c e = one-has (set x) b c refl e
      joined-has a b c e = one-has a b c refl e

      all-joined-have : (xs ys zs : Sorts) → all_joined fields xs ys ≡ Some zs → TakeAll xs zs × TakeAll ys zs
      all-joined-have no_sorts no_sorts zs e = let s = some_same no_sorts zs e in ((λ vs d. subst (λ (q : Sorts). Have q vs) s d), (λ vs d. subst (λ (q : Sorts). Have q vs) s d))
      all-joined-have no_sorts (more_sorts y ys) zs e = absurd (cc)
      all-joined-have (more_sorts x xs) no_sorts zs e = absurd (cc)
      all-joined-have (more_sorts x xs) (more_sorts y ys) zs e =
          both-by x y xs ys zs (joined fields x y) (all_joined fields xs ys) (λ z h. joined-has x y z h) (λ rs h. all-joined-have xs ys rs h) e

  -- ---- sets of values

  pushed-have : (s : Sort) (found : List Value) (v : Value) → AllHave s found → Has s v → AllHave s (found ++ v ∷ [])
  pushed-have s _ v (none_has _) d = more_have s v [] d (none_has s)
  pushed-have s _ v (more_have _ w ws e es) d = more_have s w (ws ++ v ∷ []) e (pushed-have s ws v es d)

  pub new-have : (s : Sort) (found vs : List Value) → AllHave s found → AllHave s vs → AllHave s (with_new found vs)
  new-have s found _ f (none_has _) = f
  new-have s found _ f (more_have _ v vs d ds) = new-have s (cond (list_any (value_eq v) found) found (found ++ v ∷ [])) vs (by (list_any (value_eq v) found)) ds
    where
      by : (b : Bool) → AllHave s (cond b found (found ++ v ∷ []))
      by true = f
      by false = pushed-have s found v f d
